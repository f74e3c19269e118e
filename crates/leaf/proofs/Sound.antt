-- What is known of a certificate that is read, and of its DNS-IDs. Assumes nothing.
use Rattle.std.specs.Prelude.{Option, None, Some, Result, Ok, Err}
use Prim.Native.Nat.{ℕ, zero, suc, ◌+◌, ◌-◌, ◌<◌, ◌≤◌}
use mathlib.Core.Path.{◌≡◌, refl, sym, ap, subst, ◌∙◌}
use mathlib.Core.Bool.{Bool, true, false, cond, ◌&&◌}
use mathlib.Core.List.{List, [], ◌∷◌, ◌++◌}
use native.Mathlib.Omega.{arith}
use borrow.Author.Tests.{le-leb, ltb-true, ltb-false, eqb-false}
use lib.Dec.{eqb, leb, ltb}
use lib.ListN.{length, take, drop, take-append-drop}
use lib.Seq.{length-take-le}
use Rattle.lists.specs.Bytes.{all}
use Rattle.lists.proofs.Bools.{never}
use Rattle.der.specs.declared.Head.{Head}
use Rattle.der.specs.Header.{header, is_constructed}
use Rattle.der.specs.Elements.{elements}
use Rattle.der.specs.Walk as Der
use Rattle.der.proofs.Heads.{opens_bounds, end_inside}
use Rattle.der.proofs.Elements.{elements_end, elements_next}
use Rattle.der.proofs.Walks.{element_steps, run_goes, run_stops, walk_ends}
use Rattle.der.proofs.Longer.{opens_longer}
use Rattle.der.specs.declared.Fault.{Fault}
use Rattle.x509.specs.declared.Part.{Part}
use Rattle.x509.specs.declared.Noted.{Noted}
use Rattle.x509.specs.declared.Found.{Found}
use Rattle.x509.specs.Walk.{walk_certificate}
use Rattle.x509.specs.Found.{nothing, whole_of, contents_of, whole_at, contents_at, name_at, alternatives_at, found_at, fields_of}
use Rattle.x509.proofs.Whole.{accepted_plain, fields_walk}
use Rattle.x509.proofs.Notes.{Stands, Sequence, stands_inside, noted_opens}
use Rattle.leaf.specs.declared.ReadError.{ReadError}
use Rattle.leaf.specs.Names.{dns_name, contents, dns_names, dns_ids_from, dns_ids_of}
use Rattle.leaf.specs.Read.{reading_of, read_leaf}

-- Elements lie one after another in s, with no byte between them, from one place to another: the first begins at the one, each next one where the one before ends, and the last ends at the other.
unfoldable pub Tiles : List ℕ → ℕ → List Head → ℕ → Type 0
Tiles s at [] end = at ≡ end
Tiles s at (h ∷ hs) end = (header at (drop at s) ≡ Some h) × Tiles s h.end hs end

-- where X.690's walk accepts a run of elements, they lie so to its end
walk_past : (n : ℕ) (w : Result ℕ Fault) → w ≡ Ok n → {A : Type 0} (o : Fault) → w ≡ Err o → A
walk_past n w e o f = never cc

opened_header : {A : Type 0} (walk : Der.Walker) (s : List ℕ) (at : ℕ) (d : Option Head) (n : ℕ) → Der.opened walk s at d ≡ Ok n → ((h : Head) → d ≡ Some h → A) → A
unfolding Der.opened
opened_header walk s at None n e k = never cc
opened_header walk s at (Some h) n e k = k h refl

element_header : {A : Type 0} (levels : ℕ) (s : List ℕ) (at n : ℕ) → Der.walk_element levels s at ≡ Ok n → ((h : Head) → header at (drop at s) ≡ Some h → A) → A
unfolding Der.walk_element
element_header zero s at n e k = never cc
element_header (suc levels) s at n e k = opened_header (Der.walk_run (Der.walk_element levels)) s at (header at (drop at s)) n e k

tiles_over : (s : List ℕ) (i : ℕ) → length s ≤ i → i ≤ length s → Tiles s i (elements s i) (length s)
unfolding Tiles
tiles_over s i h k = rw (elements_end s i h) (omega (arith, h, k))

tiles_on : (s : List ℕ) (i : ℕ) → i < length s → (h : Head) → header i (drop i s) ≡ Some h → Tiles s h.end (elements s h.end) (length s) → Tiles s i (elements s i) (length s)
unfolding Tiles
tiles_on s i more h o t = rw (elements_next s i more (Some h) (sym o) h refl) (o, t)

run_tiles : (left levels : ℕ) (s : List ℕ) (i n : ℕ) → length s - i ≤ left → i ≤ length s → Der.walk_run (Der.walk_element levels) s i ≡ Ok n → Tiles s i (elements s i) (length s)
run_tiles zero levels s i n l k e = tiles_over s i (omega (arith, l)) k
run_tiles (suc left) levels s i n l k e =
    go (λ h m j f. run_tiles left levels s h.end n (omega (arith, l, m)) j f) (ltb i (length s)) refl (Der.walk_element levels s i) refl
  where
    go : ((h : Head) → i < h.end → h.end ≤ length s → Der.walk_run (Der.walk_element levels) s h.end ≡ Ok n → Tiles s h.end (elements s h.end) (length s))
        → (b : Bool) → ltb i (length s) ≡ b → (w : Result ℕ Fault) → Der.walk_element levels s i ≡ w → Tiles s i (elements s i) (length s)
    go ih false q w f = tiles_over s i (ltb-false i (length s) q) k
    go ih true q (Err o) f = walk_past n (Der.walk_run (Der.walk_element levels) s i) e o (run_stops (Der.walk_element levels) s i (ltb-true i (length s) q) o f)
    go ih true q (Ok next) f =
        let more = ltb-true i (length s) q in
        element_header levels s i next f (λ h o.
        let b = opens_bounds i (drop i s) h o in
        let z : Der.walk_run (Der.walk_element levels) s h.end ≡ Der.walk_run (Der.walk_element levels) s next = ap (λ (x : ℕ). Der.walk_run (Der.walk_element levels) s x) (sym (walk_ends levels s i next h o f)) in
        tiles_on s i more h o (ih h (omega (arith, b.0, b.1.0)) (end_inside s i (Some h) h (sym o) refl) (z ∙ sym (run_goes (Der.walk_element levels) s i more (element_steps levels) next f) ∙ e)))

-- they lie so in each list that begins with that one
tiles_longer : (s t : List ℕ) (at : ℕ) (hs : List Head) (end : ℕ) → Tiles s at hs end → Tiles (s ++ t) at hs end
unfolding Tiles
tiles_longer s t at [] end e = e
tiles_longer s t at (h ∷ hs) end e = (opens_longer s t at h e.0, tiles_longer s t h.end hs end e.1)

tiles_far : (s : List ℕ) (at : ℕ) (hs : List Head) (end : ℕ) → Tiles s at hs end → at ≤ end
unfolding Tiles
tiles_far s at [] end e = omega (arith, e)
tiles_far s at (h ∷ hs) end e = let b = opens_bounds at (drop at s) h e.0 in omega (arith, b.0, b.1.0, tiles_far s h.end hs end e.1)

same_head : (h k : Head) → Some h ≡ Some k → h ≡ k
same_head h k e = cc

-- Only one list of elements lies so between two places.
pub tiles_one : (s : List ℕ) (at : ℕ) (hs ks : List Head) (end : ℕ) → Tiles s at hs end → Tiles s at ks end → hs ≡ ks
unfolding Tiles
tiles_one s at [] [] end e f = refl
tiles_one s at [] (k ∷ ks) end e f = let b = opens_bounds at (drop at s) k f.0 in absurd (omega (arith, e, b.0, b.1.0, tiles_far s k.end ks end f.1))
tiles_one s at (h ∷ hs) [] end e f = let b = opens_bounds at (drop at s) h e.0 in absurd (omega (arith, f, b.0, b.1.0, tiles_far s h.end hs end e.1))
tiles_one s at (h ∷ hs) (k ∷ ks) end e f =
    let z : h ≡ k = same_head h k (sym e.0 ∙ f.0) in
    let r : hs ≡ ks = tiles_one s h.end hs ks end e.1 (subst (λ (x : Head). Tiles s x.end ks end) (sym z) f.1) in
    rw (z, r)

-- Parts lie in order from one place to another: each begins at or after the end of the one before, and ends at or after its start.
unfoldable pub Ordered : ℕ → List Part → ℕ → Type 0
Ordered at [] end = at ≤ end
Ordered at (p ∷ ps) end = (at ≤ p.start) × ((p.start ≤ p.end) × Ordered p.end ps end)

ordered_sooner : (a b : ℕ) (ps : List Part) (end : ℕ) → a ≤ b → Ordered b ps end → Ordered a ps end
unfolding Ordered
ordered_sooner a b [] end l e = omega (arith, l, e)
ordered_sooner a b (p ∷ ps) end l e = (omega (arith, l, e.0), e.1)

tiles_ordered : (s : List ℕ) (at : ℕ) (hs : List Head) (end : ℕ) → Tiles s at hs end → Ordered at (dns_names hs) end
unfolding Tiles Ordered dns_names
tiles_ordered s at [] end e = omega (arith, e)
tiles_ordered s at (h ∷ hs) end e = go (eqb h.tag dns_name) (tiles_ordered s h.end hs end e.1)
  where
    b : (at + 2 ≤ h.start) × ((h.start ≤ h.end) × (h.end ≤ at + length (drop at s)))
    b = opens_bounds at (drop at s) h e.0

    go : (t : Bool) → Ordered h.end (dns_names hs) end → Ordered at (cond t (contents h ∷ dns_names hs) (dns_names hs)) end
    go true r = (omega (arith, b.0), (b.1.0, r))
    go false r = ordered_sooner at h.end (dns_names hs) end (omega (arith, b.0, b.1.0)) r

ordered_far : (at : ℕ) (ps : List Part) (end : ℕ) → Ordered at ps end → at ≤ end
unfolding Ordered
ordered_far at [] end e = e
ordered_far at (p ∷ ps) end e = omega (arith, e.0, e.1.0, ordered_far p.end ps end e.1.1)

-- a part lies inside m bytes
abbrev pub inside_of : ℕ → Part → Bool
inside_of m p = leb p.start p.end && leb p.end m

ordered_inside : (at : ℕ) (ps : List Part) (end m : ℕ) → end ≤ m → Ordered at ps end → all (inside_of m) ps ≡ true
unfolding Ordered all
ordered_inside at [] end m l e = refl
ordered_inside at (p ∷ ps) end m l e =
    rw (le-leb p.start p.end e.1.0, le-leb p.end m (omega (arith, l, ordered_far p.end ps end e.1.1))) (ordered_inside p.end ps end m l e.1.1)

-- the lengths of some parts together
unfoldable pub total_of : List Part → ℕ
total_of [] = 0
total_of (p ∷ ps) = p.end - p.start + total_of ps

ordered_total : (at : ℕ) (ps : List Part) (end : ℕ) → Ordered at ps end → at + total_of ps ≤ end
unfolding Ordered total_of
ordered_total at [] end e = omega (arith, e)
ordered_total at (p ∷ ps) end e = omega (arith, e.0, e.1.0, ordered_total p.end ps end e.1.1)

-- A part is one SEQUENCE with its header, which opens in s and which X.690's walk accepts there.
pub record OneSequence (s : List ℕ) (p : Part) : Type 0 where
  pub element : Sequence s p.start
  pub ends : element.stands.head.end ≡ p.end

-- What is known of a certificate that is read.
pub record Sound (s : List ℕ) (f : Found) : Type 0 where
  -- X.690's own walk accepts it, 16 levels deep, as one element that is all of its bytes
  pub plain : Der.walk_element 16 s 0 ≡ Ok (length s)
  -- the key's part is one SEQUENCE with its header; it is not empty, and it lies inside the certificate
  pub key_element : OneSequence s f.key
  pub key : (f.key.start < f.key.end) × (f.key.end ≤ length s)
  -- the common name, where there is one, lies inside it
  pub name : (p : Part) → f.name ≡ Some p → (p.start ≤ p.end) × (p.end ≤ length s)
  -- what stands in GeneralNames lies inside it, and is elements that follow one another with no byte between them
  pub alternatives : (f.alternatives.start ≤ f.alternatives.end) × (f.alternatives.end ≤ length s)
  pub names : Tiles s f.alternatives.start (elements (take f.alternatives.end s) f.alternatives.start) f.alternatives.end
  -- there are at most 64 DNS-IDs
  pub count : length (dns_ids_of s f) ≤ 64

positive : (n : ℕ) → (n ≡ 0 → ⊥) → 0 < n
positive zero h = absurd (h refl)
positive (suc n) h = omega arith

-- what stands in GeneralNames, by the element that was noted
unfoldable NamesIn : List ℕ → Part → Type 0
NamesIn s p = ((p.start ≤ p.end) × (p.end ≤ length s)) × Tiles s p.start (elements (take p.end s) p.start) p.end

sequence_run : (levels : ℕ) (s : List ℕ) (at : ℕ) (h : Head) → header at (drop at s) ≡ Some h → h.tag ≡ 48 → Der.walk_element (suc levels) s at ≡ Ok h.end
    → Der.walk_run (Der.walk_element levels) (take h.end s) h.start ≡ Ok h.end
unfolding Der.walk_element Der.opened Der.walk_contents is_constructed
sequence_run levels s at h o t e = rw (o, t) at e

sequence_names : (s : List ℕ) (at : ℕ) (x : Sequence s at) → NamesIn s (record { start = x.stands.head.start; end = x.stands.head.end })
unfolding NamesIn
sequence_names s at x =
    let h = x.stands.head in
    let b = stands_inside s at x.stands in
    let l : length (take h.end s) ≡ h.end = length-take-le h.end s b.1.1 in
    let r = sequence_run x.stands.levels s at h x.stands.opens x.tag x.stands.walked in
    let t = run_tiles (length (take h.end s)) x.stands.levels (take h.end s) h.start h.end (omega arith) (omega (arith, l, b.1.0)) r in (
      b.1,
      subst (λ (y : List ℕ). Tiles y h.start (elements (take h.end s) h.start) h.end) (take-append-drop h.end s)
          (tiles_longer (take h.end s) (drop h.end s) h.start (elements (take h.end s) h.start) h.end (rw l at t)),
    )

no_names : (s : List ℕ) → NamesIn s nothing
unfolding NamesIn Tiles
no_names s = ((omega arith, omega arith), rw (elements_end [] 0 (omega arith)))

contents_are : (s : List ℕ) (at : ℕ) (x : Stands s at) → contents_at s at ≡ record { start = x.head.start; end = x.head.end }
unfolding contents_at contents_of
contents_are s at x = rw x.opens

alternatives_in : (s : List ℕ) (at : ℕ) → (0 < at → Sequence s at) → NamesIn s (alternatives_at s at)
unfolding alternatives_at
alternatives_in s at x = go (eqb at 0) refl
  where
    go : (b : Bool) → eqb at 0 ≡ b → NamesIn s (cond b nothing (contents_at s at))
    go true q = no_names s
    go false q = let k = x (positive at (eqb-false at 0 q)) in rw (contents_are s at k.stands) (sequence_names s at k)

name_in : (s : List ℕ) (at : ℕ) → (0 < at → Stands s at) → (p : Part) → name_at s at ≡ Some p → (p.start ≤ p.end) × (p.end ≤ length s)
unfolding name_at
name_in s at x p e = go (eqb at 0) refl e
  where
    go : (b : Bool) → eqb at 0 ≡ b → cond b None (Some (contents_at s at)) ≡ Some p → (p.start ≤ p.end) × (p.end ≤ length s)
    go true q e = never cc
    go false q e =
        let k = x (positive at (eqb-false at 0 q)) in
        let z : contents_at s at ≡ p = cc in
        subst (λ (y : Part). (y.start ≤ y.end) × (y.end ≤ length s)) (sym (contents_are s at k) ∙ z) (stands_inside s at k).1

key_in : (s : List ℕ) (at : ℕ) → Stands s at → ((whole_at s at).start < (whole_at s at).end) × ((whole_at s at).end ≤ length s)
unfolding whole_at whole_of
key_in s at x = let b = stands_inside s at x in rw x.opens (omega (arith, b.0, b.1.0), b.1.1)

key_is : (s : List ℕ) (at : ℕ) → Sequence s at → OneSequence s (whole_at s at)
unfolding whole_at whole_of
key_is s at x =
    let z : record { start = at; end = x.stands.head.end } ≡ whole_of at (header at (drop at s)) = rw x.stands.opens in
    subst (λ (p : Part). OneSequence s p) z (record { element = x; ends = refl })

found_sound : (s : List ℕ) (m : Noted) → walk_certificate s ≡ Ok m → length (dns_ids_of s (found_at s m)) ≤ 64 → Sound s (found_at s m)
unfolding found_at NamesIn
found_sound s m w c =
    let x = noted_opens s m w in
    let a = alternatives_in s m.alternatives x.offsets.alternatives in
    record {
      plain = accepted_plain s m w;
      key_element = key_is s m.key (x.offsets.key x.key_given);
      key = key_in s m.key (x.offsets.key x.key_given).stands;
      name = name_in s m.name x.offsets.name;
      alternatives = a.0;
      names = a.1;
      count = c;
    }

-- A certificate that is read is sound in all of these respects.
pub read_sound : (s : List ℕ) (f : Found) → read_leaf s ≡ Ok f → Sound s f
unfolding read_leaf reading_of
read_sound s f e = go (fields_of s) refl e
  where
    counted : (g : Found) → fields_of s ≡ Ok g → (b : Bool) → ltb 64 (length (dns_ids_of s g)) ≡ b → cond b (Err ReadError.ManyDnsIds) (Ok g) ≡ Ok f → Sound s f
    counted g w true q e = never cc
    counted g w false q e =
        let z : g ≡ f = cc in
        fields_walk s g w (λ m v y.
        subst (λ (x : Found). Sound s x) (sym y ∙ z) (found_sound s m v (subst (λ (x : Found). length (dns_ids_of s x) ≤ 64) y (ltb-false 64 (length (dns_ids_of s g)) q))))

    go : (w : Result Found Fault) → fields_of s ≡ w → reading_of s w ≡ Ok f → Sound s f
    go (Err o) w e = never cc
    go (Ok g) w e = counted g w (ltb 64 (length (dns_ids_of s g))) refl e

module _ (s : List ℕ) (f : Found) (read : read_leaf s ≡ Ok f) where
  -- The DNS-IDs of a certificate that is read are the dNSName elements of whatever list of elements fills its GeneralNames from end to end, so that none is lost and none comes twice.
  pub ids_are : (hs : List Head) → Tiles s f.alternatives.start hs f.alternatives.end → dns_ids_of s f ≡ dns_names hs
  unfolding dns_ids_of dns_ids_from
  ids_are hs t = ap dns_names (tiles_one s f.alternatives.start (elements (take f.alternatives.end s) f.alternatives.start) hs f.alternatives.end (read_sound s f read).names t)

  -- They stand in order in the GeneralNames, and no two of them overlap.
  pub ids_in_order : Ordered f.alternatives.start (dns_ids_of s f) f.alternatives.end
  unfolding dns_ids_of dns_ids_from
  ids_in_order = tiles_ordered s f.alternatives.start (elements (take f.alternatives.end s) f.alternatives.start) f.alternatives.end (read_sound s f read).names

  -- Each of them lies inside the certificate.
  pub ids_inside : all (inside_of (length s)) (dns_ids_of s f) ≡ true
  ids_inside = ordered_inside f.alternatives.start (dns_ids_of s f) f.alternatives.end (length s) (read_sound s f read).alternatives.1 ids_in_order

  -- Together they are no longer than the certificate.
  pub names_short : total_of (dns_ids_of s f) ≤ length s
  names_short = omega (arith, ordered_total f.alternatives.start (dns_ids_of s f) f.alternatives.end ids_in_order, (read_sound s f read).alternatives.1)
