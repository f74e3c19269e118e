-- The loops over DNS-IDs. Assumes nothing.
use Rattle.std.specs.Prelude.{Option, None, Some}
use Prim.Native.Nat.{ℕ, zero, suc, ◌+◌, ◌-◌, ◌%◌, ◌<◌, ◌≤◌}
use mathlib.Core.Path.{◌≡◌, refl, sym, ap, subst, ◌∙◌}
use mathlib.Core.Bool.{Bool, true, false, cond}
use mathlib.Core.List.{List, [], ◌∷◌}
use native.Mathlib.Omega.{arith}
use borrow.Author.Rules.{rules}
use borrow.Author.Tests.{eq-eqb, ne_eqb, ltb-true, ltb-false, eqb-true, eqb-false}
use lib.Dec.{eqb, ltb}
use lib.ListN.{length, get_or, drop}
use Rattle.lists.proofs.Bools.{never}
use Rattle.der.specs.declared.Head.{Head}
use Rattle.der.specs.Header.{header}
use Rattle.der.specs.Elements.{elements}
use Rattle.der.proofs.Heads.{opens_bounds, end_inside, header_short, header_small}
use Rattle.der.proofs.Elements.{elements_few, elements_end, elements_none, elements_next, element_further}
use Rattle.x509.specs.declared.Part.{Part}
use Rattle.leaf.specs.Names.{dns_name, contents, dns_names, dns_ids_from, ids_left, first_of}
use Rattle.leaf.specs.declared.DnsIds.{DnsIds}
use Rattle.std.specs.Iterator.{YieldsFirst, Drains}
use Rattle.std.proofs.lemmas.Iterator.Consumers.{count_from_yields_List, YieldsList-from_first}

-- the DNS-IDs from a place on, by the element that stands there
module _ (s : List ℕ) (i : ℕ) where
  pub ids_end : length s ≤ i → dns_ids_from s i ≡ []
  unfolding dns_ids_from dns_names
  ids_end h = rw (elements_end s i h)

  module _ (more : i < length s) (d : Option Head) (is_d : d ≡ header i (drop i s)) where
    pub ids_none : d ≡ None → dns_ids_from s i ≡ []
    unfolding dns_ids_from dns_names
    ids_none e = rw (elements_none s i more d is_d e)

    module _ (h : Head) (opens : d ≡ Some h) where
      pub ids_here : h.tag ≡ dns_name → dns_ids_from s i ≡ record { start = h.start; end = h.end } ∷ dns_ids_from s h.end
      unfolding dns_ids_from dns_names
      ids_here e = rw (elements_next s i more d is_d h opens, eq-eqb h.tag 130 e)

      pub ids_past : (h.tag ≡ dns_name → ⊥) → dns_ids_from s i ≡ dns_ids_from s h.end
      unfolding dns_ids_from dns_names
      ids_past e = rw (elements_next s i more d is_d h opens, ne_eqb h.tag 130 e)

few_more : (b : Bool) (p : Part) (ps : List Part) (n : ℕ) → length ps ≤ n → length (cond b (p ∷ ps) ps) ≤ suc n
few_more true p ps n l = omega (arith, l)
few_more false p ps n l = omega (arith, l)

names_few : (hs : List Head) → length (dns_names hs) ≤ length hs
unfolding dns_names
names_few [] = omega arith
names_few (h ∷ hs) = few_more (eqb h.tag dns_name) (contents h) (dns_names hs) (length hs) (names_few hs)

-- the loop that looks for the next, over the elements: hs are left
module _ (s : List ℕ) (at : ℕ) (hs : List Head) (inv : first_of (dns_ids_from s at) ≡ first_of (dns_names hs)) where
  pub next_end : hs ≡ [] → None ≡ first_of (dns_ids_from s at)
  unfolding first_of dns_names
  next_end e = cc

  module _ (h : Head) (rest : List Head) (next : hs ≡ h ∷ rest) where
    pub next_here : h.tag ≡ 130 → Some (record { start = h.start; end = h.end }) ≡ first_of (dns_ids_from s at)
    unfolding first_of dns_names
    next_here e = cc (eq-eqb h.tag 130 e)

    pub next_past : (h.tag ≡ 130 → ⊥) → first_of (dns_ids_from s at) ≡ first_of (dns_names rest)
    unfolding dns_names
    next_past e = cc (ne_eqb h.tag 130 e)

pub next_begins : (s : List ℕ) (at : ℕ) → first_of (dns_ids_from s at) ≡ first_of (dns_names (elements s at))
unfolding dns_ids_from
next_begins s at = refl

-- the DNS-ID at sight
module _ (s : List ℕ) (at : ℕ) where
  pub next_few : length s < 2 → None ≡ first_of (dns_ids_from s at)
  unfolding first_of
  next_few h = go (ltb at (length s)) refl
    where
      go : (b : Bool) → ltb at (length s) ≡ b → None ≡ first_of (dns_ids_from s at)
      go false f = cc (ids_end s at (ltb-false at (length s) f))
      go true f = cc (ids_none s at (ltb-true at (length s) f) None (header_short s at (omega arith)) refl)

  pub next_sight : (n : ℕ) → 2 ≤ length s → at ≤ length s - 2 → get_or s at 0 ≡ 130 → n ≡ get_or s (at + 1) 0 → n < 128 → at + 2 + n ≤ length s
      → Some (record { start = at + 2; end = at + 2 + n }) ≡ first_of (dns_ids_from s at)
  unfolding first_of
  next_sight n two h tag is_n short fits =
      let more : at < length s = omega arith in
      let room : 2 ≤ length s - at = omega arith in
      let one : get_or s at 0 % 32 ≡ 31 → ⊥ = λ e. absurd (omega (arith, e, tag)) in
      let head = header_small s at room one n is_n short (omega arith) in
      cc (ids_here s at more (header at (drop at s)) refl (record { tag = get_or s at 0; start = at + 2; end = at + 2 + n }) (sym head) tag)

pub ruleset next_laws = (next_few, next_sight, next_begins, next_end, next_here, next_past, rules)

-- a DNS-ID lies inside, and those after it are those from its end on
pub record After (s : List ℕ) (i : ℕ) (p : Part) : Type 0 where
  pub ids : dns_ids_from s i ≡ p ∷ dns_ids_from s p.end
  pub begins : i ≤ p.start
  pub further : i < p.end
  pub order : p.start ≤ p.end
  pub inside : p.end ≤ length s

given_is : (ps : List Part) (p q : Part) → first_of (q ∷ ps) ≡ Some p → q ≡ p
unfolding first_of
given_is ps p q e = cc

after_none : (s : List ℕ) (i : ℕ) (p : Part) → dns_ids_from s i ≡ [] → first_of (dns_ids_from s i) ≡ Some p → After s i p
unfolding first_of
after_none s i p e g = never cc

-- from the element that stands there, if those after it are known
module _ (s : List ℕ) (i : ℕ) (p : Part) (more : i < length s) (h : Head) (is_h : Some h ≡ header i (drop i s)) where
  after_here : h.tag ≡ 130 → first_of (dns_ids_from s i) ≡ Some p → After s i p
  after_here e g =
      let n = ids_here s i more (Some h) is_h h refl e in
      let b = opens_bounds i (drop i s) h (sym is_h) in
      let q : record { start = h.start; end = h.end } ≡ p = given_is (dns_ids_from s h.end) p (record { start = h.start; end = h.end }) (sym (ap first_of n) ∙ g) in
      subst (λ (x : Part). After s i x) q (record { ids = n; begins = omega (arith, b.0); further = element_further s i more (Some h) is_h h refl; order = b.1.0; inside = end_inside s i (Some h) h is_h refl })

  after_past : (h.tag ≡ 130 → ⊥) → (first_of (dns_ids_from s h.end) ≡ Some p → After s h.end p) → first_of (dns_ids_from s i) ≡ Some p → After s i p
  after_past e ih g =
      let n = ids_past s i more (Some h) is_h h refl e in
      let a = ih (sym (ap first_of n) ∙ g) in
      let f = element_further s i more (Some h) is_h h refl in
      record { ids = n ∙ a.ids; begins = omega (arith, f, a.begins); further = omega (arith, f, a.further); order = a.order; inside = a.inside }

  after_element : (first_of (dns_ids_from s h.end) ≡ Some p → After s h.end p) → first_of (dns_ids_from s i) ≡ Some p → After s i p
  after_element ih g = go (eqb h.tag 130) refl
    where
      go : (t : Bool) → eqb h.tag 130 ≡ t → After s i p
      go true f = after_here (eqb-true h.tag 130 f) g
      go false f = after_past (eqb-false h.tag 130 f) ih g

after_from : (left : ℕ) (s : List ℕ) (i : ℕ) (p : Part) → length s - i ≤ left → first_of (dns_ids_from s i) ≡ Some p → After s i p
after_from zero s i p l g = after_none s i p (ids_end s i (omega arith)) g
after_from (suc left) s i p l g =
    go (λ h k e. after_from left s h.end p (omega (arith, l, k)) e) (ltb i (length s)) refl (header i (drop i s)) refl
  where
    go : ((h : Head) → i < h.end → first_of (dns_ids_from s h.end) ≡ Some p → After s h.end p) → (b : Bool) → ltb i (length s) ≡ b → (d : Option Head) → d ≡ header i (drop i s) → After s i p
    go ih false f d is_d = after_none s i p (ids_end s i (ltb-false i (length s) f)) g
    go ih true f None is_d = after_none s i p (ids_none s i (ltb-true i (length s) f) None is_d refl) g
    go ih true f (Some h) is_d =
        let more = ltb-true i (length s) f in
        after_element s i p more h is_d (ih h (element_further s i more (Some h) is_d h refl)) g

pub after : (s : List ℕ) (i : ℕ) (p : Part) (n : Option Part) → n ≡ first_of (dns_ids_from s i) → n ≡ Some p → After s i p
after s i p n e f = after_from (length s - i) s i p (omega arith) (sym e ∙ f)

pub absent_is : (ps : List Part) → first_of ps ≡ None → ps ≡ []
unfolding first_of
absent_is [] e = refl
absent_is (p ∷ ps) e = never cc

-- a turn of the iterator: w is the first DNS-ID, if there is one
pub turn_none : (s : List ℕ) (i : ℕ) (w : Option Part) → w ≡ first_of (dns_ids_from s i) → w ≡ None → dns_ids_from s i ≡ []
turn_none s i w e f = absent_is (dns_ids_from s i) (sym e ∙ f)

pub turn_next : (s : List ℕ) (i : ℕ) (w : Option Part) → w ≡ first_of (dns_ids_from s i) → (p : Part) → w ≡ Some p → dns_ids_from s i ≡ p ∷ dns_ids_from s p.end
turn_next s i w e p f = (after s i p w e f).ids

pub ruleset turn_laws = (turn_none, turn_next, rules)

-- the iterator over DNS-IDs: it ends, and how many it gives
pub ids_few : (s : List ℕ) (at : ℕ) → length (dns_ids_from s at) ≤ length s
unfolding dns_ids_from
ids_few s at = omega (arith, names_few (elements s at), elements_few s at)

pub counted : (d : DnsIds) (r : ℕ) → ((xs : List Part) × Drains (YieldsFirst ids_left) d xs × (r ≡ length xs)) → r ≡ length (ids_left d)
counted d r h = count_from_yields_List d r h (YieldsList-from_first (λ x. x) ids_left (ids_left d) refl)
