-- Where the id stands: the part of a text that the answer names is the value of the id's field. Assumes nothing.
use Prim.Native.Nat.{ℕ, zero, suc, ◌+◌, ◌-◌, ◌≤◌}
use mathlib.Core.Path.{◌≡◌, refl, sym, ap, subst, ◌∙◌}
use mathlib.Core.Bool.{Bool, true, false, cond}
use mathlib.Core.List.{List, [], ◌∷◌, ◌++◌}
use mathlib.Core.Option.{Option, none, some}
use native.Mathlib.Omega.{arith}
use lib.Dec.{eqb, leb}
use lib.ListN.{length, take, drop, length-drop, drop_of_length-le}
use lib.Seq.{drop-drop, drop-length, length-take-le, take-append-le, drop-append-le}
use borrow.Author.Tests.{leb-true, leb-false}
use Rattle.lists.specs.Equal.{same_bytes}
use Rattle.lists.specs.Span.{span_of, begins}
use Rattle.lists.specs.Split.{index_of}
use Rattle.lists.specs.Text.{text}
use Rattle.lists.proofs.Span.{span_le}
use Rattle.lists.proofs.Bools.{never}
use Rattle.fields.specs.Blank.{blank}
use Rattle.txt.specs.Paper.{value_byte, is_id}
use Rattle.txt.specs.Grammar.{version, has_delimiter, after_delimiter, name_of, after_name, value_of, after_field, has_field, one_more, fields_in, fields_of, first_named, with_id, id_among, id_field}
use Rattle.txt.specs.Txt.{record_answer, id_part}

-- ---- what an accepted text has: f is its field of the id

pub record HasId (t f : List ℕ) : Type 0 where
  pub versioned : begins version t ≡ true
  pub fields : List (List ℕ)
  pub read : fields_of (drop 7 t) ≡ some fields
  pub first : first_named (text "id") fields ≡ some f
  pub id : is_id (value_of f) ≡ true

pub has_id : (t f : List ℕ) → id_field t ≡ some f → HasId t f
unfolding id_field id_among with_id
has_id t f e = with_version (begins version t) refl e
  where
    with_value : (fs : List (List ℕ)) → begins version t ≡ true → fields_of (drop 7 t) ≡ some fs → (o : Option (List ℕ)) → first_named (text "id") fs ≡ o → with_id o ≡ some f → HasId t f
    with_value fs v r none n e = never cc
    with_value fs v r (some g) n e = go (is_id (value_of g)) refl e
      where
        go : (b : Bool) → is_id (value_of g) ≡ b → cond b (some g) none ≡ some f → HasId t f
        go true i e = let q : g ≡ f = cc in record { versioned = v; fields = fs; read = r; first = n ∙ ap some q; id = ap (λ (x : List ℕ). is_id (value_of x)) (sym q) ∙ i }
        go false i e = never cc

    with_fields : begins version t ≡ true → (o : Option (List (List ℕ))) → fields_of (drop 7 t) ≡ o → id_among o ≡ some f → HasId t f
    with_fields v none r e = never cc
    with_fields v (some fs) r e = with_value fs v r (first_named (text "id") fs) refl e

    with_version : (b : Bool) → begins version t ≡ b → cond b (id_among (fields_of (drop 7 t))) none ≡ some f → HasId t f
    with_version true v e = with_fields v (fields_of (drop 7 t)) refl e
    with_version false v e = never cc

-- and what has all this is accepted
pub id_has : (t f : List ℕ) → HasId t f → id_field t ≡ some f
unfolding id_field id_among with_id
id_has t f h = rw (h.versioned, h.read, h.first, h.id)

-- ---- f is what is left of t at some place

pub record Within (t f : List ℕ) : Type 0 where
  pub place : ℕ
  pub is : f ≡ drop place t

within_drop : (t f : List ℕ) (k : ℕ) → Within t f → Within t (drop k f)
within_drop t f k w = record { place = w.place + k; is = rw w.is (drop-drop k w.place t) }

module _ (t : List ℕ) where
  delimiter_within : (s : List ℕ) → Within t s → Within t (after_delimiter s)
  unfolding after_delimiter
  delimiter_within s w =
      within_drop t (drop 1 (drop (span_of blank s) s)) (span_of blank (drop 1 (drop (span_of blank s) s))) (within_drop t (drop (span_of blank s) s) 1 (within_drop t s (span_of blank s) w))

  name_within : (s : List ℕ) → Within t s → Within t (after_name s)
  unfolding after_name
  name_within s w = within_drop t s (index_of 61 s + 1) w

  field_within : (s : List ℕ) → Within t s → Within t (after_field s)
  unfolding after_field
  field_within s w = within_drop t (after_name s) (span_of value_byte (after_name s)) (name_within s w)

  module _ (name f : List ℕ) where
    one_within : (g : List ℕ) (o : Option (List (List ℕ))) (fs : List (List ℕ)) → Within t g → ((gs : List (List ℕ)) → o ≡ some gs → first_named name gs ≡ some f → Within t f) → one_more g o ≡ some fs → first_named name fs ≡ some f → Within t f
    unfolding one_more first_named
    one_within g none fs w ih e n = never cc
    one_within g (some gs) fs w ih e n =
        let q : fs ≡ g ∷ gs = cc in
        go (same_bytes (name_of g) name) (rw q at n)
      where
        go : (b : Bool) → cond b (some g) (first_named name gs) ≡ some f → Within t f
        go true n = let q : g ≡ f = cc in subst (λ (x : List ℕ). Within t x) q w
        go false n = ih gs refl n

    first_within : (k : ℕ) (s : List ℕ) (fs : List (List ℕ)) → Within t s → fields_in k s ≡ some fs → first_named name fs ≡ some f → Within t f
    unfolding fields_in first_named
    first_within zero s fs w e n = never cc
    first_within (suc k) s fs w e n = go (λ gs q m. first_within k (after_field (after_delimiter s)) gs (field_within (after_delimiter s) (delimiter_within s w)) q m) (eqb (length s) 0) (has_delimiter s) (eqb (length (after_delimiter s)) 0) (has_field (after_delimiter s)) e
      where
        none_named : some [] ≡ some fs → Within t f
        none_named e =
            let q : fs ≡ [] = cc in
            let m : first_named name [] ≡ some f = rw q at n in
            never cc

        go : ((gs : List (List ℕ)) → fields_in k (after_field (after_delimiter s)) ≡ some gs → first_named name gs ≡ some f → Within t f) → (a b c d : Bool) → cond a (some []) (cond b (cond c (some []) (cond d (one_more (after_delimiter s) (fields_in k (after_field (after_delimiter s)))) none)) none) ≡ some fs → Within t f
        go ih true b c d e = none_named e
        go ih false true true d e = none_named e
        go ih false true false true e = one_within (after_delimiter s) (fields_in k (after_field (after_delimiter s))) fs (delimiter_within s w) ih e n
        go ih false true false false e = never cc
        go ih false false c d e = never cc

-- the place of what is left of t, by its length
placed : (t f : List ℕ) → Within t f → (drop (length t - length f) t ≡ f) × (length f ≤ length t)
placed t f w = go w.place w.is
  where
    at_place : (k : ℕ) (b : Bool) → leb k (length t) ≡ b → f ≡ drop k t → drop (length t - length f) t ≡ f
    at_place k true h e =
        let n : length f ≡ length t - k = ap length e ∙ length-drop k t in
        let m : k ≤ length t = leb-true k (length t) h in
        let p : length t - length f ≡ k = omega arith in
        rw p (sym e)
    at_place k false h e =
        let m : length t ≤ k = omega (arith, leb-false k (length t) h) in
        let z : f ≡ [] = e ∙ drop_of_length-le t m in
        let n : length f ≡ 0 = ap length z in
        let p : length t - length f ≡ length t = omega arith in
        rw (p, drop-length t) (sym z)

    go : (k : ℕ) → f ≡ drop k t → (drop (length t - length f) t ≡ f) × (length f ≤ length t)
    go k e = (at_place k (leb k (length t)) refl e, omega (arith, ap length e, length-drop k t))

-- the first n bytes of x, found in t ++ d by what is left from there on
found_again : (t d x : List ℕ) (n : ℕ) → Within t x → n ≤ length x → take (length (take n x)) (drop (length t - length x) (t ++ d)) ≡ take n x
found_again t d x n w h =
    let p : drop (length t - length x) t ≡ x = (placed t x w).0 in
    let k : length t - length x ≤ length t = omega arith in
    rw (length-take-le n x h, drop-append-le (length t - length x) t d k, p) (take-append-le n x d h)

value_found : (t d f : List ℕ) → Within t f → take (length (value_of f)) (drop (length t - length (after_name f)) (t ++ d)) ≡ value_of f
unfolding value_of
value_found t d f w = found_again t d (after_name f) (span_of value_byte (after_name f)) (name_within t f w) (span_le value_byte (after_name f))

-- of an output that begins with an accepted text, the part that the answer names is the value of the field of the id
pub id_value : (t d f : List ℕ) → id_field t ≡ some f → id_part (t ++ d) (record_answer t (some f)) ≡ value_of f
unfolding record_answer fields_of
id_value t d f e =
    let h : HasId t f = has_id t f e in
    value_found t d f (first_within t (text "id") f (suc (length (drop 7 t))) (drop 7 t) h.fields (record { place = 7; is = refl }) h.read h.first)
