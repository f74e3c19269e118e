-- The names of fields: the returns of `name_end`, what its answer says to a caller, and that a text has one name at most. Assumes nothing.
use Prim.Native.Nat.{ℕ, ◌+◌, ◌-◌, ◌<◌, ◌≤◌}
use mathlib.Core.Path.{◌≡◌, refl, sym, ◌∙◌}
use mathlib.Core.Bool.{Bool, true, false, cond, not, ◌&&◌, and-false}
use Rattle.std.specs.Prelude.{Option, Some, None}
use mathlib.Core.List.{List, ◌∷◌, ◌++◌}
use native.Mathlib.Omega.{arith}
use lib.Dec.{eqb, ltb}
use lib.ListN.{length, get_or, take, drop, length-append, length-drop, take-append-drop}
use lib.Seq.{get_or-take, get_or-drop, drop-drop, take-add, take-append_seam, drop-append_seam}
use borrow.Author.Rules.{rules}
use borrow.Author.Tests.{not-true, not-false, eq-eqb, lt-leb, le-leb, lt-ltb, le-ltb, ne_eqb, ltb-true}
use Rattle.lists.specs.Bytes.{within, all}
use Rattle.lists.specs.Split.{index_of}
use Rattle.lists.proofs.Laws.{drop_next, part_length}
use Rattle.lists.proofs.Split.{index_of_here, index_after, index_there, find_next}
use Rattle.lists.specs.Span.{span_of}
use Rattle.lists.proofs.All.{all_more, all_append, all_lacks}
use Rattle.lists.proofs.Span.{span_all, span_index, span_stops}
use Rattle.lists.proofs.Bools.{and_right, never}
use Rattle.fields.specs.Name.{letter_or_digit, name_byte, is_field_name, before, after, has_name, field_at}

before_here : (p : ℕ → Bool) (b : ℕ) (s : List ℕ) (i : ℕ) → i < length s → get_or s i 0 ≡ b → all p (before b (drop i s)) ≡ true
unfolding all
before_here p b s i h e = rw (index_of_here s b i h e)

-- b is a byte of a name, and not the one that ends it
abbrev pub inner : ℕ → ℕ → Bool
inner end b = not (eqb b end) && name_byte b

inner_name : (end b : ℕ) → inner end b ≡ true → name_byte b ≡ true
inner_name end b h = and_right (not (eqb b end)) (name_byte b) h

inner_end : (end : ℕ) → inner end end ≡ false
inner_end end = rw (eq-eqb end end refl)

inner_no : (end b : ℕ) → inner end b ≡ false → (b ≡ end → ⊥) → name_byte b ≡ false
inner_no end b h n = rw (ne_eqb b end n) at h

-- `name_end`: it went past the bytes of the name, up to the place i
module _ (s : List ℕ) (end at i : ℕ) (gone : i ≡ at + span_of (inner end) (drop at s)) where
  pub name_after : at ≤ i
  name_after = omega (arith, gone)

  pub name_place : at + index_of end (drop at s) ≡ i + index_of end (drop i s)
  name_place =
      let e : i ≡ span_of (inner end) (drop at s) + at = omega (arith, gone) in
      let k : drop (span_of (inner end) (drop at s)) (drop at s) ≡ drop i s = rw (drop-drop (span_of (inner end) (drop at s)) at s, gone) refl in
      omega (arith, gone, rw k at (span_index (inner end) end (inner_end end) (drop at s)))

  passed_all : all name_byte (take (i - at) (drop at s)) ≡ true
  passed_all =
      let e : i - at ≡ span_of (inner end) (drop at s) = omega (arith, gone) in
      rw e (all_more (inner end) name_byte (inner_name end) (take (span_of (inner end) (drop at s)) (drop at s)) (span_all (inner end) (drop at s)))

  pub name_inner : all name_byte (before end (drop at s)) ≡ all name_byte (before end (drop i s))
  name_inner =
      let e : index_of end (drop at s) ≡ (i - at) + index_of end (drop i s) = omega (arith, name_place, name_after) in
      let d : drop (i - at) (drop at s) ≡ drop i s = let q : at + (i - at) ≡ i = omega (arith, name_after) in rw (drop-drop (i - at) at s, q) refl in
      rw (e, take-add (i - at) (index_of end (drop i s)) (drop at s), d, all_append name_byte (take (i - at) (drop at s)) (take (index_of end (drop i s)) (drop i s)), passed_all) refl

  pub name_stopped : i < length s → inner end (get_or s i 0) ≡ false
  name_stopped h =
      let l : span_of (inner end) (drop at s) < length (drop at s) = omega (arith, gone, length-drop at s) in
      let q = span_stops (inner end) (drop at s) l in
      rw (get_or-drop at s (span_of (inner end) (drop at s)) 0, ← gone) at q

-- no byte `end` stands between `at` and i, and the bytes from i on decide about the name
module _ (s : List ℕ) (end at i : ℕ) (w : at ≤ i) (place : at + index_of end (drop at s) ≡ i + index_of end (drop i s)) where
  pub name_none : length s ≤ i → None ≡ field_at end s at
  unfolding field_at has_name
  name_none h = rw (le-ltb (index_of end (drop at s)) (length (drop at s)) (omega (arith, length-drop at s)))

  module _ (h : i < length s) (e : get_or s i 0 ≡ end) where
    hit_place : index_of end (drop at s) ≡ i - at
    hit_place = omega (arith, index_of_here s end i h e)

    hit_inside : ltb (i - at) (length (drop at s)) ≡ true
    hit_inside = lt-ltb (i - at) (length (drop at s)) (omega (arith, length-drop at s))

    hit_length : length (take (i - at) (drop at s)) ≡ i - at
    hit_length = part_length s at (i - at) (omega arith)

    hit_first : 0 < i - at → get_or (take (i - at) (drop at s)) 0 0 ≡ get_or s at 0
    hit_first z =
        let k : at < length s = omega arith in
        get_or-take (i - at) (drop at s) 0 0 z ∙ rw (drop_next s at k)

    pub name_empty : i - at < 1 → None ≡ field_at end s at
    unfolding field_at has_name is_field_name
    name_empty z = rw (hit_place, hit_inside, hit_length, lt-leb 1 (i - at) z)

    pub name_long : 32 < i - at → None ≡ field_at end s at
    unfolding field_at has_name is_field_name
    name_long z =
        let o : 1 ≤ i - at = omega arith in
        rw (hit_place, hit_inside, hit_length, le-leb 1 (i - at) o, lt-leb (i - at) 32 z)

    module _ (inv : all name_byte (before end (drop at s)) ≡ all name_byte (before end (drop i s))) (low : 1 ≤ i - at) (high : i - at ≤ 32) (t : Bool) (g : t ≡ letter_or_digit (get_or s at 0)) where
      pub name_named : t ≡ true → Some i ≡ field_at end s at
      unfolding field_at has_name is_field_name
      name_named y =
          let k : all name_byte (before end (drop at s)) ≡ true = cc (before_here name_byte end s i h e) in
          let p : at + (i - at) ≡ i = omega arith in
          cc (hit_place, hit_inside, hit_length, le-leb 1 (i - at) low, le-leb (i - at) 32 high, hit_first (omega arith))

      pub name_first : t ≡ false → None ≡ field_at end s at
      unfolding field_at has_name is_field_name
      name_first y = cc (hit_place, hit_inside, hit_length, le-leb 1 (i - at) low, le-leb (i - at) 32 high, hit_first (omega arith))

  pub name_bad : all name_byte (before end (drop at s)) ≡ all name_byte (before end (drop i s)) → i < length s → (get_or s i 0 ≡ end → ⊥) → inner end (get_or s i 0) ≡ false → None ≡ field_at end s at
  unfolding field_at has_name is_field_name index_of all
  name_bad inv h e t =
      let b : name_byte (get_or s i 0) ≡ false = inner_no end (get_or s i 0) t e in
      let n : all name_byte (before end (drop i s)) ≡ false = rw (drop_next s i h, ne_eqb (get_or s i 0) end e, b) refl in
      let k : all name_byte (before end (drop at s)) ≡ false = inv ∙ n in
      simp (k, and-false)

-- what it says of a text that it begins with a name: the byte `end` stands in it, after the name
module _ (end : ℕ) (s : List ℕ) where
  has_parts : has_name end s ≡ true → (ltb (index_of end s) (length s) ≡ true) × (is_field_name (before end s) ≡ true)
  unfolding has_name
  has_parts h = go (ltb (index_of end s) (length s)) h
    where
      go : (t : Bool) → (t && is_field_name (before end s)) ≡ true → (t ≡ true) × (is_field_name (before end s) ≡ true)
      go true k = (refl, k)
      go false k = never cc

  pub has_inside : has_name end s ≡ true → index_of end s < length s
  has_inside h = ltb-true (index_of end s) (length s) (has_parts h).0

  pub has_name_lem : has_name end s ≡ true → is_field_name (before end s) ≡ true
  has_name_lem h = (has_parts h).1

  -- the text is the name, the byte `end`, and what follows
  pub has_whole : has_name end s ≡ true → s ≡ before end s ++ (end ∷ after end s)
  has_whole h =
      let i = has_inside h in
      let k : drop (index_of end s) s ≡ end ∷ after end s = drop_next s (index_of end s) i ∙ rw (index_there end s i) in
      rw (← k) (sym (take-append-drop (index_of end s) s))

-- what `name_end` says to its caller, f being its answer
module _ (end : ℕ) (s : List ℕ) (at : ℕ) (f : Option ℕ) (gave : f ≡ field_at end s at) where
  named_both : (e : ℕ) → f ≡ Some e → (has_name end (drop at s) ≡ true) × (e ≡ at + index_of end (drop at s))
  unfolding field_at
  named_both e q = go (has_name end (drop at s)) (sym q ∙ gave)
    where
      go : (t : Bool) → Some e ≡ cond t (Some (at + index_of end (drop at s))) None → (t ≡ true) × (e ≡ at + index_of end (drop at s))
      go true k = (refl, cc)
      go false k = never cc

  -- a name was found, and `end` stands at e
  module _ (e : ℕ) (q : f ≡ Some e) where
    pub named_has : has_name end (drop at s) ≡ true
    named_has = (named_both e q).0

    pub named_place : e ≡ at + index_of end (drop at s)
    named_place = (named_both e q).1

    pub named_after : at ≤ e
    named_after = omega (arith, named_place)

    pub named_inside : e < length s
    named_inside = omega (arith, named_place, has_inside end (drop at s) named_has, length-drop at s)

    -- the slice from `at` to e is the name, and what follows e is what follows the name
    pub named_before : take (e - at) (drop at s) ≡ before end (drop at s)
    named_before = let k : e - at ≡ index_of end (drop at s) = omega (arith, named_place) in rw k

    pub named_rest : drop (e + 1) s ≡ after end (drop at s)
    named_rest =
        let k : e + 1 ≡ at + (index_of end (drop at s) + 1) = omega (arith, named_place) in
        rw (k, drop-drop (index_of end (drop at s) + 1) at s)

  -- there is no name
  pub malformed_has : f ≡ None → has_name end (drop at s) ≡ false
  unfolding field_at
  malformed_has q = go (has_name end (drop at s)) (sym q ∙ gave)
    where
      go : (t : Bool) → None ≡ cond t (Some (at + index_of end (drop at s))) None → t ≡ false
      go true k = never cc
      go false k = refl

-- a field's name, the byte that ends it, and anything after: the name and what follows it are read back, so a text has one name at most
pub name_bytes : (n : List ℕ) → is_field_name n ≡ true → all name_byte n ≡ true
unfolding is_field_name
name_bytes n h = and_right (within 1 32 (length n) && letter_or_digit (get_or n 0 0)) (all name_byte n) h

module _ (end : ℕ) (ends : name_byte end ≡ false) (n v : List ℕ) (name : is_field_name n ≡ true) where
  pub written_place : index_of end (n ++ (end ∷ v)) ≡ length n
  written_place = index_after end n v (all_lacks name_byte end ends n (name_bytes n name))

  pub written_before : before end (n ++ (end ∷ v)) ≡ n
  written_before = rw (written_place) (take-append_seam n (end ∷ v))

  pub written_after : after end (n ++ (end ∷ v)) ≡ v
  written_after = rw (written_place, ← drop-drop 1 (length n) (n ++ (end ∷ v)), drop-append_seam n (end ∷ v))

  pub written_has : has_name end (n ++ (end ∷ v)) ≡ true
  unfolding has_name
  written_has =
      let k : length n < length (n ++ (end ∷ v)) = omega (arith, length-append n (end ∷ v)) in
      rw (written_before, written_place, lt-ltb (length n) (length (n ++ (end ∷ v))) k) name
