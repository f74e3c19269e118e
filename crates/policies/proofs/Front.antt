-- The name of a line is looked for from the line's start on, before its end is known: it is the same name. Assumes nothing.
use Prim.Native.Nat.{ℕ, ◌+◌, ◌-◌, ◌<◌, ◌≤◌}
use mathlib.Core.Path.{◌≡◌, refl, sym, ap, ◌∙◌}
use mathlib.Core.Bool.{Bool, true, false, cond, ◌&&◌}
use mathlib.Core.List.{List, ◌∷◌, ◌++◌}
use mathlib.Core.Logic.{◌⊎◌, inl, inr, ⊎_elim}
use native.Mathlib.Omega.{arith}
use lib.Dec.{eqb, leb, ltb}
use lib.ListN.{length, get_or, take, drop, length-append, length-drop, take-append-drop}
use lib.Seq.{take_all, take-append-le, length-take-le, drop-drop, get_or-take, get_or-append_seam}
use borrow.Author.Tests.{lt-ltb, le-ltb, ltb-true, ltb-false, le-leb, lt-leb, leb-true, leb-false, eqb-true}
use Rattle.lists.specs.Bytes.{all}
use Rattle.lists.specs.Span.{span_of}
use Rattle.lists.specs.Split.{index_of, lacks}
use Rattle.lists.proofs.Laws.{drop_next, drop_take, part_length}
use Rattle.lists.proofs.Span.{span_within, span_reaches, span_index}
use Rattle.lists.proofs.Split.{index_there, index_append, index_beyond, index_lacks, index_take}
use Rattle.lists.proofs.Bools.{and_both, never}
use Rattle.lists.proofs.All.{all_at, all_lacks}
use Rattle.std.specs.Prelude.{Option, Some, None, Result, Ok, Err}
use Rattle.fields.specs.Name.{letter_or_digit, name_byte, before, after, has_name, field_at}
use Rattle.fields.proofs.Name.{has_inside, has_name_lem, has_whole, named_has, named_place, named_after, named_inside, named_rest, malformed_has, name_bytes}
use Rattle.policies.specs.declared.Cause.{Cause}
use Rattle.policies.specs.declared.Seen.{Seen}
use Rattle.policies.specs.declared.Step.{Step}
use Rattle.policies.specs.Texts.{printable}
use Rattle.policies.specs.Fields.{is_line}
use Rattle.policies.specs.Reader.{text_end, take_line, line_end, line_at, placed, turn_at}
use Rattle.policies.proofs.Body.{text_shift, text_after, text_within}

-- what follows a colon, or a byte that is of no name, does not matter
pub name_append : (l e : List ℕ) → index_of 58 l < length l → has_name 58 (l ++ e) ≡ has_name 58 l
unfolding has_name
name_append l e c =
    let i : index_of 58 (l ++ e) ≡ index_of 58 l = index_append 58 l e c in
    let m : index_of 58 l < length (l ++ e) = omega (arith, length-append l e) in
    rw (i, take-append-le (index_of 58 l) l e (omega arith), lt-ltb (index_of 58 l) (length l) c, lt-ltb (index_of 58 l) (length (l ++ e)) m)

module _ (l m : List ℕ) (x : ℕ) (apart : name_byte x ≡ false) (other : eqb x 58 ≡ false) (none : length l ≤ index_of 58 l) where
  beyond : length l < index_of 58 (l ++ (x ∷ m))
  unfolding index_of
  beyond = rw (index_beyond 58 l (x ∷ m) none, other) (omega arith)

  no_name : has_name 58 (l ++ (x ∷ m)) ≡ true → ⊥
  no_name h =
      let u : List ℕ = l ++ (x ∷ m) in
      let i : index_of 58 u < length u = has_inside 58 u h in
      let n : length (take (index_of 58 u) u) ≡ index_of 58 u = length-take-le (index_of 58 u) u (omega arith) in
      let k : name_byte (get_or (take (index_of 58 u) u) (length l) 0) ≡ true = all_at name_byte 0 (take (index_of 58 u) u) (length l) (omega (arith, beyond)) (name_bytes (take (index_of 58 u) u) (has_name_lem 58 u h)) in
      let g : get_or (take (index_of 58 u) u) (length l) 0 ≡ x = get_or-take (index_of 58 u) u (length l) 0 beyond ∙ get_or-append_seam l x m 0 in
      never (cc (k, g, apart))

lf_apart : name_byte 10 ≡ false
unfolding name_byte letter_or_digit
lf_apart = refl

cr_apart : name_byte 13 ≡ false
unfolding name_byte letter_or_digit
cr_apart = refl

without : (l : List ℕ) → length l ≤ index_of 58 l → has_name 58 l ≡ false
unfolding has_name
without l h = rw (le-ltb (index_of 58 l) (length l) h)

name_front : (l m : List ℕ) (x : ℕ) → name_byte x ≡ false → eqb x 58 ≡ false → has_name 58 (l ++ (x ∷ m)) ≡ has_name 58 l
name_front l m x a o = go (ltb (index_of 58 l) (length l)) refl
  where
    neither : length l ≤ index_of 58 l → (t : Bool) → has_name 58 (l ++ (x ∷ m)) ≡ t → t ≡ has_name 58 l
    neither c true e = absurd (no_name l m x a o c e)
    neither c false e = sym (without l c)

    go : (t : Bool) → ltb (index_of 58 l) (length l) ≡ t → has_name 58 (l ++ (x ∷ m)) ≡ has_name 58 l
    go true k = name_append l (x ∷ m) (ltb-true (index_of 58 l) (length l) k)
    go false k = neither (ltb-false (index_of 58 l) (length l) k) (has_name 58 (l ++ (x ∷ m))) refl

-- the text of a line ends at an LF, at a CR, or with the body
ends_at : (u : List ℕ) → text_end u 0 (index_of 10 u) < length u → (get_or u (text_end u 0 (index_of 10 u)) 0 ≡ 10) ⊎ (get_or u (text_end u 0 (index_of 10 u)) 0 ≡ 13)
unfolding text_end
ends_at u = go (ltb (index_of 10 u) (length u) && ltb 0 (index_of 10 u) && eqb (get_or u (index_of 10 u - 1) 0) 13) refl
  where
    go : (t : Bool) → (ltb (index_of 10 u) (length u) && ltb 0 (index_of 10 u) && eqb (get_or u (index_of 10 u - 1) 0) 13) ≡ t → cond t (index_of 10 u - 1) (index_of 10 u) < length u → (get_or u (cond t (index_of 10 u - 1) (index_of 10 u)) 0 ≡ 10) ⊎ (get_or u (cond t (index_of 10 u - 1) (index_of 10 u)) 0 ≡ 13)
    go true e h = inr (eqb-true (get_or u (index_of 10 u - 1) 0) 13 (and_both (ltb (index_of 10 u) (length u) && ltb 0 (index_of 10 u)) (eqb (get_or u (index_of 10 u - 1) 0) 13) e).1)
    go false e h = inl (index_there 10 u h)

-- so the name at the line's start is the line's name
line_name : (u : List ℕ) → has_name 58 (take (text_end u 0 (index_of 10 u)) u) ≡ has_name 58 u
line_name u = go (ltb (text_end u 0 (index_of 10 u)) (length u)) refl
  where
    k : ℕ
    k = text_end u 0 (index_of 10 u)

    split : k < length u → u ≡ take k u ++ (get_or u k 0 ∷ drop (k + 1) u)
    split h = rw (← drop_next u k h) (sym (take-append-drop k u))

    ended : (x : ℕ) → get_or u k 0 ≡ x → name_byte x ≡ false → eqb x 58 ≡ false → k < length u → has_name 58 (take k u) ≡ has_name 58 u
    ended x e a o h = sym (ap (has_name 58) (split h) ∙ rw e (name_front (take k u) (drop (k + 1) u) x a o))

    go : (t : Bool) → ltb k (length u) ≡ t → has_name 58 (take k u) ≡ has_name 58 u
    go true e =
        let h : k < length u = ltb-true k (length u) e in
        ⊎_elim (λ (z : get_or u k 0 ≡ 10). ended 10 z lf_apart refl h) (λ (z : get_or u k 0 ≡ 13). ended 13 z cr_apart refl h) (ends_at u h)
    go false e = rw (take_all k u (ltb-false k (length u) e))

line_is : (s : List ℕ) (at : ℕ) → line_at s at ≡ take (text_end (drop at s) 0 (index_of 10 (drop at s))) (drop at s)
unfolding line_at line_end
line_is s at =
    let k : text_end s at (at + index_of 10 (drop at s)) - at ≡ text_end (drop at s) 0 (index_of 10 (drop at s)) = omega (arith, text_shift s at (index_of 10 (drop at s))) in
    rw k

has_same : (s : List ℕ) (at : ℕ) → has_name 58 (line_at s at) ≡ has_name 58 (drop at s)
has_same s at = ap (has_name 58) (line_is s at) ∙ line_name (drop at s)

-- `take_line`: f is what `name_end` gave
module _ (s : List ℕ) (at : ℕ) (f : Option ℕ) (g : f ≡ field_at 58 s at) where
  pub turn_malformed : (h : List ℕ) (x : Bool) (r : Seen) → f ≡ None → Err Cause.Form ≡ turn_at h x r s at
  unfolding turn_at take_line is_line placed
  turn_malformed h x r e = rw (has_same s at, malformed_has 58 s at f g e)

  module _ (colon : ℕ) (e : f ≡ Some colon) where
    pub turn_named : Some colon ≡ field_at 58 s at
    turn_named = sym e ∙ g

    pub turn_after : at ≤ colon
    turn_after = named_after 58 s at f g colon e

    pub turn_inside : colon < length s
    turn_inside = named_inside 58 s at f g colon e

pub ruleset turn_laws = (turn_malformed, turn_named, turn_after, turn_inside)

-- `take_named`: p, e and t are what its first three calls gave
module _ (s : List ℕ) (at colon : ℕ) (named : Some colon ≡ field_at 58 s at) (before_end : colon < length s) where
  has : has_name 58 (drop at s) ≡ true
  has = named_has 58 s at (Some colon) named colon refl

  place : colon ≡ at + index_of 58 (drop at s)
  place = named_place 58 s at (Some colon) named colon refl

  rest : drop (colon + 1) s ≡ after 58 (drop at s)
  rest = named_rest 58 s at (Some colon) named colon refl

  -- the line's end comes after its colon
  end_after : at + index_of 10 (drop at s) ≡ colon + 1 + index_of 10 (drop (colon + 1) s)
  unfolding index_of
  end_after =
      let u : List ℕ = drop at s in
      let n : List ℕ = before 58 u in
      let free : lacks 10 n ≡ true = all_lacks name_byte 10 lf_apart n (name_bytes n (has_name_lem 58 u has)) in
      let whole : index_of 10 u ≡ index_of 10 (n ++ (58 ∷ after 58 u)) = ap (index_of 10) (has_whole 58 u has) in
      let sum : index_of 10 (n ++ (58 ∷ after 58 u)) ≡ length n + index_of 10 (58 ∷ after 58 u) = index_beyond 10 n (58 ∷ after 58 u) (omega (arith, index_lacks 10 n free)) in
      let size : length n ≡ index_of 58 u = length-take-le (index_of 58 u) u (omega (arith, has_inside 58 u has)) in
      rw rest (omega (arith, place))

  module _ (p : ℕ) (q : p ≡ colon + 1 + span_of printable (drop (colon + 1) s)) where
    pub p_within : p ≤ length s
    p_within = span_within printable s (colon + 1) p q (omega arith)

    module _ (e : ℕ) (f : e ≡ p + index_of 10 (drop p s)) where
      pub end_is : e ≡ at + index_of 10 (drop at s)
      unfolding printable
      end_is =
          let k : drop (span_of printable (drop (colon + 1) s)) (drop (colon + 1) s) ≡ drop p s = drop-drop (span_of printable (drop (colon + 1) s)) (colon + 1) s ∙ rw q in
          let m : index_of 10 (drop (colon + 1) s) ≡ span_of printable (drop (colon + 1) s) + index_of 10 (drop p s) = span_index printable 10 refl (drop (colon + 1) s) ∙ rw k in
          omega (arith, end_after)

      module _ (t : ℕ) (x : t ≡ text_end s at e) where
        line_here : take (t - at) (drop at s) ≡ line_at s at
        unfolding line_at line_end
        line_here = rw (x, end_is)

        pub named_start : at ≤ t
        named_start = text_after s at e t end_is x

        pub named_end : at ≤ colon → t ≤ length s
        named_end w = text_within s at e t end_is x (omega arith)

        pub line_has : has_name 58 (take (t - at) (drop at s)) ≡ true
        line_has = ap (has_name 58) line_here ∙ has_same s at ∙ has

        pub line_colon : colon - at ≡ index_of 58 (take (t - at) (drop at s))
        line_colon = omega (arith, place, index_take 58 (t - at) (drop at s) (has_inside 58 (take (t - at) (drop at s)) line_has))

        pub line_inside : colon - at < length (take (t - at) (drop at s))
        line_inside = omega (arith, line_colon, has_inside 58 (take (t - at) (drop at s)) line_has)

        -- whether all bytes after the colon are printable
        pub line_known : at ≤ colon → leb t p ≡ all printable (drop (colon - at + 1) (take (t - at) (drop at s)))
        line_known w =
            let u : List ℕ = drop (colon + 1) s in
            let high : t ≤ length s = named_end w in
            let low : colon + 1 ≤ t = omega (arith, line_inside, part_length s at (t - at) (omega arith)) in
            let there : drop (colon - at + 1) (take (t - at) (drop at s)) ≡ take (t - (colon + 1)) u = after_colon low w in
            rw there (go (leb (t - (colon + 1)) (span_of printable u)) refl low ∙ span_reaches printable u (t - (colon + 1)) (omega (arith, length-drop (colon + 1) s)))
          where
            after_colon : colon + 1 ≤ t → at ≤ colon → drop (colon - at + 1) (take (t - at) (drop at s)) ≡ take (t - (colon + 1)) (drop (colon + 1) s)
            after_colon low w =
                let i : at + (colon - at + 1) ≡ colon + 1 = omega arith in
                let j : t - at - (colon - at + 1) ≡ t - (colon + 1) = omega arith in
                drop_take (colon - at + 1) (t - at) (drop at s) ∙ rw (j, drop-drop (colon - at + 1) at s, i)

            go : (b : Bool) → leb (t - (colon + 1)) (span_of printable (drop (colon + 1) s)) ≡ b → colon + 1 ≤ t → leb t p ≡ leb (t - (colon + 1)) (span_of printable (drop (colon + 1) s))
            go true k low = le-leb t p (omega (arith, leb-true (t - (colon + 1)) (span_of printable (drop (colon + 1) s)) k)) ∙ sym k
            go false k low = lt-leb t p (omega (arith, leb-false (t - (colon + 1)) (span_of printable (drop (colon + 1) s)) k)) ∙ sym k

        -- the turn by the line's step
        module _ (h : List ℕ) (y : Bool) (r : Seen) (st : Result Step Cause) (g : st ≡ take_line h y r (take (t - at) (drop at s))) where
          turn_is : placed st (e + 1) ≡ turn_at h y r s at
          unfolding turn_at line_end
          turn_is = rw (g, line_here, end_is)

          pub turn_broken : (c : Cause) → st ≡ Err c → Err c ≡ turn_at h y r s at
          unfolding placed
          turn_broken c k = rw k at turn_is

          pub turn_on : (q : Step) → st ≡ Ok q → Ok (record { 0 = q; 1 = e + 1 }) ≡ turn_at h y r s at
          unfolding placed
          turn_on q k = rw k at turn_is

pub ruleset named_laws = (p_within, named_start, named_end, line_has, line_colon, line_inside, line_known, turn_broken, turn_on)
