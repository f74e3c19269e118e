-- The returns of the functions that take a field or a line. Assumes nothing.
use Prim.Native.Nat.{ℕ, ◌+◌, ◌-◌, ◌<◌, ◌≤◌}
use mathlib.Core.Path.{◌≡◌, refl, sym, ◌∙◌}
use mathlib.Core.Bool.{Bool, true, false, cond, not, ◌&&◌, and-false}
use mathlib.Core.List.{List}
use Rattle.std.specs.Prelude.{Result, Ok, Err}
use native.Mathlib.Omega.{arith}
use lib.Dec.{eqb, leb}
use lib.ListN.{length, get_or, take, drop, length-drop}
use lib.Seq.{drop-drop, get_or-take, get_or-drop}
use borrow.Author.Rules.{rules}
use borrow.Author.Tests.{ne_eqb, leb-true}
use Rattle.lists.specs.Bytes.{all}
use Rattle.lists.specs.Span.{span_of}
use Rattle.lists.specs.Split.{index_of}
use Rattle.lists.proofs.Laws.{take_rest}
use Rattle.lists.proofs.Trim.{trim_le, trim_length, trim_last}
use Rattle.lists.proofs.Span.{span_le, span_stops}
use Rattle.lists.proofs.All.{all_drop, all_take}
use Rattle.lists.proofs.Bools.{never}
use Rattle.names.specs.declared.Pattern.{Pattern}
use Rattle.names.specs.Name.{is_pattern, matches_name, pattern_for}
use Rattle.fields.specs.Name.{after, has_name}
use Rattle.fields.specs.Blank.{blank, unblanked}
use Rattle.policies.specs.declared.Cause.{Cause}
use Rattle.policies.specs.declared.Kind.{Kind}
use Rattle.policies.specs.declared.Seen.{Seen}
use Rattle.policies.specs.declared.Step.{Step}
use Rattle.policies.specs.Texts.{printable, is_text, is_value}
use Rattle.policies.specs.Fields.{name_of, value_of, is_line}
use Rattle.policies.specs.Reader.{stripped_value, kind_of, take_mx, take_field, take_line}
use Rattle.policies.proofs.Texts.{printable_text}

-- `take_mx`: b is what `is_pattern` gave, r what `read_pattern` gave
module _ (h : List ℕ) (x : Bool) (v : List ℕ) where
  module _ (f : x ≡ true) (b : Bool) (g : b ≡ is_pattern v) where
    pub mx_listed_bad : b ≡ false → Err Cause.Mx ≡ take_mx h x v
    unfolding take_mx
    mx_listed_bad e = cc

    pub mx_listed : b ≡ true → Ok (Step.Pattern true) ≡ take_mx h x v
    unfolding take_mx
    mx_listed e = cc

  -- the cases of `read_pattern` as tests
  read_cases : (p m : Bool) (r : Pattern) → r ≡ cond p (cond m Pattern.Matching Pattern.Other) Pattern.Malformed
      → ((r ≡ Pattern.Malformed → p ≡ false) × (r ≡ Pattern.Matching → (p ≡ true) × (m ≡ true)) × (r ≡ Pattern.Other → (p ≡ true) × (m ≡ false)))
  read_cases true true r e = (λ q. never cc, λ q. (refl, refl), λ q. never cc)
  read_cases true false r e = (λ q. never cc, λ q. never cc, λ q. (refl, refl))
  read_cases false m r e = (λ q. refl, λ q. never cc, λ q. never cc)

  module _ (f : x ≡ false) (r : Pattern) (g : r ≡ pattern_for v h) where
    cases : (r ≡ Pattern.Malformed → is_pattern v ≡ false) × (r ≡ Pattern.Matching → (is_pattern v ≡ true) × (matches_name v h ≡ true)) × (r ≡ Pattern.Other → (is_pattern v ≡ true) × (matches_name v h ≡ false))
    unfolding pattern_for
    cases = read_cases (is_pattern v) (matches_name v h) r g

    pub mx_malformed : r ≡ Pattern.Malformed → Err Cause.Mx ≡ take_mx h x v
    unfolding take_mx
    mx_malformed e = rw (cases.0 e)

    pub mx_matching : r ≡ Pattern.Matching → Ok (Step.Pattern true) ≡ take_mx h x v
    unfolding take_mx
    mx_matching e = let k = cases.1 e in rw (k.0, f, k.1)

    pub mx_other : r ≡ Pattern.Other → Ok (Step.Pattern false) ≡ take_mx h x v
    unfolding take_mx
    mx_other e = let k = cases.2 e in rw (k.0, f, k.1)

pub ruleset mx_laws = (mx_listed_bad, mx_listed, mx_malformed, mx_matching, mx_other)

-- `value_of`: the colon stands at e; `from` and `to` are what its calls gave
module _ (l : List ℕ) (e : ℕ) (at : e ≡ index_of 58 l) (w : e < length l) (from : ℕ) (f : from ≡ e + 1 + span_of blank (drop (e + 1) l)) where
  pub from_fits : from ≤ length l
  from_fits = omega (arith, span_le blank (drop (e + 1) l), length-drop (e + 1) l)

  value_from : value_of l ≡ take (unblanked (drop from l)) (drop from l)
  unfolding value_of
  value_from =
      let k : drop (span_of blank (drop (e + 1) l)) (drop (e + 1) l) ≡ drop from l = drop-drop (span_of blank (drop (e + 1) l)) (e + 1) l ∙ rw f in
      rw (sym at, k)

  module _ (to : ℕ) (g : to ≡ unblanked (take (length l - from) (drop from l))) where
    pub to_fits : to ≤ length (take (length l - from) (drop from l))
    to_fits = omega (arith, trim_le blank (take (length l - from) (drop from l)))

    pub value_is : take (to - 0) (take (length l - from) (drop from l)) ≡ value_of l
    value_is =
        let k : take (length l - from) (drop from l) ≡ drop from l = take_rest l from in
        let z : to - 0 ≡ to = omega arith in
        rw (value_from, z, g, k)

pub ruleset value_laws = (from_fits, to_fits, value_is, rules)

-- where all bytes after the colon are printable, the value is a text
pub printable_value : (l v : List ℕ) (e : ℕ) (b : Bool) → e ≡ index_of 58 l → b ≡ all printable (drop (e + 1) l) → v ≡ value_of l → b ≡ true → is_text v ≡ true
unfolding value_of
printable_value l v e b at g x y =
    let d : List ℕ = drop (index_of 58 l + 1) l in
    let f : List ℕ = drop (span_of blank d) d in
    let k : all printable d ≡ true = rw at at (sym g ∙ y) in
    rw x (printable_text (value_of l) (all_take printable (unblanked f) f (all_drop printable (span_of blank d) d k)))

-- the value of a line has no blank at either end
no_space : (b : ℕ) → blank b ≡ false → b ≡ 32 → ⊥
unfolding blank
no_space b h e = let z : ◌≡◌ {A = ℕ} 0 1 = cc in omega arith

module _ (d : List ℕ) (h : 1 ≤ length (take (unblanked (drop (span_of blank d) d)) (drop (span_of blank d) d))) where
  abbrev rest : List ℕ
  rest = drop (span_of blank d) d

  size : length (take (unblanked rest) rest) ≡ unblanked rest
  size = trim_length blank rest

  front : get_or (take (unblanked rest) rest) 0 0 ≡ 32 → ⊥
  front e =
      let k : get_or (take (unblanked rest) rest) 0 0 ≡ get_or d (span_of blank d + 0) 0 = get_or-take (unblanked rest) rest 0 0 (omega (arith, size)) ∙ get_or-drop (span_of blank d) d 0 0 in
      let z : span_of blank d + 0 ≡ span_of blank d = omega arith in
      no_space (get_or d (span_of blank d) 0) (span_stops blank d (omega (arith, size, trim_le blank rest, length-drop (span_of blank d) d))) (rw z at (sym k ∙ e))

  back : get_or (take (unblanked rest) rest) (length (take (unblanked rest) rest) - 1) 0 ≡ 32 → ⊥
  back e =
      let k : get_or (take (unblanked rest) rest) (unblanked rest - 1) 0 ≡ get_or rest (unblanked rest - 1) 0 = get_or-take (unblanked rest) rest (unblanked rest - 1) 0 (omega (arith, size)) in
      no_space (get_or rest (unblanked rest - 1) 0) (trim_last blank rest (omega (arith, size))) (sym k ∙ rw size at e)

stripped : (l : List ℕ) → is_value (value_of l) ≡ stripped_value (value_of l)
unfolding is_value stripped_value value_of
stripped l = go (leb 1 (length (value_of l))) refl
  where
    go : (t : Bool) → leb 1 (length (value_of l)) ≡ t → (t && not (eqb (get_or (value_of l) 0 0) 32) && not (eqb (get_or (value_of l) (length (value_of l) - 1) 0) 32) && is_text (value_of l)) ≡ (t && is_text (value_of l))
    go true e =
        let h : 1 ≤ length (value_of l) = leb-true 1 (length (value_of l)) e in
        rw (ne_eqb (get_or (value_of l) 0 0) 32 (front (after 58 l) h), ne_eqb (get_or (value_of l) (length (value_of l) - 1) 0) 32 (back (after 58 l) h))
    go false e = refl

-- `take_value`: v is the line's value, b whether it is a value
module _ (h : List ℕ) (x : Bool) (r : Seen) (l : List ℕ) (v : List ℕ) (y : v ≡ value_of l) (b : Bool) (g : b ≡ stripped_value v) where
  pub line_bad : b ≡ false → Err Cause.Form ≡ take_line h x r l
  unfolding take_line is_line
  line_bad e =
      let k : is_value (value_of l) ≡ false = cc (stripped l) in
      rw (k, and-false)

  pub line_good : (e : ℕ) → has_name 58 l ≡ true → e ≡ index_of 58 l → b ≡ true → (k : Kind) → k ≡ kind_of (take (e - 0) l) → (s : Result Step Cause) → s ≡ take_field h x r k v → s ≡ take_line h x r l
  unfolding take_line is_line name_of
  line_good e has at t k c s f =
      let i : is_value (value_of l) ≡ true = cc (stripped l) in
      let z : e - 0 ≡ e = omega arith in
      rw (i, has, sym at) (f ∙ rw (c, y, z))

pub ruleset line_laws = (printable_value, line_bad, line_good)
