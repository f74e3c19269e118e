-- The marks of eight bytes: where the lowest one stands, and a loop that goes past eight bytes a turn. Assumes nothing.
use Prim.Native.Nat.{ℕ, zero, suc, ◌+◌, ◌-◌, ◌*◌, ◌/◌, ◌%◌, ◌<◌, ◌≤◌}
use mathlib.Core.Path.{◌≡◌, refl, sym, ◌∙◌}
use mathlib.Core.Bool.{Bool, true, false, cond}
use mathlib.Core.List.{List, [], ◌∷◌}
use mathlib.Core.Logic.{⊎_elim}
use native.Mathlib.Nat.{eq-or-lt_of_le}
use native.Mathlib.Omega.{arith}
use borrow.Author.Rules.{rules}
use lib.Count.{count_trailing_zeros}
use lib.ListN.{length, take, drop, length-drop}
use lib.Seq.{drop-drop}
use Rattle.lists.specs.Span.{span_of}
use Rattle.lists.specs.Words.{eight_at, marks}
use Rattle.lists.proofs.Laws.{part_length}
use Rattle.lists.proofs.Span.{span_le, past_end}

-- an even number has one zero more than its half, an odd one none
zeros_even : (k n m : ℕ) → n ≡ 2 * m → count_trailing_zeros (suc k) n ≡ suc (count_trailing_zeros k m)
unfolding count_trailing_zeros
zeros_even k n m e =
    let x : n % 2 ≡ 0 = omega arith in
    let y : n / 2 ≡ m = omega arith in
    rw (x, y) refl

zeros_odd : (k n m : ℕ) → n ≡ 2 * m + 1 → count_trailing_zeros (suc k) n ≡ 0
unfolding count_trailing_zeros
zeros_odd k n m e = let x : n % 2 ≡ 1 = omega arith in rw x refl

-- m doubled j times has j zeros more
abbrev doubled : ℕ → ℕ → ℕ
doubled zero m = m
doubled (suc j) m = 2 * doubled j m

zeros_doubled : (j k m : ℕ) → count_trailing_zeros (j + k) (doubled j m) ≡ j + count_trailing_zeros k m
zeros_doubled zero k m = let a : 0 + k ≡ k = omega arith in rw a (omega arith)
zeros_doubled (suc j) k m =
    let a : suc j + k ≡ suc (j + k) = omega arith in
    rw (a, zeros_even (j + k) (2 * doubled j m) (doubled j m) refl) (omega (arith, zeros_doubled j k m))

-- a byte that is 0, and one that is 128, below the bytes of m
zeros_none : (k m : ℕ) → count_trailing_zeros (8 + k) (256 * m) ≡ 8 + count_trailing_zeros k m
zeros_none k m = let e : 256 * m ≡ doubled 8 m = omega arith in rw e (zeros_doubled 8 k m)

zeros_high : (k m : ℕ) → count_trailing_zeros (8 + k) (128 + 256 * m) ≡ 7
zeros_high k m =
    let e : 128 + 256 * m ≡ doubled 7 (2 * m + 1) = omega arith in
    let j : 8 + k ≡ 7 + suc k = omega arith in
    rw (e, j) (omega (arith, zeros_doubled 7 (suc k) (2 * m + 1), zeros_odd k (2 * m + 1) m refl))

-- the lowest mark is that of the first byte which does not pass
marks_first : (p : ℕ → Bool) (l : List ℕ) → count_trailing_zeros (8 * length l) (marks p l) / 8 ≡ span_of p l
unfolding marks span_of count_trailing_zeros
marks_first p [] = refl
marks_first p (b ∷ s) = go (marks_first p s) (p b)
  where
    k : 8 * suc (length s) ≡ 8 + 8 * length s
    k = omega arith

    go : count_trailing_zeros (8 * length s) (marks p s) / 8 ≡ span_of p s → (t : Bool) → count_trailing_zeros (8 * suc (length s)) (cond t 0 128 + 256 * marks p s) / 8 ≡ cond t (suc (span_of p s)) 0
    go i true =
        let e : 0 + 256 * marks p s ≡ 256 * marks p s = omega arith in
        rw (k, e, zeros_none (8 * length s) (marks p s)) (omega arith)
    go i false = rw (k, zeros_high (8 * length s) (marks p s)) refl

-- where every byte passes there is no mark
marks_none : (p : ℕ → Bool) (l : List ℕ) → span_of p l ≡ length l → marks p l ≡ 0
unfolding marks span_of
marks_none p [] h = refl
marks_none p (b ∷ s) h = go (marks_none p s) (p b) h
  where
    go : (span_of p s ≡ length s → marks p s ≡ 0) → (t : Bool) → cond t (suc (span_of p s)) 0 ≡ suc (length s) → cond t 0 128 + 256 * marks p s ≡ 0
    go f true e = let i : marks p s ≡ 0 = f (omega arith) in omega arith
    go f false e = absurd (omega arith)

-- the span of a list by that of its first n: it ends there, or goes on in the rest
span_front : (p : ℕ → Bool) (n : ℕ) (u : List ℕ) → span_of p (take n u) < n → n ≤ length u → span_of p u ≡ span_of p (take n u)
unfolding span_of
span_front p zero u h w = absurd (omega arith)
span_front p (suc n) [] h w = absurd (omega arith)
span_front p (suc n) (x ∷ u) h w = go (λ k. span_front p n u k (omega arith)) (p x) h
  where
    go : (span_of p (take n u) < n → span_of p u ≡ span_of p (take n u)) → (t : Bool) → cond t (suc (span_of p (take n u))) 0 < suc n → cond t (suc (span_of p u)) 0 ≡ cond t (suc (span_of p (take n u))) 0
    go f true k = rw (f (omega arith)) refl
    go f false k = refl

span_through : (p : ℕ → Bool) (n : ℕ) (u : List ℕ) → span_of p (take n u) ≡ n → n ≤ length u → span_of p u ≡ n + span_of p (drop n u)
unfolding span_of
span_through p zero u h w = omega arith
span_through p (suc n) [] h w = absurd (omega arith)
span_through p (suc n) (x ∷ u) h w = go (λ k. span_through p n u k (omega arith)) (p x) h
  where
    go : (span_of p (take n u) ≡ n → span_of p u ≡ n + span_of p (drop n u)) → (t : Bool) → cond t (suc (span_of p (take n u))) 0 ≡ suc n → cond t (suc (span_of p u)) 0 ≡ suc n + span_of p (drop n u)
    go f true k = let i : span_of p u ≡ n + span_of p (drop n u) = f (omega arith) in omega arith
    go f false k = absurd (omega arith)

-- a loop that goes past the bytes which pass a test, eight a turn, up to `end`: m is the marks of the next eight
module _ (p : ℕ → Bool) (s : List ℕ) (i m end : ℕ) (inv : end ≡ i + span_of p (drop i s)) (left : 8 ≤ length s - i) (gave : m ≡ marks p (eight_at s i)) where
  eight_long : length (eight_at s i) ≡ 8
  eight_long = part_length s i 8 (omega arith)

  eight_span : count_trailing_zeros 64 m / 8 ≡ span_of p (eight_at s i)
  eight_span = rw (gave, sym (marks_first p (eight_at s i)), eight_long) refl

  eight_left : 8 ≤ length (drop i s)
  eight_left = omega (arith, length-drop i s)

  pub eight_past : m ≡ 0 → end ≡ i + 8 + span_of p (drop (i + 8) s)
  unfolding count_trailing_zeros
  eight_past z =
      let a : 8 ≡ span_of p (eight_at s i) = rw z at eight_span in
      let b : span_of p (drop i s) ≡ 8 + span_of p (drop 8 (drop i s)) = span_through p 8 (drop i s) (sym a) eight_left in
      let d : span_of p (drop 8 (drop i s)) ≡ span_of p (drop (i + 8) s) = rw (drop-drop 8 i s) refl in
      omega arith

  pub eight_stop : (m ≡ 0 → ⊥) → (r : ℕ) → r ≡ count_trailing_zeros 64 m / 8 → i + r ≡ end
  eight_stop n r e =
      let a : span_of p (eight_at s i) ≤ 8 = omega (arith, eight_long, span_le p (eight_at s i)) in
      ⊎_elim
      (λ (q : span_of p (eight_at s i) ≡ 8). absurd (n (gave ∙ marks_none p (eight_at s i) (q ∙ sym eight_long))))
      (λ (q : span_of p (eight_at s i) < 8). omega (arith, span_front p 8 (drop i s) q eight_left, eight_span))
      (eq-or-lt_of_le a)

-- past the end of the list nothing passes
pub eight_outside : (p : ℕ → Bool) (s : List ℕ) (from : ℕ) → length s < from → from ≡ from + span_of p (drop from s)
eight_outside p s from h = past_end p s from from refl (omega arith)

-- r is what the loop over single bytes gave of the rest
pub eight_rest : (p : ℕ → Bool) (s : List ℕ) (i end r : ℕ) → end ≡ i + span_of p (drop i s) → r ≡ i + span_of p (drop i s) → r ≡ end
eight_rest p s i end r inv gave = gave ∙ sym inv

-- a function with such a loop: `search marks_laws` at each need
pub ruleset marks_laws = (eight_past, eight_stop, eight_outside, eight_rest, rules)
