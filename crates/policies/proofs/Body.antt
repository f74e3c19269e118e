-- The lines of a body, one after another: what `text_end` and `line_end` find. Assumes nothing.
use Prim.Native.Nat.{ℕ, zero, suc, ◌+◌, ◌-◌, ◌<◌, ◌≤◌}
use mathlib.Core.Path.{◌≡◌, refl, ◌∙◌}
use mathlib.Core.Bool.{Bool, true, false, cond, ◌&&◌, and-false}
use mathlib.Core.List.{List, [], ◌∷◌}
use native.Mathlib.Numerals.{add-one}
use native.Mathlib.Omega.{arith}
use lib.Dec.{eqb, ltb}
use lib.ListN.{length, get_or, take, drop, length-drop}
use lib.Seq.{drop-drop, get_or-drop}
use borrow.Author.Rules.{rules}
use borrow.Author.Tests.{lt-ltb, le-ltb}
use Rattle.lists.specs.Split.{index_of, to_first}
use Rattle.lists.proofs.Split.{index_of_le, to_first_some}
use Rattle.lists.proofs.Laws.{ltb_suc, ltb_drop}
use Rattle.lists.proofs.Every.{found_within}
use Rattle.policies.specs.Lines.{lines, line_start}
use Rattle.policies.specs.Reader.{text_end, line_end, line_at}

text_zero : (u : List ℕ) → text_end u 0 0 ≡ 0
unfolding text_end
text_zero u = simp and-false

text_one : (x : ℕ) (u : List ℕ) → text_end (x ∷ u) 0 1 ≡ cond (ltb 1 (suc (length u)) && eqb x 13) 0 1
unfolding text_end
text_one x u = go (ltb 1 (suc (length u)))
  where
    go : (t : Bool) → ◌≡◌ {A = ℕ} (cond (t && true && eqb x 13) 0 1) (cond (t && eqb x 13) 0 1)
    go true = refl
    go false = refl

text_more : (x : ℕ) (u : List ℕ) (k : ℕ) → text_end (x ∷ u) 0 (suc (suc k)) ≡ suc (text_end u 0 (suc k))
unfolding text_end
text_more x u k =
    let a : suc (suc k) - 1 ≡ suc k = omega arith in
    let b : suc k - 1 ≡ k = omega arith in
    let c : ltb 0 (suc (suc k)) ≡ true = lt-ltb 0 (suc (suc k)) (omega arith) in
    let d : ltb 0 (suc k) ≡ true = lt-ltb 0 (suc k) (omega arith) in
    rw (ltb_suc (suc k) (length u), a, b, c, d) (go (ltb (suc k) (length u)) (eqb (get_or u k 0) 13))
  where
    go : (t v : Bool) → cond (t && true && v) (suc k) (suc (suc k)) ≡ suc (cond (t && true && v) k (suc k))
    go true true = refl
    go true false = refl
    go false v = refl

-- the first line of a body goes up to its first LF, less a CR, and the others follow
lines_first : (u : List ℕ) → 1 ≤ length u → lines u ≡ take (text_end u 0 (index_of 10 u)) u ∷ lines (drop (suc (index_of 10 u)) u)
unfolding lines to_first index_of
lines_first [] h = absurd (omega arith)
lines_first (x ∷ []) h = go (eqb x 10) (eqb x 13) refl refl
  where
    go : (t u : Bool) → eqb x 10 ≡ t → eqb x 13 ≡ u → lines (x ∷ []) ≡ take (text_end (x ∷ []) 0 (index_of 10 (x ∷ []))) (x ∷ []) ∷ lines (drop (suc (index_of 10 (x ∷ []))) (x ∷ []))
    go true u e f = cc (text_zero (x ∷ []))
    go false true e f = cc (text_one x [])
    go false false e f = cc (text_one x [])
lines_first (x ∷ y ∷ w) h = go (lines_first (y ∷ w) (omega arith)) (eqb x 10) (eqb x 13) (eqb y 10) refl refl refl
  where
    go : lines (y ∷ w) ≡ take (text_end (y ∷ w) 0 (index_of 10 (y ∷ w))) (y ∷ w) ∷ lines (drop (suc (index_of 10 (y ∷ w))) (y ∷ w)) → (t u v : Bool) → eqb x 10 ≡ t → eqb x 13 ≡ u → eqb y 10 ≡ v → lines (x ∷ y ∷ w) ≡ take (text_end (x ∷ y ∷ w) 0 (index_of 10 (x ∷ y ∷ w))) (x ∷ y ∷ w) ∷ lines (drop (suc (index_of 10 (x ∷ y ∷ w))) (x ∷ y ∷ w))
    go ih true u v e f g = cc (text_zero (x ∷ y ∷ w))
    go ih false true true e f g = cc (text_one x (y ∷ w), lt-ltb 1 (suc (suc (length w))) (omega arith))
    go ih false false true e f g = cc (text_one x (y ∷ w), lt-ltb 1 (suc (suc (length w))) (omega arith))
    go ih false true false e f g = cc (ih, text_more x (y ∷ w) (index_of 10 w))
    go ih false false false e f g = cc (ih, text_more x (y ∷ w) (index_of 10 w))

-- the same of what is left of a body at `at`
pub text_shift : (s : List ℕ) (at i : ℕ) → text_end s at (at + i) ≡ at + text_end (drop at s) 0 i
unfolding text_end
text_shift s at zero =
    let z : at + 0 ≡ at = omega arith in
    rw (z, le-ltb at at (omega arith)) (simp and-false (omega arith))
text_shift s at (suc k) =
    let a : at + suc k - 1 ≡ at + k = omega arith in
    let b : suc k - 1 ≡ k = omega arith in
    let c : ltb at (at + suc k) ≡ true = lt-ltb at (at + suc k) (omega arith) in
    let d : ltb 0 (suc k) ≡ true = lt-ltb 0 (suc k) (omega arith) in
    rw (a, b, c, d, ltb_drop s at (suc k), get_or-drop at s k 0) (go (ltb (suc k) (length (drop at s)) && true && eqb (get_or s (at + k) 0) 13))
  where
    go : (t : Bool) → cond t (at + k) (at + suc k) ≡ at + cond t k (suc k)
    go true = refl
    go false = refl

text_le : (u : List ℕ) (i : ℕ) → text_end u 0 i ≤ i
unfolding text_end
text_le u i = go (ltb i (length u) && ltb 0 i && eqb (get_or u (i - 1) 0) 13)
  where
    go : (t : Bool) → cond t (i - 1) i ≤ i
    go true = omega arith
    go false = omega arith

-- in a turn of a loop over the lines: e is the line's end, t the end of its text
module _ (s : List ℕ) (at e t : ℕ) (f : e ≡ at + index_of 10 (drop at s)) (x : t ≡ text_end s at e) where
  at_text : t ≡ at + text_end (drop at s) 0 (index_of 10 (drop at s))
  at_text = x ∙ rw f (text_shift s at (index_of 10 (drop at s)))

  pub text_after : at ≤ t
  text_after = omega (arith, at_text)

  pub text_within : at < length s → t ≤ length s
  text_within h = omega (arith, at_text, text_le (drop at s) (index_of 10 (drop at s)), index_of_le 10 (drop at s), length-drop at s)

  pub line_here : at < length s → lines (drop at s) ≡ take (t - at) (drop at s) ∷ lines (drop (e + 1) s)
  line_here h =
      let k : t - at ≡ text_end (drop at s) 0 (index_of 10 (drop at s)) = omega (arith, at_text) in
      let y : at + suc (index_of 10 (drop at s)) ≡ e + 1 = omega arith in
      let z : lines (drop at s) ≡ take (text_end (drop at s) 0 (index_of 10 (drop at s))) (drop at s) ∷ lines (drop (suc (index_of 10 (drop at s))) (drop at s)) = lines_first (drop at s) (omega (arith, length-drop at s)) in
      cc (drop-drop (suc (index_of 10 (drop at s))) at s)

-- a byte stands in some line
pub lines_there : (x : ℕ) (s : List ℕ) → 1 ≤ length (lines (x ∷ s))
unfolding lines
lines_there x [] = go (eqb x 10) (eqb x 13)
  where
    go : (t u : Bool) → 1 ≤ length (cond t ([] ∷ []) (cond (u && false) [] (to_first x [])))
    go true u = omega arith
    go false true = to_first_some x []
    go false false = to_first_some x []
lines_there x (y ∷ s) = go (lines_there y s) (eqb x 10) (eqb x 13 && eqb y 10)
  where
    go : 1 ≤ length (lines (y ∷ s)) → (t u : Bool) → 1 ≤ length (cond t ([] ∷ lines (y ∷ s)) (cond u (lines (y ∷ s)) (to_first x (lines (y ∷ s)))))
    go ih true u = omega arith
    go ih false true = ih
    go ih false false = to_first_some x (lines (y ∷ s))

-- `line_end`
pub ruleset end_laws = (found_within, rules)

-- the line at a place, the next one, and where it begins
module _ (s : List ℕ) (at : ℕ) where
  pub lines_at : at < length s → lines (drop at s) ≡ line_at s at ∷ lines (drop (line_end s at + 1) s)
  unfolding line_at line_end
  lines_at h = line_here s at (at + index_of 10 (drop at s)) (text_end s at (at + index_of 10 (drop at s))) refl refl h

  pub next_after : at < line_end s at + 1
  unfolding line_end
  next_after = omega arith

  pub next_within : at < length s → line_end s at ≤ length s
  unfolding line_end
  next_within h = found_within 10 s at (at + index_of 10 (drop at s)) refl (omega arith)

  pub next_start : (n : ℕ) → at ≡ line_start s n → line_end s at + 1 ≡ line_start s (n + 1)
  unfolding line_start line_end
  next_start n h = rw (add-one n) (go (line_start s n) h)
    where
      go : (b : ℕ) → at ≡ b → at + index_of 10 (drop at s) + 1 ≡ b + index_of 10 (drop b s) + 1
      go b k = rw k
