-- Laws of what a list is without the bytes at its end that pass a test p, and the turns of a loop that goes back over them, where r is what the code's call of p
-- gave. Assumes nothing.
use Prim.Native.Nat.{ℕ, zero, suc, ◌-◌, ◌<◌, ◌≤◌}
use mathlib.Core.Path.{◌≡◌, refl, sym, ◌∙◌}
use mathlib.Core.Bool.{Bool, true, false, cond, ◌&&◌, and-false, and-true}
use mathlib.Core.List.{List, [], ◌∷◌, ◌++◌}
use native.Mathlib.Omega.{arith}
use lib.ListN.{length, get_or, take, drop}
use lib.Seq.{take-length, length-take-le, take-append-le}
use borrow.Author.Rules.{rules}
use borrow.Author.Tests.{not-true, not-false}
use Rattle.lists.specs.Bytes.{all}
use Rattle.lists.specs.Span.{trimmed_length, trimmed}
use Rattle.lists.proofs.All.{all_take_next, all_append}

module _ (p : ℕ → Bool) where
  -- a byte at the end that passes counts for nothing
  trim_yes : (s : List ℕ) (i : ℕ) → i < length s → p (get_or s i 0) ≡ true → trimmed_length p (take (suc i) s) ≡ trimmed_length p (take i s)
  unfolding trimmed_length all
  trim_yes [] i h t = absurd (omega arith)
  trim_yes (x ∷ s) zero h t = cc
  trim_yes (x ∷ s) (suc i) h t = cc (trim_yes s i (omega arith) t, all_take_next p s i (omega arith), and-true (all p (take i s)))

  -- any other byte at the end does
  trim_no : (s : List ℕ) (i : ℕ) → i < length s → p (get_or s i 0) ≡ false → trimmed_length p (take (suc i) s) ≡ suc i
  unfolding trimmed_length all
  trim_no [] i h t = absurd (omega arith)
  trim_no (x ∷ s) zero h t = cc
  trim_no (x ∷ s) (suc i) h t = simp (trim_no s i (omega arith) t, all_take_next p s i (omega arith), t, and-false)

  pub trim_le : (s : List ℕ) → trimmed_length p s ≤ length s
  unfolding trimmed_length
  trim_le [] = omega arith
  trim_le (x ∷ s) = go (trim_le s) (all p (x ∷ s))
    where
      go : trimmed_length p s ≤ length s → (t : Bool) → cond t 0 (suc (trimmed_length p s)) ≤ suc (length s)
      go ih true = omega arith
      go ih false = omega arith

  pub trim_length : (s : List ℕ) → length (trimmed p s) ≡ trimmed_length p s
  trim_length s = length-take-le (trimmed_length p s) s (trim_le s)

  -- what is left out passes
  pub trim_rest : (s : List ℕ) → all p (drop (trimmed_length p s) s) ≡ true
  unfolding trimmed_length all
  trim_rest [] = refl
  trim_rest (x ∷ s) = go (trim_rest s) (all p (x ∷ s)) refl
    where
      go : all p (drop (trimmed_length p s) s) ≡ true → (t : Bool) → all p (x ∷ s) ≡ t → all p (drop (cond t 0 (suc (trimmed_length p s))) (x ∷ s)) ≡ true
      go ih true e = e
      go ih false e = ih

  -- nothing is left of a list that passes whole
  pub trim_whole : (e : List ℕ) → all p e ≡ true → trimmed_length p e ≡ 0
  unfolding trimmed_length
  trim_whole [] h = refl
  trim_whole (x ∷ e) h = rw h

  -- a list of which nothing is left passes whole
  pub trim_none : (t : List ℕ) → trimmed_length p t ≡ 0 → all p t ≡ true
  unfolding trimmed_length all
  trim_none [] h = refl
  trim_none (b ∷ t) h = go (all p (b ∷ t)) h
    where
      go : (y : Bool) → cond y 0 (suc (trimmed_length p t)) ≡ 0 → y ≡ true
      go true h = refl
      go false h = absurd (omega arith)

  -- the last byte that is left does not pass
  pub trim_last : (t : List ℕ) → 1 ≤ trimmed_length p t → p (get_or t (trimmed_length p t - 1) 0) ≡ false
  unfolding trimmed_length all
  trim_last [] h = absurd (omega arith)
  trim_last (b ∷ t) h = go (trim_last t) (trim_none t) (trimmed_length p t) refl (all p (b ∷ t)) refl h
    where
      go : (1 ≤ trimmed_length p t → p (get_or t (trimmed_length p t - 1) 0) ≡ false) → (trimmed_length p t ≡ 0 → all p t ≡ true) → (k : ℕ) → trimmed_length p t ≡ k → (y : Bool) → (p b && all p t) ≡ y → 1 ≤ cond y 0 (suc (trimmed_length p t)) → p (get_or (b ∷ t) (cond y 0 (suc (trimmed_length p t)) - 1) 0) ≡ false
      go ih nb k e true f h = absurd (omega arith)
      go ih nb zero e false f h =
          let z : suc (trimmed_length p t) - 1 ≡ 0 = omega arith in
          rw z (sym (and-true (p b)) ∙ rw (nb e) at f)
      go ih nb (suc k) e false f h =
          let z : suc (trimmed_length p t) - 1 ≡ suc k = omega arith in
          let y : trimmed_length p t - 1 ≡ k = omega arith in
          rw z (rw y at (ih (omega arith)))

  -- what passes makes no difference at the end
  pub trim_append : (u e : List ℕ) → all p e ≡ true → trimmed_length p (u ++ e) ≡ trimmed_length p u
  unfolding trimmed_length
  trim_append [] e h = trim_whole e h
  trim_append (x ∷ u) e h = go (trim_append u e h) (all_append p (x ∷ u) e ∙ rw (h, and-true (all p (x ∷ u))))
    where
      go : trimmed_length p (u ++ e) ≡ trimmed_length p u → all p ((x ∷ u) ++ e) ≡ all p (x ∷ u) → cond (all p ((x ∷ u) ++ e)) 0 (suc (trimmed_length p (u ++ e))) ≡ cond (all p (x ∷ u)) 0 (suc (trimmed_length p u))
      go ih g = rw (g, ih)

  pub trim_gone : (u e : List ℕ) → all p e ≡ true → trimmed p (u ++ e) ≡ trimmed p u
  trim_gone u e h = rw (trim_append u e h) (take-append-le (trimmed_length p u) u e (trim_le u))

  -- the loop: its start, a turn, and its two ends
  pub trim_start : (s : List ℕ) → trimmed_length p s ≡ trimmed_length p (take (length s) s)
  trim_start s = rw (take-length s)

  module _ (s : List ℕ) (e : ℕ) (inv : trimmed_length p s ≡ trimmed_length p (take e s)) (w : e ≤ length s) where
    pub trim_next : (r : Bool) → 0 < e → r ≡ p (get_or s (e - 1) 0) → r ≡ true → trimmed_length p s ≡ trimmed_length p (take (e - 1) s)
    trim_next r z g t =
        let k : e ≡ suc (e - 1) = omega arith in
        let u : trimmed_length p (take (suc (e - 1)) s) ≡ trimmed_length p (take (e - 1) s) = trim_yes s (e - 1) (omega arith) (sym g ∙ t) in
        cc

    pub trim_stop : (r : Bool) → 0 < e → r ≡ p (get_or s (e - 1) 0) → r ≡ false → e ≡ trimmed_length p s
    trim_stop r z g t =
        let k : e ≡ suc (e - 1) = omega arith in
        let u : trimmed_length p (take (suc (e - 1)) s) ≡ suc (e - 1) = trim_no s (e - 1) (omega arith) (sym g ∙ t) in
        cc

    pub trim_end : e ≤ 0 → 0 ≡ trimmed_length p s
    unfolding trimmed_length
    trim_end z =
        let k : e ≡ 0 = omega arith in
        cc

-- a function whose loop goes back over the bytes at the end that pass a test: `search trim_laws` at each need
pub ruleset trim_laws = (trim_start, trim_next, trim_stop, trim_end, not-true, not-false, rules)
