-- A loop that tests every piece of a list: from `start`, `find` gives the end of a piece, e, and r is what the test gave of it. Assumes nothing.
use Prim.Native.Nat.{ℕ, suc, ◌+◌, ◌-◌, ◌<◌, ◌≤◌}
use mathlib.Core.Path.{◌≡◌}
use mathlib.Core.Bool.{Bool, true, false}
use mathlib.Core.List.{List, [], ◌∷◌}
use mathlib.Core.Logic.{⊎_elim}
use native.Mathlib.Nat.{eq-or-lt_of_le}
use native.Mathlib.Omega.{arith}
use lib.ListN.{length, take, drop, length-drop}
use lib.Seq.{drop-drop, take_all}
use Rattle.lists.specs.Bytes.{all}
use Rattle.lists.specs.Split.{index_of, split}
use Rattle.lists.proofs.Split.{index_of_le, split_first, split_last}

module _ (b : ℕ) (s : List ℕ) (start e : ℕ) (found : e ≡ start + index_of b (drop start s)) where
  pub found_after : start ≤ e
  found_after = omega arith

  pub found_within : start ≤ length s → e ≤ length s
  found_within h = omega (arith, index_of_le b (drop start s), length-drop start s)

  pub pieces_first : e < length s → split b (drop start s) ≡ take (e - start) (drop start s) ∷ split b (drop (e + 1) s)
  pieces_first h =
      let k : index_of b (drop start s) < length (drop start s) = omega (arith, length-drop start s) in
      let x : index_of b (drop start s) ≡ e - start = omega arith in
      let y : start + suc (index_of b (drop start s)) ≡ e + 1 = omega arith in
      cc (split_first b (drop start s) k, drop-drop (suc (index_of b (drop start s))) start s)

  pub pieces_last : start ≤ length s → length s ≤ e → split b (drop start s) ≡ take (e - start) (drop start s) ∷ []
  pieces_last w h =
      let k : index_of b (drop start s) ≡ length (drop start s) = omega (arith, length-drop start s, index_of_le b (drop start s)) in
      let x : length (drop start s) ≤ e - start = omega arith in
      cc (split_last b (drop start s) k, take_all (e - start) (drop start s) x)

  module _ (p : List ℕ → Bool) (r : Bool) (inv : all p (split b s) ≡ all p (split b (drop start s))) (gave : r ≡ p (take (e - start) (drop start s))) where
    pub every_next : e < length s → r ≡ true → all p (split b s) ≡ all p (split b (drop (e + 1) s))
    unfolding all
    every_next h t = cc (pieces_first h)

    pub every_end : start ≤ length s → length s ≤ e → r ≡ true → all p (split b s) ≡ true
    unfolding all
    every_end w h t = cc (pieces_last w h)

    pub every_fail : start ≤ length s → r ≡ false → all p (split b s) ≡ false
    unfolding all
    every_fail w t = ⊎_elim (λ (q : e ≡ length s). cc (pieces_last w (omega arith))) (λ (h : e < length s). cc (pieces_first h)) (eq-or-lt_of_le (found_within w))
