-- Laws of the four counts: what is written at a place is read there, and the others stay. Assumes nothing.
use Prim.Native.Nat.{ℕ, zero, suc, ◌+◌, ◌*◌, ◌/◌, ◌^◌, ◌<◌, ◌≤◌}
use mathlib.Core.Path.{◌≡◌, refl, sym, ap, ◌∙◌}
use mathlib.Core.List.{List, [], ◌∷◌}
use native.Mathlib.Omega.{arith}
use lib.ListN.{length, get_or, take, drop}
use Rattle.lists.specs.Numerals.{value_of}
use Rattle.std.specs.Int.{w64, from_be_bytes}
use Rattle.std.specs.Simd.{first_chunks}
use Rattle.lists.proofs.Chunks.{chunk_is}
use Rattle.lists.proofs.Laws.{part_length}
use Rattle.numbers.specs.Numbers.{sum, eight}
use Rattle.numbers.proofs.Written.{eight_value}
use Rattle.writing.specs.Over.{over}
use Rattle.writing.proofs.Over.{over_length, over_there, over_before, over_after}
use Rattle.reports.specs.Counts.{count_at, counts_of, total_of}
use Rattle.reports.specs.Calls.{failures_of}

-- `count_at`: a count is the number of chunk k
value_is : (s : List ℕ) → length s ≡ 8 → from_be_bytes w64 s ≡ value_of 0 s
unfolding value_of
value_is (a ∷ b ∷ c ∷ d ∷ e ∷ f ∷ g ∷ h ∷ []) l = omega arith
value_is s l = absurd (omega arith)

pub count_is : (s : List ℕ) (k : ℕ) (words : List (List ℕ)) (r : ℕ) → k ≤ 3 → length s ≡ 32 → words ≡ first_chunks 8 (length s / 8) s → r ≡ from_be_bytes w64 (get_or words k []) → r ≡ count_at s k
unfolding count_at
count_is s k words r few size front e =
    let i : k < length s / 8 = omega arith in
    let l : length (take 8 (drop (8 * k) s)) ≡ 8 = part_length s (8 * k) 8 (omega arith) in
    e ∙ rw (front, chunk_is 8 (length s / 8) k s i) (value_is (take 8 (drop (8 * k) s)) l)

-- the bytes of a number
eight_size : (n : ℕ) → length (eight n) ≡ 8
unfolding eight
eight_size n = refl

-- a number written at a place
module _ (s : List ℕ) (n k : ℕ) (fits : 8 * k + 8 ≤ length s) where
  room : 8 * k + length (eight n) ≤ length s
  room = omega (arith, eight_size n, fits)

  pub put_size : length (over (8 * k) (eight n) s) ≡ length s
  put_size = over_length (8 * k) (eight n) s room

  -- is the count there
  pub put_there : n < 2 ^ 64 → count_at (over (8 * k) (eight n) s) k ≡ n
  unfolding count_at
  put_there h = ap (value_of 0) (ap (λ (m : ℕ). take m (drop (8 * k) (over (8 * k) (eight n) s))) (sym (eight_size n)) ∙ over_there (8 * k) (eight n) s room) ∙ eight_value n h

  -- and the counts at the other places are as they were
  pub put_after : (j : ℕ) → j < k → count_at (over (8 * k) (eight n) s) j ≡ count_at s j
  unfolding count_at
  put_after j h = ap (value_of 0) (over_before (8 * k) (eight n) s room (8 * j) 8 (omega (arith, h)))

  pub put_before : (j : ℕ) → k < j → count_at (over (8 * k) (eight n) s) j ≡ count_at s j
  unfolding count_at
  put_before j h = ap (λ (t : List ℕ). value_of 0 (take 8 t)) (over_after (8 * k) (eight n) s room (8 * j) (omega (arith, eight_size n, h)))

-- the total, spelled out
pub total_is : (s : List ℕ) → total_of s ≡ count_at s 0 + count_at s 1 + count_at s 2 + count_at s 3
unfolding total_of counts_of sum
total_is s = omega arith

pub total_parts : (s : List ℕ) → total_of s ≡ count_at s 0 + failures_of s
unfolding failures_of
total_parts s = omega (arith, total_is s)

-- no count is above the total
pub count_most : (s : List ℕ) (k : ℕ) → k ≤ 3 → count_at s k ≤ total_of s
count_most s zero h = omega (arith, total_is s)
count_most s (suc zero) h = omega (arith, total_is s)
count_most s (suc (suc zero)) h = omega (arith, total_is s)
count_most s (suc (suc (suc zero))) h = omega (arith, total_is s)
count_most s (suc (suc (suc (suc k)))) h = absurd (omega arith)
