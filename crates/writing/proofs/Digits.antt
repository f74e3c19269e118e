-- The digits of a number write it, and no fewer do. Assumes nothing.
use Prim.Native.Nat.{ℕ, zero, suc, ◌+◌, ◌*◌, ◌-◌, ◌/◌, ◌%◌, ◌^◌, ◌<◌, ◌≤◌}
use mathlib.Core.Path.{◌≡◌, refl, sym, ap, ◌∙◌}
use mathlib.Core.Bool.{Bool, true, false, cond}
use mathlib.Core.List.{List, [], ◌∷◌, ◌++◌}
use native.Mathlib.Nat.{pow-suc, mul-le-mul_right, mul_assoc, mul_comm}
use native.Mathlib.Omega.{arith}
use lib.Dec.{ltb}
use lib.ListN.{length}
use borrow.Author.Tests.{ltb-true, ltb-false, le-leb}
use Rattle.lists.specs.Bytes.{all}
use Rattle.lists.specs.Numerals.{is_digit, decimal_after}
use Rattle.lists.proofs.Bools.{and_both}
use Rattle.lists.proofs.Laws.{within_true}
use Rattle.lists.proofs.All.{all_joined}
use Rattle.lists.proofs.Numerals.{decimal_digit}
use Rattle.writing.specs.Decimal.{digit, decimal_in, decimal}
use Rattle.writing.proofs.Decimal.{decimal_most}

digit_is : (n : ℕ) → n < 10 → is_digit (digit n) ≡ true
unfolding is_digit
digit_is n h = rw (le-leb 48 (48 + n) (omega arith), le-leb (48 + n) 57 (omega arith))

one_digit : (n : ℕ) → n < 10 → all is_digit (digit n ∷ []) ≡ true
unfolding all
one_digit n h = rw (digit_is n h)

-- only digits are written
digits_in : (k n : ℕ) → all is_digit (decimal_in k n) ≡ true
unfolding decimal_in all
digits_in zero n = refl
digits_in (suc k) n = go (digits_in k (n / 10)) (ltb n 10) refl
  where
    go : all is_digit (decimal_in k (n / 10)) ≡ true → (t : Bool) → ltb n 10 ≡ t → all is_digit (cond t (digit n ∷ []) (decimal_in k (n / 10) ++ (digit (n % 10) ∷ []))) ≡ true
    go ih true e = one_digit n (ltb-true n 10 e)
    go ih false e = all_joined is_digit (decimal_in k (n / 10)) (digit (n % 10) ∷ []) ih (one_digit (n % 10) (omega arith))

pub decimal_digits : (n : ℕ) → all is_digit (decimal n) ≡ true
unfolding decimal
decimal_digits n = digits_in (suc n) n

reads_in : (k n : ℕ) → n < k → decimal_after 0 (decimal_in k n) ≡ n
unfolding decimal_in decimal_after
reads_in zero n h = absurd (omega arith)
reads_in (suc k) n h = go (λ l. reads_in k (n / 10) (omega arith)) (ltb n 10) refl
  where
    go : (10 ≤ n → decimal_after 0 (decimal_in k (n / 10)) ≡ n / 10) → (t : Bool) → ltb n 10 ≡ t → decimal_after 0 (cond t (digit n ∷ []) (decimal_in k (n / 10) ++ (digit (n % 10) ∷ []))) ≡ n
    go ih true e = omega arith
    go ih false e = decimal_digit 0 (decimal_in k (n / 10)) (digit (n % 10)) ∙ rw (ih (ltb-false n 10 e)) (omega arith)

-- the digits of a number write it
pub decimal_reads : (n : ℕ) → decimal_after 0 (decimal n) ≡ n
unfolding decimal
decimal_reads n = reads_in (suc n) n (omega arith)

-- digits write a number below a power of ten
after_below : (v : List ℕ) (a : ℕ) → all is_digit v ≡ true → decimal_after a v < (a + 1) * 10 ^ length v
unfolding all decimal_after is_digit
after_below [] a h = omega arith
after_below (d ∷ v) a h =
    let k = and_both (is_digit d) (all is_digit v) h in
    let w = within_true 48 57 d k.0 in
    let p : 10 ^ suc (length v) ≡ 10 ^ length v * 10 = pow-suc 10 (length v) in
    let m : (a * 10 + (d - 48) + 1) * 10 ^ length v ≤ ((a + 1) * 10) * 10 ^ length v = mul-le-mul_right (10 ^ length v) (omega (arith, w.1)) in
    let e : ((a + 1) * 10) * 10 ^ length v ≡ (a + 1) * 10 ^ suc (length v) = mul_assoc (a + 1) 10 (10 ^ length v) ∙ ap (λ (x : ℕ). (a + 1) * x) (mul_comm 10 (10 ^ length v) ∙ sym p) in
    omega (arith, after_below v (a * 10 + (d - 48)) k.1, m, e)

-- so no digits that write a number are fewer than its decimal has
pub decimal_shortest : (n : ℕ) (v : List ℕ) → 1 ≤ length v → all is_digit v ≡ true → decimal_after 0 v ≡ n → length (decimal n) ≤ length v
decimal_shortest n [] l h e = absurd (omega arith)
decimal_shortest n (d ∷ v) l h e = decimal_most (length v) n (omega (arith, after_below (d ∷ v) 0 h, e))
