-- Laws of decimal numbers. Assumes nothing.
use Prim.Native.Nat.{ℕ, zero, suc, max, ◌+◌, ◌*◌, ◌^◌, ◌-◌, ◌/◌, ◌%◌, ◌<◌, ◌≤◌}
use mathlib.Core.Path.{◌≡◌, refl, sym, ap, ◌∙◌}
use mathlib.Core.Bool.{Bool, true, false, cond}
use mathlib.Core.List.{List, [], ◌∷◌, ◌++◌}
use native.Mathlib.Nat.{pow-suc}
use native.Mathlib.Omega.{arith}
use lib.Dec.{ltb}
use lib.ListN.{length, length-append}
use borrow.Author.Tests.{lt-ltb, le-ltb, ltb-true, ltb-false}
use Rattle.writing.specs.Over.{over}
use Rattle.writing.specs.Decimal.{digit, decimal_in, decimal}
use Rattle.writing.proofs.Over.{over_short, over_last_first, over_length}

-- how many digits may be written makes no difference, where there is one for each
enough : (j k n : ℕ) → n < j → n < k → decimal_in j n ≡ decimal_in k n
unfolding decimal_in
enough zero k n h i = absurd (omega arith)
enough (suc j) zero n h i = absurd (omega arith)
enough (suc j) (suc k) n h i = go (ltb n 10) refl (λ l. enough j k (n / 10) (omega arith) (omega arith))
  where
    go : (t : Bool) → ltb n 10 ≡ t → (10 ≤ n → decimal_in j (n / 10) ≡ decimal_in k (n / 10)) → cond t (digit n ∷ []) (decimal_in j (n / 10) ++ (digit (n % 10) ∷ [])) ≡ cond t (digit n ∷ []) (decimal_in k (n / 10) ++ (digit (n % 10) ∷ []))
    go true e ih = refl
    go false e ih = rw (ih (ltb-false n 10 e))

-- a number below ten is its digit
pub decimal_one : (n : ℕ) → n < 10 → decimal n ≡ digit n ∷ []
unfolding decimal decimal_in
decimal_one n h = rw (lt-ltb n 10 h)

-- any other the digits of its tenth, and then its last
pub decimal_more : (n : ℕ) → 10 ≤ n → decimal n ≡ decimal (n / 10) ++ (digit (n % 10) ∷ [])
unfolding decimal decimal_in
decimal_more n h = rw (le-ltb n 10 h, enough n (suc (n / 10)) (n / 10) (omega arith) (omega arith))

-- a number has a digit
pub decimal_some : (n : ℕ) → 1 ≤ length (decimal n)
decimal_some n = go (ltb n 10) refl
  where
    go : (t : Bool) → ltb n 10 ≡ t → 1 ≤ length (decimal n)
    go true e = omega (arith, ap length (decimal_one n (ltb-true n 10 e)))
    go false e = omega (arith, ap length (decimal_more n (ltb-false n 10 e)), length-append (decimal (n / 10)) (digit (n % 10) ∷ []))

-- a number below 10 ^ k has at most k digits
pub decimal_most : (k n : ℕ) → n < 10 ^ suc k → length (decimal n) ≤ suc k
decimal_most zero n h = omega (arith, ap length (decimal_one n (omega arith)))
decimal_most (suc k) n h = go (decimal_most k (n / 10)) (ltb n 10) refl
  where
    go : (n / 10 < 10 ^ suc k → length (decimal (n / 10)) ≤ suc k) → (t : Bool) → ltb n 10 ≡ t → length (decimal n) ≤ suc (suc k)
    go ih true e = omega (arith, ap length (decimal_one n (ltb-true n 10 e)))
    go ih false e =
        let p : 10 ^ suc (suc k) ≡ 10 ^ suc k * 10 = pow-suc 10 (suc k) in
        omega (arith, ih (omega arith), ap length (decimal_more n (ltb-false n 10 e)), length-append (decimal (n / 10)) (digit (n % 10) ∷ []))

-- and one of at least 10 ^ k has more than k
pub decimal_least : (k n : ℕ) → 10 ^ k ≤ n → suc k ≤ length (decimal n)
decimal_least zero n h = decimal_some n
decimal_least (suc k) n h =
    let p : 10 ^ suc k ≡ 10 ^ k * 10 = pow-suc 10 k in
    let q : 1 ≤ 10 ^ k = pow_some k in
    let t : 10 ≤ n = omega arith in
    omega (arith, decimal_least k (n / 10) (omega arith), ap length (decimal_more n t), length-append (decimal (n / 10)) (digit (n % 10) ∷ []))
  where
    pow_some : (k : ℕ) → 1 ≤ 10 ^ k
    pow_some zero = omega arith
    pow_some (suc k) = omega (arith, pow-suc 10 k, pow_some k)

-- `decimal_length`: k is what `ilog10` gave of m, which is n, or 1 for 0
pub length_is : (n m k : ℕ) → m ≡ max n 1 → 10 ^ k ≤ m → m < 10 * 10 ^ k → k + 1 ≡ length (decimal n)
length_is zero m zero e l h = ap length (sym (decimal_one zero (omega arith)))
length_is zero m (suc k) e l h = absurd (omega (arith, pow-suc 10 k, decimal_least (suc k) m l, decimal_most zero m (omega arith)))
length_is (suc n) m k e l h =
    let i : m ≡ suc n = omega arith in
    let p : 10 ^ suc k ≡ 10 ^ k * 10 = pow-suc 10 k in
    omega (arith, decimal_least k (suc n) (omega arith), decimal_most k (suc n) (omega arith))

-- one digit, or more
pub single : (n : ℕ) → length (decimal n) ≡ 1 → n < 10
single n h = go (ltb n 10) refl
  where
    go : (t : Bool) → ltb n 10 ≡ t → n < 10
    go true e = ltb-true n 10 e
    go false e = absurd (omega (arith, decimal_some (n / 10), ap length (decimal_more n (ltb-false n 10 e)), length-append (decimal (n / 10)) (digit (n % 10) ∷ [])))

pub several : (n : ℕ) → 1 < length (decimal n) → 10 ≤ n
several n h = go (ltb n 10) refl
  where
    go : (t : Bool) → ltb n 10 ≡ t → 10 ≤ n
    go true e = absurd (omega (arith, ap length (decimal_one n (ltb-true n 10 e))))
    go false e = ltb-false n 10 e

-- `put_decimal`: it stands at `left`, where the digits of the rest end
pub decimal_short : (n at : ℕ) (d : List ℕ) → length d - at < length (decimal n) → d ≡ over at (decimal n) d
decimal_short n at d h = over_short at (decimal n) d (omega (arith, decimal_some n))

module _ (n at rest left : ℕ) (d x : List ℕ) (inv : over at (decimal n) d ≡ over at (decimal rest) x) (fits : at + left ≤ length x) (sized : left ≡ length (decimal rest)) where
  module _ (h : 10 ≤ rest) where
    pub left_next : left - 1 ≡ length (decimal (rest / 10))
    left_next = omega (arith, ap length (decimal_more rest h), length-append (decimal (rest / 10)) (digit (rest % 10) ∷ []))

    pub left_some : 1 ≤ left
    left_some = omega (arith, ap length (decimal_more rest h), length-append (decimal (rest / 10)) (digit (rest % 10) ∷ []))

    module _ (b : ℕ) (is : b ≡ digit (rest % 10)) (y : List ℕ) (put : y ≡ over (at + (left - 1)) (b ∷ []) x) where
      pub digits_next : over at (decimal n) d ≡ over at (decimal (rest / 10)) y
      digits_next =
          let f : at + length (decimal (rest / 10) ++ (digit (rest % 10) ∷ [])) ≤ length x = rw (← decimal_more rest h) (omega arith) in
          inv ∙ rw (decimal_more rest h, put, left_next, is) (sym (over_last_first at (decimal (rest / 10)) (digit (rest % 10) ∷ []) x f))

      pub digits_same : length y ≡ length x
      digits_same = rw put (over_length (at + (left - 1)) (b ∷ []) x (omega (arith, left_some)))

  pub digits_end : rest < 10 → (b : ℕ) → b ≡ digit rest → (y : List ℕ) → y ≡ over at (b ∷ []) x → y ≡ over at (decimal n) d
  digits_end h b is y put = put ∙ (rw (is, ← decimal_one rest h) (sym inv))
