-- The difference of two natural numbers as a signed number of 64 bits. Assumes nothing.
use Prim.Native.Nat.{ℕ, zero, suc, ◌≤◌, ◌<◌, ◌+◌, ◌-◌, ◌^◌}
use native.Mathlib.Nat.{add-zero, add-suc}
use native.Mathlib.Omega.{arith}
use mathlib.Core.Path.{◌≡◌, refl, sym, ap, ◌∙◌}
use mathlib.Core.Bool.{Bool, true, false, cond}
use lib.Dec.{ltb}
use lib.IntN.{ℤ, pos, negsuc, neg_ℤ, ◌-ℤ◌}
use lib.Signed.{mag, lt_z}
use mir.Syntax.{w64}
use mir.Val.{SFits}
use borrow.Author.Tests.{lt-ltb, le-ltb, ltb-true, ltb-false}

mag_cond : (t : Bool) (x y : ℤ) (n : ℕ) → mag x < n → mag y < n → mag (cond t x y) < n
mag_cond true x y n p q = p
mag_cond false x y n p q = q

mag_sub : (a b n : ℕ) → a < n → b < n → mag (pos a -ℤ pos b) < n
mag_sub a zero n p q = omega arith
mag_sub a (suc b) n p q =
    mag_cond (ltb a (suc b)) (negsuc (suc b - suc a)) (pos (a - suc b)) n (omega arith) (omega arith)

-- the difference of two numbers below 2 ^ 63 fits 64 bits
pub sub_fits : (a b : ℕ) → a < 2 ^ 63 → b < 2 ^ 63 → SFits w64 (pos a -ℤ pos b)
sub_fits a b p q = record { sfits = mag_sub a b (2 ^ 63) p q }

-- two tests agree where each implies the other
tests_agree : (a b x y : ℕ) (t u : Bool) → ltb a b ≡ t → ltb x y ≡ u → (a < b → x < y) → (x < y → a < b) → t ≡ u
tests_agree a b x y true true e f p q = refl
tests_agree a b x y false false e f p q = refl
tests_agree a b x y true false e f p q = sym (sym f ∙ lt-ltb x y (p (ltb-true a b e)))
tests_agree a b x y false true e f p q = sym e ∙ lt-ltb a b (q (ltb-true x y f))

above_by : (t : Bool) (a b : ℕ) → ltb a (suc b) ≡ t → lt_z (pos 0) (cond t (negsuc (suc b - suc a)) (pos (a - suc b))) ≡ ltb (suc b) a
above_by true a b e =
    let h : a < suc b = ltb-true a (suc b) e in
    sym (le-ltb (suc b) a (omega arith))
above_by false a b e =
    let h : suc b ≤ a = ltb-false a (suc b) e in
    tests_agree 0 (a - suc b) (suc b) a (ltb 0 (a - suc b)) (ltb (suc b) a) refl refl (λ p. omega arith) (λ p. omega arith)

-- a difference is above zero exactly where the number taken away is below the other
pub above_zero : (a b : ℕ) → lt_z (pos 0) (pos a -ℤ pos b) ≡ ltb b a
above_zero a zero = rw add-zero
above_zero a (suc b) = above_by (ltb a (suc b)) a b refl

-- a number taken from one that is no smaller leaves the rest
pub sub_less : (a b : ℕ) → b ≤ a → pos a -ℤ pos b ≡ pos (a - b)
sub_less a zero h =
    let e : a + 0 ≡ a - 0 = omega arith in
    ap pos e
sub_less a (suc b) h = rw (le-ltb a (suc b) h)

-- a number that is larger by k leaves minus k
pub sub_more : (a k : ℕ) → pos a -ℤ pos (a + k) ≡ neg_ℤ (pos k)
sub_more a zero =
    let e : a - a ≡ 0 = omega arith in
    rw add-zero (sub_less a a (omega arith) ∙ ap pos e)
sub_more a (suc k) =
    let e : suc (a + k) - suc a ≡ k = omega arith in
    rw (add-suc a k, lt-ltb a (suc (a + k)) (omega arith)) (ap negsuc e)
