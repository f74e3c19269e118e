-- A verdict is no question (10 to 14), no "not tried yet" (9), no delay (30, 31) and no refusal (40 and above). Assumes nothing.
use Prim.Native.Nat.{ℕ, ◌<◌, ◌≤◌}
use mathlib.Core.Path.{◌≡◌, refl, sym, ◌∙◌}
use mathlib.Core.Bool.{Bool, true, false}
use native.Mathlib.Omega.{arith}
use lib.Dec.{leb}
use borrow.Author.Rules.{rules}
use borrow.Author.Tests.{leb-true, le-leb, not-true, not-false}
use Rattle.lists.proofs.Bools.{and_left, and_right, and_intro, or_elim}
use Rattle.verdicts.specs.Verdicts.{is_delivery, is_next_host, is_verdict}

pub delivery_range : (n : ℕ) → is_delivery n ≡ true → (1 ≤ n) × (n ≤ 5)
unfolding is_delivery
delivery_range n h = (leb-true 1 n (and_left (leb 1 n) (leb n 5) h), leb-true n 5 (and_right (leb 1 n) (leb n 5) h))

pub next_host_range : (n : ℕ) → is_next_host n ≡ true → (20 ≤ n) × (n ≤ 28)
unfolding is_next_host
next_host_range n h = (leb-true 20 n (and_left (leb 20 n) (leb n 28) h), leb-true n 28 (and_right (leb 20 n) (leb n 28) h))

pub next_host_from : (n : ℕ) → 20 ≤ n → n ≤ 28 → is_next_host n ≡ true
unfolding is_next_host
next_host_from n l u = and_intro (leb 20 n) (leb n 28) (le-leb 20 n l) (le-leb n 28 u)

-- no verdict stands from 6 to 19, or from 30 on
pub verdict_no_middle : (n : ℕ) → is_verdict n ≡ true → 6 ≤ n → n < 20 → ⊥
verdict_no_middle n v l u = or_elim (is_delivery n) (is_next_host n) (λ d. omega (arith, l, (delivery_range n d).1)) (λ d. omega (arith, u, (next_host_range n d).0)) v

pub verdict_below : (n : ℕ) → is_verdict n ≡ true → n < 30
verdict_below n v = or_elim (is_delivery n) (is_next_host n) (λ d. omega (arith, (delivery_range n d).1)) (λ d. omega (arith, (next_host_range n d).1)) v

-- no verdict is both
pub not_both : (n : ℕ) → is_delivery n ≡ true → is_next_host n ≡ true → ⊥
not_both n d h = omega (arith, (delivery_range n d).1, (next_host_range n h).0)

-- a number from 30 on is no verdict
pub no_verdict_from : (n : ℕ) → 30 ≤ n → is_verdict n ≡ false
no_verdict_from n h = go (is_verdict n) refl
  where
    go : (t : Bool) → is_verdict n ≡ t → t ≡ false
    go true e = absurd (omega (arith, verdict_below n e))
    go false e = refl

-- `is_verdict`: d is what `is_delivery` gave
module _ (n : ℕ) (d : Bool) (gave : d ≡ is_delivery n) where
  pub delivers : d ≡ true → true ≡ is_verdict n
  delivers t = rw (sym gave ∙ t)

  pub next_host_else : d ≡ false → (r : Bool) → r ≡ is_next_host n → r ≡ is_verdict n
  next_host_else t r e = rw (sym gave ∙ t) e

pub ruleset verdict_laws = (delivers, next_host_else, not-true, not-false, rules)
