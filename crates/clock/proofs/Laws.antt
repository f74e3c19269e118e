-- What follows from the definitions of clock readings, lifetimes and time left. Assumes nothing.
use Prim.Native.Nat.{ℕ, ◌+◌, ◌-◌, ◌<◌, ◌≤◌}
use native.Mathlib.Nat.{add-zero}
use native.Mathlib.Omega.{arith}
use mathlib.Core.Path.{◌≡◌, refl, sym, ap, ◌∙◌}
use mathlib.Core.Bool.{Bool, true, false, cond, ◌&&◌, and-false, false≢true}
use lib.Dec.{ltb}
use lib.IntN.{pos, neg_ℤ}
use lib.Signed.{lt_z}
use mir.Syntax.{w64}
use mir.Val.{SFits}
use borrow.Author.Tests.{lt-ltb, le-ltb, ltb-true, ltb-false, le-leb, lt-leb, leb-true}
use Rattle.clock.specs.Clock.{longest, latest, capped_age, is_reading, time_left, is_live}
use Rattle.clock.proofs.Signed.{sub_fits, above_zero, sub_more, sub_less}

-- A max_age up to the longest lifetime counts as itself.
pub capped_short : (max_age : ℕ) → max_age ≤ longest → capped_age max_age ≡ max_age
unfolding capped_age
capped_short max_age h = rw (le-ltb longest max_age h)

-- A max_age above the longest lifetime counts as the longest.
pub capped_long : (max_age : ℕ) → longest < max_age → capped_age max_age ≡ longest
unfolding capped_age
capped_long max_age h = rw (lt-ltb longest max_age h)

-- No max_age counts as more than the longest lifetime.
pub capped_most : (max_age : ℕ) → capped_age max_age ≤ longest
unfolding capped_age
capped_most max_age = go (ltb longest max_age) refl
  where
    go : (t : Bool) → ltb longest max_age ≡ t → cond t longest max_age ≤ longest
    go true e = omega arith
    go false e = ltb-false longest max_age e

-- A max_age above zero counts as one above zero.
pub capped_some : (max_age : ℕ) → 0 < max_age → 0 < capped_age max_age
unfolding capped_age
capped_some max_age h = go (ltb longest max_age)
  where
    go : (t : Bool) → 0 < cond t longest max_age
    go true = omega arith
    go false = h

-- To cap twice is to cap once.
pub capped_twice : (max_age : ℕ) → capped_age (capped_age max_age) ≡ capped_age max_age
capped_twice max_age = capped_short (capped_age max_age) (capped_most max_age)

-- A number is a reading exactly when it is at most the latest.
pub reading_yes : (seconds : ℕ) → seconds ≤ latest → is_reading seconds ≡ true
unfolding is_reading
reading_yes seconds h = le-leb seconds latest h

pub reading_no : (seconds : ℕ) → latest < seconds → is_reading seconds ≡ false
unfolding is_reading
reading_no seconds h = lt-leb seconds latest h

pub reading_most : (seconds : ℕ) → is_reading seconds ≡ true → seconds ≤ latest
unfolding is_reading
reading_most seconds e = leb-true seconds latest e

module _ (fetched max_age : ℕ) where
  -- Until the lifetime is over, time left is what is missing to its end.
  pub left_before : (present : ℕ) → present ≤ fetched + capped_age max_age → time_left fetched max_age present ≡ pos (fetched + capped_age max_age - present)
  unfolding time_left
  left_before present h = sub_less (fetched + capped_age max_age) present h

  -- From its end on, time left is minus the seconds since.
  pub left_after : (seconds : ℕ) → time_left fetched max_age (fetched + capped_age max_age + seconds) ≡ neg_ℤ (pos seconds)
  unfolding time_left
  left_after seconds = sub_more (fetched + capped_age max_age) seconds

  -- At the end of the lifetime time left is zero.
  pub left_zero : time_left fetched max_age (fetched + capped_age max_age) ≡ pos 0
  left_zero = ap (time_left fetched max_age) (sym (add-zero (fetched + capped_age max_age))) ∙ left_after 0

  -- A policy that is stale by a second has time left −1.
  pub left_second : time_left fetched max_age (fetched + capped_age max_age + 1) ≡ neg_ℤ (pos 1)
  left_second = left_after 1

all_true : (a b c : Bool) → (a && b && c) ≡ true → (a ≡ true) × (b ≡ true) × (c ≡ true)
all_true true true c e = (refl, refl, e)
all_true true false c e = absurd (false≢true e)
all_true false b c e = absurd (false≢true e)

module _ (fetched max_age present : ℕ) where
  -- The time left of two readings is a signed number of 64 bits.
  pub left_fits : fetched ≤ latest → present ≤ latest → SFits w64 (time_left fetched max_age present)
  unfolding time_left
  left_fits f p =
      let c : capped_age max_age ≤ longest = capped_most max_age in
      sub_fits (fetched + capped_age max_age) present (omega arith) (omega arith)

  -- A lifetime that was capped before has the same time left, and is live at the same clocks.
  pub left_capped : time_left fetched (capped_age max_age) present ≡ time_left fetched max_age present
  unfolding time_left
  left_capped = rw (capped_twice max_age)

  pub live_capped : is_live fetched (capped_age max_age) present ≡ is_live fetched max_age present
  unfolding is_live
  live_capped = rw left_capped

  -- Time left is above zero exactly when the present is before the end of the lifetime.
  pub above_exactly : lt_z (pos 0) (time_left fetched max_age present) ≡ ltb present (fetched + capped_age max_age)
  unfolding time_left
  above_exactly = above_zero (fetched + capped_age max_age) present

  -- At two readings, a policy is live exactly when the present is before the end of its lifetime.
  pub live_exactly : fetched ≤ latest → present ≤ latest → is_live fetched max_age present ≡ ltb present (fetched + capped_age max_age)
  unfolding is_live
  live_exactly f p = rw (reading_yes fetched f, reading_yes present p) above_exactly

  -- At time left zero it is stale.
  pub stale_at_zero : time_left fetched max_age present ≡ pos 0 → is_live fetched max_age present ≡ false
  unfolding is_live
  stale_at_zero e = rw e (and-false (is_reading fetched && is_reading present))

  -- What live says: both clocks are readings, and the present is before the end of the lifetime.
  pub live_means : is_live fetched max_age present ≡ true → (fetched ≤ latest) × (present ≤ latest) × (present < fetched + capped_age max_age)
  unfolding is_live
  live_means e =
      let parts = all_true (is_reading fetched) (is_reading present) (lt_z (pos 0) (time_left fetched max_age present)) e in (
        reading_most fetched parts.0,
        reading_most present parts.1,
        ltb-true present (fetched + capped_age max_age) (sym above_exactly ∙ parts.2),
      )

  -- A present clock before the fetch leaves it live, even with a max_age of zero (house).
  pub live_before_fetch : fetched ≤ latest → present < fetched → is_live fetched max_age present ≡ true
  live_before_fetch f h =
      live_exactly f (omega arith) ∙ lt-ltb present (fetched + capped_age max_age) (omega arith)

  -- A present clock at or before the fetch leaves it live where the max_age is above zero.
  pub live_by_fetch : fetched ≤ latest → present ≤ fetched → 0 < max_age → is_live fetched max_age present ≡ true
  live_by_fetch f h a =
      let c : 0 < capped_age max_age = capped_some max_age a in
      live_exactly f (omega arith) ∙ lt-ltb present (fetched + capped_age max_age) (omega arith)

-- With a max_age of zero it is stale at the fetch.
pub stale_without_lifetime : (fetched : ℕ) → is_live fetched 0 fetched ≡ false
stale_without_lifetime fetched =
    let e : fetched + capped_age 0 ≡ fetched = omega (arith, capped_short 0 (omega arith)) in
    stale_at_zero fetched 0 fetched (rw e at (left_zero fetched 0))

-- Once stale, it is stale at every later clock.
pub stale_stays : (fetched max_age present later : ℕ) → is_live fetched max_age present ≡ false → present ≤ later → is_live fetched max_age later ≡ false
stale_stays fetched max_age present later e h = go (is_live fetched max_age later) refl
  where
    go : (t : Bool) → is_live fetched max_age later ≡ t → t ≡ false
    go false live = refl
    go true live =
        let m = live_means fetched max_age later live in
        sym (live_exactly fetched max_age present m.0 (omega arith) ∙ lt-ltb present (fetched + capped_age max_age) (omega arith)) ∙ e
