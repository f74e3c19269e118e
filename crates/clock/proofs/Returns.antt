-- The returns of `time_left` and `is_live`, each from what the code knows there. Assumes nothing.
use Prim.Native.Nat.{ℕ, ◌+◌}
use mathlib.Core.Path.{◌≡◌, refl, ap}
use mathlib.Core.Bool.{Bool, true, false, cond, ◌&&◌, and-false}
use mathlib.Core.Option.{none, some}
use lib.IntN.{ℤ, pos, ◌-ℤ◌}
use lib.Signed.{lt_z}
use mir.Syntax.{w64}
use mir.Val.{to_z, of_z}
use mir.ValLaws.{to_z-of_z}
use Rattle.std.specs.Prelude.{Ok, Err}
use Rattle.clock.specs.declared.Lifetime.{Lifetime}
use Rattle.clock.specs.declared.ClockError.{ClockError}
use Rattle.clock.specs.declared.ClockError.TheVariants.{BadClock}
use Rattle.clock.specs.Clock.{bad_clock, lifetime_of, is_reading, time_left, is_live, time_left_answer, clock_refusal}
use Rattle.clock.proofs.Laws.{reading_most, left_fits}

-- a time left that the code holds as a signed number of 64 bits is read back as it is
read_back : (fetched max_age present : ℕ) → is_reading fetched ≡ true → is_reading present ≡ true → (z : ℤ) → z ≡ time_left fetched max_age present → to_z w64 (of_z w64 z) ≡ time_left fetched max_age present
read_back fetched max_age present f p z e =
    rw e
    (to_z-of_z w64 (time_left fetched max_age present)
    (left_fits fetched max_age present (reading_most fetched f) (reading_most present p)))

module _ (fetched max_age present : ℕ) where
  pub bad_fetch : is_reading fetched ≡ false → (Err BadClock ≡ time_left_answer fetched max_age present) × (some bad_clock ≡ clock_refusal fetched present)
  unfolding time_left_answer clock_refusal
  bad_fetch h = rw h (refl, refl)

  pub bad_present : is_reading present ≡ false → (Err BadClock ≡ time_left_answer fetched max_age present) × (some bad_clock ≡ clock_refusal fetched present)
  unfolding time_left_answer clock_refusal
  bad_present h = rw (h, and-false (is_reading fetched)) (refl, refl)

  pub seconds_left : is_reading fetched ≡ true → is_reading present ≡ true → (counted : Lifetime) (z : ℤ) → counted ≡ lifetime_of max_age → z ≡ pos (fetched + counted.0) -ℤ pos present → (Ok (to_z w64 (of_z w64 z)) ≡ time_left_answer fetched max_age present) × (none ≡ clock_refusal fetched present)
  unfolding time_left_answer clock_refusal time_left
  seconds_left f p counted z c e = (rw (f, p) (ap Ok (read_back fetched max_age present f p z (rw c at e))), rw (f, p) refl)

  -- by each case of what `time_left` answered
  pub live_seconds : (z : ℤ) → Ok z ≡ time_left_answer fetched max_age present → lt_z (pos 0) (to_z w64 (of_z w64 z)) ≡ is_live fetched max_age present
  unfolding time_left_answer is_live
  live_seconds z e = go (is_reading fetched) (is_reading present) refl refl e
    where
      go : (a b : Bool) → is_reading fetched ≡ a → is_reading present ≡ b → Ok z ≡ cond (a && b) (Ok (time_left fetched max_age present)) (Err BadClock) → lt_z (pos 0) (to_z w64 (of_z w64 z)) ≡ (a && b && lt_z (pos 0) (time_left fetched max_age present))
      go true true f p q =
          let exact : z ≡ time_left fetched max_age present = cc in
          ap (lt_z (pos 0)) (read_back fetched max_age present f p z exact)
      go true false f p q = cc
      go false b f p q = cc

  pub live_bad : (e : ClockError) → Err e ≡ time_left_answer fetched max_age present → false ≡ is_live fetched max_age present
  unfolding time_left_answer is_live
  live_bad e s = go (is_reading fetched) (is_reading present) s
    where
      go : (a b : Bool) → Err e ≡ cond (a && b) (Ok (time_left fetched max_age present)) (Err BadClock) → false ≡ (a && b && lt_z (pos 0) (time_left fetched max_age present))
      go true true q = cc
      go true false q = refl
      go false b q = refl
