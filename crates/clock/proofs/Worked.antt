-- Worked examples, by computation. Assumes nothing.
use mathlib.Core.Path.{◌≡◌, refl}
use mathlib.Core.Bool.{true, false}
use mathlib.Core.Option.{none, some}
use lib.IntN.{pos, neg_ℤ}
use Rattle.std.specs.Prelude.{Ok, Err}
use Rattle.clock.specs.declared.ClockError.TheVariants.{BadClock}
use Rattle.clock.specs.Clock.{capped_age, is_reading, clock_refusal, time_left, is_live, time_left_answer, time_left_number}

-- Fetched at 1,000 with max_age 604,800: time left 1 at 605,799, which is live.
last_second : (time_left 1000 604800 605799 ≡ pos 1) × (is_live 1000 604800 605799 ≡ true)
unfolding capped_age is_reading time_left is_live
last_second = (refl, refl)

-- The same at 605,800: time left 0, which is stale.
no_second : (time_left 1000 604800 605800 ≡ pos 0) × (is_live 1000 604800 605800 ≡ false)
unfolding capped_age is_reading time_left is_live
no_second = (refl, refl)

-- The same at 605,801, stale by a second: time left −1.
second_late : (time_left 1000 604800 605801 ≡ neg_ℤ (pos 1)) × (is_live 1000 604800 605801 ≡ false)
unfolding capped_age is_reading time_left is_live
second_late = (refl, refl)

-- With max_age 0 it is live a second before the fetch (house) and stale at the fetch.
no_lifetime : (is_live 1000 0 999 ≡ true) × (is_live 1000 0 1000 ≡ false)
unfolding capped_age is_reading time_left is_live
no_lifetime = (refl, refl)

-- The latest reading is one, and the next number is none.
readings : (is_reading 0 ≡ true) × (is_reading 253402300799 ≡ true) × (is_reading 253402300800 ≡ false)
unfolding is_reading
readings = (refl, refl, refl)

-- The longest lifetime counts as itself, and so does one below it. One above it counts as the longest.
lifetimes : (capped_age 31557599 ≡ 31557599) × (capped_age 31557600 ≡ 31557600) × (capped_age 31557601 ≡ 31557600)
unfolding capped_age
lifetimes = (refl, refl, refl)

-- The largest and the smallest time left.
extremes : (time_left_answer 253402300799 31557601 0 ≡ Ok (pos 253433858399)) × (time_left_answer 0 0 253402300799 ≡ Ok (neg_ℤ (pos 253402300799)))
unfolding capped_age is_reading time_left time_left_answer
extremes = (refl, refl)

-- Either clock above the latest reading: bad clock, which is 62, and not live.
bad_clocks : (time_left_answer 253402300800 604800 1000 ≡ Err BadClock) × (time_left_answer 1000 604800 253402300800 ≡ Err BadClock) × (clock_refusal 253402300800 1000 ≡ some 62) × (clock_refusal 1000 253402300800 ≡ some 62) × (clock_refusal 1000 1000 ≡ none) × (time_left_number (Err BadClock) ≡ some 62) × (is_live 253402300800 604800 1000 ≡ false)
unfolding capped_age is_reading clock_refusal time_left is_live time_left_answer
bad_clocks = (refl, refl, refl, refl, refl, refl, refl)
