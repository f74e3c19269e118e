-- Clock readings, lifetimes and the time that a policy has left: document 01, section "Policy body", its cap on max_age and its last paragraph.
-- Every number is of seconds. "House" marks our own choice where the RFCs are silent or leave one.
use Rattle.std.specs.Prelude.{ℕ, Bool, cond, ◌&&◌, leb, ltb, ℤ, pos, ◌+ℤ◌, ◌-ℤ◌, Result, Ok, Err}
use Rattle.std.proofs.Math.Option.{Option, none, some}
use Rattle.std.specs.Int.Signed.{lt_z}
use Rattle.clock.specs.declared.Lifetime.{Lifetime}
use Rattle.clock.specs.declared.ClockError.{ClockError}
use Rattle.clock.specs.declared.ClockError.TheVariants.{BadClock}

-- The longest lifetime, 365.25 days (house).
abbrev pub longest : ℕ
longest = 31557600

-- What a max_age counts as: one above the longest lifetime counts as the longest (house).
unfoldable pub capped_age : ℕ → ℕ
capped_age max_age = cond (ltb longest max_age) longest max_age

-- The lifetime that a max_age gives.
abbrev pub lifetime_of : ℕ → Lifetime
lifetime_of max_age = record { 0 = capped_age max_age }

-- The latest clock reading, in seconds since 1970: the last second of the year 9999.
abbrev pub latest : ℕ
latest = 253402300799

-- A number is a clock reading when it is at most the latest.
unfoldable pub is_reading : ℕ → Bool
is_reading seconds = leb seconds latest

-- The answer number for a clock that is no reading.
abbrev pub bad_clock : ℕ
bad_clock = 62

-- The refusal that a fetch clock and a present clock get: none where both are readings, else 62.
unfoldable pub clock_refusal : ℕ → ℕ → Option ℕ
clock_refusal fetched present = cond (is_reading fetched && is_reading present) none (some bad_clock)

-- Time left = fetch reading + max_age − present reading, a signed number.
unfoldable pub time_left : ℕ → ℕ → ℕ → ℤ
time_left fetched max_age present = pos fetched +ℤ pos (capped_age max_age) -ℤ pos present

-- A policy is live exactly when both clocks are readings and time left is above zero.
-- A present clock before the fetch leaves it live (house): time left is then above zero, whatever the max_age.
unfoldable pub is_live : ℕ → ℕ → ℕ → Bool
is_live fetched max_age present = is_reading fetched && is_reading present && lt_z (pos 0) (time_left fetched max_age present)

-- The answer of `time_left`: the time left where both clocks are readings, else a bad clock.
unfoldable pub time_left_answer : ℕ → ℕ → ℕ → Result ℤ ClockError
time_left_answer fetched max_age present = cond (is_reading fetched && is_reading present) (Ok (time_left fetched max_age present)) (Err BadClock)

-- Document 01's answer number for each case of that answer: a time left is a value and has none, a bad clock has 62.
abbrev pub time_left_number : Result ℤ ClockError → Option ℕ
time_left_number (Ok left) = none
time_left_number (Err BadClock) = some bad_clock
