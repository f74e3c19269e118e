-- How the code goes: numbers that its functions hand to each other. No promise of a call cites it.
use Rattle.std.specs.Prelude.{ℕ, cond, leb, Some, None}
use Rattle.std.specs.Prelude as Prelude
use Rattle.std.proofs.Math.Option.{Option, none, some}
use Rattle.reports.specs.Counts.{Result, place_of}
use Rattle.reports.specs.Calls.{most_sessions}

-- the place of a count, where there is one
unfoldable pub place_in : Option Result → Prelude.Option ℕ
place_in none = None
place_in (some r) = Some (place_of r)

-- a number of sessions up to the most, and one more than the most for any above it
unfoldable pub capped : ℕ → ℕ
capped n = cond (leb n most_sessions) n 1000000001
