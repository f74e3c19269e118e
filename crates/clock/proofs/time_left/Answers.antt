-- `clock::time_left` meets its contract. Assumes nothing.
use mathlib.Core.Path.{sym, ◌∙◌}
use Rattle.clock.proofs.Laws.{capped_most, reading_most}
use Rattle.clock.proofs.Returns.{bad_fetch, bad_present, seconds_left}
use Rattle.clock.proofs.time_left.Goals as goal
use Rattle.clock.proofs.time_left.Goals.{then-not-is_reading-via-then-not-is_reading, then-not-is_reading-via-else-not-is_reading+then-not-is_reading-2}

pub returns-then-not-is_reading : goal.returns-then-not-is_reading
returns-then-not-is_reading c = elim c.then-not-is_reading.branch [ then-not-is_reading-via-then-not-is_reading w ↦ bad_fetch _ _ _ (sym c.is_reading.ensures ∙ w.if-not-is_reading.true) | then-not-is_reading-via-else-not-is_reading+then-not-is_reading-2 w ↦ bad_present _ _ _ (sym w.is_reading-else-not-is_reading.ensures ∙ w.if-not-is_reading-2.true) ]

pub difference-requires : goal.difference-requires
difference-requires c = (
  reading_most _ (sym c.is_reading.ensures ∙ c.if-not-is_reading.false),
  rw c.capped.ensures (capped_most c.args.lifetime.0),
  reading_most _ (sym c.is_reading-else-not-is_reading.ensures ∙ c.if-not-is_reading-2.false),
)

pub returns : goal.returns
returns c = seconds_left _ _ _ (sym c.is_reading.ensures ∙ c.if-not-is_reading.false) (sym c.is_reading-else-not-is_reading.ensures ∙ c.if-not-is_reading-2.false) _ _ c.capped.ensures c.difference.ensures
