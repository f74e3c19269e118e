-- `publish::mx_length` meets its contract. Assumes nothing.
use Rattle.publish.proofs.PolicyReturns.{length_next, length_end}
use Rattle.publish.proofs.mx_length.Goals as goal

pub loop-pattern-preserved : goal.loop-pattern-preserved
loop-pattern-preserved c = (tt, tt, length_next _ _ _ c.in-Some.ensures.steps _ _ c.loop-pattern.invariant.2)

pub returns : goal.returns
returns c = length_end _ _ _ c.in-None.ensures.steps.0 c.loop-pattern.invariant.2
