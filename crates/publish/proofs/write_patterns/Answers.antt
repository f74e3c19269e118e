-- `publish::write_patterns` meets its contract. Assumes nothing.
use Rattle.publish.proofs.PolicyReturns.{mx_room, mx_same, mx_places, mx_next, mx_end, mx_written}
use Rattle.publish.proofs.write_patterns.Goals as goal

pub write_mx-to-requires : goal.write_mx-to-requires
write_mx-to-requires c = mx_room _ _ _ _ _ _ c.loop-pattern.invariant.3 c.loop-pattern.invariant.4 _ _ c.in-Some.ensures.steps c.requires c.loop-pattern.invariant.2

pub loop-pattern-preserved : goal.loop-pattern-preserved
loop-pattern-preserved c = (
  tt,
  tt,
  mx_same _ _ _ _ _ _ c.loop-pattern.invariant.3 c.loop-pattern.invariant.4 _ _ c.in-Some.ensures.steps c.requires c.loop-pattern.invariant.2 _ c.write_mx-to.ensures.value _ c.write_mx-to.ensures.output_after,
  mx_places _ _ _ _ _ _ c.loop-pattern.invariant.3 c.loop-pattern.invariant.4 _ _ c.in-Some.ensures.steps c.requires c.loop-pattern.invariant.2 _ c.write_mx-to.ensures.value,
  mx_next _ _ _ _ _ _ c.loop-pattern.invariant.3 c.loop-pattern.invariant.4 _ _ c.in-Some.ensures.steps c.requires c.loop-pattern.invariant.2 _ c.write_mx-to.ensures.value _ c.write_mx-to.ensures.output_after,
)

pub returns-clause-value : goal.returns-clause-value
returns-clause-value c = mx_end _ _ _ _ _ _ c.loop-pattern.invariant.3 c.loop-pattern.invariant.4 c.in-None.ensures.steps.0

pub returns-clause-output_after : goal.returns-clause-output_after
returns-clause-output_after c = mx_written _ _ _ _ _ _ c.loop-pattern.invariant.3 c.loop-pattern.invariant.4 c.in-None.ensures.steps.0
