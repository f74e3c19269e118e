-- `publish::written` meets its contract. Assumes nothing.
use mathlib.Core.Path.{◌∙◌}
use Rattle.publish.proofs.PolicyReturns.{no_policy, no_room, with_room, as_it_is}
use Rattle.publish.proofs.written.Goals as goal

pub returns-in-Err-clause-value : goal.returns-in-Err-clause-value
returns-in-Err-clause-value c checks t h = c.refused.ensures ∙ (no_policy checks t c.args.output.now _ (as_it_is _ _ c.in-Err.is checks t h)).0

pub returns-in-Err-clause-output_after : goal.returns-in-Err-clause-output_after
returns-in-Err-clause-output_after c checks t h = (no_policy checks t c.args.output.now _ (as_it_is _ _ c.in-Err.is checks t h)).1

pub returns-then-not-fits-clause-value : goal.returns-then-not-fits-clause-value
returns-then-not-fits-clause-value c checks t h = c.refused-then-not-fits.ensures ∙ (no_room checks t _ _ (as_it_is _ _ c.in-Ok.is checks t h) _ c.fits.ensures c.if-not-fits.true).0

pub returns-then-not-fits-clause-output_after : goal.returns-then-not-fits-clause-output_after
returns-then-not-fits-clause-output_after c checks t h = (no_room checks t _ _ (as_it_is _ _ c.in-Ok.is checks t h) _ c.fits.ensures c.if-not-fits.true).1

pub returns-clause-value : goal.returns-clause-value
returns-clause-value c checks t h = c.done.ensures ∙ (with_room checks t _ _ (as_it_is _ _ c.in-Ok.is checks t h) _ c.fits.ensures c.if-not-fits.false _ c.write.ensures.value _ c.write.ensures.output_after).0

pub returns-clause-output_after : goal.returns-clause-output_after
returns-clause-output_after c checks t h = (with_room checks t _ _ (as_it_is _ _ c.in-Ok.is checks t h) _ c.fits.ensures c.if-not-fits.false _ c.write.ensures.value _ c.write.ensures.output_after).1
