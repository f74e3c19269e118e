-- `publish::rewrite_policy` meets its contract. Assumes nothing.
use Rattle.publish.specs.Calls.{rewrite_answer, rewrite_output}
use Rattle.publish.proofs.rewrite_policy.Goals as goal

pub returns-clause-value : goal.returns-clause-value
unfolding rewrite_answer
returns-clause-value c = c.written.ensures.value _ _ c.kept.ensures

pub returns-clause-output_after : goal.returns-clause-output_after
unfolding rewrite_output
returns-clause-output_after c = c.written.ensures.output_after _ _ c.kept.ensures
