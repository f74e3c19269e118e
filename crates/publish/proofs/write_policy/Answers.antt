-- `publish::write_policy` meets its contract. Assumes nothing.
use Rattle.publish.specs.Calls.{write_policy_answer, write_policy_output}
use Rattle.publish.proofs.write_policy.Goals as goal

pub returns-clause-value : goal.returns-clause-value
unfolding write_policy_answer
returns-clause-value c = c.written.ensures.value _ _ c.given.ensures

pub returns-clause-output_after : goal.returns-clause-output_after
unfolding write_policy_output
returns-clause-output_after c = c.written.ensures.output_after _ _ c.given.ensures
