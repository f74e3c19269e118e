-- `publish::write_head` meets its contract. Assumes nothing.
use Rattle.publish.proofs.PolicyReturns.{head_end, head_written}
use Rattle.publish.proofs.write_head.Goals as goal

pub returns-clause-value : goal.returns-clause-value
returns-clause-value c = head_end _ _ c.mode_line-line.ensures

pub returns-clause-output_after : goal.returns-clause-output_after
returns-clause-output_after c = head_written _ _ _ _ _ c.mode_line-line.ensures c.requires c.put.ensures c.put-2.ensures
