-- `publish::write_mx` meets its contract. Assumes nothing.
use Rattle.publish.proofs.PolicyReturns.{mx_line_end}
use Rattle.publish.proofs.write_mx.Goals as goal

pub returns-clause-value : goal.returns-clause-value
returns-clause-value c = mx_line_end c.args.pattern.now c.args.output.now c.args.at
