-- `publish::write_age` meets its contract. Assumes nothing.
use Rattle.publish.proofs.PolicyReturns.{age_end}
use Rattle.publish.proofs.write_age.Goals as goal

pub returns-clause-value : goal.returns-clause-value
returns-clause-value c = age_end c.args.lifetime c.args.at _ c.put_decimal-size.ensures.value
