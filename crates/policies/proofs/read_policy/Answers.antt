-- `policies::read_policy` meets its contract. Assumes nothing.
use Rattle.std.proofs.Common.{[], true}
use Rattle.policies.proofs.Answers.{answer_alone}
use Rattle.policies.proofs.read_policy.Goals as goal

pub returns : goal.returns
returns c = answer_alone c.args.body.now [] true c.read_body.result c.read_body.ensures
