-- `leaf_in` meets its contract. Assumes nothing.
use Rattle.numbers.specs.Pieces.{pieces_in}
use Rattle.hosts.specs.Arguments.{said_by}
use Rattle.judging.proofs.Returns.{leaf_is}
use Rattle.judging.proofs.leaf_in.Goals as goal

pub returns : goal.returns
returns c = leaf_is (said_by c.args.call.now) c.if-call-ne1.false c.next.result (pieces_in c.next.new.self) c.next.ensures.steps
