-- `txt::read` meets its contract. Assumes nothing.
use Rattle.txt.proofs.CallReturns.{one_wrote}
use Rattle.txt.proofs.read.Goals as goal

pub returns-clause-output_after : goal.returns-clause-output_after
returns-clause-output_after c = one_wrote c.args.rdatas.now c.args.lengths.now c.args.output.now c.is_whole.result c.is_whole.ensures c.if-not-is_whole.false c.in_ok-rdata.rdata c.in_ok-rdata.ensures c.write_one.new.output c.write_one.ensures.output_after
