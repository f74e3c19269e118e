-- `hosts::walk::read_given` meets its contract. Assumes nothing.
use Rattle.hosts.proofs.WalkReturns.{read_some}
use Rattle.hosts.proofs.walk.read_given.Goals as goal

pub returns : goal.returns
returns c = read_some c.args.given c.args.code c.args.records.lengths.now c.args.records.bytes.now c.if-not-given.false _ c.answer_of.ensures.value _ c.read.ensures
