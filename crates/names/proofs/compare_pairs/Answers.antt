-- `compare_pairs` meets its contract. Assumes nothing.
use Rattle.std.proofs.Common.{◌+◌, arith, rules}
use Rattle.names.proofs.Pairs.{counted_none, counted_differ}
use Rattle.names.proofs.compare_pairs.Goals as goal

pub returns : goal.returns
returns c = counted_none c.args.a.now c.args.b.now c.requires c.loop-i.i c.loop-i.invariant.0 (omega arith) c.loop-i.pairs c.loop-i.invariant.1

pub returns-then-not-same : goal.returns-then-not-same
returns-then-not-same c = counted_differ c.args.a.now c.args.b.now c.requires c.loop-i.i c.loop-i.invariant.0 (omega arith) (omega arith) c.is_same_letter-same.result c.is_same_letter-same.ensures (search rules) (c.loop-i.pairs + 1) (omega arith)
