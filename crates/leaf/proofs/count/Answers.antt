-- `leaf::count` meets its contract. Assumes nothing.
use Rattle.std.proofs.Common.{arith, inl}
use Rattle.leaf.proofs.Names.{ids_few, counted}
use Rattle.leaf.proofs.count.Goals as goal

pub count-requires-clause-fits : goal.count-requires-clause-fits
count-requires-clause-fits c = let few = ids_few c.args.ids.src.now c.args.ids.at in inl (omega (arith, few))

pub returns : goal.returns
returns c = counted c.args.ids c.count.result c.count.ensures.ran
