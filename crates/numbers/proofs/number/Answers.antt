-- `numbers::number` meets its contract. Assumes nothing.
use Rattle.std.proofs.Common.{[], arith, ap, ◌∙◌}
use Rattle.std.specs.Int.{w32, from_be_bytes}
use Rattle.numbers.proofs.Iterate.{number_is, number_none}
use Rattle.numbers.proofs.number.Goals as goal

pub returns-in-Some : goal.returns-in-Some
returns-in-Some c = (
  number_is c.args.list.now c.as_chunks.result.0.now c.args.k c.as_chunks.ensures.front (omega (arith, c.in-Some.ensures.lookup.3.0)) c.from.result (c.from.ensures ∙ (c.from_be_bytes.ensures ∙ ap (from_be_bytes w32) (c.in-Some.ensures.lookup.3.1 []))),
  omega arith,
)

pub returns-in-None : goal.returns-in-None
returns-in-None c = (number_none c.args.list.now c.args.k (omega (arith, c.in-None.ensures.lookup.3)), omega arith)
