-- `lists::first_eight` meets its contract. Assumes nothing.
use Rattle.lists.proofs.Std.{first_is, first_none}
use Rattle.lists.proofs.first_eight.Goals as goal

pub returns-in-Some : goal.returns-in-Some
returns-in-Some c = first_is c.args.s.now c.in-Some.eight.now c.from_le_bytes.result c.in-Some.ensures.cases.enough c.in-Some.ensures.cases.same c.from_le_bytes.ensures c.type_inv.s

pub returns-in-None : goal.returns-in-None
returns-in-None c = first_none c.args.s.now c.in-None.ensures.cases
