-- `names::some_match` meets its contract. Assumes nothing.
use Rattle.std.proofs.Common.{rules}
use borrow.Author.Tests.{tests}
use Rattle.lists.proofs.Items.{any_by_closure}
use Rattle.numbers.specs.Pieces.{pieces_in}
use Rattle.names.proofs.Match.{none_covered, some_covered}
use Rattle.names.proofs.some_match.Goals as goal

pub returns-then-any : goal.returns-then-any
returns-then-any c = some_covered _ c.args.n.now c.any.result (any_by_closure {rest = pieces_in} _ c.any.new.self _ _ c.any.ensures.ran (λ x b q k. search (rules, tests))) c.if-any.true c.is_name.result c.is_name.ensures

pub returns-else-any : goal.returns-else-any
returns-else-any c = rw c.if-any.false (none_covered _ c.args.n.now c.any.result (any_by_closure {rest = pieces_in} _ c.any.new.self _ _ c.any.ensures.ran (λ x b q k. search (rules, tests))) c.if-any.false)
