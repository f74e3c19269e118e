-- `tlsa::has_usable` meets its contract. Assumes nothing.
use Rattle.std.proofs.Common.{rules}
use Rattle.lists.proofs.Items.{any_by_closure}
use Rattle.tlsa.specs.Record.{usable}
use Rattle.tlsa.proofs.has_usable.Goals as goal

pub returns : goal.returns
returns c = any_by_closure usable c.any.new.self _ _ c.any.ensures.ran (λ x b q k. search rules)
