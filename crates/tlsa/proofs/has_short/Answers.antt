-- `tlsa::has_short` meets its contract. Assumes nothing.
use Rattle.std.proofs.Common.{rules}
use Rattle.lists.proofs.Items.{any_by_closure}
use Rattle.tlsa.specs.Record.{short}
use Rattle.tlsa.proofs.has_short.Goals as goal

pub returns : goal.returns
unfolding short
returns c = any_by_closure short c.any.new.self _ _ c.any.ensures.ran (λ x b q k. search rules)
