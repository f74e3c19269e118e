-- `certificates::all_yes_no` meets its contract. Assumes nothing.
use Rattle.std.proofs.Common.{rules}
use Rattle.lists.proofs.Items.{all_by_closure}
use Rattle.certificates.specs.Limits.{yes_no}
use Rattle.certificates.proofs.all_yes_no.Goals as goal

pub returns : goal.returns
returns c = all_by_closure yes_no c.all.new.self _ _ c.all.ensures.ran (λ x b q k. search rules)
