-- `lists::equal_few` meets its contract. Assumes nothing.
use Rattle.std.proofs.Common.{◌∙◌, rules, nat_eq}
use Rattle.std.proofs.lemmas.Iterator.{YieldsList-from_slice, YieldsList-from_zip}
use Rattle.std.proofs.lemmas.Iterator.Search.{all_from_yields_List}
use borrow.Author.Tests.{tests}
use Rattle.lists.proofs.Std.{zip_same}
use Rattle.lists.proofs.equal_few.Goals as goal

pub returns : goal.returns
returns c =
    all_from_yields_List (λ p. nat_eq p.0 p.1) c.all.new.self _ _ c.all.ensures.ran (YieldsList-from_zip (YieldsList-from_slice c.args.a.now cc) (YieldsList-from_slice c.args.b.now cc)) (λ x b q k. search (rules, tests))
    ∙ zip_same c.args.a.now c.args.b.now c.requires
