-- `usual::is_extension` meets its contract. Assumes nothing.
use mathlib.Core.Path.{sym, ◌∙◌}
use Rattle.usual.proofs.Shape.{some_is, extension_long}
use Rattle.usual.proofs.is_extension.Goals as goal

pub returns : goal.returns
returns c = λ e.
    some_is c.alone-2.result (sym c.is_some-2.ensures ∙ e)
    (λ h o. extension_long c.args.s.now c.args.at c.in-Some.i _ c.end_of.ensures c.in-Some.is c.in-Some-end_of.j _ c.end_of-2.ensures c.in-Some-end_of.is _ c.alone-2.ensures h o)
