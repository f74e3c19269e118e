-- `txt::is_rdata` meets its contract. Assumes nothing.
use Rattle.std.proofs.Common.{◌∙◌}
use Rattle.txt.proofs.Strings.{fit_none, rdata_fit}
use Rattle.txt.proofs.is_rdata.Goals as goal

pub returns : goal.returns
returns c = rdata_fit c.args.s.now (c.loop-length.invariant ∙ fit_none c.loop-length.rest.now c.in_default.ensures.cases)
