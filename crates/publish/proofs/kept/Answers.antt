-- `publish::kept` meets its contract. Assumes nothing.
use Rattle.publish.proofs.RewriteReturns.{kept_no_policy, kept_too_many, kept_no_mode, kept_short, kept_good}
use Rattle.publish.specs.Steps.{agrees}
use Rattle.publish.proofs.kept.Goals as goal

pub returns-then-read-ne-ACCEPTED : goal.returns-then-read-ne-ACCEPTED
returns-then-read-ne-ACCEPTED c = kept_no_policy _ _ c.read_policy-read.ensures c.if-read-ne-ACCEPTED.true

pub returns-then-read : goal.returns-then-read
returns-then-read c = kept_too_many _ _ c.read_policy-read.ensures c.if-read-ne-ACCEPTED.false c.if-read.true

pub returns-in_err-mode : goal.returns-in_err-mode
returns-in_err-mode c = kept_no_mode _ _ c.read_policy-read.ensures c.if-read-ne-ACCEPTED.false c.if-read.false _ _ c.from_residual.ensures c.in_err-mode.ensures

pub invariant_of-result : goal.invariant_of-result
invariant_of-result c = record { short = kept_short _ _ c.read_policy-read.ensures c.if-read-ne-ACCEPTED.false c.if-read.false _ c.in_ok-mode.ensures }

pub returns : goal.returns
unfolding agrees
returns c = kept_good _ _ c.read_policy-read.ensures c.if-read-ne-ACCEPTED.false c.if-read.false _ c.in_ok-mode.ensures
