-- `publish::given` meets its contract. Assumes nothing.
use Rattle.publish.proofs.PolicyReturns.{given_no_mode, given_no_patterns, given_too_long, given_short, given_good}
use Rattle.publish.specs.Steps.{agrees}
use Rattle.publish.proofs.given.Goals as goal

pub returns-in_err-mode : goal.returns-in_err-mode
returns-in_err-mode c = given_no_mode _ _ _ _ _ _ c.from_residual.ensures c.in_err-mode.ensures

pub returns-then-not-patterns_fit : goal.returns-then-not-patterns_fit
returns-then-not-patterns_fit c = given_no_patterns _ _ _ _ _ c.in_ok-mode.ensures _ c.patterns_fit.ensures c.if-not-patterns_fit.true

pub returns-then-lifetime-gt-LONGEST_LIFETIME : goal.returns-then-lifetime-gt-LONGEST_LIFETIME
returns-then-lifetime-gt-LONGEST_LIFETIME c = given_too_long _ _ _ _ _ c.in_ok-mode.ensures _ c.patterns_fit.ensures c.if-not-patterns_fit.false c.if-lifetime-gt-LONGEST_LIFETIME.true

pub invariant_of-result : goal.invariant_of-result
invariant_of-result c = record { short = given_short _ _ _ _ _ c.in_ok-mode.ensures _ c.patterns_fit.ensures c.if-not-patterns_fit.false c.if-lifetime-gt-LONGEST_LIFETIME.false }

pub returns : goal.returns
unfolding agrees
returns c = given_good _ _ _ _ _ c.in_ok-mode.ensures _ c.patterns_fit.ensures c.if-not-patterns_fit.false c.if-lifetime-gt-LONGEST_LIFETIME.false
