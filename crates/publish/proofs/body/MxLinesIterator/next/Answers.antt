-- `MxLines::next` meets its contract. Assumes nothing.
use mathlib.Core.Path.{◌∙◌}
use Rattle.std.proofs.Common.{rules}
use Rattle.numbers.proofs.Iterate.{fewer}
use Rattle.publish.proofs.RewriteReturns.{not_empty, no_patterns, mx_line, other_line}
use Rattle.publish.proofs.body.MxLinesIterator.next.Goals as goal

pub returns-then-is_mx_at-clause-steps : goal.returns-then-is_mx_at-clause-steps
returns-then-is_mx_at-clause-steps c =
    c.loop-body.invariant ∙ mx_line _ (not_empty _ _ c.is_empty.ensures c.loop-body-test.true) _ c.find-end.ensures _ c.after-self.ensures _ c.is_mx_at.ensures c.if-is_mx_at.true _ c.line_to.ensures _ c.line_value.ensures

pub returns-then-is_mx_at-clause-goes : goal.returns-then-is_mx_at-clause-goes
returns-then-is_mx_at-clause-goes c = record { on = λ _. (tt, tt, fewer _ _ _ (returns-then-is_mx_at-clause-steps c)); keeps = search rules; rests = search rules }

pub loop-body-preserved : goal.loop-body-preserved
loop-body-preserved c = c.loop-body.invariant ∙ other_line _ (not_empty _ _ c.is_empty.ensures c.loop-body-test.true) _ c.find-end.ensures _ c.after-self.ensures _ c.is_mx_at.ensures c.if-is_mx_at.false

pub returns-clause-steps : goal.returns-clause-steps
returns-clause-steps c = let n = no_patterns _ _ c.is_empty.ensures c.loop-body-test.false in (c.loop-body.invariant ∙ n, n)
