-- `txt::is_candidate_in_parts` meets its contract. Assumes nothing.
use Rattle.std.proofs.Common.{◌∙◌, sym}
use Rattle.txt.proofs.Strings.{tag_differs, tag_whole}
use Rattle.txt.proofs.is_candidate_in_parts.Goals as goal

pub returns-then-not-equal : goal.returns-then-not-equal
returns-then-not-equal c = sym (c.loop-string.invariant.2 ∙ tag_differs _ _ _ c.in-Some.ensures.steps _ c.min-n.result c.min-n.ensures c.equal.result c.equal.ensures c.if-not-equal.true)

pub returns-then-left-eq0 : goal.returns-then-left-eq0
returns-then-left-eq0 c = sym (c.loop-string.invariant.2 ∙ tag_whole _ _ _ c.in-Some.ensures.steps _ c.min-n.result c.min-n.ensures c.equal.result c.equal.ensures c.if-not-equal.false c.if-left-eq0.true)
