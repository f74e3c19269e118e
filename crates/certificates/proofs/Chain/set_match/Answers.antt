-- `certificates::Chain::set_match` meets its contract: the loop says by which records the pairs of SHA-512 are found. Assumes nothing.
use Rattle.std.proofs.Common.{◌∙◌}
use Rattle.certificates.proofs.Checks.{set_none, set_left_named, set_unnamed, set_named, set_nothing, by_found}
use Rattle.certificates.proofs.Chain.set_match.Goals as goal

pub returns-in-Unnamed : goal.returns-in-Unnamed
returns-in-Unnamed c = by_found _ _ _ _ c.of-found.ensures (c.loop-entry.invariant ∙ set_unnamed _ _ _ _ _ _ c.in-Some.ensures.steps _ c.record_match.ensures c.in-Unnamed.is)

pub loop-entry-preserved-in-Named : goal.loop-entry-preserved-in-Named
loop-entry-preserved-in-Named c = c.loop-entry.invariant ∙ set_named _ _ _ _ _ _ c.in-Some.ensures.steps _ c.record_match.ensures c.in-Named.is

pub loop-entry-preserved : goal.loop-entry-preserved
loop-entry-preserved c = c.loop-entry.invariant ∙ set_nothing _ _ _ _ _ _ c.in-Some.ensures.steps _ c.record_match.ensures c.in-Nothing.is

pub returns-then-wanted : goal.returns-then-wanted
returns-then-wanted c = by_found _ _ _ _ c.of-found.ensures (c.loop-entry.invariant ∙ set_none _ _ _ _ c.in-None.ensures.steps.0 c.if-wanted.true)

pub returns : goal.returns
returns c = by_found _ _ _ _ c.of-found.ensures (c.loop-entry.invariant ∙ set_left_named _ _ _ _ c.in-None.ensures.steps.0 c.if-wanted.false)
