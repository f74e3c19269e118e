-- `cache::Cache::other_place` meets its contract. Assumes nothing.
use mathlib.Core.Path.{◌∙◌}
use Rattle.cache.proofs.Search.{empty_found, stale_passed, live_passed, none_empty_left}
use Rattle.cache.proofs.Cache.other_place.Goals.{in-Stale, in-Live}
use Rattle.cache.proofs.Cache.other_place.Goals as goal

pub returns-in-Empty : goal.returns-in-Empty
returns-in-Empty c = empty_found _ _ _ _ _ c.loop-i-test.true _ c.loop-i.invariant _ c.state_of.ensures c.in-Empty.is

pub loop-i-preserved : goal.loop-i-preserved
loop-i-preserved c =
    elim c.match-state_of.branch [
      | in-Stale w ↦ stale_passed _ _ _ _ _ c.loop-i-test.true _ c.loop-i.invariant _ c.state_of.ensures w.in-Stale.is _ (w.stale-is ∙ w.or-stale.ensures)
      | in-Live w ↦ live_passed _ _ _ _ _ c.loop-i-test.true _ c.loop-i.invariant _ c.state_of.ensures w.in-Live.is _ w.stale-is
    ]

pub returns : goal.returns
returns c = none_empty_left _ _ _ _ _ c.loop-i-test.false c.loop-i.invariant
