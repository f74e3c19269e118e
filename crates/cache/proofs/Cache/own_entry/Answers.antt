-- `cache::Cache::own_entry` meets its contract. Assumes nothing.
use mathlib.Core.Path.{sym, ◌∙◌}
use Rattle.cache.proofs.Search.{own_elsewhere, own_unheld, own_found, own_nowhere}
use Rattle.cache.proofs.Cache.own_entry.Goals.{then-holds_domain+in_default, else-holds_domain}
use Rattle.cache.proofs.Cache.own_entry.Goals as goal

pub returns-in-Some : goal.returns-in-Some
returns-in-Some c = own_found _ _ _ _ _ _ c.loop-i-test.true c.loop-i.invariant _ c.holds_domain.ensures c.if-holds_domain.true _ c.state_of.ensures _ c.in-Some.ensures

pub loop-i-preserved : goal.loop-i-preserved
loop-i-preserved c =
    elim c.if-holds_domain.branch [
      | then-holds_domain+in_default w ↦ own_unheld _ _ _ _ _ _ c.loop-i-test.true c.loop-i.invariant _ c.holds_domain.ensures w.if-holds_domain.true _ w.state_of.ensures (sym w.in_default.is ∙ w.live.ensures)
      | else-holds_domain w ↦ own_elsewhere _ _ _ _ _ _ c.loop-i-test.true c.loop-i.invariant _ c.holds_domain.ensures w.if-holds_domain.false
    ]

pub returns : goal.returns
returns c = own_nowhere _ _ _ _ _ c.loop-i-test.false c.loop-i.invariant
