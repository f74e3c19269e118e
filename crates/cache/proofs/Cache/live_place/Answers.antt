-- `cache::Cache::live_place` meets its contract. Assumes nothing.
use Rattle.cache.proofs.Calls.{looks_refused, looks_live, looks_stale, looks_none}
use Rattle.cache.proofs.Cache.live_place.Goals as goal

pub returns-in_err-check : goal.returns-in_err-check
returns-in_err-check c = looks_refused _ _ _ _ _ _ c.from_residual.ensures c.in_err-check.ensures

pub returns-in-Some : goal.returns-in-Some
returns-in-Some c = looks_live _ _ _ _ _ c.in_ok-check.ensures _ c.in-Some.ensures c.if-own.true

pub returns-in_default : goal.returns-in_default
returns-in_default c = looks_stale _ _ _ _ _ c.in_ok-check.ensures _ c.in-Some.ensures c.if-own.false

pub returns-in_default-2 : goal.returns-in_default-2
returns-in_default-2 c = looks_none _ _ _ _ _ c.in_ok-check.ensures c.in_default.ensures
