-- `cache::Cache::place_for` meets its contract. Assumes nothing.
use mathlib.Core.Path.{sym, ◌∙◌}
use Rattle.cache.proofs.Calls.{stores_refused, stores_no_policy, stores_at, own_as_place, other_as_place}
use Rattle.cache.proofs.Cache.place_for.Goals.{in-Some, in-None}
use Rattle.cache.proofs.Cache.place_for.Goals as goal

pub returns-in_err-check : goal.returns-in_err-check
returns-in_err-check c = stores_refused _ _ _ _ _ _ _ _ c.from_residual.ensures c.in_err-check.ensures

pub returns-in_err-check_policy : goal.returns-in_err-check_policy
returns-in_err-check_policy c = stores_no_policy _ _ _ _ _ _ _ c.in_ok-check.ensures _ _ c.from_residual-in_err-check_policy.ensures c.in_err-check_policy.ensures

pub returns : goal.returns
returns c =
    stores_at _ _ _ _ _ _ _ c.in_ok-check.ensures _ c.in_ok-check_policy.ensures _
    (elim c.match-own_entry.branch [
      | in-Some w ↦ own_as_place _ _ _ _ c.args.id.now c.args.policy.now _ (sym w.in-Some.is ∙ c.own_entry.ensures) _ w.place-is
      | in-None w ↦ other_as_place _ _ _ _ c.args.id.now c.args.policy.now (sym w.in-None.is ∙ c.own_entry.ensures) _ (w.place-is ∙ w.other_place-place.ensures)
    ])
    _ c.ok_or.ensures.value
