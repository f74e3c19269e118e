-- `cache::store` meets its contract. Assumes nothing.
use mathlib.Core.Path.{◌∙◌, ap, sym}
use native.Mathlib.Omega.{arith}
use lib.ListN.{set}
use Rattle.writing.specs.Answer.{refusal}
use Rattle.cache.proofs.Calls.{at_inside, put_there, store_done, store_table, store_texts, refused_answer, refused_table, refused_texts}
use Rattle.cache.proofs.Scanned.{plan_answers, plan_table, plan_texts}
use Rattle.cache.proofs.store.Goals as goal

pub offset_bounds-table-place : goal.offset_bounds-table-place
offset_bounds-table-place c = let h = at_inside _ _ _ _ _ _ _ c.in-Ok.ensures in omega (arith, h.0, h.1)

pub bounds-table-place : goal.bounds-table-place
bounds-table-place c = (at_inside _ _ _ _ _ _ _ c.in-Ok.ensures).0

pub overflow_mul-place : goal.overflow_mul-place
overflow_mul-place c = let h = at_inside _ _ _ _ _ _ _ c.in-Ok.ensures in omega (arith, h.0, h.1)

pub returns-in-Ok-clause-answer : goal.returns-in-Ok-clause-answer
returns-in-Ok-clause-answer c = c.done.ensures ∙ store_done _ _ _ _ _ _ _ c.in-Ok.ensures

pub returns-in-Ok-clause-table_after : goal.returns-in-Ok-clause-table_after
returns-in-Ok-clause-table_after c = ap (set c.args.table.now c.in-Ok.place) c.entry_for.ensures ∙ store_table _ _ _ _ _ _ _ c.in-Ok.ensures

pub returns-in-Ok-clause-texts_after : goal.returns-in-Ok-clause-texts_after
returns-in-Ok-clause-texts_after c = put_there _ _ _ _ c.put.ensures ∙ store_texts _ _ _ _ _ _ _ c.in-Ok.ensures

pub returns-in-Err-clause-answer : goal.returns-in-Err-clause-answer
returns-in-Err-clause-answer c = c.refused.ensures ∙ (ap refusal c.from.ensures ∙ refused_answer _ _ _ _ _ _ _ c.in-Err.ensures)

pub returns-in-Err-clause-table_after : goal.returns-in-Err-clause-table_after
returns-in-Err-clause-table_after c = refused_table _ _ _ _ _ _ _ c.in-Err.ensures

pub returns-in-Err-clause-texts_after : goal.returns-in-Err-clause-texts_after
returns-in-Err-clause-texts_after c = refused_texts _ _ _ _ _ _ _ c.in-Err.ensures

pub returns-in-Ok-clause-by_ranks : goal.returns-in-Ok-clause-by_ranks
returns-in-Ok-clause-by_ranks c = record {
  answered = returns-in-Ok-clause-answer c ∙ sym (plan_answers c.args.clock c.args.domain.now c.args.texts.now c.args.table.now c.args.id.now c.args.policy.now);
  table = returns-in-Ok-clause-table_after c ∙ sym (plan_table c.args.clock c.args.domain.now c.args.texts.now c.args.table.now c.args.id.now c.args.policy.now);
  texts = returns-in-Ok-clause-texts_after c ∙ sym (plan_texts c.args.clock c.args.domain.now c.args.texts.now c.args.table.now c.args.id.now c.args.policy.now);
}

pub returns-in-Err-clause-by_ranks : goal.returns-in-Err-clause-by_ranks
returns-in-Err-clause-by_ranks c = record {
  answered = returns-in-Err-clause-answer c ∙ sym (plan_answers c.args.clock c.args.domain.now c.args.texts.now c.args.table.now c.args.id.now c.args.policy.now);
  table = returns-in-Err-clause-table_after c ∙ sym (plan_table c.args.clock c.args.domain.now c.args.texts.now c.args.table.now c.args.id.now c.args.policy.now);
  texts = returns-in-Err-clause-texts_after c ∙ sym (plan_texts c.args.clock c.args.domain.now c.args.texts.now c.args.table.now c.args.id.now c.args.policy.now);
}
