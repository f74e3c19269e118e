-- `cache::lookup` meets its contract. Assumes nothing.
use mathlib.Core.Path.{◌∙◌, ap, sym}
use Rattle.cache.specs.Lookup.{only_number}
use Rattle.cache.proofs.Calls.{look_inside, look_found, look_refused}
use Rattle.cache.proofs.Scanned.{lookup_answers}
use Rattle.cache.proofs.lookup.Goals as goal

pub answer_at-requires : goal.answer_at-requires
answer_at-requires c = look_inside _ _ _ _ _ c.in-Ok.ensures

pub returns-in-Ok-clause-answer : goal.returns-in-Ok-clause-answer
returns-in-Ok-clause-answer c = c.answer_at.ensures ∙ look_found _ _ _ _ _ c.in-Ok.ensures

pub returns-in-Err-clause-answer : goal.returns-in-Err-clause-answer
returns-in-Err-clause-answer c = c.only_number.ensures ∙ (ap only_number c.from.ensures ∙ look_refused _ _ _ _ _ c.in-Err.ensures)

pub returns-in-Ok-clause-by_ranks : goal.returns-in-Ok-clause-by_ranks
returns-in-Ok-clause-by_ranks c = returns-in-Ok-clause-answer c ∙ sym (lookup_answers c.args.clock c.args.domain.now c.args.texts.now c.args.table.now)

pub returns-in-Err-clause-by_ranks : goal.returns-in-Err-clause-by_ranks
returns-in-Err-clause-by_ranks c = returns-in-Err-clause-answer c ∙ sym (lookup_answers c.args.clock c.args.domain.now c.args.texts.now c.args.table.now)
