-- `Words::next` meets its contract. Assumes nothing.
use Rattle.std.proofs.Common.{rules}
use Rattle.numbers.proofs.Iterate.{numbers_none, next_word, fewer}
use Rattle.numbers.proofs.WordsIterator.next.Goals as goal

pub returns-in_err-first-clause-steps : goal.returns-in_err-first-clause-steps
returns-in_err-first-clause-steps c = search (numbers_none, rules)

pub returns-clause-steps : goal.returns-clause-steps
returns-clause-steps c = next_word _ _ _ _ c.in_ok-first.ensures.cases.0 c.in_ok-first.ensures.cases.1 c.in_ok-first.ensures.cases.2 c.from_be_bytes.ensures

pub returns-clause-goes : goal.returns-clause-goes
returns-clause-goes c = record { on = λ _. (tt, tt, fewer _ _ _ (returns-clause-steps c)); keeps = search rules; rests = search rules }
