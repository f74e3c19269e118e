-- `CharacterStrings::next` meets its contract. Assumes nothing.
use Rattle.std.proofs.Common.{◌∙◌, refl, rules}
use Rattle.numbers.proofs.Iterate.{fewer}
use Rattle.txt.proofs.Strings.{strings_none, next_string}
use Rattle.txt.proofs.CharacterStringsIterator.next.Goals as goal

pub returns-in_err-length-clause-steps : goal.returns-in_err-length-clause-steps
returns-in_err-length-clause-steps c = search (strings_none, rules)

pub returns-clause-steps : goal.returns-clause-steps
returns-clause-steps c = next_string _ _ _ _ c.in_ok-length.ensures.cases.0 (c.min-end.ensures ∙ rw c.from.ensures refl)

pub returns-clause-goes : goal.returns-clause-goes
returns-clause-goes c = record { on = λ _. (tt, tt, fewer _ _ _ (returns-clause-steps c)); keeps = search rules; rests = search rules }
