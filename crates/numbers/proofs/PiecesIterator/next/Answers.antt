-- `Pieces::next` meets its contract. Assumes nothing.
use Rattle.std.proofs.Common.{rules}
use Rattle.numbers.proofs.Iterate.{cut_none, next_part, fewer}
use Rattle.numbers.proofs.PiecesIterator.next.Goals as goal

pub returns-in_err-lengths-clause-steps : goal.returns-in_err-lengths-clause-steps
returns-in_err-lengths-clause-steps c = search (cut_none, rules)

pub returns-clause-steps : goal.returns-clause-steps
returns-clause-steps c = next_part _ _ _ _ _ _ c.in_ok-lengths.ensures.cases.1 c.in_ok-lengths.ensures.cases.2 c.end_at-end.ensures c.split_at.ensures.front c.split_at.ensures.back

pub returns-clause-goes : goal.returns-clause-goes
returns-clause-goes c = record { on = λ _. (tt, tt, fewer _ _ _ (returns-clause-steps c)); keeps = search rules; rests = search rules }
