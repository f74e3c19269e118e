-- `reports::add_one` meets its contract. Assumes nothing.
use Rattle.std.proofs.Common.{arith, ap, ◌+◌}
use Rattle.reports.proofs.Counts.{count_most}
use Rattle.reports.proofs.CountReturns.{one_more_lem}
use Rattle.reports.proofs.add_one.Goals as goal

pub overflow_add-n : goal.overflow_add-n
overflow_add-n c = record { fits = omega (arith, count_most c.args.counts.now c.args.k c.requires.0, c.requires.2, c.count_at-n.ensures) }

pub returns : goal.returns
returns c = one_more_lem _ _ _ _ _ (ap (λ n. n + 1) c.count_at-n.ensures) c.eight_bytes.ensures c.put.ensures
