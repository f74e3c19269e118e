-- The promise of the call that judges a host, from its complete result. Assumes nothing.
use mathlib.Core.Path.{◌≡◌, sym, subst}
use Rattle.hosts.specs.declared.HostAnswer.{HostAnswer}
use Rattle.hosts.specs.Arguments.{Arguments, base_of}
use Rattle.hosts.specs.Call.{host_answer}
use Rattle.hosts.specs.Demands.{IsPassed, full_of, Exact, Demand2, Demand3, Judged}
use Rattle.hosts.proofs.Second.{demand_2}
use Rattle.hosts.proofs.Third.{demand_3}
use Rattle.hosts.proofs.Verdicts.{answers_what_holds, counts_exactly}

pub judged : (a : Arguments) (r : HostAnswer) → IsPassed a → r ≡ host_answer a → Judged a r
judged a r h e = record {
  is = e;
  exact = λ full. subst (Exact (base_of a) (full_of a)) (sym e) (record { verdict = answers_what_holds a full; count = counts_exactly a full });
  second = λ full. subst (Demand2 (base_of a) (full_of a)) (sym e) (demand_2 a full);
  third = subst (Demand3 a) (sym e) (demand_3 a h);
}
