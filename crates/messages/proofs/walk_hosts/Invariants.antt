use Rattle.std.proofs.Common.{ℕ, List}
use Rattle.messages.specs.Search.{Gives}
use Rattle.messages.proofs.Finds.{Walked}
use Rattle.messages.proofs.walk_hosts.Given as goal

abbrev pub invariant-loop-k : goal.invariant-loop-k
invariant-loop-k g l = (ps vs : List ℕ) → Gives l.count (goal.P-post g l.preference) ps → Gives l.count (goal.V-post g l.verdict) vs → Walked ps vs l.k l.decider
