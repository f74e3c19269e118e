use Rattle.std.proofs.Common.{◌≡◌, length, take}
use Rattle.numbers.specs.Numbers.{numbers}
use Rattle.messages.proofs.read_hosts.Given as goal

abbrev pub invariant-loop-k : goal.invariant-loop-k
invariant-loop-k l = (length l.p ≡ 32) × (length l.v ≡ 32) × (take l.k l.p ≡ take l.k (numbers l.preferences)) × (take l.k l.v ≡ take l.k (numbers l.verdicts))
