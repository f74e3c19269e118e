use Rattle.usual.proofs.Shape.{NamesTo}
use Prim.Native.Nat.{◌-◌}
use lib.ListN.{length}
use Rattle.usual.proofs.are_dns_names.Given as goal

abbrev pub invariant-loop-i : goal.invariant-loop-i
invariant-loop-i l = NamesTo l.s l.at l.i

abbrev pub decreases-loop-i : goal.decreases-loop-i
decreases-loop-i l = length l.s - l.i
