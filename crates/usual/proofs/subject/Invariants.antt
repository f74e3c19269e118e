use Rattle.usual.proofs.Shape.{SubjectTo}
use Prim.Native.Nat.{◌-◌}
use lib.ListN.{length}
use Rattle.usual.proofs.subject.Given as goal

abbrev pub invariant-loop-seen : goal.invariant-loop-seen
invariant-loop-seen l = SubjectTo l.s l.at l.seen

abbrev pub decreases-loop-seen : goal.decreases-loop-seen
decreases-loop-seen l = length l.s - l.seen.at
