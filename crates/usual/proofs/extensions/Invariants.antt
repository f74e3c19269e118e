use Rattle.usual.proofs.Shape.{ExtensionsTo}
use Prim.Native.Nat.{◌-◌}
use lib.ListN.{length}
use Rattle.usual.proofs.extensions.Given as goal

abbrev pub invariant-loop-seen : goal.invariant-loop-seen
invariant-loop-seen l = ExtensionsTo l.s l.at l.seen

abbrev pub decreases-loop-seen : goal.decreases-loop-seen
decreases-loop-seen l = length l.s - l.seen.at
