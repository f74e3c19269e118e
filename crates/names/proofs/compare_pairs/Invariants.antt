use Rattle.std.proofs.Common.{◌≡◌, ◌+◌, true, drop, length}
use Rattle.lists.specs.Equal.{same_text}
use Rattle.names.proofs.compare_pairs.Given as goal

abbrev pub invariant-loop-i : goal.invariant-loop-i
invariant-loop-i l = (same_text (drop l.i l.a) (drop l.i l.b) ≡ true) × (l.pairs + l.i ≡ length l.a)
