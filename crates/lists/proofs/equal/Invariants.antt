use Rattle.std.proofs.Common.{◌≡◌, ◌*◌, drop}
use Rattle.lists.specs.Equal.{same_bytes}
use Rattle.lists.proofs.equal.Given as goal

abbrev pub invariant-loop-k : goal.invariant-loop-k
invariant-loop-k l = same_bytes l.a l.b ≡ same_bytes (drop (8 * l.k) l.a) (drop (8 * l.k) l.b)
