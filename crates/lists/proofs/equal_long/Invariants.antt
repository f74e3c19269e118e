use Rattle.std.proofs.Common.{◌≡◌, ◌*◌, drop}
use Rattle.lists.specs.Equal.{same_bytes}
use Rattle.lists.proofs.equal_long.Given as goal

abbrev pub invariant-loop-k : goal.invariant-loop-k
invariant-loop-k l = same_bytes l.a l.b ≡ same_bytes (drop (32 * l.k) l.a) (drop (32 * l.k) l.b)
