use lib.ListN.{length}
use mathlib.Core.Path.{◌≡◌}
use Rattle.cache.specs.Held.{unfilled}
use Rattle.cache.proofs.without_zeros.Given as goal

abbrev pub invariant-loop-front : goal.invariant-loop-front
invariant-loop-front g l = unfilled l.rest ≡ unfilled l.fn.s

abbrev pub decreases-loop-front : goal.decreases-loop-front
decreases-loop-front g l = length l.rest
