use Rattle.std.proofs.Common.{◌≡◌, length}
use Rattle.txt.specs.Rdata.{strings_fit}
use Rattle.txt.proofs.is_rdata.Given as goal

abbrev pub invariant-loop-length : goal.invariant-loop-length
invariant-loop-length l = strings_fit l.s ≡ strings_fit l.rest

abbrev pub decreases-loop-length : goal.decreases-loop-length
decreases-loop-length l = length l.rest
