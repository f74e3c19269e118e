use mathlib.Core.Path.{◌≡◌}
use Rattle.numbers.specs.Pieces.{pieces_in}
use Rattle.certificates.specs.Steps.{sha512_of}
use Rattle.certificates.proofs.Strongest.{joined}
use Rattle.certificates.proofs.Sha512Pairs.of.Given as goal

abbrev pub invariant-loop-entry : goal.invariant-loop-entry
invariant-loop-entry l = sha512_of (pieces_in l.set) ≡ joined l.found (pieces_in l.entry-iterator)
