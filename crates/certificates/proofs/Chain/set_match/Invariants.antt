use mathlib.Core.Path.{◌≡◌}
use mathlib.Core.Bool.{true}
use Rattle.numbers.specs.Pieces.{pieces_in}
use Rattle.certificates.specs.Facts.{certificates_in}
use Rattle.certificates.proofs.Checks.{left_match}
use Rattle.certificates.proofs.Chain.set_match.Given as goal

abbrev pub invariant-loop-entry : goal.invariant-loop-entry
invariant-loop-entry l = left_match l.found (certificates_in l.self) true (pieces_in l.set) ≡ left_match l.found (certificates_in l.self) l.wanted (pieces_in l.entry-iterator)
