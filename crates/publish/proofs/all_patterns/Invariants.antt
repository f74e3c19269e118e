use mathlib.Core.Path.{◌≡◌}
use Rattle.lists.specs.Bytes.{all}
use Rattle.numbers.specs.Pieces.{pieces_in}
use Rattle.names.specs.Name.{is_pattern}
use Rattle.publish.proofs.all_patterns.Given as goal

abbrev pub invariant-loop-p : goal.invariant-loop-p
invariant-loop-p l = (goal.iterator-loop-p).can_next l.p-iterator × (goal.iterator-loop-p).is_finite l.p-iterator × (all is_pattern (pieces_in l.fn.pieces) ≡ all is_pattern (pieces_in l.p-iterator))
