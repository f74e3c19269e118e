use Rattle.std.proofs.Common.{◌≡◌, ◌<◌, length}
use mathlib.Core.List.{flatten}
use Rattle.lists.specs.Span.{begins}
use Rattle.txt.specs.Rdata.{joined}
use Rattle.txt.specs.Txt.{is_candidate}
use Rattle.txt.specs.Steps.{strings_left}
use Rattle.txt.proofs.is_candidate_in_parts.Given as goal

abbrev pub invariant-loop-string : goal.invariant-loop-string
invariant-loop-string l =
    (goal.iterator-loop-string).can_next l.string-iterator × (goal.iterator-loop-string).is_finite l.string-iterator
    × (is_candidate (joined l.s) ≡ begins l.left (flatten (strings_left l.string-iterator))) × (0 < length l.left)
