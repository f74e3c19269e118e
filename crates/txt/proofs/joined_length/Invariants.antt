use Rattle.std.proofs.Common.{◌≡◌, ◌+◌, length}
use mathlib.Core.List.{flatten}
use Rattle.txt.specs.Rdata.{joined}
use Rattle.txt.specs.Steps.{strings_left}
use Rattle.txt.proofs.joined_length.Given as goal

abbrev pub invariant-loop-string : goal.invariant-loop-string
invariant-loop-string l =
    (goal.iterator-loop-string).can_next l.string-iterator × (goal.iterator-loop-string).is_finite l.string-iterator
    × (l.n + length (flatten (strings_left l.string-iterator)) ≡ length (joined l.s))
