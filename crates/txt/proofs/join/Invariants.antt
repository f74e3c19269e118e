use Rattle.std.proofs.Common.{◌≡◌, ◌≤◌, ◌++◌, length, take, drop}
use mathlib.Core.List.{flatten}
use Rattle.txt.specs.Rdata.{joined}
use Rattle.txt.specs.Steps.{strings_left}
use Rattle.txt.proofs.join.Given as goal

abbrev pub invariant-loop-string : goal.invariant-loop-string
invariant-loop-string l =
    (goal.iterator-loop-string).can_next l.string-iterator × (goal.iterator-loop-string).is_finite l.string-iterator
    × (drop l.n (joined l.s) ≡ flatten (strings_left l.string-iterator))
    × (l.n ≤ length (joined l.s))
    × (l.output ≡ take l.n (joined l.s) ++ drop l.n l.fn.output)
    × (length (joined l.s) ≤ length l.fn.output)
