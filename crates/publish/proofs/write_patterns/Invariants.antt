use Prim.Native.Nat.{◌+◌}
use mathlib.Core.Path.{◌≡◌}
use lib.ListN.{length}
use Rattle.writing.specs.Over.{over}
use Rattle.publish.specs.Texts.{mx_lines}
use Rattle.publish.specs.Patterns.{patterns_in}
use Rattle.publish.proofs.write_patterns.Given as goal

abbrev pub invariant-loop-pattern : goal.invariant-loop-pattern
invariant-loop-pattern l =
    (goal.iterator-loop-pattern).can_next l.pattern-iterator × (goal.iterator-loop-pattern).is_finite l.pattern-iterator
    × (length l.output ≡ length l.initial.output)
    × (l.to + length (mx_lines (patterns_in l.pattern-iterator)) ≡ l.at + length (mx_lines (patterns_in l.fn.patterns)))
    × (over l.at (mx_lines (patterns_in l.fn.patterns)) l.initial.output ≡ over l.to (mx_lines (patterns_in l.pattern-iterator)) l.output)
