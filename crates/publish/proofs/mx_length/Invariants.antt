use Prim.Native.Nat.{◌+◌}
use mathlib.Core.Path.{◌≡◌}
use lib.ListN.{length}
use Rattle.publish.specs.Texts.{mx_lines}
use Rattle.publish.specs.Patterns.{patterns_in}
use Rattle.publish.proofs.mx_length.Given as goal

abbrev pub invariant-loop-pattern : goal.invariant-loop-pattern
invariant-loop-pattern l = (goal.iterator-loop-pattern).can_next l.pattern-iterator × (goal.iterator-loop-pattern).is_finite l.pattern-iterator × (l.n + length (mx_lines (patterns_in l.pattern-iterator)) ≡ length (mx_lines (patterns_in l.fn.patterns)))
