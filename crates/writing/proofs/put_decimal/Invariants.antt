use Prim.Native.Nat.{◌≤◌, ◌+◌}
use mathlib.Core.Path.{◌≡◌}
use lib.ListN.{length}
use Rattle.writing.specs.Over.{over}
use Rattle.writing.specs.Decimal.{decimal}
use Rattle.writing.proofs.put_decimal.Given as goal

abbrev pub invariant-loop-k : goal.invariant-loop-k
invariant-loop-k l = record {
  fits : l.at + l.k ≤ length l.output;
  sized : l.k ≡ length (decimal l.rest);
  same : length l.output ≡ length l.initial.output;
  written : over l.at (decimal l.n) l.initial.output ≡ over l.at (decimal l.rest) l.output;
}
