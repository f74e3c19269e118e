use mathlib.Core.Path.{◌≡◌}
use lib.ListN.{drop}
use Rattle.der.specs.Header.{value_of}
use Rattle.der.proofs.long_size.Given as goal

abbrev pub invariant-loop-b : goal.invariant-loop-b
invariant-loop-b l = value_of 0 l.b-items ≡ value_of l.n (drop l.b-index l.b-items)
