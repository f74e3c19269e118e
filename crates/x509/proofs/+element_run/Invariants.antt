-- `x509::element` and `x509::run` call one another: each call of `element` goes one level deeper.
use Prim.Native.Nat.{◌+◌, ◌-◌, ◌*◌}
use mathlib.Core.Path.{◌≡◌}
use lib.ListN.{length}
use Rattle.x509.specs.Walk.{walk_element, walk_run}
use Rattle.x509.proofs.+element_run.Given as goal

abbrev pub decreases-element : goal.decreases-element
decreases-element l = 2 * l.levels

abbrev pub decreases-run : goal.decreases-run
decreases-run l = 2 * l.levels + 1

abbrev pub invariant-run-loop-p : goal.invariant-run-loop-p
invariant-run-loop-p l = walk_run (walk_element l.levels) l.fn.from.place l.fn.from.noted l.s l.fn.from.at ≡ walk_run (walk_element l.levels) l.p.place l.p.noted l.s l.p.at

abbrev pub decreases-run-loop-p : goal.decreases-run-loop-p
decreases-run-loop-p l = length l.s - l.p.at
