use mathlib.Core.Path.{◌≡◌}
use lib.ListN.{length}
use Rattle.policies.specs.Policy.{patterns_of}
use Rattle.publish.proofs.body.MxLinesIterator.next.Given as goal

abbrev pub invariant-loop-body : goal.invariant-loop-body
invariant-loop-body l = patterns_of l.fn.self.body.now ≡ patterns_of l.self.body.now

abbrev pub decreases-loop-body : goal.decreases-loop-body
decreases-loop-body l = length l.self.body.now
