use Rattle.std.proofs.Common.{◌≡◌, ◌≤◌, ◌+◌, ◌-◌, length, drop}
use Rattle.policies.specs.Lines.{lines, line_start}
use Rattle.policies.specs.Reader.{checked}
use Rattle.policies.proofs.Same.{run}
use Rattle.policies.proofs.check.Given as goal

abbrev pub invariant-loop-at : goal.invariant-loop-at
invariant-loop-at l = (l.at ≤ length l.s + 1) × (l.n ≤ l.at) × (l.count ≤ l.n) × (l.at ≡ line_start l.s l.n) × (checked l.host l.known l.s ≡ run l.host l.s l.seen l.count l.listed l.n (lines (drop l.at l.s)))

abbrev pub decreases-loop-at : goal.decreases-loop-at
decreases-loop-at l = length l.s + 1 - l.at
