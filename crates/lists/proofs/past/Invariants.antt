use Rattle.std.proofs.Common.{◌≡◌, ℕ, Bool, ◌+◌, ◌<◌, drop}
use Rattle.lists.specs.Span.{span_of}
use Rattle.lists.proofs.past.Given as goal

abbrev pub invariant-loop-i : goal.invariant-loop-i
invariant-loop-i g l = (p : ℕ → Bool) → ((b : ℕ) (r : Bool) → b < 256 → goal.F-post g l.test b r → r ≡ p b) → l.from + span_of p (drop l.from l.s) ≡ l.i + span_of p (drop l.i l.s)
