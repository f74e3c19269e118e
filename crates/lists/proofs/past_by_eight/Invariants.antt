use Rattle.std.proofs.Common.{◌≡◌, ℕ, Bool, List, true, ◌+◌, ◌*◌, drop, length}
use Rattle.lists.specs.Bytes.{is_bytes}
use Rattle.lists.specs.Span.{span_of}
use Rattle.lists.specs.Words.{number_of, marks}
use Rattle.lists.proofs.past_by_eight.Given as goal

abbrev pub invariant-loop-k : goal.invariant-loop-k
invariant-loop-k g l = (p : ℕ → Bool)
    → ((w : List ℕ) (r : ℕ) → length w ≡ 8 → is_bytes w ≡ true → goal.M-post g l.mark (number_of w) r → r ≡ marks p w)
    → l.from + span_of p (drop l.from l.s) ≡ l.from + 8 * l.k + span_of p (drop (l.from + 8 * l.k) l.s)
