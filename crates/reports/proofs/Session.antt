-- What one session does to the counts. Assumes nothing.
use Prim.Native.Nat.{ℕ, ◌+◌, ◌*◌, ◌^◌, ◌<◌, ◌≤◌}
use mathlib.Core.Path.{◌≡◌, refl, sym, ◌∙◌}
use mathlib.Core.Bool.{Bool, true, false, cond}
use mathlib.Core.List.{List}
use mathlib.Core.Option.{Option, none, some}
use native.Mathlib.Nat.{add-zero}
use native.Mathlib.Omega.{arith}
use lib.Dec.{eqb, ltb}
use lib.ListN.{length}
use borrow.Author.Tests.{le-leb, lt-ltb, le-ltb, eq-eqb, eqb-true, eqb-false, ltb-true, ltb-false}
use Rattle.lists.specs.Check.{refusal_of}
use Rattle.writing.specs.Answer.{refusal, success, answer_unless, unless_refused}
use Rattle.reports.specs.Counts.{Result, result_of, place_of, count_at, total_of, one_more}
use Rattle.reports.specs.Calls.{most_sessions, has_room, count_checks, report_count_answer, with_session, counts_after}
use Rattle.reports.proofs.Counts.{put_size, put_there, put_after, put_before, count_most}
use Rattle.reports.proofs.Results.{verdict_counted}

-- one more at a place: that count is one more, and every other as it was; the size stays
module _ (s : List ℕ) (k : ℕ) (few : k ≤ 3) (size : length s ≡ 32) where
  inside : 8 * k + 8 ≤ length s
  inside = omega (arith, few, size)

  pub more_size : length (one_more k s) ≡ 32
  unfolding one_more
  more_size = put_size s (count_at s k + 1) k inside ∙ size

  pub more_at : (j : ℕ) → total_of s < most_sessions → count_at (one_more k s) j ≡ count_at s j + cond (eqb k j) 1 0
  unfolding one_more
  more_at j h = go (eqb k j) refl (ltb j k) refl
    where
      small : count_at s k + 1 < 2 ^ 64
      small = omega (arith, h, count_most s k few)

      go : (t : Bool) → eqb k j ≡ t → (u : Bool) → ltb j k ≡ u → count_at (one_more k s) j ≡ count_at s j + cond t 1 0
      go true e u l = rw (← eqb-true k j e) (put_there s (count_at s k + 1) k inside small)
      go false e true l = put_after s (count_at s k + 1) k inside j (ltb-true j k l) ∙ sym (add-zero (count_at s j))
      go false e false l =
          let a : k ≤ j = ltb-false j k l in
          let b : k ≡ j → ⊥ = eqb-false k j e in
          put_before s (count_at s k + 1) k inside j (omega (arith, a, b)) ∙ sym (add-zero (count_at s j))

-- a verdict that isn't counted leaves the counts
pub uncounted_stays : (v : ℕ) (s : List ℕ) → result_of v ≡ none → counts_after v s ≡ s
unfolding counts_after with_session unless_refused
uncounted_stays v s e = rw e (go (refusal_of (count_checks v s)))
  where
    go : (o : Option ℕ) → unless_refused o s s ≡ s
    go none = refl
    go (some n) = refl

-- one that is counted, beside counts of the right size
module _ (v : ℕ) (r : Result) (s : List ℕ) (is : result_of v ≡ some r) (size : length s ≡ 32) where
  -- while there is room: 15, and one more at its place
  module _ (h : total_of s < most_sessions) where
    accepted : refusal_of (count_checks v s) ≡ none
    unfolding refusal_of count_checks has_room
    accepted = rw (verdict_counted v r is, eq-eqb (length s) 32 size, le-leb (total_of s) most_sessions (omega (arith, h)), is, lt-ltb (total_of s) most_sessions h)

    pub counted_answer : report_count_answer v s ≡ success 0
    unfolding report_count_answer answer_unless
    counted_answer = rw accepted

    pub counted_more : counts_after v s ≡ one_more (place_of r) s
    unfolding counts_after with_session unless_refused
    counted_more = rw (accepted, is)

  -- at the most: 73, and the counts as they were
  module _ (h : total_of s ≡ most_sessions) where
    refused : refusal_of (count_checks v s) ≡ some 73
    unfolding refusal_of count_checks has_room
    refused = rw (verdict_counted v r is, eq-eqb (length s) 32 size, le-leb (total_of s) most_sessions (omega (arith, h)), is, le-ltb (total_of s) most_sessions (omega (arith, h)))

    pub full_answer : report_count_answer v s ≡ refusal 73
    unfolding report_count_answer answer_unless
    full_answer = rw refused

    pub full_stays : counts_after v s ≡ s
    unfolding counts_after unless_refused
    full_stays = rw refused
