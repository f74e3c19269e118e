-- Each number is answered exactly where document 02, No. 9, says, and what is changed then: the numbers, places and limits stand here once more, as literals. Assumes nothing.
use Prim.Native.Nat.{ℕ, ◌+◌, ◌*◌, ◌≤◌}
use mathlib.Core.Path.{◌≡◌, refl, sym, ap, ◌∙◌}
use mathlib.Core.Bool.{Bool, true, false, cond, not, ◌&&◌}
use mathlib.Core.List.{List, [], ◌∷◌}
use mathlib.Core.Option.{Option, none, some}
use native.Mathlib.Omega.{arith}
use lib.Dec.{eqb, leb, ltb}
use lib.ListN.{length}
use borrow.Author.Tests.{le-leb, leb-true, leb-false, lt-ltb, le-ltb, eqb-true}
use Rattle.lists.specs.Bytes.{any}
use Rattle.lists.specs.Check.{refusal_of}
use Rattle.lists.proofs.Bools.{never}
use Rattle.numbers.specs.Numbers.{eight}
use Rattle.verdicts.specs.Verdicts.{is_verdict}
use Rattle.writing.specs.Answer.{answer_unless, unless_refused, write_refusal, write_answer}
use Rattle.writing.specs.Over.{over}
use Rattle.writing.proofs.Written.{Wrote, wrote, not_written}
use Rattle.reports.specs.Counts.{Result, result_of, place_of, count_at, total_of, one_more}
use Rattle.reports.specs.Calls.{has_room, count_checks, report_count_answer, with_session, counts_after, summary_text, failures_of, summary_of, summary_checks, report_summary_answer, report_summary_output}
use Rattle.reports.specs.Day.{is_one_of}
use Rattle.reports.proofs.Counts.{total_is}
use Rattle.reports.proofs.Results.{here, counts, verdict_numbers, here_success, here_dnssec, here_starttls, here_validation, here_counted}
use Rattle.reports.proofs.Session.{uncounted_stays}
use Rattle.reports.proofs.Day.{counted_verdicts}
use Rattle.reports.proofs.SummaryReturns.{summary_most}

-- the total of the four counts
abbrev pub four_total : List ℕ → ℕ
four_total s = count_at s 0 + count_at s 1 + count_at s 2 + count_at s 3

-- a verdict is one of those that are counted where it has a result
counted_is : (v : ℕ) (o : Option Result) → result_of v ≡ o → (t : Bool) → is_one_of counted_verdicts v ≡ t → counts o ≡ cond t 1 0
counted_is v o e t h = ap counts (sym e) ∙ (sym (here_counted v) ∙ rw h)

-- ---- counting a session
module _ (v : ℕ) (s : List ℕ) where
  abbrev is_verdict_number : Bool
  is_verdict_number = is_one_of (1 ∷ 2 ∷ 3 ∷ 4 ∷ 5 ∷ 20 ∷ 21 ∷ 22 ∷ 23 ∷ 24 ∷ 25 ∷ 26 ∷ 27 ∷ 28 ∷ []) v

  abbrev is_counted_number : Bool
  is_counted_number = is_one_of counted_verdicts v

  -- at 1,000,000,000 there is no room for a counted verdict
  room_is : has_room (result_of v) s ≡ not (is_counted_number && leb 1000000000 (total_of s))
  unfolding has_room counts
  room_is = go (result_of v) refl is_counted_number refl
    where
      below : ltb (total_of s) 1000000000 ≡ not (leb 1000000000 (total_of s))
      below = tested (leb 1000000000 (total_of s)) refl
        where
          tested : (t : Bool) → leb 1000000000 (total_of s) ≡ t → ltb (total_of s) 1000000000 ≡ not t
          tested true e = le-ltb (total_of s) 1000000000 (leb-true 1000000000 (total_of s) e)
          tested false e = lt-ltb (total_of s) 1000000000 (leb-false 1000000000 (total_of s) e)

      go : (o : Option Result) → result_of v ≡ o → (t : Bool) → is_counted_number ≡ t → has_room o s ≡ not (t && leb 1000000000 (total_of s))
      go none e true h = absurd (omega (arith, counted_is v none e true h))
      go none e false h = refl
      go (some r) e true h = below
      go (some r) e false h = absurd (omega (arith, counted_is v (some r) e false h))

  -- the number, in the order 63, 74, 73; else 15
  pub count_number : (report_count_answer v s).number ≡ cond is_verdict_number (cond (eqb (length s) 32) (cond (leb (four_total s) 1000000000) (cond (is_counted_number && leb 1000000000 (four_total s)) 73 15) 73) 74) 63
  unfolding report_count_answer answer_unless refusal_of count_checks
  count_number = rw (← total_is s, room_is, verdict_numbers v) (go is_verdict_number (eqb (length s) 32) (leb (total_of s) 1000000000) (is_counted_number && leb 1000000000 (total_of s)))
    where
      go : (a b c d : Bool) → (answer_unless (cond a (cond b (cond c (cond (not d) none (some 73)) (some 73)) (some 74)) (some 63)) 0).number ≡ cond a (cond b (cond c (cond d 73 15) 73) 74) 63
      go false b c d = refl
      go true false c d = refl
      go true true false d = refl
      go true true true false = refl
      go true true true true = refl

  -- the counts are no output
  pub count_length : (report_count_answer v s).length ≡ 0
  unfolding report_count_answer answer_unless
  count_length = go (refusal_of (count_checks v s))
    where
      go : (o : Option ℕ) → (answer_unless o 0).length ≡ 0
      go none = refl
      go (some n) = refl

  -- any other number than 15 leaves the counts
  pub count_kept : ((report_count_answer v s).number ≡ 15 → ⊥) → counts_after v s ≡ s
  unfolding report_count_answer answer_unless counts_after unless_refused
  count_kept h = go (refusal_of (count_checks v s)) h
    where
      go : (o : Option ℕ) → ((answer_unless o 0).number ≡ 15 → ⊥) → unless_refused o s (with_session (result_of v) s) ≡ s
      go none k = absurd (k refl)
      go (some n) k = refl

  -- and so does a verdict that isn't counted
  pub uncounted_kept : is_counted_number ≡ false → counts_after v s ≡ s
  unfolding counts
  uncounted_kept h = go (result_of v) refl
    where
      go : (o : Option Result) → result_of v ≡ o → counts_after v s ≡ s
      go none e = uncounted_stays v s e
      go (some r) e = absurd (omega (arith, counted_is v (some r) e false h))

  -- no refusal is 15
  no_15 : (n : ℕ) → refusal_of (count_checks v s) ≡ some n → n ≡ 15 → ⊥
  unfolding refusal_of count_checks
  no_15 n = go (is_verdict v) (eqb (length s) 32) (leb (total_of s) 1000000000) (has_room (result_of v) s)
    where
      same : (j : ℕ) → some j ≡ some n → j ≡ n
      same j e = cc

      go : (a b c d : Bool) → cond {A = Option ℕ} a (cond b (cond c (cond d none (some 73)) (some 73)) (some 74)) (some 63) ≡ some n → n ≡ 15 → ⊥
      go false b c d e k = omega (arith, same 63 e, k)
      go true false c d e k = omega (arith, same 74 e, k)
      go true true false d e k = omega (arith, same 73 e, k)
      go true true true false e k = omega (arith, same 73 e, k)
      go true true true true e k = never cc

  -- 15 counts a session at its place: eight bytes are written there
  module _ (h : (report_count_answer v s).number ≡ 15) where
    after_15 : counts_after v s ≡ with_session (result_of v) s
    unfolding report_count_answer answer_unless counts_after unless_refused
    after_15 = go (refusal_of (count_checks v s)) refl h
      where
        go : (o : Option ℕ) → refusal_of (count_checks v s) ≡ o → (answer_unless o 0).number ≡ 15 → unless_refused o s (with_session (result_of v) s) ≡ with_session (result_of v) s
        go none e k = refl
        go (some n) e k = absurd (no_15 n e k)

    -- by the place where the verdict is counted
    counted_at : (k : ℕ) → here k (result_of v) ≡ 1 → counts_after v s ≡ over (8 * k) (eight (count_at s k + 1)) s
    unfolding here with_session one_more
    counted_at k e = after_15 ∙ go (result_of v) e
      where
        go : (o : Option Result) → here k o ≡ 1 → with_session o s ≡ over (8 * k) (eight (count_at s k + 1)) s
        go none f = absurd (omega (arith, f))
        go (some r) f = at (eqb (place_of r) k) refl f
          where
            at : (t : Bool) → eqb (place_of r) k ≡ t → cond {A = ℕ} t 1 0 ≡ 1 → one_more (place_of r) s ≡ over (8 * k) (eight (count_at s k + 1)) s
            at true g j = ap (λ (i : ℕ). over (8 * i) (eight (count_at s i + 1)) s) (eqb-true (place_of r) k g)
            at false g j = absurd (omega (arith, j))

    pub success_counted : is_one_of (3 ∷ 4 ∷ 5 ∷ []) v ≡ true → counts_after v s ≡ over 0 (eight (count_at s 0 + 1)) s
    success_counted i = counted_at 0 (sym (here_success v) ∙ rw i)

    pub dnssec_counted : v ≡ 22 → counts_after v s ≡ over 8 (eight (count_at s 1 + 1)) s
    unfolding is_one_of any
    dnssec_counted i = counted_at 1 (sym (here_dnssec v) ∙ rw i)

    pub starttls_counted : v ≡ 24 → counts_after v s ≡ over 16 (eight (count_at s 2 + 1)) s
    unfolding is_one_of any
    starttls_counted i = counted_at 2 (sym (here_starttls v) ∙ rw i)

    pub validation_counted : is_one_of (23 ∷ 25 ∷ 26 ∷ 27 ∷ 28 ∷ []) v ≡ true → counts_after v s ≡ over 24 (eight (count_at s 3 + 1)) s
    validation_counted i = counted_at 3 (sym (here_validation v) ∙ rw i)

-- ---- the summary
summary_passes : (s : List ℕ) → eqb (length s) 32 ≡ true → leb (four_total s) 1000000000 ≡ true → refusal_of (summary_checks s) ≡ none
unfolding refusal_of summary_checks
summary_passes s a b = rw (a, total_is s, b)

module _ (s : List ℕ) where
  -- its text, of the first count and the other three
  summary_is : summary_of s ≡ summary_text (count_at s 0) (count_at s 1 + count_at s 2 + count_at s 3)
  unfolding failures_of
  summary_is = refl

  module _ (room : ℕ) where
    abbrev summary_fits : Bool
    summary_fits = leb (length (summary_text (count_at s 0) (count_at s 1 + count_at s 2 + count_at s 3))) room

    -- the number, in the order 74, 73, 83; else 15
    pub summary_number : (report_summary_answer s room).number ≡ cond (eqb (length s) 32) (cond (leb (four_total s) 1000000000) (cond summary_fits 15 83) 73) 74
    unfolding report_summary_answer write_answer answer_unless write_refusal refusal_of summary_checks
    summary_number = rw (← total_is s, ← summary_is) (go (eqb (length s) 32) (leb (total_of s) 1000000000) (leb (length (summary_of s)) room))
      where
        go : (a b c : Bool) → (answer_unless (cond a (cond b (cond c none (some 83)) (some 73)) (some 74)) (length (summary_of s))).number ≡ cond a (cond b (cond c 15 83) 73) 74
        go false b c = refl
        go true false c = refl
        go true true false = refl
        go true true true = refl

  -- 94 bytes are enough: no output of so many is too short
  pub summary_enough : (room : ℕ) → 94 ≤ room → eqb (report_summary_answer s room).number 83 ≡ false
  summary_enough room l = rw (summary_number room) (go (eqb (length s) 32) (leb (four_total s) 1000000000) refl)
    where
      fits : leb (four_total s) 1000000000 ≡ true → summary_fits room ≡ true
      fits e = le-leb (length (summary_text (count_at s 0) (count_at s 1 + count_at s 2 + count_at s 3))) room (omega (arith, l, summary_most (count_at s 0) (count_at s 1 + count_at s 2 + count_at s 3) (omega (arith, leb-true (four_total s) 1000000000 e))))

      go : (a b : Bool) → leb (four_total s) 1000000000 ≡ b → eqb (cond a (cond b (cond (summary_fits room) 15 83) 73) 74) 83 ≡ false
      go false b e = refl
      go true false e = refl
      go true true e = rw (fits e)

  module _ (out : List ℕ) where
    -- 15: the text stands at the front of the output, and the rest is as it was
    pub summary_wrote : (report_summary_answer s (length out)).number ≡ 15 → Wrote (summary_text (count_at s 0) (count_at s 1 + count_at s 2 + count_at s 3)) out (report_summary_answer s (length out)) (report_summary_output s out)
    unfolding report_summary_answer report_summary_output failures_of
    summary_wrote h = wrote (summary_checks s) (summary_of s) out passed.0 passed.1
      where
        go : (a b c : Bool) → cond {A = ℕ} a (cond b (cond c 15 83) 73) 74 ≡ 15 → (a ≡ true) × (b ≡ true) × (c ≡ true)
        go false b c e = absurd (omega (arith, e))
        go true false c e = absurd (omega (arith, e))
        go true true false e = absurd (omega (arith, e))
        go true true true e = (refl, refl, refl)

        three : (eqb (length s) 32 ≡ true) × (leb (four_total s) 1000000000 ≡ true) × (summary_fits (length out) ≡ true)
        three = go (eqb (length s) 32) (leb (four_total s) 1000000000) (summary_fits (length out)) (sym (summary_number (length out)) ∙ h)

        passed : (refusal_of (summary_checks s) ≡ none) × (length (summary_of s) ≤ length out)
        passed = (summary_passes s three.0 three.1, leb-true (length (summary_of s)) (length out) three.2)

    -- any other number: the output is as it was, and the length is 0
    pub summary_unwritten : ((report_summary_answer s (length out)).number ≡ 15 → ⊥) → (report_summary_output s out ≡ out) × ((report_summary_answer s (length out)).length ≡ 0)
    unfolding report_summary_answer report_summary_output
    summary_unwritten = not_written (summary_checks s) (summary_of s) out
