-- Document 02's example, a day of sessions, and limits, by computation. Assumes nothing.
use mathlib.Core.Path.{◌≡◌, refl}
use mathlib.Core.List.{[], ◌∷◌, ◌++◌}
use lib.ListN.{length, replicate}
use Rattle.lists.specs.Check.{refusal_of}
use Rattle.lists.specs.Numerals.{value_of}
use Rattle.lists.specs.Text.{text}
use Rattle.lists.specs.Write.{wrote_front}
use Rattle.numbers.specs.Numbers.{sum, eight}
use Rattle.verdicts.specs.Verdicts.{is_delivery, is_next_host}
use Rattle.writing.specs.Answer.{refusal, success, answer_unless, unless_refused, write_refusal, write_output}
use Rattle.writing.specs.Decimal.{decimal, decimal_in}
use Rattle.writing.specs.Over.{over}
use Rattle.reports.specs.Counts.{result_of, place_of, count_at, counts_of, total_of, one_more}
use Rattle.reports.specs.Calls.{has_room, count_checks, report_count_answer, with_session, counts_after, summary_text, failures_of, summary_checks, report_summary_output}
use Rattle.reports.specs.Day.{zeros, day_after}

-- for 5 and 2
example : summary_text 5 2 ≡ text "\"summary\":{\"total-successful-session-count\":5,\"total-failure-session-count\":2}"
unfolding summary_text decimal decimal_in
example = refl

-- sessions with 3, 22, 1, 28, 24, 5, 23 and 25, in bytes; 6 is no verdict
day_bytes : day_after (3 ∷ 22 ∷ 1 ∷ 28 ∷ 24 ∷ 5 ∷ 23 ∷ 6 ∷ 25 ∷ []) zeros ≡ replicate 7 0 ++ (2 ∷ replicate 7 0 ++ (1 ∷ replicate 7 0 ++ (1 ∷ replicate 7 0 ++ (3 ∷ []))))
unfolding day_after counts_after with_session unless_refused refusal_of count_checks has_room is_delivery is_next_host result_of place_of count_at counts_of total_of one_more value_of sum eight over wrote_front
day_bytes = refl

-- its summary
day_summary : report_summary_output (replicate 7 0 ++ (2 ∷ replicate 7 0 ++ (1 ∷ replicate 7 0 ++ (1 ∷ replicate 7 0 ++ (3 ∷ []))))) (replicate 80 46) ≡ text "\"summary\":{\"total-successful-session-count\":2,\"total-failure-session-count\":5}.."
unfolding report_summary_output write_output unless_refused write_refusal refusal_of summary_checks summary_text failures_of count_at counts_of total_of value_of sum decimal decimal_in
day_summary = refl

-- high first: a count of 255 becomes 256, and nothing else is written
carried : counts_after 22 (replicate 15 0 ++ (255 ∷ replicate 16 0)) ≡ replicate 14 0 ++ (1 ∷ 0 ∷ replicate 16 0)
unfolding counts_after with_session unless_refused refusal_of count_checks has_room is_delivery is_next_host result_of place_of count_at counts_of total_of one_more value_of sum eight over wrote_front
carried = refl

-- 999,999,999 is one below the most, 1,000,000,000 the most (3B 9A C9 FF and 3B 9A CA 00)
one_below : counts_after 28 (replicate 28 0 ++ (0x3B ∷ 0x9A ∷ 0xC9 ∷ 0xFF ∷ [])) ≡ replicate 28 0 ++ (0x3B ∷ 0x9A ∷ 0xCA ∷ 0x00 ∷ [])
unfolding counts_after with_session unless_refused refusal_of count_checks has_room is_delivery is_next_host result_of place_of count_at counts_of total_of one_more value_of sum eight over wrote_front
one_below = refl

at_most : (report_count_answer 28 (replicate 28 0 ++ (0x3B ∷ 0x9A ∷ 0xCA ∷ 0x00 ∷ [])) ≡ refusal 73) × (report_count_answer 2 (replicate 28 0 ++ (0x3B ∷ 0x9A ∷ 0xCA ∷ 0x00 ∷ [])) ≡ success 0)
unfolding report_count_answer answer_unless refusal_of count_checks has_room is_delivery is_next_host result_of count_at counts_of total_of value_of sum
at_most = (refl, refl)

-- one above it, and four counts of 2 ^ 64 - 1: 73 also for a verdict that isn't counted; and 63 and 74 before it
above_most : (report_count_answer 2 (replicate 28 0 ++ (0x3B ∷ 0x9A ∷ 0xCA ∷ 0x01 ∷ [])) ≡ refusal 73) × (report_count_answer 2 (replicate 32 255) ≡ refusal 73) × (report_count_answer 29 (replicate 33 255) ≡ refusal 63) × (report_count_answer 2 (replicate 33 255) ≡ refusal 74)
unfolding report_count_answer answer_unless refusal_of count_checks has_room is_delivery is_next_host result_of count_at counts_of total_of value_of sum
above_most = (refl, refl, refl, refl)

-- the longest summary has 94 bytes
longest : length (summary_text 500000000 500000000) ≡ 94
unfolding summary_text decimal decimal_in
longest = refl
