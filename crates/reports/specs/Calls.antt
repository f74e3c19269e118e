-- Document 02, No. 9: the calls. "another size is 74. Other verdicts aren't counted; a number that is no verdict (1 to 5, 20 to 28) is 63, checked first. From all zeros, each
-- count equals its verdicts in the day's history, for up to 1,000,000,000 in all; the next counted one is refused with 73, counts unchanged. Counts given that total more are
-- 73 in every call, after 63 and 74. Export the summary part of the JSON, without blanks .. Output too short is 83, output unchanged."
use Rattle.std.specs.Prelude.{ℕ, ◌+◌, Bool, true, List, [], ◌∷◌, ◌++◌, eqb, leb, ltb, length}
use Rattle.std.proofs.Math.Option.{Option, none, some}
use Rattle.lists.specs.Check.{Check, refusal_of}
use Rattle.lists.specs.Text.{text}
use Rattle.verdicts.specs.Verdicts.{is_verdict}
use Rattle.writing.specs.declared.WriteAnswer.{WriteAnswer}
use Rattle.writing.specs.Answer.{answer_unless, unless_refused, write_answer, write_output}
use Rattle.writing.specs.Decimal.{decimal}
use Rattle.reports.specs.Counts.{Result, result_of, place_of, count_at, total_of, one_more}

-- how many sessions are counted in all, at most
abbrev pub most_sessions : ℕ
most_sessions = 1000000000

-- what is checked of given counts in every call: their size, and then their total
abbrev pub size_check : List ℕ → Check
size_check counts = record { passes = eqb (length counts) 32; refusal = 74 }

abbrev pub total_check : List ℕ → Check
total_check counts = record { passes = leb (total_of counts) most_sessions; refusal = 73 }

-- ---- counting a session

-- there is room for one that is counted as this; one that isn't counted needs none
unfoldable pub has_room : Option Result → List ℕ → Bool
has_room none counts = true
has_room (some r) counts = ltb (total_of counts) most_sessions

-- what is checked, in this order
unfoldable pub count_checks : (verdict : ℕ) (counts : List ℕ) → List Check
count_checks verdict counts =
    record { passes = is_verdict verdict; refusal = 63 }
    ∷ size_check counts
    ∷ total_check counts
    ∷ record { passes = has_room (result_of verdict) counts; refusal = 73 }
    ∷ []

-- the answer: the counts are no output, so its length is 0
unfoldable pub report_count_answer : (verdict : ℕ) (counts : List ℕ) → WriteAnswer
report_count_answer verdict counts = answer_unless (refusal_of (count_checks verdict counts)) 0

-- the counts with a session that is counted as this
unfoldable pub with_session : Option Result → List ℕ → List ℕ
with_session none counts = counts
with_session (some r) counts = one_more (place_of r) counts

-- the counts afterwards
unfoldable pub counts_after : (verdict : ℕ) (counts : List ℕ) → List ℕ
counts_after verdict counts = unless_refused (refusal_of (count_checks verdict counts)) counts (with_session (result_of verdict) counts)

-- ---- the summary

-- its text, of so many successes and failures
unfoldable pub summary_text : (successes failures : ℕ) → List ℕ
summary_text successes failures =
    text "\"summary\":{\"total-successful-session-count\":"
    ++ (decimal successes
    ++ (text ",\"total-failure-session-count\":"
    ++ (decimal failures
    ++ text "}")))

-- the failures of all three types
unfoldable pub failures_of : List ℕ → ℕ
failures_of counts = count_at counts 1 + count_at counts 2 + count_at counts 3

-- the summary of some counts
abbrev pub summary_of : List ℕ → List ℕ
summary_of counts = summary_text (count_at counts 0) (failures_of counts)

-- what is checked before 83
unfoldable pub summary_checks : List ℕ → List Check
summary_checks counts = size_check counts ∷ total_check counts ∷ []

-- the answer, where the output has `room` bytes
unfoldable pub report_summary_answer : (counts : List ℕ) (room : ℕ) → WriteAnswer
report_summary_answer counts room = write_answer (summary_checks counts) (summary_of counts) room

-- the output afterwards
unfoldable pub report_summary_output : (counts out : List ℕ) → List ℕ
report_summary_output counts out = write_output (summary_checks counts) (summary_of counts) out
