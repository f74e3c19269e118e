-- A reader that looks for a member of the JSON by its name, and takes the digits after it, finds the two numbers in the summary. Assumes nothing.
use Prim.Native.Nat.{ℕ, ◌+◌}
use mathlib.Core.Path.{◌≡◌, refl, ap, ◌∙◌}
use mathlib.Core.Bool.{Bool, true, false, cond, ◌&&◌}
use mathlib.Core.List.{List, [], ◌∷◌, ◌++◌}
use native.Mathlib.Omega.{arith}
use lib.Dec.{eqb}
use lib.ListN.{length, take, drop}
use borrow.Author.Tests.{ne_eqb}
use Rattle.lists.specs.Bytes.{within, all}
use Rattle.lists.specs.Numerals.{is_digit, decimal_after}
use Rattle.lists.specs.Text.{text}
use Rattle.lists.proofs.Bools.{and_left, and_right}
use Rattle.lists.proofs.Laws.{within_true}
use Rattle.writing.specs.Decimal.{decimal}
use Rattle.writing.proofs.Digits.{decimal_digits, decimal_reads}
use Rattle.reports.specs.Counts.{count_at}
use Rattle.reports.specs.Calls.{summary_text, report_summary_answer, report_summary_output}
use Rattle.reports.proofs.Exactly.{summary_wrote}

-- s begins with t
unfoldable pub begins : (t s : List ℕ) → Bool
begins [] s = true
begins (a ∷ t) [] = false
begins (a ∷ t) (b ∷ s) = eqb a b && begins t s

-- what follows the first t in s
unfoldable pub following : (t s : List ℕ) → List ℕ
following t [] = []
following t (b ∷ s) = cond (begins t (b ∷ s)) (drop (length t) (b ∷ s)) (following t s)

-- the digits at the front of s
unfoldable pub digits_at : List ℕ → List ℕ
digits_at [] = []
digits_at (b ∷ s) = cond (is_digit b) (b ∷ digits_at s) []

-- the number of a member: the digits after its name in quotes and a colon
unfoldable pub member_number : (member s : List ℕ) → ℕ
member_number member s = decimal_after 0 (digits_at (following member s))

-- no digit is a quote, so that none begins a member's name
past_digits : (t ds s : List ℕ) → all is_digit ds ≡ true → following (34 ∷ t) (ds ++ s) ≡ following (34 ∷ t) s
unfolding all is_digit following begins
past_digits t [] s h = refl
past_digits t (d ∷ ds) s h =
    let low = within_true 48 57 d (and_left (within 48 57 d) (all is_digit ds) h) in
    rw (ne_eqb 34 d (λ e. omega (arith, e, low.0))) (past_digits t ds s (and_right (within 48 57 d) (all is_digit ds) h))

-- the digits before a byte that is none
digits_before : (ds : List ℕ) (b : ℕ) (s : List ℕ) → all is_digit ds ≡ true → is_digit b ≡ false → digits_at (ds ++ (b ∷ s)) ≡ ds
unfolding all digits_at
digits_before [] b s h n = rw n
digits_before (d ∷ ds) b s h n = rw (and_left (is_digit d) (all is_digit ds) h, digits_before ds b s (and_right (is_digit d) (all is_digit ds) h) n)

module _ (s f : ℕ) where
  after_successes : following (text "\"total-successful-session-count\":") (summary_text s f) ≡ decimal s ++ (text ",\"total-failure-session-count\":" ++ (decimal f ++ text "}"))
  unfolding summary_text following begins
  after_successes = refl

  after_failures : following (text "\"total-failure-session-count\":") (summary_text s f) ≡ decimal f ++ text "}"
  unfolding summary_text following begins
  after_failures = past_digits (text "total-failure-session-count\":") (decimal s) (text ",\"total-failure-session-count\":" ++ (decimal f ++ text "}")) (decimal_digits s)

  pub reads_successes : member_number (text "\"total-successful-session-count\":") (summary_text s f) ≡ s
  unfolding member_number is_digit
  reads_successes = ap (λ (t : List ℕ). decimal_after 0 (digits_at t)) after_successes ∙ (ap (decimal_after 0) (digits_before (decimal s) 44 (text "\"total-failure-session-count\":" ++ (decimal f ++ text "}")) (decimal_digits s) refl) ∙ decimal_reads s)

  pub reads_failures : member_number (text "\"total-failure-session-count\":") (summary_text s f) ≡ f
  unfolding member_number is_digit
  reads_failures = ap (λ (t : List ℕ). decimal_after 0 (digits_at t)) after_failures ∙ (ap (decimal_after 0) (digits_before (decimal f) 125 [] (decimal_digits f) refl) ∙ decimal_reads f)

-- so what the call wrote has the first count, and the sum of the other three
module _ (c out : List ℕ) (done : (report_summary_answer c (length out)).number ≡ 15) where
  -- what it wrote
  abbrev written : List ℕ
  written = take (report_summary_answer c (length out)).length (report_summary_output c out)

  written_is : written ≡ summary_text (count_at c 0) (count_at c 1 + count_at c 2 + count_at c 3)
  written_is = let w = summary_wrote c out done in ap (λ (n : ℕ). take n (report_summary_output c out)) w.size ∙ w.front

  pub summary_successes : member_number (text "\"total-successful-session-count\":") written ≡ count_at c 0
  summary_successes = ap (member_number (text "\"total-successful-session-count\":")) written_is ∙ reads_successes (count_at c 0) (count_at c 1 + count_at c 2 + count_at c 3)

  pub summary_failures : member_number (text "\"total-failure-session-count\":") written ≡ count_at c 1 + count_at c 2 + count_at c 3
  summary_failures = ap (member_number (text "\"total-failure-session-count\":")) written_is ∙ reads_failures (count_at c 0) (count_at c 1 + count_at c 2 + count_at c 3)
