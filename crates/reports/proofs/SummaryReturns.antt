-- What `report_summary` returns and leaves, path by path. Assumes nothing.
use Prim.Native.Nat.{ℕ, ◌+◌, ◌<◌, ◌≤◌}
use mathlib.Core.Path.{◌≡◌, refl, sym, ap, ◌∙◌}
use mathlib.Core.Bool.{Bool, true, false}
use mathlib.Core.List.{List, ◌++◌}
use mathlib.Core.Option.{none, some}
use native.Mathlib.Omega.{arith}
use lib.Dec.{leb}
use lib.ListN.{length, length-append}
use borrow.Author.Rules.{rules}
use borrow.Author.Tests.{not-true, not-false, le-leb, lt-leb, eq-eqb, ne_eqb, leb-true, leb-false}
use Rattle.lists.specs.Check.{refusal_of}
use Rattle.lists.specs.Text.{text}
use Rattle.writing.specs.declared.WriteAnswer.{WriteAnswer}
use Rattle.writing.specs.Answer.{refusal, success}
use Rattle.writing.specs.Decimal.{decimal}
use Rattle.writing.specs.Over.{over}
use Rattle.writing.proofs.Decimal.{decimal_most}
use Rattle.writing.proofs.Over.{step_is, step_fits}
use Rattle.writing.proofs.WriteReturns.{refused_answer, refused_kept, short_answer, short_kept, done_answer, done_written}
use Rattle.reports.specs.Counts.{count_at, total_of}
use Rattle.reports.specs.Calls.{most_sessions, summary_text, failures_of, summary_of, summary_checks, report_summary_answer, report_summary_output}
use Rattle.reports.specs.Steps.{capped}
use Rattle.reports.proofs.Counts.{total_parts}
use Rattle.reports.proofs.CountReturns.{total_are, capped_over, capped_exact, capped_small}

-- `digits` and `put_sessions`
pub digits_most : (n r : ℕ) → r ≡ length (decimal n) → n ≤ most_sessions → r ≤ 10
digits_most n r e h = omega (arith, decimal_most 9 n (omega arith))

pub ruleset digits_laws = (digits_most, rules)

-- the text before the successes, and the text between them and the failures
abbrev before : List ℕ
before = text "\"summary\":{\"total-successful-session-count\":"

abbrev between : List ℕ
between = text ",\"total-failure-session-count\":"

-- the summary has 76 bytes and the digits of its numbers
pub summary_size : (s f : ℕ) → length (summary_text s f) ≡ 76 + length (decimal s) + length (decimal f)
unfolding summary_text
summary_size s f = omega (arith, length-append (decimal s) (between ++ (decimal f ++ text "}")), length-append (decimal f) (text "}"))

-- and 94 at most: a number of ten digits leaves none for the other
pub summary_most : (s f : ℕ) → s + f ≤ most_sessions → length (summary_text s f) ≤ 94
summary_most s f h = go (leb s 999999999) refl (leb f 999999999) refl
  where
    small : (n : ℕ) → leb n 999999999 ≡ true → length (decimal n) ≤ 9
    small n e = decimal_most 8 n (omega (arith, leb-true n 999999999 e))

    large : (n : ℕ) → n ≤ most_sessions → length (decimal n) ≤ 10
    large n l = decimal_most 9 n (omega (arith, l))

    zero_one : (n : ℕ) → n ≤ 0 → length (decimal n) ≤ 1
    zero_one n l = decimal_most 0 n (omega (arith, l))

    go : (a : Bool) → leb s 999999999 ≡ a → (b : Bool) → leb f 999999999 ≡ b → length (summary_text s f) ≤ 94
    go true p true q = omega (arith, summary_size s f, small s p, small f q)
    go true p false q = omega (arith, summary_size s f, large f (omega (arith, h)), zero_one s (omega (arith, h, leb-false f 999999999 q)))
    go false p b q = omega (arith, summary_size s f, large s (omega (arith, h)), zero_one f (omega (arith, h, leb-false s 999999999 p)))

-- `summary_fits`
module _ (s f room : ℕ) where
  pub fits_all : s + f ≤ most_sessions → 94 ≤ room → true ≡ leb (length (summary_text s f)) room
  fits_all h l = sym (le-leb (length (summary_text s f)) room (omega (arith, l, summary_most s f h)))

  pub fits_measured : (m n : ℕ) → m ≡ length (decimal s) → n ≡ length (decimal f) → leb (76 + m + n) room ≡ leb (length (summary_text s f)) room
  fits_measured m n p q = ap (λ (z : ℕ). leb z room) (omega (arith, p, q, summary_size s f))

pub ruleset fits_laws = (fits_all, fits_measured, rules)

-- `write_summary`: m and n are what `put_decimal` gave
module _ (s f m n : ℕ) (ms : m ≡ length (decimal s)) (nf : n ≡ length (decimal f)) where
  pub written_size : 44 + m + 31 + n + 1 ≡ length (summary_text s f)
  written_size = omega (arith, ms, nf, summary_size s f)

  pub summary_written : (out v w x y z : List ℕ) → length (summary_text s f) ≤ length out → v ≡ over 0 before out → w ≡ over 44 (decimal s) v → x ≡ over (44 + m) between w → y ≡ over (44 + m + 31) (decimal f) x → z ≡ over (44 + m + 31 + n) (text "}") y → z ≡ over 0 (summary_text s f) out
  unfolding summary_text
  summary_written out v w x y z h e₁ e₂ e₃ e₄ e₅ =
      let t₃ : List ℕ = decimal f ++ text "}" in
      let t₂ : List ℕ = between ++ t₃ in
      let t₁ : List ℕ = decimal s ++ t₂ in
      let h₀ : 0 + length (before ++ t₁) ≤ length out = omega (arith, h) in
      let h₁ : 44 + length t₁ ≤ length v = step_fits 0 44 before t₁ out v e₁ refl h₀ in
      let h₂ : 44 + m + length t₂ ≤ length w = step_fits 44 (44 + m) (decimal s) t₂ v w e₂ (omega arith) h₁ in
      let h₃ : 44 + m + 31 + length t₃ ≤ length x = step_fits (44 + m) (44 + m + 31) between t₃ w x e₃ refl h₂ in
      sym
      (step_is 0 44 before t₁ out v e₁ refl h₀
      ∙ (step_is 44 (44 + m) (decimal s) t₂ v w e₂ (omega arith) h₁
      ∙ (step_is (44 + m) (44 + m + 31) between t₃ w x e₃ refl h₂
      ∙ (step_is (44 + m + 31) (44 + m + 31 + n) (decimal f) (text "}") x y e₄ (omega arith) h₃ ∙ sym e₅))))

pub ruleset write_laws = (written_size, summary_written, rules)

-- `report_summary`: a, f, n and g are what its calls gave
module _ (s : List ℕ) where
  module _ (h : length s ≡ 32 → ⊥) where
    other_size : refusal_of (summary_checks s) ≡ some 74
    unfolding refusal_of summary_checks
    other_size = rw (ne_eqb (length s) 32 h)

    module _ (out : List ℕ) where
      pub size_told : (r : WriteAnswer) → r ≡ refusal 74 → r ≡ report_summary_answer s (length out)
      unfolding report_summary_answer
      size_told = refused_answer (summary_checks s) (summary_of s) out 74 other_size

      pub size_kept : out ≡ report_summary_output s out
      unfolding report_summary_output
      size_kept = refused_kept (summary_checks s) (summary_of s) out 74 other_size

  module _ (size : length s ≡ 32) (a f n : ℕ) (is_a : a ≡ capped (count_at s 0)) (is_f : f ≡ capped (failures_of s)) (is_n : n ≡ capped (a + f)) where
    is_total : n ≡ capped (total_of s)
    is_total = rw (is_n, is_a, is_f) (total_are s)

    module _ (h : most_sessions < n) where
      over_most : refusal_of (summary_checks s) ≡ some 73
      unfolding refusal_of summary_checks
      over_most = rw (eq-eqb (length s) 32 size, lt-leb (total_of s) most_sessions (capped_over (total_of s) n is_total h))

      module _ (out : List ℕ) where
        pub over_told : (r : WriteAnswer) → r ≡ refusal 73 → r ≡ report_summary_answer s (length out)
        unfolding report_summary_answer
        over_told = refused_answer (summary_checks s) (summary_of s) out 73 over_most

        pub over_kept : out ≡ report_summary_output s out
        unfolding report_summary_output
        over_kept = refused_kept (summary_checks s) (summary_of s) out 73 over_most

    module _ (h : n ≤ most_sessions) where
      total_most : total_of s ≤ most_sessions
      total_most = omega (arith, h, capped_exact (total_of s) n is_total h)

      first : a ≡ count_at s 0
      first = is_a ∙ capped_small (count_at s 0) (omega (arith, total_most, total_parts s))

      others : f ≡ failures_of s
      others = is_f ∙ capped_small (failures_of s) (omega (arith, total_most, total_parts s))

      pub both_fit : a + f ≤ most_sessions
      both_fit = omega (arith, first, others, total_most, total_parts s)

      good : refusal_of (summary_checks s) ≡ none
      unfolding refusal_of summary_checks
      good = rw (eq-eqb (length s) 32 size, le-leb (total_of s) most_sessions total_most)

      is_text : summary_text a f ≡ summary_of s
      is_text = rw (first, others)

      module _ (out : List ℕ) (g : Bool) (gave : g ≡ leb (length (summary_text a f)) (length out)) where
        module _ (t : g ≡ false) where
          too_short : length out < length (summary_of s)
          too_short = rw (← is_text) (leb-false (length (summary_text a f)) (length out) (sym gave ∙ t))

          pub short_told : (r : WriteAnswer) → r ≡ refusal 83 → r ≡ report_summary_answer s (length out)
          unfolding report_summary_answer
          short_told = short_answer (summary_checks s) (summary_of s) out good too_short

          pub short_left : out ≡ report_summary_output s out
          unfolding report_summary_output
          short_left = short_kept (summary_checks s) (summary_of s) out good too_short

        module _ (t : g ≡ true) where
          pub text_fits : length (summary_text a f) ≤ length out
          text_fits = leb-true (length (summary_text a f)) (length out) (sym gave ∙ t)

          enough : length (summary_of s) ≤ length out
          enough = rw (← is_text) text_fits

          pub done_told : (z : ℕ) → z ≡ length (summary_text a f) → (r : WriteAnswer) → r ≡ success z → r ≡ report_summary_answer s (length out)
          unfolding report_summary_answer
          done_told z e r k = done_answer (summary_checks s) (summary_of s) out good enough r (k ∙ rw (e, is_text))

          pub done_left : (y : List ℕ) → y ≡ over 0 (summary_text a f) out → y ≡ report_summary_output s out
          unfolding report_summary_output
          done_left y e = done_written (summary_checks s) (summary_of s) out good enough y (e ∙ rw is_text)

pub ruleset summary_laws = (size_told, size_kept, over_told, over_kept, both_fit, short_told, short_left, text_fits, done_told, done_left, not-true, not-false, rules)
