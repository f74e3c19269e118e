-- What `report_count` returns and leaves, path by path. Assumes nothing.
use Prim.Native.Nat.{ℕ, ◌+◌, ◌*◌, ◌<◌, ◌≤◌}
use mathlib.Core.Path.{◌≡◌, refl, sym, ap, ◌∙◌}
use mathlib.Core.Bool.{Bool, true, false, cond}
use mathlib.Core.List.{List}
use mathlib.Core.Option.{Option, none, some}
use native.Mathlib.Nat.{zero-add}
use native.Mathlib.Omega.{arith}
use Prim.Native.Nat.{min}
use Rattle.std.specs.Prelude.{Some, None}
use Rattle.std.specs.Prelude as Std
use lib.Dec.{leb}
use lib.ListN.{length}
use borrow.Author.Rules.{rules}
use borrow.Author.Tests.{not-true, not-false, le-leb, lt-leb, lt-ltb, le-ltb, eq-eqb, ne_eqb, leb-true, leb-false}
use Rattle.lists.specs.Check.{refusal_of}
use Rattle.numbers.specs.Numbers.{eight}
use Rattle.verdicts.specs.Verdicts.{is_verdict}
use Rattle.writing.specs.declared.WriteAnswer.{WriteAnswer}
use Rattle.writing.specs.Answer.{refusal, success, answer_unless, unless_refused}
use Rattle.writing.specs.Over.{over}
use Rattle.reports.specs.Counts.{Result, result_of, count_at, total_of, one_more}
use Rattle.reports.specs.Calls.{most_sessions, has_room, count_checks, report_count_answer, with_session, counts_after, failures_of}
use Rattle.reports.specs.Steps.{place_in, capped}
use Rattle.reports.proofs.Counts.{total_parts}
use Rattle.reports.proofs.Places.{is_uncounted, is_counted}

-- `plus`
pub plus_is : (a b : ℕ) → capped (a + b) ≡ min (min (a + b) 18446744073709551615) 1000000001
unfolding capped
plus_is a b = go (leb (a + b) most_sessions) refl
  where
    go : (t : Bool) → leb (a + b) most_sessions ≡ t → cond t (a + b) 1000000001 ≡ min (min (a + b) 18446744073709551615) 1000000001
    go true q = omega (arith, leb-true (a + b) most_sessions q)
    go false q = omega (arith, leb-false (a + b) most_sessions q)

-- the most, once passed, stays so
pub capped_plus : (n m : ℕ) → capped (capped n + m) ≡ capped (n + m)
unfolding capped
capped_plus n m = go (leb n most_sessions) refl
  where
    go : (t : Bool) → leb n most_sessions ≡ t → capped (cond t n 1000000001 + m) ≡ capped (n + m)
    go true e = refl
    go false e =
        let h : most_sessions < n = leb-false n most_sessions e in
        rw (lt-leb (1000000001 + m) most_sessions (omega arith), lt-leb (n + m) most_sessions (omega arith))

-- the sum of two that are capped
capped_both : (n m : ℕ) → capped (capped n + capped m) ≡ capped (n + m)
capped_both n m =
    let a : n + capped m ≡ capped m + n = omega arith in
    let b : m + n ≡ n + m = omega arith in
    capped_plus n (capped m) ∙ (ap capped a ∙ (capped_plus m n ∙ ap capped b))

-- `successes`, `failures` and `total`
pub successes_are : (a : ℕ) → capped (0 + a) ≡ capped a
successes_are a = rw (zero-add a)

pub failures_are : (s : List ℕ) → capped (capped (count_at s 1 + count_at s 2) + count_at s 3) ≡ capped (failures_of s)
unfolding failures_of
failures_are s = capped_plus (count_at s 1 + count_at s 2) (count_at s 3)

pub total_are : (s : List ℕ) → capped (capped (count_at s 0) + capped (failures_of s)) ≡ capped (total_of s)
total_are s = capped_both (count_at s 0) (failures_of s) ∙ ap capped (sym (total_parts s))

pub ruleset total_laws = (successes_are, failures_are, capped_plus, total_are)

-- a number up to the most is itself
pub capped_small : (n : ℕ) → n ≤ most_sessions → capped n ≡ n
unfolding capped
capped_small n h = rw (le-leb n most_sessions h)

-- what such a number says
module _ (t n : ℕ) (is : n ≡ capped t) where
  pub capped_over : most_sessions < n → most_sessions < t
  unfolding capped
  capped_over h = go (leb t most_sessions) refl is
    where
      go : (b : Bool) → leb t most_sessions ≡ b → n ≡ cond b t 1000000001 → most_sessions < t
      go true e c = omega arith
      go false e c = leb-false t most_sessions e

  pub capped_exact : n ≤ most_sessions → t ≡ n
  unfolding capped
  capped_exact h = go (leb t most_sessions) refl is
    where
      go : (b : Bool) → leb t most_sessions ≡ b → n ≡ cond b t 1000000001 → t ≡ n
      go true e c = sym c
      go false e c = absurd (omega arith)

-- `add_one`
pub one_more_lem : (s : List ℕ) (k n : ℕ) (b y : List ℕ) → n ≡ count_at s k + 1 → b ≡ eight n → y ≡ over (8 * k) b s → y ≡ one_more k s
unfolding one_more
one_more_lem s k n b y e p q = q ∙ rw (p, e)

-- `report_count`: g, n and k are what its calls gave
module _ (v : ℕ) (s : List ℕ) where
  told : (n : ℕ) → refusal_of (count_checks v s) ≡ some n → (r : WriteAnswer) → r ≡ refusal n → r ≡ report_count_answer v s
  unfolding report_count_answer answer_unless
  told n e r h = rw e h

  kept : (n : ℕ) → refusal_of (count_checks v s) ≡ some n → s ≡ counts_after v s
  unfolding counts_after unless_refused
  kept n e = rw e

  done : refusal_of (count_checks v s) ≡ none → (r : WriteAnswer) → r ≡ success 0 → r ≡ report_count_answer v s
  unfolding report_count_answer answer_unless
  done e r h = rw e h

  left : refusal_of (count_checks v s) ≡ none → counts_after v s ≡ with_session (result_of v) s
  unfolding counts_after unless_refused
  left e = rw e

  module _ (g : Bool) (gave : g ≡ is_verdict v) where
    module _ (t : g ≡ false) where
      no_verdict : refusal_of (count_checks v s) ≡ some 63
      unfolding refusal_of count_checks
      no_verdict = rw (sym gave ∙ t)

      pub no_verdict_told : (r : WriteAnswer) → r ≡ refusal 63 → r ≡ report_count_answer v s
      no_verdict_told = told 63 no_verdict

      pub no_verdict_kept : s ≡ counts_after v s
      no_verdict_kept = kept 63 no_verdict

    module _ (t : g ≡ true) where
      module _ (h : length s ≡ 32 → ⊥) where
        other_size : refusal_of (count_checks v s) ≡ some 74
        unfolding refusal_of count_checks
        other_size = rw (sym gave ∙ t, ne_eqb (length s) 32 h)

        pub size_told : (r : WriteAnswer) → r ≡ refusal 74 → r ≡ report_count_answer v s
        size_told = told 74 other_size

        pub size_kept : s ≡ counts_after v s
        size_kept = kept 74 other_size

      module _ (size : length s ≡ 32) (n : ℕ) (is : n ≡ capped (total_of s)) where
        module _ (h : most_sessions < n) where
          over_most : refusal_of (count_checks v s) ≡ some 73
          unfolding refusal_of count_checks
          over_most = rw (sym gave ∙ t, eq-eqb (length s) 32 size, lt-leb (total_of s) most_sessions (capped_over (total_of s) n is h))

          pub over_told : (r : WriteAnswer) → r ≡ refusal 73 → r ≡ report_count_answer v s
          over_told = told 73 over_most

          pub over_kept : s ≡ counts_after v s
          over_kept = kept 73 over_most

        module _ (h : n ≤ most_sessions) (p : Std.Option ℕ) (placed : p ≡ place_in (result_of v)) where
          exact : total_of s ≡ n
          exact = capped_exact (total_of s) n is h

          last_check : refusal_of (count_checks v s) ≡ cond (has_room (result_of v) s) none (some 73)
          unfolding refusal_of count_checks
          last_check = rw (sym gave ∙ t, eq-eqb (length s) 32 size, le-leb (total_of s) most_sessions (omega (arith, exact, h)))

          module _ (l : p ≡ None) where
            none_is : result_of v ≡ none
            none_is = is_uncounted (result_of v) (sym l ∙ placed)

            uncounted : refusal_of (count_checks v s) ≡ none
            unfolding has_room
            uncounted = last_check ∙ rw none_is

            pub uncounted_told : (r : WriteAnswer) → r ≡ success 0 → r ≡ report_count_answer v s
            uncounted_told = done uncounted

            pub uncounted_kept : s ≡ counts_after v s
            unfolding with_session
            uncounted_kept = sym (left uncounted ∙ rw none_is)

          module _ (k : ℕ) (l : p ≡ Some k) where
            module _ (m : most_sessions ≤ n) where
              full : refusal_of (count_checks v s) ≡ some 73
              unfolding has_room
              full = last_check ∙ is_counted (result_of v) k (sym l ∙ placed) (λ (o : Option Result). cond {A = Option ℕ} (has_room o s) none (some 73) ≡ some 73) (λ r e. rw (le-ltb (total_of s) most_sessions (omega (arith, exact, m))))

              pub full_told : (r : WriteAnswer) → r ≡ refusal 73 → r ≡ report_count_answer v s
              full_told = told 73 full

              pub full_kept : s ≡ counts_after v s
              full_kept = kept 73 full

            module _ (m : n < most_sessions) where
              counted : refusal_of (count_checks v s) ≡ none
              unfolding has_room
              counted = last_check ∙ is_counted (result_of v) k (sym l ∙ placed) (λ (o : Option Result). cond {A = Option ℕ} (has_room o s) none (some 73) ≡ none) (λ r e. rw (lt-ltb (total_of s) most_sessions (omega (arith, exact, m))))

              pub counted_told : (r : WriteAnswer) → r ≡ success 0 → r ≡ report_count_answer v s
              counted_told = done counted

              pub counted_left : (y : List ℕ) → y ≡ one_more k s → y ≡ counts_after v s
              unfolding with_session
              counted_left y w = w ∙ sym (left counted ∙ is_counted (result_of v) k (sym l ∙ placed) (λ (o : Option Result). with_session o s ≡ one_more k s) (λ r e. ap (λ (j : ℕ). one_more j s) e))

pub count_room : (s : List ℕ) (n : ℕ) → n ≡ capped (total_of s) → n < most_sessions → total_of s < most_sessions
count_room s n is h = omega (arith, h, capped_exact (total_of s) n is (omega (arith, h)))

pub ruleset report_laws = (no_verdict_told, no_verdict_kept, size_told, size_kept, over_told, over_kept, uncounted_told, uncounted_kept, full_told, full_kept, counted_told, counted_left, count_room, not-true, not-false, rules)
