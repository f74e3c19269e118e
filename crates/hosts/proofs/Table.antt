-- The numbers that the call answers, and its count. Assumes nothing.
use Prim.Native.Nat.{ℕ, ◌≤◌}
use mathlib.Core.Path.{◌≡◌, refl, sym, ◌∙◌, ap}
use mathlib.Core.Bool.{Bool, true, ◌||◌}
use native.Mathlib.Omega.{arith}
use lib.Dec.{T, eqb, leb}
use borrow.Author.Tests.{leb-true, eqb-true}
use Rattle.lists.specs.Bytes.{within}
use Rattle.lists.proofs.Bools.{apart, and_right, holds, by_cond, or_left, or_right, or_elim}
use Rattle.verdicts.specs.Verdicts.{is_delivery, is_next_host, is_verdict}
use Rattle.policies.proofs.Sanity.{is_policy_refusal}
use Rattle.hosts.specs.declared.HostAnswer.{HostAnswer}
use Rattle.hosts.specs.Facts.{Facts, later}
use Rattle.hosts.specs.Tree.{Outcome, final, missing, walk, answers_read}
use Rattle.hosts.specs.Rules.{rules}
use Rattle.hosts.specs.Arguments.{Arguments, facts_of}
use Rattle.hosts.specs.Call.{refused, outcome_answer, walked, host_answer}
use Rattle.hosts.specs.Demands.{is_refusal}
use Rattle.hosts.proofs.Trees.{Comes, comes}
use Rattle.hosts.proofs.Shape.{is_question, verdict_no_refusal, question_no_refusal, is_early, each_rules, at_most_two, unread}
use Rattle.hosts.proofs.Accepted.{by_answer_of}

-- the answers of document 01's table that this call gives, with 28: 1 to 5, 10 to 14, 20 to 28, 50, 52 to 57, 60 to 62, 64 to 67
abbrev pub is_answer : ℕ → Bool
is_answer n = is_verdict n || (within 10 14 n || (is_policy_refusal n || (within 60 62 n || within 64 67 n)))

-- what is said of the walk's answer, by what the walk comes to: a verdict, 66, or a question
by_walk : (P : HostAnswer → Type 0) (g : Facts)
    → ((v : ℕ) → is_verdict v ≡ true → walk (rules g.base) g ≡ final v → P (record { number = v; tlsa_questions = answers_read (rules g.base) g }))
    → P (refused 66)
    → ((n : ℕ) → is_question n ≡ true → P (record { number = n; tlsa_questions = answers_read (rules g.base) g }))
    → P (walked g)
by_walk P g f r q = go (walk (rules g.base) g) refl (comes is_verdict is_question (rules g.base) g (each_rules g.base))
  where
    go : (o : Outcome) → walk (rules g.base) g ≡ o → Comes is_verdict is_question o → P (outcome_answer g (answers_read (rules g.base) g) o)
    go (final v) e h = f v h e
    go (missing m) e h = by_cond P (later m.fact g) (λ l. r) (λ l. q m.number h)

-- what is said of every answer: of a refusal 50, 52 to 57, 60 to 62, 64 to 67, of a verdict and of a question
abbrev is_checked : ℕ → Bool
is_checked n = is_policy_refusal n || (within 60 62 n || within 64 67 n)

by_kind : (P : HostAnswer → Type 0) (a : Arguments)
    → ((n : ℕ) → is_checked n ≡ true → P (refused n))
    → ((v : ℕ) → is_verdict v ≡ true → walk (rules (facts_of a).base) (facts_of a) ≡ final v → P (record { number = v; tlsa_questions = answers_read (rules (facts_of a).base) (facts_of a) }))
    → ((n : ℕ) → is_question n ≡ true → P (record { number = n; tlsa_questions = answers_read (rules (facts_of a).base) (facts_of a) }))
    → P (host_answer a)
by_kind P a r v q = by_answer_of is_checked refl (λ n h. or_left (is_policy_refusal n) (within 60 62 n || within 64 67 n) h) a P r (λ p. by_walk P (facts_of a) v (r 66 refl) q)

-- every answer is one of the table
pub in_table : (a : Arguments) → is_answer (host_answer a).number ≡ true
in_table a = by_kind (λ (r : HostAnswer). is_answer r.number ≡ true) a
    (λ n h. or_right (is_verdict n) (within 10 14 n || is_checked n) (or_right (within 10 14 n) (is_checked n) h))
    (λ v h e. or_left (is_verdict v) (within 10 14 v || is_checked v) h)
    (λ n h. or_right (is_verdict n) (within 10 14 n || is_checked n) (or_left (within 10 14 n) (is_checked n) h))

-- no answer is zero
pub never_zero : (a : Arguments) → (host_answer a).number ≡ 0 → ⊥
unfolding is_delivery is_next_host
never_zero a e = apart (sym (ap is_answer e) ∙ in_table a)

-- and none is 51
pub never_51 : (a : Arguments) → (host_answer a).number ≡ 51 → ⊥
unfolding is_delivery is_next_host
never_51 a e = apart (sym (ap is_answer e) ∙ in_table a)

-- a question is none of 20, 21 and 23
question_not_early : (n : ℕ) → is_question n ≡ true → is_early n ≡ true → ⊥
question_not_early n q e =
    let u = leb-true n 14 (and_right (leb 10 n) (leb n 14) q) in
    or_elim (eqb n 20 || eqb n 21) (eqb n 23)
    (or_elim (eqb n 20) (eqb n 21) (λ t. omega (arith, u, eqb-true n 20 t)) (λ t. omega (arith, u, eqb-true n 21 t)))
    (λ t. omega (arith, u, eqb-true n 23 t)) e

-- a refusal counts 0
pub refusal_counts_none : (a : Arguments) → T (is_refusal (host_answer a).number) → (host_answer a).tlsa_questions ≡ 0
refusal_counts_none a = by_kind (λ (r : HostAnswer). T (is_refusal r.number) → r.tlsa_questions ≡ 0) a
    (λ n h t. refl)
    (λ v h e t. absurd (verdict_no_refusal v h (holds (is_refusal v) t)))
    (λ n h t. absurd (question_no_refusal n h (holds (is_refusal n) t)))

-- 20, 21 and 23 count 0
pub early_counts_none : (a : Arguments) → T (is_early (host_answer a).number) → (host_answer a).tlsa_questions ≡ 0
early_counts_none a = by_kind (λ (r : HostAnswer). T (is_early r.number) → r.tlsa_questions ≡ 0) a
    (λ n h t. refl)
    (λ v h e t. unread (facts_of a).base (facts_of a) v e (holds (is_early v) t))
    (λ n h t. absurd (question_not_early n h (holds (is_early n) t)))

-- the count is never above two
pub at_most_two_counted : (a : Arguments) → (host_answer a).tlsa_questions ≤ 2
at_most_two_counted a = by_kind (λ (r : HostAnswer). r.tlsa_questions ≤ 2) a
    (λ n h. omega arith)
    (λ v h e. at_most_two (facts_of a).base (facts_of a))
    (λ n h. at_most_two (facts_of a).base (facts_of a))
