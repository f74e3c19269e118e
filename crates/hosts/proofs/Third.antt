-- Demand 3. Assumes nothing.
use mathlib.Core.Path.{◌≡◌, refl, sym, ◌∙◌, ap, subst}
use mathlib.Core.Bool.{Bool, true, false, cond}
use mathlib.Core.Option.{some}
use lib.Dec.{T}
use Rattle.lists.proofs.Bools.{holds, by_true}
use Rattle.tlsa.specs.Answer.{absent}
use Rattle.verdicts.specs.Verdicts.{is_verdict}
use Rattle.hosts.specs.declared.HostAnswer.{HostAnswer}
use Rattle.hosts.specs.Facts.{Base, Fact, tlsa, first, second, starttls, handshake, certificates, Value, Facts, Full, given, value, later}
use Rattle.hosts.specs.Facts as F
use Rattle.hosts.specs.Tree.{Rules, Outcome, final, missing, walk, answers_read, reached, verdict_of}
use Rattle.hosts.specs.Rules.{rules}
use Rattle.hosts.specs.Arguments.{Arguments, base_of, facts_of, presented_in}
use Rattle.hosts.specs.Call.{refused, outcome_answer, walked, host_answer}
use Rattle.hosts.specs.Demands.{is_refusal, IsPassed, Keeps, or_else, full_of, first_missing, OneVerdict, Settled, Demand3}
use Rattle.hosts.proofs.Trees.{KeptBy, Says, says, counted, Comes, comes, Two, Differ, Leaves, leaves}
use Rattle.hosts.proofs.Values.{Ok, set_of, set_ok, nobody, nobody_ok}
use Rattle.hosts.proofs.Shape.{is_question, question_no_verdict, each_rules, at_most_two}
use Rattle.hosts.proofs.InOrder.{in_order}
use Rattle.hosts.proofs.TwoVerdicts.{matters_rules}
use Rattle.hosts.proofs.Accepted.{Passes, walks, accepted_passes, given_ok, host_ok, expanded_ok}
use Rattle.hosts.proofs.FullSets.{full_arguments, full_number, filled, filled_number, filled_keeps}

-- the value of a full set at a fact that its arguments give
full_value : (c : Arguments) (q : Fact) (v : Value q) → given (facts_of c) q ≡ some v → value (full_of c) q ≡ v
unfolding full_of
full_value c (tlsa first) v e = ap (λ m. or_else m absent) e
full_value c (tlsa second) v e = ap (λ m. or_else m absent) e
full_value c starttls v e = ap (λ m. or_else m false) e
full_value c handshake v e = ap (λ m. or_else m F.failed) e
full_value c certificates v e = ap (λ m. or_else m (presented_in c)) e

module _ (a : Arguments) (passed : IsPassed a) (p : Passes a) where
  abbrev tree : Rules
  tree = rules (base_of a)

  abbrev g : Facts
  g = facts_of a

  -- a full set that keeps the facts of a: its verdict, and its facts
  kept_number : (c : Arguments) → Keeps a c → (host_answer c).number ≡ verdict_of tree (full_of c)
  kept_number c k = full_number c k.full ∙ ap (λ (b : Base). verdict_of (rules b) (full_of c)) k.base

  kept : (c : Arguments) → Keeps a c → KeptBy g (full_of c)
  kept c k q v e = full_value c q v (k.keeps q v e)

  possible : (c : Arguments) × Keeps a c
  possible = (
    full_arguments a (filled a passed p (set_of absent false nobody) (set_ok absent false nobody tt nobody_ok)),
    filled_keeps a passed p (set_of absent false nobody) (set_ok absent false nobody tt nobody_ok),
  )

  -- two full sets with two verdicts
  not_one : Two Ok (Differ Ok tree g) → OneVerdict a → ⊥
  not_one t one = t.differ
      (sym (filled_number a passed p t.left t.left_ok)
      ∙ (one _ _ (filled_keeps a passed p t.left t.left_ok) (filled_keeps a passed p t.right t.right_ok)
      ∙ filled_number a passed p t.right t.right_ok))

  settled : (o : Outcome) → ((f : Full) → KeptBy g f → Says o (first_missing g (reached tree f)) (verdict_of tree f)) → Comes is_verdict is_question o → Leaves Ok o tree g
      → (T (is_refusal (outcome_answer g (answers_read tree g) o).number) → ⊥) → Settled a (outcome_answer g (answers_read tree g) o)
  settled (final v) s w x n = record {
    exactly = (λ t c d k l. is_verdict_lem c k ∙ sym (is_verdict_lem d l), λ t. by_true (is_verdict v) w);
    verdict = λ t c k. is_verdict_lem c k;
    question = λ t. absurd (t (by_true (is_verdict v) w));
    order = λ c k. in_order (base_of a) (full_of c);
    count = λ c k. counted tree g (full_of c) (kept c k);
    most = at_most_two (base_of a) g;
    possible = possible;
  }
    where
      is_verdict_lem : (c : Arguments) → Keeps a c → (host_answer c).number ≡ v
      is_verdict_lem c k = kept_number c k ∙ (s (full_of c) (kept c k)).0
  settled (missing q) s w x n = go (later q.fact g) refl n
    where
      go : (l : Bool) → later q.fact g ≡ l
          → (T (is_refusal (cond l (refused 66) (record { number = q.number; tlsa_questions = answers_read tree g })).number) → ⊥)
          → Settled a (cond l (refused 66) (record { number = q.number; tlsa_questions = answers_read tree g }))
      go true l n = absurd (n tt)
      go false l n = record {
        exactly = (λ t. absurd (question_no_verdict q.number w (holds (is_verdict q.number) t)), λ one. absurd (not_one (x l) one));
        verdict = λ t. absurd (question_no_verdict q.number w (holds (is_verdict q.number) t));
        question = λ t c k. s (full_of c) (kept c k);
        order = λ c k. in_order (base_of a) (full_of c);
        count = λ c k. counted tree g (full_of c) (kept c k);
        most = at_most_two (base_of a) g;
        possible = possible;
      }

  settled_walk : (T (is_refusal (walked g).number) → ⊥) → Settled a (walked g)
  unfolding facts_of
  settled_walk n = settled (walk tree g) (λ f k. says tree g f k) (comes is_verdict is_question tree g (each_rules (base_of a)))
      (leaves Ok tree g (matters_rules (base_of a) (host_ok a passed p) (expanded_ok a passed p)) (given_ok a passed p)) n

-- demand 3, of the call, over its arguments
pub demand_3 : (a : Arguments) → IsPassed a → Demand3 a (host_answer a)
demand_3 a passed n =
    let p : Passes a = accepted_passes a n in
    subst (λ (r : HostAnswer). Settled a r) (sym (walks a p)) (settled_walk a passed p (λ t. n (subst (λ (r : HostAnswer). T (is_refusal r.number)) (sym (walks a p)) t)))
