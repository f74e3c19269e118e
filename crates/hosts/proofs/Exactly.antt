-- Each refusal is answered exactly where its check is the first to fail. Assumes nothing.
use Prim.Native.Nat.{ℕ, ◌≤◌}
use mathlib.Core.Path.{◌≡◌, refl, sym, ◌∙◌, ap}
use mathlib.Core.Bool.{Bool, true, false, not, cond, ◌&&◌, and-true, and-false}
use mathlib.Core.List.{List, [], ◌∷◌}
use native.Mathlib.Omega.{arith}
use lib.Dec.{eqb}
use borrow.Author.Tests.{le-leb, ne_eqb, eqb-true}
use Rattle.lists.specs.Check.{Check}
use Rattle.lists.proofs.Bools.{apart}
use Rattle.policies.specs.Policy.{policy_answer}
use Rattle.policies.proofs.Sanity.{is_policy_refusal, refusal_range}
use Rattle.verdicts.specs.Verdicts.{is_verdict}
use Rattle.hosts.specs.declared.HostAnswer.{HostAnswer}
use Rattle.hosts.specs.Facts.{Facts, later}
use Rattle.hosts.specs.Tree.{Outcome, final, missing, walk, answers_read}
use Rattle.hosts.specs.Rules.{rules}
use Rattle.hosts.specs.Arguments.{Arguments, base_of, facts_of}
use Rattle.hosts.specs.Call.{codes_fit, clocks_fit, next_hops_fit, host_names_fit, policy_fits, answers_fit, certificates_fit, checks, refused, checked, outcome_answer, walked, host_answer}
use Rattle.hosts.specs.Demands.{is_refusal}
use Rattle.hosts.proofs.Trees.{Comes, comes}
use Rattle.hosts.proofs.Shape.{is_question, verdict_no_refusal, question_no_refusal, each_rules}
use Rattle.hosts.proofs.Accepted.{policy_refusal}

-- the first check that fails has the refusal n; or none fails, and the rest says so
abbrev first_fails : ℕ → List Check → Bool → Bool
first_fails n [] rest = rest
first_fails n (c ∷ cs) rest = cond c.passes (first_fails n cs rest) (eqb c.refusal n)

number_is : (n : ℕ) (cs : List Check) (r : HostAnswer) → eqb (checked cs r).number n ≡ first_fails n cs (eqb r.number n)
number_is n [] r = refl
number_is n (c ∷ cs) r = go c.passes (number_is n cs r)
  where
    go : (x : Bool) → eqb (checked cs r).number n ≡ first_fails n cs (eqb r.number n) → eqb (cond x (checked cs r) (refused c.refusal)).number n ≡ cond x (first_fails n cs (eqb r.number n)) (eqb c.refusal n)
    go true ih = ih
    go false ih = refl

-- the walk misses a fact while a later one is given
abbrev pub has_gap : Facts → Outcome → Bool
has_gap g (final v) = false
has_gap g (missing q) = later q.fact g

not_refusal : (m n : ℕ) → is_refusal n ≡ true → (is_refusal m ≡ true → ⊥) → eqb m n ≡ false
not_refusal m n h k = ne_eqb m n (λ e. k (ap is_refusal e ∙ h))

-- the walk's answer has a refusal only where there is a gap, and that is 66
walk_refuses : (n : ℕ) → is_refusal n ≡ true → (g : Facts) → eqb (walked g).number n ≡ (has_gap g (walk (rules g.base) g) && eqb 66 n)
walk_refuses n h g = go (walk (rules g.base) g) (comes is_verdict is_question (rules g.base) g (each_rules g.base))
  where
    go : (o : Outcome) → Comes is_verdict is_question o → eqb (outcome_answer g (answers_read (rules g.base) g) o).number n ≡ (has_gap g o && eqb 66 n)
    go (final v) k = not_refusal v n h (verdict_no_refusal v k)
    go (missing q) k = at (later q.fact g)
      where
        at : (l : Bool) → eqb (cond l (refused 66) (record { number = q.number; tlsa_questions = answers_read (rules g.base) g })).number n ≡ (l && eqb 66 n)
        at true = refl
        at false = not_refusal q.number n h (question_no_refusal q.number k)

-- a choice as tests
step : (x u : Bool) → cond x u false ≡ (x && u)
step true u = refl
step false u = refl

here : (x u : Bool) → u ≡ false → cond x u true ≡ not x
here true u e = e
here false u e = refl

none : (x u v : Bool) → u ≡ false → (x ≡ false → v ≡ false) → cond x u v ≡ false
none true u v p q = p
none false u v p q = q refl

choice : (x u v : Bool) → u ≡ false → cond x u v ≡ (not x && v)
choice true u v e = e
choice false u v e = refl

module _ (a : Arguments) where
  -- there is a gap in the facts given
  abbrev pub gap : Bool
  gap = has_gap (facts_of a) (walk (rules (base_of a)) (facts_of a))

  abbrev policy_number : ℕ
  policy_number = (policy_answer a.body).number

  -- the checks from each on
  abbrev from_65 : ℕ → Bool
  from_65 n = cond (certificates_fit a) (gap && eqb 66 n) (eqb 65 n)

  abbrev from_64 : ℕ → Bool
  from_64 n = cond (answers_fit a) (from_65 n) (eqb 64 n)

  abbrev from_50 : ℕ → Bool
  from_50 n = cond (policy_fits a) (from_64 n) (eqb policy_number n)

  abbrev from_61 : ℕ → Bool
  from_61 n = cond (host_names_fit a) (from_50 n) (eqb 61 n)

  abbrev from_60 : ℕ → Bool
  from_60 n = cond (next_hops_fit a) (from_61 n) (eqb 60 n)

  abbrev from_62 : ℕ → Bool
  from_62 n = cond (clocks_fit a) (from_60 n) (eqb 62 n)

  number_from : (n : ℕ) → is_refusal n ≡ true → eqb (host_answer a).number n ≡ cond (codes_fit a) (from_62 n) (eqb 67 n)
  unfolding host_answer checks facts_of
  number_from n h = number_is n (checks a) (walked (facts_of a)) ∙ ap (first_fails n (checks a)) (walk_refuses n h (facts_of a))

  -- the refusal of a policy is no other
  other : (n : ℕ) → is_policy_refusal n ≡ false → policy_fits a ≡ false → eqb policy_number n ≡ false
  other n h e = go (eqb policy_number n) refl
    where
      go : (x : Bool) → eqb policy_number n ≡ x → x ≡ false
      go true q = apart (sym h ∙ (ap is_policy_refusal (sym (eqb-true policy_number n q)) ∙ policy_refusal a e))
      go false q = refl

  -- nothing from a check on has another refusal
  no_65 : (n : ℕ) → eqb 66 n ≡ false → eqb 65 n ≡ false → from_65 n ≡ false
  no_65 n p q = none (certificates_fit a) (gap && eqb 66 n) (eqb 65 n) (ap (λ (x : Bool). gap && x) p ∙ and-false gap) (λ e. q)

  no_64 : (n : ℕ) → eqb 66 n ≡ false → eqb 65 n ≡ false → eqb 64 n ≡ false → from_64 n ≡ false
  no_64 n p q r = none (answers_fit a) (from_65 n) (eqb 64 n) (no_65 n p q) (λ e. r)

  no_50 : (n : ℕ) → eqb 66 n ≡ false → eqb 65 n ≡ false → eqb 64 n ≡ false → is_policy_refusal n ≡ false → from_50 n ≡ false
  no_50 n p q r s = none (policy_fits a) (from_64 n) (eqb policy_number n) (no_64 n p q r) (other n s)

  no_61 : (n : ℕ) → from_50 n ≡ false → eqb 61 n ≡ false → from_61 n ≡ false
  no_61 n p q = none (host_names_fit a) (from_50 n) (eqb 61 n) p (λ e. q)

  no_60 : (n : ℕ) → from_61 n ≡ false → eqb 60 n ≡ false → from_60 n ≡ false
  no_60 n p q = none (next_hops_fit a) (from_61 n) (eqb 60 n) p (λ e. q)

  no_62 : (n : ℕ) → from_60 n ≡ false → eqb 62 n ≡ false → from_62 n ≡ false
  no_62 n p q = none (clocks_fit a) (from_60 n) (eqb 62 n) p (λ e. q)

  -- the checks before each
  codes_then : (u v : Bool) → u ≡ v → cond (codes_fit a) u false ≡ (codes_fit a && v)
  codes_then u v e = step (codes_fit a) u ∙ ap (λ (x : Bool). codes_fit a && x) e

  clocks_then : (u v : Bool) → u ≡ v → cond (clocks_fit a) u false ≡ (clocks_fit a && v)
  clocks_then u v e = step (clocks_fit a) u ∙ ap (λ (x : Bool). clocks_fit a && x) e

  next_hop_then : (u v : Bool) → u ≡ v → cond (next_hops_fit a) u false ≡ (next_hops_fit a && v)
  next_hop_then u v e = step (next_hops_fit a) u ∙ ap (λ (x : Bool). next_hops_fit a && x) e

  host_then : (u v : Bool) → u ≡ v → cond (host_names_fit a) u false ≡ (host_names_fit a && v)
  host_then u v e = step (host_names_fit a) u ∙ ap (λ (x : Bool). host_names_fit a && x) e

  answers_then : (u v : Bool) → u ≡ v → cond (answers_fit a) u false ≡ (answers_fit a && v)
  answers_then u v e = step (answers_fit a) u ∙ ap (λ (x : Bool). answers_fit a && x) e

  policy_then : (n : ℕ) (u v : Bool) → is_policy_refusal n ≡ false → u ≡ v → cond (policy_fits a) u (eqb policy_number n) ≡ (policy_fits a && v)
  policy_then n u v h e = go (policy_fits a) refl
    where
      go : (x : Bool) → policy_fits a ≡ x → cond x u (eqb policy_number n) ≡ (x && v)
      go true p = e
      go false p = other n h p

  -- the conditions

  pub exactly_67 : eqb (host_answer a).number 67 ≡ not (codes_fit a)
  exactly_67 = number_from 67 refl ∙ here (codes_fit a) (from_62 67) (no_62 67 (no_60 67 (no_61 67 (no_50 67 refl refl refl refl) refl) refl) refl)

  pub exactly_62 : eqb (host_answer a).number 62 ≡ (codes_fit a && not (clocks_fit a))
  exactly_62 = number_from 62 refl ∙ codes_then (from_62 62) (not (clocks_fit a)) (here (clocks_fit a) (from_60 62) (no_60 62 (no_61 62 (no_50 62 refl refl refl refl) refl) refl))

  pub exactly_60 : eqb (host_answer a).number 60 ≡ (codes_fit a && (clocks_fit a && not (next_hops_fit a)))
  exactly_60 = number_from 60 refl ∙ codes_then (from_62 60) _ (clocks_then (from_60 60) _ (here (next_hops_fit a) (from_61 60) (no_61 60 (no_50 60 refl refl refl refl) refl)))

  pub exactly_61 : eqb (host_answer a).number 61 ≡ (codes_fit a && (clocks_fit a && (next_hops_fit a && not (host_names_fit a))))
  exactly_61 = number_from 61 refl ∙ codes_then (from_62 61) _ (clocks_then (from_60 61) _ (next_hop_then (from_61 61) _ (here (host_names_fit a) (from_50 61) (no_50 61 refl refl refl refl))))

  -- 50, 52 to 57: a policy that is not accepted, by its own number
  pub exactly_policy : (n : ℕ) → is_policy_refusal n ≡ true → eqb (host_answer a).number n ≡ (codes_fit a && (clocks_fit a && (next_hops_fit a && (host_names_fit a && (not (policy_fits a) && eqb (policy_answer a.body).number n)))))
  exactly_policy n h =
      let l = (refusal_range n h).0 in
      let u = (refusal_range n h).1 in
      let r : is_refusal n ≡ true = go l in
      number_from n r ∙ rw (ne_eqb 67 n (λ e. omega (arith, u, e)), ne_eqb 62 n (λ e. omega (arith, u, e)), ne_eqb 60 n (λ e. omega (arith, u, e)), ne_eqb 61 n (λ e. omega (arith, u, e)))
      (codes_then _ _ (clocks_then _ _ (next_hop_then _ _ (host_then _ _ (choice (policy_fits a) (from_64 n) (eqb policy_number n) (no_64 n (ne_eqb 66 n (λ e. omega (arith, u, e))) (ne_eqb 65 n (λ e. omega (arith, u, e))) (ne_eqb 64 n (λ e. omega (arith, u, e)))))))))
    where
      go : 50 ≤ n → is_refusal n ≡ true
      go k = le-leb 40 n (omega arith)

  pub exactly_64 : eqb (host_answer a).number 64 ≡ (codes_fit a && (clocks_fit a && (next_hops_fit a && (host_names_fit a && (policy_fits a && not (answers_fit a))))))
  exactly_64 = number_from 64 refl ∙ codes_then (from_62 64) _ (clocks_then (from_60 64) _ (next_hop_then (from_61 64) _ (host_then (from_50 64) _ (policy_then 64 (from_64 64) _ refl (here (answers_fit a) (from_65 64) (no_65 64 refl refl))))))

  pub exactly_65 : eqb (host_answer a).number 65 ≡ (codes_fit a && (clocks_fit a && (next_hops_fit a && (host_names_fit a && (policy_fits a && (answers_fit a && not (certificates_fit a)))))))
  exactly_65 = number_from 65 refl ∙ codes_then (from_62 65) _ (clocks_then (from_60 65) _ (next_hop_then (from_61 65) _ (host_then (from_50 65) _ (policy_then 65 (from_64 65) _ refl (answers_then (from_65 65) _ (here (certificates_fit a) (gap && false) (and-false gap)))))))

  -- 66, last: every check passes, and the walk misses a fact while a later one is given
  pub exactly_66 : eqb (host_answer a).number 66 ≡ (codes_fit a && (clocks_fit a && (next_hops_fit a && (host_names_fit a && (policy_fits a && (answers_fit a && (certificates_fit a && gap)))))))
  exactly_66 = number_from 66 refl ∙ codes_then (from_62 66) _ (clocks_then (from_60 66) _ (next_hop_then (from_61 66) _ (host_then (from_50 66) _ (policy_then 66 (from_64 66) _ refl (answers_then (from_65 66) _ (step (certificates_fit a) (gap && true) ∙ ap (λ (x : Bool). certificates_fit a && x) (and-true gap)))))))
