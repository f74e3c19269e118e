-- The order of the checks, spelled out: what each refusal asks, and what the answer is where every check passes. Assumes nothing.
use Prim.Native.Nat.{ℕ}
use mathlib.Core.Path.{◌≡◌, ◌∙◌}
use mathlib.Core.Bool.{true, false}
use Rattle.policies.specs.Policy.{policy_answer}
use Rattle.hosts.specs.Facts.{later}
use Rattle.hosts.specs.Tree.{Question, final, missing, walk, answers_read}
use Rattle.hosts.specs.Rules.{rules}
use Rattle.hosts.specs.Arguments.{Arguments, base_of, facts_of}
use Rattle.hosts.specs.Call.{codes_fit, clocks_fit, next_hops_fit, host_names_fit, policy_fits, answers_fit, certificates_fit, checks, refused, host_answer}
use Rattle.hosts.proofs.Accepted.{Passes, walks}

module _ (a : Arguments) where
  pub refused_67 : codes_fit a ≡ false → host_answer a ≡ refused 67
  unfolding host_answer checks
  refused_67 e = rw e

  module _ (codes : codes_fit a ≡ true) where
    pub refused_62 : clocks_fit a ≡ false → host_answer a ≡ refused 62
    unfolding host_answer checks
    refused_62 e = rw (codes, e)

    module _ (clocks : clocks_fit a ≡ true) where
      pub refused_60 : next_hops_fit a ≡ false → host_answer a ≡ refused 60
      unfolding host_answer checks
      refused_60 e = rw (codes, clocks, e)

      module _ (next_hop_lem : next_hops_fit a ≡ true) where
        pub refused_61 : host_names_fit a ≡ false → host_answer a ≡ refused 61
        unfolding host_answer checks
        refused_61 e = rw (codes, clocks, next_hop_lem, e)

        module _ (host : host_names_fit a ≡ true) where
          -- 50, 52 to 57: the refusal of the policy
          pub refused_policy : policy_fits a ≡ false → host_answer a ≡ refused (policy_answer a.body).number
          unfolding host_answer checks
          refused_policy e = rw (codes, clocks, next_hop_lem, host, e)

          module _ (policy : policy_fits a ≡ true) where
            pub refused_64 : answers_fit a ≡ false → host_answer a ≡ refused 64
            unfolding host_answer checks
            refused_64 e = rw (codes, clocks, next_hop_lem, host, policy, e)

            pub refused_65 : answers_fit a ≡ true → certificates_fit a ≡ false → host_answer a ≡ refused 65
            unfolding host_answer checks
            refused_65 answers e = rw (codes, clocks, next_hop_lem, host, policy, answers, e)

  -- where every check passes: the walk's verdict; at a missing fact 66 where a later one is given, else its question
  module _ (p : Passes a) where
    pub answers_verdict : (v : ℕ) → walk (rules (base_of a)) (facts_of a) ≡ final v → host_answer a ≡ record { number = v; tlsa_questions = answers_read (rules (base_of a)) (facts_of a) }
    unfolding facts_of
    answers_verdict v e = walks a p ∙ rw e

    pub refused_66 : (q : Question) → walk (rules (base_of a)) (facts_of a) ≡ missing q → later q.fact (facts_of a) ≡ true → host_answer a ≡ refused 66
    unfolding facts_of
    refused_66 q e l = walks a p ∙ rw (e, l)

    pub answers_question : (q : Question) → walk (rules (base_of a)) (facts_of a) ≡ missing q → later q.fact (facts_of a) ≡ false → host_answer a ≡ record { number = q.number; tlsa_questions = answers_read (rules (base_of a)) (facts_of a) }
    unfolding facts_of
    answers_question q e l = walks a p ∙ rw (e, l)
