-- The order of refusals, spelled out: the plain call's before 65; 65 for the certificates; 90 and 91 for the leaf. Assumes nothing.
use Rattle.std.specs.Prelude.{Err}
use Prim.Native.Nat.{ℕ, ◌<◌}
use mathlib.Core.Path.{◌≡◌, refl}
use mathlib.Core.Bool.{Bool, true, false, cond, not}
use mathlib.Core.List.{List, [], ◌∷◌}
use borrow.Author.Tests.{ltb-true, ne_eqb}
use lib.Dec.{eqb, ltb}
use lib.ListN.{length}
use Rattle.lists.specs.Check.{Check}
use Rattle.lists.specs.Bytes.{all}
use Rattle.lists.proofs.Bools.{and_left, and_right, apart}
use Rattle.numbers.specs.Numbers.{numbers}
use Rattle.policies.specs.Policy.{policy_answer}
use Rattle.policies.proofs.Sanity.{policy_number_lem}
use Rattle.certificates.specs.Limits.{facts_fit}
use Rattle.hosts.specs.Arguments.{Arguments}
use Rattle.hosts.specs.Call.{codes_fit, clocks_fit, next_hops_fit, host_names_fit, policy_fits, answers_fit, certificates_fit, checks, checked, refused, host_answer}
use Rattle.der.specs.declared.Fault.{Fault}
use Rattle.leaf.specs.declared.ReadError.{ReadError}
use Rattle.leaf.specs.Read.{read_leaf}
use Rattle.judging.specs.Judging.{is_present, has_leaf, leaf_of, chain_keeps, read_answer, chain_answer, checks_before, certificate_answer}
use Rattle.judging.specs.Stages.{unplaced, refused_after}
use Rattle.judging.proofs.Chain.{no_place}

-- with a leaf, and so with certificate facts
pub leaf_given : (a : Arguments) → has_leaf a ≡ true → eqb a.numbers.certificates_given 1 ≡ true
unfolding has_leaf is_present
leaf_given a h = and_left (eqb a.numbers.certificates_given 1) (ltb 0 (length (numbers a.certificate_lengths))) h

pub leaf_counts : (a : Arguments) → has_leaf a ≡ true → 0 < length (numbers a.certificate_lengths)
unfolding has_leaf is_present
leaf_counts a h = ltb-true 0 (length (numbers a.certificate_lengths)) (and_right (eqb a.numbers.certificates_given 1) (ltb 0 (length (numbers a.certificate_lengths))) h)

-- with a leaf, the plain call without any key place gives the first refusal of the checks before 65, else 65
unfit : (a : Arguments) → has_leaf a ≡ true → certificates_fit (unplaced a) ≡ false
unfolding certificates_fit facts_fit
unfit a h = rw (leaf_given a h, no_place a.certificates a.certificate_lengths a.digests a.paths (leaf_counts a h))

pub before_is : (a : Arguments) → has_leaf a ≡ true → host_answer (unplaced a) ≡ checked (checks_before a) (refused 65)
unfolding host_answer checks codes_fit clocks_fit next_hops_fit host_names_fit policy_fits answers_fit
before_is a h = rw (unfit a h)

-- none of those refusals is 65
abbrev is_other : Check → Bool
is_other c = not (eqb c.refusal 65)

policy_other : (s : List ℕ) → eqb (policy_answer s).number 65 ≡ false
policy_other s = ne_eqb (policy_answer s).number 65 (λ e. apart (rw e at (policy_number_lem s)))

before_other : (a : Arguments) → all is_other (checks_before a) ≡ true
unfolding checks all
before_other a = rw (policy_other a.body)

-- so that 65 may be told from them by its number
after_is : (cs : List Check) (n : ℕ) → all is_other cs ≡ true → refused_after (checked cs (refused 65)) n ≡ checked cs (refused n)
unfolding all refused_after
after_is [] n h = refl
after_is (c ∷ cs) n h = go c.passes (eqb c.refusal 65) refl (after_is cs n (and_right (is_other c) (all is_other cs) h))
  where
    go : (b x : Bool) → eqb c.refusal 65 ≡ x → refused_after (checked cs (refused 65)) n ≡ checked cs (refused n)
        → refused_after (cond b (checked cs (refused 65)) (refused c.refusal)) n ≡ cond b (checked cs (refused n)) (refused c.refusal)
    go true x e ih = ih
    go false false e ih = rw e
    go false true e ih = apart (rw e at (and_left (is_other c) (all is_other cs) h))

-- where the certificates or the leaf are refused with that number
pub answer_after : (a : Arguments) (n : ℕ) → has_leaf a ≡ true → chain_answer a ≡ refused n → refused_after (host_answer (unplaced a)) n ≡ certificate_answer a
unfolding certificate_answer
answer_after a n h e = rw (before_is a h, h, e) (after_is (checks_before a) n (before_other a))

-- the order: a leaf is given, and each check before passes
module _ (a : Arguments) (leaf : has_leaf a ≡ true) where
  pub refused_67 : codes_fit a ≡ false → certificate_answer a ≡ record { number = 67; tlsa_questions = 0 }
  unfolding certificate_answer checks
  refused_67 e = rw (leaf, e)

  module _ (codes : codes_fit a ≡ true) where
    pub refused_62 : clocks_fit a ≡ false → certificate_answer a ≡ record { number = 62; tlsa_questions = 0 }
    unfolding certificate_answer checks
    refused_62 e = rw (leaf, codes, e)

    module _ (clocks : clocks_fit a ≡ true) where
      pub refused_60 : next_hops_fit a ≡ false → certificate_answer a ≡ record { number = 60; tlsa_questions = 0 }
      unfolding certificate_answer checks
      refused_60 e = rw (leaf, codes, clocks, e)

      module _ (next_hops : next_hops_fit a ≡ true) where
        pub refused_61 : host_names_fit a ≡ false → certificate_answer a ≡ record { number = 61; tlsa_questions = 0 }
        unfolding certificate_answer checks
        refused_61 e = rw (leaf, codes, clocks, next_hops, e)

        module _ (host : host_names_fit a ≡ true) where
          -- 50, 52 to 57: the refusal of the policy
          pub refused_policy : policy_fits a ≡ false → certificate_answer a ≡ record { number = (policy_answer a.body).number; tlsa_questions = 0 }
          unfolding certificate_answer checks
          refused_policy e = rw (leaf, codes, clocks, next_hops, host, e)

          module _ (policy : policy_fits a ≡ true) where
            pub refused_64 : answers_fit a ≡ false → certificate_answer a ≡ record { number = 64; tlsa_questions = 0 }
            unfolding certificate_answer checks
            refused_64 e = rw (leaf, codes, clocks, next_hops, host, policy, e)

            module _ (answers : answers_fit a ≡ true) where
              -- 65 for the certificates: the leaf is not read
              pub refused_65 : chain_keeps a ≡ false → certificate_answer a ≡ record { number = 65; tlsa_questions = 0 }
              unfolding certificate_answer checks chain_answer
              refused_65 e = rw (leaf, codes, clocks, next_hops, host, policy, answers, e)

              module _ (chain : chain_keeps a ≡ true) where
                -- 90: a fault in the leaf, wherever it is
                pub refused_90 : (o : Fault) → read_leaf (leaf_of a) ≡ Err (ReadError.Malformed o) → certificate_answer a ≡ record { number = 90; tlsa_questions = 0 }
                unfolding certificate_answer checks chain_answer read_answer
                refused_90 o e = rw (leaf, codes, clocks, next_hops, host, policy, answers, chain, e)

                -- 91: over 64 DNS-IDs
                pub refused_91 : read_leaf (leaf_of a) ≡ (Err ReadError.ManyDnsIds) → certificate_answer a ≡ record { number = 91; tlsa_questions = 0 }
                unfolding certificate_answer checks chain_answer read_answer
                refused_91 e = rw (leaf, codes, clocks, next_hops, host, policy, answers, chain, e)
