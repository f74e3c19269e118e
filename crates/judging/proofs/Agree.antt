-- The two entries agree: the call answers as the plain one does on the facts read, and without a leaf as the plain one does with no names. Assumes nothing.
use Rattle.std.specs.Prelude.{Option, None, Some, Ok}
use Prim.Native.Nat.{ℕ}
use mathlib.Core.Path.{◌≡◌, refl, sym, ap, ◌∙◌}
use mathlib.Core.Bool.{Bool, true, false, cond}
use mathlib.Core.List.{List, [], ◌∷◌}
use Rattle.lists.specs.Check.{Check}
use Rattle.certificates.specs.Limits.{yes_no}
use Rattle.hosts.specs.declared.HostAnswer.{HostAnswer}
use Rattle.hosts.specs.Arguments.{Arguments, facts_of}
use Rattle.hosts.specs.Call.{codes_fit, clocks_fit, next_hops_fit, host_names_fit, policy_fits, answers_fit, certificates_fit, checks, checked, refused, walked, host_answer}
use Rattle.x509.specs.declared.Found.{Found}
use Rattle.x509.specs.declared.Part.{Part}
use Rattle.leaf.specs.Read.{read_leaf}
use Rattle.judging.specs.Texts.{given_of}
use Rattle.judging.specs.Judging.{has_leaf, leaf_of, on_read, chain_keeps, read_answer, chain_answer, checks_before, certificate_answer}

-- without a leaf nothing is read, and the plain call answers
pub without_leaf : (a : Arguments) → has_leaf a ≡ false → certificate_answer a ≡ host_answer a
unfolding certificate_answer
without_leaf a h = rw h

-- what is checked twice is checked
twice : (cs : List Check) (x : HostAnswer) → checked cs (checked cs x) ≡ checked cs x
twice [] x = refl
twice (c ∷ cs) x = go c.passes (twice cs x)
  where
    go : (b : Bool) → checked cs (checked cs x) ≡ checked cs x → cond b (checked cs (cond b (checked cs x) (refused c.refusal))) (refused c.refusal) ≡ cond b (checked cs x) (refused c.refusal)
    go true ih = ih
    go false ih = refl

-- the plain call's checks before its last, and its last
last_apart : (a : Arguments) → host_answer a ≡ checked (checks_before a) (cond (certificates_fit a) (walked (facts_of a)) (refused 65))
unfolding host_answer checks
last_apart a = refl

-- a code for the common name that is read is one of its choices
given_fits : (name : Option Part) → yes_no (given_of name) ≡ true
unfolding yes_no given_of
given_fits (Some p) = refl
given_fits None = refl

-- the facts read change none of the checks before 65
same_before : (a : Arguments) (leaf : List ℕ) (f : Found) → yes_no a.numbers.common_name_given ≡ true → checks_before (on_read a leaf f) ≡ checks_before a
unfolding checks on_read codes_fit clocks_fit next_hops_fit host_names_fit policy_fits answers_fit
same_before a leaf f y = rw (given_fits f.name, y)

-- the certificates keep the limits and the leaf is read: the call answers as the plain one on the facts read
module _ (a : Arguments) (leaf : has_leaf a ≡ true) (chain : chain_keeps a ≡ true) (f : Found) (is_read : read_leaf (leaf_of a) ≡ Ok f) where
  pub on_read_lem : certificate_answer a ≡ checked (checks_before a) (host_answer (on_read a (leaf_of a) f))
  unfolding certificate_answer chain_answer read_answer
  on_read_lem = rw (leaf, chain, is_read)

  -- common_name_given is one of its choices (the exported call says 2)
  module _ (choice : yes_no a.numbers.common_name_given ≡ true) where
    on_facts : host_answer (on_read a (leaf_of a) f) ≡ checked (checks_before a) (cond (certificates_fit (on_read a (leaf_of a) f)) (walked (facts_of (on_read a (leaf_of a) f))) (refused 65))
    on_facts =
        let b = on_read a (leaf_of a) f in
        last_apart b ∙ ap (λ (cs : List Check). checked cs (cond (certificates_fit b) (walked (facts_of b)) (refused 65))) (same_before a (leaf_of a) f choice)

    pub in_full : certificate_answer a ≡ checked (checks_before a) (cond (certificates_fit (on_read a (leaf_of a) f)) (walked (facts_of (on_read a (leaf_of a) f))) (refused 65))
    in_full =
        let b = on_read a (leaf_of a) f in
        on_read_lem ∙ ap (λ (h : HostAnswer). checked (checks_before a) h) on_facts ∙ twice (checks_before a) (cond (certificates_fit b) (walked (facts_of b)) (refused 65))

    -- also where an earlier check refuses
    pub with_leaf : certificate_answer a ≡ host_answer (on_read a (leaf_of a) f)
    with_leaf = in_full ∙ sym on_facts

  -- where the six checks pass, whatever common_name_given is
  pub with_leaf_passing : codes_fit a ≡ true → clocks_fit a ≡ true → next_hops_fit a ≡ true → host_names_fit a ≡ true → policy_fits a ≡ true → answers_fit a ≡ true
      → certificate_answer a ≡ host_answer (on_read a (leaf_of a) f)
  unfolding checks
  with_leaf_passing e1 e2 e3 e4 e5 e6 = on_read_lem ∙ rw (e1, e2, e3, e4, e5, e6)
