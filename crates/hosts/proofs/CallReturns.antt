-- The returns of `answer`. Assumes nothing.
use Prim.Native.Nat.{ℕ}
use mathlib.Core.Path.{◌≡◌, refl, sym, ◌∙◌}
use mathlib.Core.Bool.{Bool, true, false, cond, not, ◌&&◌, and-true}
use mathlib.Core.List.{List}
use mathlib.Core.Option.{none}
use lib.Dec.{eqb}
use borrow.Author.Rules.{rules}
use borrow.Author.Tests.{eq-eqb, ne_eqb}
use Rattle.lists.proofs.Bools.{never}
use Rattle.names.specs.Name.{some_matches}
use Rattle.clock.specs.Clock.{is_live}
use Rattle.policies.specs.declared.Mode.{Mode}
use Rattle.policies.specs.declared.Mode.TheVariants as M
use Rattle.policies.specs.declared.PolicyFor.{PolicyFor}
use Rattle.policies.specs.Policy.{Policy, Reading, too_long, malformed, incomplete, policy, read_body, mode_number, answer_to, policy_answer, policy_for}
use Rattle.policies.specs.Policy as P
use Rattle.policies.proofs.Paper.{accepted, patterns_are}
use Rattle.hosts.specs.declared.HostAnswer.{HostAnswer}
use Rattle.std.specs.Prelude as S
use Rattle.hosts.specs.Rules.{is_enforce, is_enforced, needs_mta_sts, patterns_of, is_listed}
use Rattle.hosts.specs.Arguments.{Arguments, held, base_of, facts_of}
use Rattle.hosts.specs.Call.{if_supplied, codes_fit, clocks_fit, next_hops_fit, host_names_fit, policy_fits, answers_fit, certificates_fit, checks, refused, walked, host_answer}
use Rattle.hosts.specs.Stages.{refusing, first_refusal, last_refusal, no_policy, given_policy, policy_needs, saying, walk_answer}
use Rattle.hosts.proofs.StagesWalk.{walk_is}

-- the policy, as it is read, needs what the policy of the facts needs
enforce_is : (m : Mode) → eqb (mode_number m) 1 ≡ is_enforce m
unfolding mode_number
enforce_is M.Enforce = refl
enforce_is M.Testing = refl
enforce_is M.None = refl

pub needs_is : (a : Arguments) → policy_needs (given_policy a.numbers.policy_given a.body a.host).answer a.numbers.fetched a.numbers.clock ≡ needs_mta_sts (base_of a)
unfolding policy_needs given_policy policy_for policy_answer answer_to P.fault_answer needs_mta_sts base_of
needs_is a = go (eqb a.numbers.policy_given 1) (read_body a.body) (policy_for a.body a.host).listed
  where
    go : (t : Bool) (r : Reading) (l : Bool) → (eqb (cond t (record { answer = answer_to r; listed = l }) no_policy).answer.mode 1 && is_live a.numbers.fetched (cond t (record { answer = answer_to r; listed = l }) no_policy).answer.lifetime a.numbers.clock) ≡ is_enforced a.numbers.clock (cond t (held a.numbers.fetched r) none)
    go false r l = refl
    go true too_long l = refl
    go true (malformed f) l = refl
    go true incomplete l = refl
    go true (policy p) l = rw (enforce_is p.mode)

accepts_seven : (p : Policy) → eqb (answer_to (policy p)).number 7 ≡ true
unfolding answer_to
accepts_seven p = refl

-- the patterns that the policy's reader looks at are the policy's
listed_is : (body host : List ℕ) (p : Policy) → read_body body ≡ policy p → (policy_for body host).listed ≡ some_matches p.patterns host
unfolding policy_for policy_answer P.patterns_of
listed_is body host p e =
    let seven : eqb (answer_to (read_body body)).number 7 ≡ true = rw e (accepts_seven p) in
    rw (seven, and-true (some_matches (P.patterns_of body) host), patterns_are body p (accepted body p e))

-- under a live enforce policy, the host is listed where the policy of the facts lists it
pub unlisted_is : (a : Arguments) → (needs_mta_sts (base_of a) && not (given_policy a.numbers.policy_given a.body a.host).listed) ≡ (needs_mta_sts (base_of a) && not (is_listed (base_of a)))
unfolding given_policy is_listed needs_mta_sts base_of
unlisted_is a = go (eqb a.numbers.policy_given 1) (read_body a.body) refl
  where
    go : (t : Bool) (r : Reading) → read_body a.body ≡ r → (is_enforced a.numbers.clock (cond t (held a.numbers.fetched r) none) && not (cond t (policy_for a.body a.host) no_policy).listed) ≡ (is_enforced a.numbers.clock (cond t (held a.numbers.fetched r) none) && not (some_matches (patterns_of (cond t (held a.numbers.fetched r) none)) a.host))
    go false r e = refl
    go true too_long e = refl
    go true (malformed f) e = refl
    go true incomplete e = refl
    go true (policy p) e = rw (listed_is a.body a.host p e)

-- the first four checks, then x
module _ (c k m h : Bool) (x : HostAnswer) (f : S.Result (Unit {0}) HostAnswer) (fe : f ≡ cond c (cond k (cond m (cond h (S.Ok tt) (refusing 61)) (refusing 60)) (refusing 62)) (refusing 67)) where
  refuses : (y : HostAnswer) → f ≡ S.Err y → y ≡ cond c (cond k (cond m (cond h x (refused 61)) (refused 60)) (refused 62)) (refused 67)
  refuses y z = go c k m h (sym z ∙ fe)
    where
      go : (c k m h : Bool) → S.Err y ≡ cond c (cond k (cond m (cond h (S.Ok tt) (refusing 61)) (refusing 60)) (refusing 62)) (refusing 67) → y ≡ cond c (cond k (cond m (cond h x (refused 61)) (refused 60)) (refused 62)) (refused 67)
      go true true true true e = never cc
      go true true true false e = cc
      go true true false h e = cc
      go true false m h e = cc
      go false k m h e = cc

  accepts : (u : Unit {0}) → f ≡ S.Ok u → cond c (cond k (cond m (cond h x (refused 61)) (refused 60)) (refused 62)) (refused 67) ≡ x
  accepts u z = go c k m h (sym z ∙ fe)
    where
      go : (c k m h : Bool) → S.Ok u ≡ cond c (cond k (cond m (cond h (S.Ok tt) (refusing 61)) (refusing 60)) (refusing 62)) (refusing 67) → cond c (cond k (cond m (cond h x (refused 61)) (refused 60)) (refused 62)) (refused 67) ≡ x
      go true true true true e = refl
      go true true true false e = never cc
      go true true false h e = never cc
      go true false m h e = never cc
      go false k m h e = never cc

-- the policy's check, then x
module _ (t : Bool) (read : PolicyFor) (x : HostAnswer) (r : PolicyFor) (re : r ≡ cond t read no_policy) where
  policy_refuses : (r.answer.number ≡ 7 → ⊥) → saying r.answer.number 0 ≡ cond (if_supplied t (eqb read.answer.number 7)) x (refused read.answer.number)
  policy_refuses z = go t re
    where
      go : (t : Bool) → r ≡ cond t read no_policy → saying r.answer.number 0 ≡ cond (if_supplied t (eqb read.answer.number 7)) x (refused read.answer.number)
      go true e = rw (← e, ne_eqb r.answer.number 7 z)
      go false e = absurd (z (rw e))

  policy_accepts : r.answer.number ≡ 7 → cond (if_supplied t (eqb read.answer.number 7)) x (refused read.answer.number) ≡ x
  policy_accepts z = go t re
    where
      go : (t : Bool) → r ≡ cond t read no_policy → cond (if_supplied t (eqb read.answer.number 7)) x (refused read.answer.number) ≡ x
      go true e = rw (← e, eq-eqb r.answer.number 7 z)
      go false e = refl

-- the last two checks, then x
module _ (c k : Bool) (x : HostAnswer) (l : S.Result (Unit {0}) HostAnswer) (le : l ≡ cond c (cond k (S.Ok tt) (refusing 65)) (refusing 64)) where
  last_refuses : (y : HostAnswer) → l ≡ S.Err y → y ≡ cond c (cond k x (refused 65)) (refused 64)
  last_refuses y z = go c k (sym z ∙ le)
    where
      go : (c k : Bool) → S.Err y ≡ cond c (cond k (S.Ok tt) (refusing 65)) (refusing 64) → y ≡ cond c (cond k x (refused 65)) (refused 64)
      go true true e = never cc
      go true false e = cc
      go false k e = cc

  last_accepts : (u : Unit {0}) → l ≡ S.Ok u → cond c (cond k x (refused 65)) (refused 64) ≡ x
  last_accepts u z = go c k (sym z ∙ le)
    where
      go : (c k : Bool) → S.Ok u ≡ cond c (cond k (S.Ok tt) (refusing 65)) (refusing 64) → cond c (cond k x (refused 65)) (refused 64) ≡ x
      go true true e = refl
      go true false e = never cc
      go false k e = never cc

-- `answer`: f, r, l, e, u are what its calls gave, x is what it returns
module _ (a : Arguments) (f : S.Result (Unit {0}) HostAnswer) (fe : f ≡ first_refusal a) where
  first_here : f ≡ cond (codes_fit a) (cond (clocks_fit a) (cond (next_hops_fit a) (cond (host_names_fit a) (S.Ok tt) (refusing 61)) (refusing 60)) (refusing 62)) (refusing 67)
  unfolding first_refusal
  first_here = fe

  -- the answer from the last checks on, and from the policy's on
  abbrev after_policy : HostAnswer
  after_policy = cond (answers_fit a) (cond (certificates_fit a) (walked (facts_of a)) (refused 65)) (refused 64)

  abbrev after_names : HostAnswer
  after_names = cond (policy_fits a) after_policy (refused (policy_answer a.body).number)

  pub call_first : (y : HostAnswer) → f ≡ S.Err y → y ≡ host_answer a
  unfolding host_answer checks
  call_first y z = refuses (codes_fit a) (clocks_fit a) (next_hops_fit a) (host_names_fit a) after_names f first_here y z

  module _ (v : Unit {0}) (fz : f ≡ S.Ok v) (r : PolicyFor) (re : r ≡ given_policy a.numbers.policy_given a.body a.host) (x : HostAnswer) where
    named : x ≡ after_names → x ≡ host_answer a
    unfolding host_answer checks
    named h = h ∙ sym (accepts (codes_fit a) (clocks_fit a) (next_hops_fit a) (host_names_fit a) after_names f first_here v fz)

    policy_here : r ≡ cond (eqb a.numbers.policy_given 1) (policy_for a.body a.host) no_policy
    unfolding given_policy
    policy_here = re

    pub call_policy : (r.answer.number ≡ 7 → ⊥) → x ≡ saying r.answer.number 0 → x ≡ host_answer a
    unfolding policy_fits policy_for
    call_policy z xe = named (xe ∙ policy_refuses (eqb a.numbers.policy_given 1) (policy_for a.body a.host) after_policy r policy_here z)

    module _ (rz : r.answer.number ≡ 7) (l : S.Result (Unit {0}) HostAnswer) (le : l ≡ last_refusal a) where
      last_here : l ≡ cond (answers_fit a) (cond (certificates_fit a) (S.Ok tt) (refusing 65)) (refusing 64)
      unfolding last_refusal
      last_here = le

      read : x ≡ after_policy → x ≡ host_answer a
      unfolding policy_fits policy_for
      read h = named (h ∙ sym (policy_accepts (eqb a.numbers.policy_given 1) (policy_for a.body a.host) after_policy r policy_here rz))

      pub call_last : l ≡ S.Err x → x ≡ host_answer a
      call_last z = read (last_refuses (answers_fit a) (certificates_fit a) (walked (facts_of a)) l last_here x z)

      module _ (w : Unit {0}) (lz : l ≡ S.Ok w) (e : Bool) (ee : e ≡ policy_needs r.answer a.numbers.fetched a.numbers.clock) (u : Bool) (ue : u ≡ (e && not r.listed)) where
        needs_here : e ≡ needs_mta_sts (base_of a)
        needs_here = ee ∙ rw re (needs_is a)

        unlisted_here : u ≡ (needs_mta_sts (base_of a) && not (is_listed (base_of a)))
        unlisted_here = ue ∙ rw (needs_here, re) (unlisted_is a)

        pub call_walk : x ≡ walk_answer a e u → x ≡ host_answer a
        call_walk xe = read (xe ∙ rw (needs_here, unlisted_here) (sym (walk_is a)) ∙ sym (last_accepts (answers_fit a) (certificates_fit a) (walked (facts_of a)) l last_here w lz))

pub ruleset call_laws = (call_first, call_policy, call_last, call_walk, rules)
