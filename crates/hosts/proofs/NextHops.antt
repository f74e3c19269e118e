-- The expanded next-hop (document 02, No. 3): every answer of the call with one is an answer of the call with none, and with none it is what it was. Assumes nothing.
use Prim.Native.Nat.{ℕ, ◌+◌, ◌<◌}
use mathlib.Core.Path.{◌≡◌, refl, sym, ap, ◌∙◌}
use mathlib.Core.Bool.{Bool, true, false, cond, not, ◌&&◌, ◌||◌, and-true, and-false}
use mathlib.Core.List.{List, [], ◌∷◌}
use mathlib.Core.Option.{Option, none, some}
use native.Mathlib.Omega.{arith}
use lib.Dec.{eqb, leb}
use borrow.Author.Tests.{lt-leb, ne_eqb}
use Rattle.lists.specs.Equal.{same_text}
use Rattle.names.specs.Name.{is_name}
use Rattle.policies.specs.Policy.{policy_answer}
use Rattle.policies.proofs.Sanity.{refusal_range}
use Rattle.tlsa.specs.declared.Read.{Read}
use Rattle.tlsa.specs.declared.Read.TheVariants as R
use Rattle.tlsa.specs.Address.{TlsaName, expanded_name, host_name, question_of, NamesOrVerdict, names, names_to_try}
use Rattle.tlsa.specs.Address as A
use Rattle.tlsa.specs.Answer.{secure_records, read_of}
use Rattle.certificates.specs.declared.Origin.{Origin}
use Rattle.certificates.specs.declared.Origin.TheVariants.{SecureMx, InsecureMx, NoMx}
use Rattle.certificates.specs.Facts.{Presented}
use Rattle.certificates.specs.Checks.{references, dane_passes}
use Rattle.certificates.proofs.References.{secure_without, insecure_with_any, no_mx_with_any, same_adds_nothing, dane_by_either}
use Rattle.hosts.specs.declared.HostAnswer.{HostAnswer}
use Rattle.hosts.specs.Facts.{Base, Handshake, established, failed, Place, first, second, Fact, Value, tlsa, starttls, handshake, certificates, Facts, given, later}
use Rattle.hosts.specs.Tree.{Rules, verdict, ask, Outcome, final, missing, on_given, walk, is_tlsa, answers_read}
use Rattle.hosts.specs.Rules.{is_old, needs_mta_sts, is_listed, mta_sts_passes, Taken, nothing, set, needs_dane, needs_authentication, needs_anything, taken_passes, last_verdict, authenticate, after_handshake, connect, after_answer, seek, start, rules}
use Rattle.hosts.specs.Arguments.{Arguments, origin_of, base_of, presented_in, facts_of}
use Rattle.hosts.specs.Call.{codes_fit, clocks_fit, next_hops_fit, host_names_fit, policy_fits, answers_fit, certificates_fit, checks, refused, outcome_answer, walked, host_answer}
use Rattle.hosts.proofs.Accepted.{policy_refusal}
use Rattle.hosts.proofs.Order.{refused_67, refused_62}
use Rattle.hosts.proofs.Exactly.{exactly_67, exactly_62, exactly_60}

-- the facts with another base: the walk reads the later facts alone
abbrev rebased : Base → Facts → Facts
rebased b g = record { base = b; tlsa1 = g.tlsa1; tlsa2 = g.tlsa2; offered = g.offered; outcome = g.outcome; presented = g.presented }

module _ (b : Base) (g : Facts) where
  given_rebased : (q : Fact) → given g q ≡ given (rebased b g) q
  given_rebased (tlsa first) = refl
  given_rebased (tlsa second) = refl
  given_rebased starttls = refl
  given_rebased handshake = refl
  given_rebased certificates = refl

  later_rebased : (q : Fact) → later q g ≡ later q (rebased b g)
  later_rebased (tlsa first) = refl
  later_rebased (tlsa second) = refl
  later_rebased starttls = refl
  later_rebased handshake = refl
  later_rebased certificates = refl

  walk_rebased : (t : Rules) → walk t g ≡ walk t (rebased b g)
  walk_rebased (verdict v) = refl
  walk_rebased (ask n q k) = λ i. on_given (given_rebased q i) (missing (record { number = n; fact = q })) (λ a. walk_rebased (k a) i)

  read_rebased : (t : Rules) → answers_read t g ≡ answers_read t (rebased b g)
  read_rebased (verdict v) = refl
  read_rebased (ask n q k) = λ i. on_given (given_rebased q i) 0 (λ a. is_tlsa q + read_rebased (k a) i)

  answer_rebased : (t : Rules) → outcome_answer g (answers_read t g) (walk t g) ≡ outcome_answer (rebased b g) (answers_read t (rebased b g)) (walk t (rebased b g))
  answer_rebased t = rw (read_rebased t, walk_rebased t) (go (answers_read t (rebased b g)) (walk t (rebased b g)))
    where
      go : (n : ℕ) (o : Outcome) → outcome_answer g n o ≡ outcome_answer (rebased b g) n o
      go n (final v) = refl
      go n (missing q) = rw (later_rebased q.fact)

-- an answer, and another in its place where it is 26
abbrev pub unless26 : HostAnswer → HostAnswer → HostAnswer
unless26 r other = cond (eqb r.number 26) other r

-- the same of what a walk comes to
abbrev unless26_at : Outcome → Outcome → Outcome
unless26_at (final v) o = cond (eqb v 26) o (final v)
unless26_at (missing q) o = missing q

-- a question is no 26
abbrev IsNo26 : Outcome → Type 0
IsNo26 (final v) = Unit {0}
IsNo26 (missing q) = eqb q.number 26 ≡ false

-- the facts of every call with another next-hop and expanded next-hop
abbrev with_hops : Base → List ℕ → Option (List ℕ) → Base
with_hops b hop further = record { clock = b.clock; next_hop = hop; expanded_next_hop = further; origin = b.origin; host = b.host; address = b.address; expanded = b.expanded; policy = b.policy }

-- DANE with the expanded next-hop x passes where it passes with none, or with none and the next-hop y
abbrev ByEither : Origin → (hop x y : List ℕ) → Type 0
ByEither o hop x y = (domain : List ℕ) (records : List (List ℕ)) (p : Presented) → dane_passes (references o domain hop (some x)) records p ≡ (dane_passes (references o domain hop none) records p || dane_passes (references o domain y none) records p)

-- Then the rules with it come to what they come to with none, and where that is 26, to what they come to with none and the next-hop y.
module _ (b : Base) (hop x y : List ℕ) (dane : ByEither b.origin hop x y) (g : Facts) where
  abbrev with_third : Base
  with_third = with_hops b hop (some x)

  abbrev without_third : Base
  without_third = with_hops b hop none

  abbrev with_other : Base
  with_other = with_hops b y none

  -- of three rules: the first come to what the second do, and where that is 26 to what the third do; each reads as many TLSA answers
  record Either (t u w : Rules) : Type 0 where
    pub walks : walk t g ≡ unless26_at (walk u g) (walk w g)
    pub reads : answers_read t g ≡ answers_read u g
    pub others : answers_read w g ≡ answers_read u g
    pub asks : IsNo26 (walk u g)

  either_final : (v u w : ℕ) → final v ≡ cond (eqb u 26) (final w) (final u) → Either (verdict v) (verdict u) (verdict w)
  either_final v u w e = record { walks = e; reads = refl; others = refl; asks = tt }

  either_verdict : (v : ℕ) → Either (verdict v) (verdict v) (verdict v)
  either_verdict v = either_final v v v (go (eqb v 26))
    where
      go : (t : Bool) → final v ≡ cond t (final v) (final v)
      go true = refl
      go false = refl

  either_ask : (n : ℕ) → eqb n 26 ≡ false → (q : Fact) (k l m : Value q → Rules) → ((a : Value q) → Either (k a) (l a) (m a)) → Either (ask n q k) (ask n q l) (ask n q m)
  either_ask n e q k l m h = record { walks = go (given g q); reads = read (given g q); others = other (given g q); asks = plain (given g q) }
    where
      go : (o : Option (Value q)) → on_given o (missing (record { number = n; fact = q })) (λ a. walk (k a) g) ≡ unless26_at (on_given o (missing (record { number = n; fact = q })) (λ a. walk (l a) g)) (on_given o (missing (record { number = n; fact = q })) (λ a. walk (m a) g))
      go none = refl
      go (some a) = (h a).walks

      read : (o : Option (Value q)) → on_given o 0 (λ a. is_tlsa q + answers_read (k a) g) ≡ on_given o 0 (λ a. is_tlsa q + answers_read (l a) g)
      read none = refl
      read (some a) = ap (λ (c : ℕ). is_tlsa q + c) (h a).reads

      other : (o : Option (Value q)) → on_given o 0 (λ a. is_tlsa q + answers_read (m a) g) ≡ on_given o 0 (λ a. is_tlsa q + answers_read (l a) g)
      other none = refl
      other (some a) = ap (λ (c : ℕ). is_tlsa q + c) (h a).others

      plain : (o : Option (Value q)) → IsNo26 (on_given o (missing (record { number = n; fact = q })) (λ a. walk (l a) g))
      plain none = e
      plain (some a) = (h a).asks

  either_cond : (t : Bool) (k l m : Rules) (k' l' m' : Rules) → Either k l m → Either k' l' m' → Either (cond t k k') (cond t l l') (cond t m m')
  either_cond true k l m k' l' m' h h' = h
  either_cond false k l m k' l' m' h h' = h'

  last_either : (d e y z s : Bool) → Either (verdict (last_verdict d e (y || z) s)) (verdict (last_verdict d e y s)) (verdict (last_verdict d e z s))
  last_either true true true z true = either_final _ _ _ refl
  last_either true true true z false = either_final _ _ _ refl
  last_either true true false z s = either_final _ _ _ refl
  last_either true false true z s = either_final _ _ _ refl
  last_either true false false z s = either_final _ _ _ refl
  last_either false true y z true = either_final _ _ _ refl
  last_either false true y z false = either_final _ _ _ refl
  last_either false false y z s = either_final _ _ _ refl

  taken_either : (s : Taken) (p : Presented) → taken_passes with_third s p ≡ (taken_passes without_third s p || taken_passes with_other s p)
  taken_either nothing p = refl
  taken_either (set domain records) p = dane domain records p

  either_passed : (s : Taken) (p : Presented) (d e y : Bool) → Either (verdict (last_verdict d e (taken_passes with_third s p) y)) (verdict (last_verdict d e (taken_passes without_third s p) y)) (verdict (last_verdict d e (taken_passes with_other s p) y))
  either_passed s p d e y = rw (taken_either s p) (last_either d e (taken_passes without_third s p) (taken_passes with_other s p) y)

  either_authenticate : (s : Taken) (version : ℕ) → Either (authenticate with_third s version) (authenticate without_third s version) (authenticate with_other s version)
  unfolding needs_mta_sts mta_sts_passes is_listed
  either_authenticate s version =
      either_cond (needs_authentication b s) _ _ _ _ _ _
      (either_cond (is_old version) _ _ _ _ _ _ (either_verdict 28) (either_ask 12 refl certificates _ _ _ (λ p. either_passed s p (needs_dane s) (needs_mta_sts b) (mta_sts_passes b p))))
      (either_verdict 2)

  either_handshake : (s : Taken) (h : Handshake) → Either (after_handshake with_third s h) (after_handshake without_third s h) (after_handshake with_other s h)
  unfolding needs_mta_sts
  either_handshake s (established version) = either_authenticate s version
  either_handshake s failed = either_verdict _

  either_connect : (s : Taken) → Either (connect with_third s) (connect without_third s) (connect with_other s)
  unfolding needs_mta_sts
  either_connect s = either_ask 10 refl starttls _ _ _ (λ o. either_cond o _ _ _ _ _ _ (either_ask 11 refl handshake _ _ _ (either_handshake s)) (either_verdict (cond (needs_anything b s) 24 1)))

  either_answer : (domain : List ℕ) (records : List (List ℕ)) (k l m : Rules) → Either k l m → (r : Read) → Either (after_answer with_third domain records k r) (after_answer without_third domain records l r) (after_answer with_other domain records m r)
  either_answer domain records k l m h R.LookupFailed = either_verdict 22
  either_answer domain records k l m h (R.Taken n) = either_connect (set domain records)
  either_answer domain records k l m h R.NextName = h

  either_seek : (place : Place) (ns : List TlsaName) → Either (seek with_third place ns) (seek without_third place ns) (seek with_other place ns)
  either_seek place [] = either_connect nothing
  either_seek place (expanded_name ∷ ns) = either_ask (question_of expanded_name) refl (tlsa place) _ _ _ (λ a. either_answer b.expanded (secure_records a) _ _ _ (either_seek second ns) (read_of a))
  either_seek place (host_name ∷ ns) = either_ask (question_of host_name) refl (tlsa place) _ _ _ (λ a. either_answer b.host (secure_records a) _ _ _ (either_seek second ns) (read_of a))

  either_start : (n : NamesOrVerdict) → Either (start with_third n) (start without_third n) (start with_other n)
  unfolding needs_mta_sts is_listed
  either_start (A.verdict v) = either_verdict v
  either_start (names ns) = either_cond (needs_mta_sts b && not (is_listed b)) _ _ _ _ _ _ (either_verdict 23) (either_seek first ns)

  either_rules : Either (rules with_third) (rules without_third) (rules with_other)
  unfolding rules
  either_rules = either_start (names_to_try b.address)

  either_said : (t u w : Rules) → Either t u w → outcome_answer g (answers_read t g) (walk t g) ≡ unless26 (outcome_answer g (answers_read u g) (walk u g)) (outcome_answer g (answers_read w g) (walk w g))
  either_said t u w j = rw (j.walks, j.reads, j.others) (go (answers_read u g) (walk u g) (walk w g) j.asks)
    where
      go : (n : ℕ) (o o' : Outcome) → IsNo26 o → outcome_answer g n (unless26_at o o') ≡ unless26 (outcome_answer g n o) (outcome_answer g n o')
      go n (final v) o' k = at (eqb v 26)
        where
          at : (t : Bool) → outcome_answer g n (cond t o' (final v)) ≡ cond t (outcome_answer g n o') (outcome_answer g n (final v))
          at true = refl
          at false = refl
      go n (missing q) o' k = at (later q.fact g)
        where
          at : (l : Bool) → cond l (refused 66) (record { number = q.number; tlsa_questions = n }) ≡ unless26 (cond l (refused 66) (record { number = q.number; tlsa_questions = n })) (outcome_answer g n o')
          at true = refl
          at false = rw k

  -- the walk's answer, whatever base the facts stand beside
  walked_either : walked (rebased with_third g) ≡ unless26 (walked (rebased without_third g)) (walked (rebased with_other g))
  walked_either =
      sym (answer_rebased with_third g (rules with_third))
      ∙ either_said (rules with_third) (rules without_third) (rules with_other) either_rules
      ∙ rw (answer_rebased without_third g (rules without_third), answer_rebased with_other g (rules with_other))

-- the arguments with another expanded next-hop, or with none
abbrev pub with_expanded : ℕ → List ℕ → Arguments → Arguments
with_expanded given name a = record {
  numbers = record {
    clock = a.numbers.clock;
    expanded_next_hop_given = given;
    origin = a.numbers.origin;
    address = a.numbers.address;
    policy_given = a.numbers.policy_given;
    fetched = a.numbers.fetched;
    tlsa_answers = a.numbers.tlsa_answers;
    tlsa1_result = a.numbers.tlsa1_result;
    tlsa2_result = a.numbers.tlsa2_result;
    starttls = a.numbers.starttls;
    handshake = a.numbers.handshake;
    tls_version = a.numbers.tls_version;
    certificates_given = a.numbers.certificates_given;
    trusted_root = a.numbers.trusted_root;
    common_name_given = a.numbers.common_name_given;
  };
  next_hop = a.next_hop;
  expanded_next_hop = name;
  host = a.host;
  expanded = a.expanded;
  body = a.body;
  lengths1 = a.lengths1;
  records1 = a.records1;
  lengths2 = a.lengths2;
  records2 = a.records2;
  certificates = a.certificates;
  certificate_lengths = a.certificate_lengths;
  key_places = a.key_places;
  digests = a.digests;
  paths = a.paths;
  dns_ids = a.dns_ids;
  dns_id_lengths = a.dns_id_lengths;
  common_name = a.common_name;
}

-- the arguments with another next-hop
abbrev pub with_next_hop : List ℕ → Arguments → Arguments
with_next_hop name a = record {
  numbers = a.numbers;
  next_hop = name;
  expanded_next_hop = a.expanded_next_hop;
  host = a.host;
  expanded = a.expanded;
  body = a.body;
  lengths1 = a.lengths1;
  records1 = a.records1;
  lengths2 = a.lengths2;
  records2 = a.records2;
  certificates = a.certificates;
  certificate_lengths = a.certificate_lengths;
  key_places = a.key_places;
  digests = a.digests;
  paths = a.paths;
  dns_ids = a.dns_ids;
  dns_id_lengths = a.dns_id_lengths;
  common_name = a.common_name;
}

-- With none every answer is a function of the facts that there were before: the bytes in its place are not looked at.
pub none_as_before : (a : Arguments) (x y : List ℕ) → host_answer (with_expanded 2 x a) ≡ host_answer (with_expanded 2 y a)
unfolding host_answer checks codes_fit clocks_fit next_hops_fit host_names_fit policy_fits answers_fit certificates_fit facts_of base_of presented_in
none_as_before a x y = refl

-- and 60 is the answer exactly where it was: at a next-hop that is no name
pub none_next_hop : (a : Arguments) (x : List ℕ) → eqb (host_answer (with_expanded 2 x a)).number 60 ≡ (codes_fit (with_expanded 2 x a) && (clocks_fit (with_expanded 2 x a) && not (is_name a.next_hop)))
unfolding next_hops_fit
none_next_hop a x = exactly_60 (with_expanded 2 x a) ∙ ap (λ (t : Bool). codes_fit (with_expanded 2 x a) && (clocks_fit (with_expanded 2 x a) && not t)) (and-true (is_name a.next_hop))

-- the checks, then the walk
abbrev after : (c k m h p a e : Bool) → ℕ → HostAnswer → HostAnswer
after c k m h p a e n r = cond c (cond k (cond m (cond h (cond p (cond a (cond e r (refused 65)) (refused 64)) (refused n)) (refused 61)) (refused 60)) (refused 62)) (refused 67)

after_either : (c k m m' h p a e : Bool) (n : ℕ) (r s t : HostAnswer) → (m ≡ true → m' ≡ true) → (p ≡ false → eqb n 26 ≡ false) → r ≡ unless26 s t → after c k m h p a e n r ≡ unless26 (after c k m h p a e n s) (after c k m' h p a e n t)
after_either false k m m' h p a e n r s t z q w = refl
after_either true false m m' h p a e n r s t z q w = refl
after_either true true false m' h p a e n r s t z q w = refl
after_either true true true m' h p a e n r s t z q w = rw (z refl) (go h p a e q)
  where
    go : (h p a e : Bool) → (p ≡ false → eqb n 26 ≡ false) → after true true true h p a e n r ≡ unless26 (after true true true h p a e n s) (after true true true h p a e n t)
    go false p a e q = refl
    go true false a e q = rw (q refl)
    go true true false e q = refl
    go true true true false q = refl
    go true true true true q = w

module _ (a : Arguments) (x : List ℕ) where
  policy_other : policy_fits a ≡ false → eqb (policy_answer a.body).number 26 ≡ false
  policy_other h = let l = (refusal_range (policy_answer a.body).number (policy_refusal a h)).0 in ne_eqb (policy_answer a.body).number 26 (λ e. omega (arith, l, e))

  -- the call with none, and with another next-hop besides
  abbrev without : Arguments
  without = with_expanded 2 [] a

  abbrev other : List ℕ → Arguments
  other y = with_next_hop y without

  -- the checks of the call with none, then an answer
  abbrev checked_then : Bool → HostAnswer → HostAnswer
  checked_then m r = after (codes_fit without) (clocks_fit without) m (host_names_fit without) (policy_fits without) (answers_fit without) (certificates_fit without) (policy_answer a.body).number r

  without_is : host_answer without ≡ checked_then (next_hops_fit without) (walked (facts_of without))
  unfolding host_answer checks
  without_is = refl

  bad_is : is_name x ≡ false → host_answer (with_expanded 1 x a) ≡ checked_then false (walked (facts_of (with_expanded 1 x a)))
  unfolding host_answer checks codes_fit clocks_fit next_hops_fit host_names_fit policy_fits answers_fit certificates_fit
  bad_is named = rw (named, and-false (is_name a.next_hop))

  -- No name: the answer is the one with none where that is 67 or 62, and else 60, whatever the origin.
  pub bad_name_exactly : is_name x ≡ false → host_answer (with_expanded 1 x a) ≡ cond (eqb (host_answer (with_expanded 2 [] a)).number 67 || eqb (host_answer (with_expanded 2 [] a)).number 62) (host_answer (with_expanded 2 [] a)) (refused 60)
  bad_name_exactly named = bad_is named ∙ rw (exactly_67 without, exactly_62 without) (go (codes_fit without) (clocks_fit without) (refused_67 without) (refused_62 without))
    where
      go : (c k : Bool) → (c ≡ false → host_answer without ≡ refused 67) → (c ≡ true → k ≡ false → host_answer without ≡ refused 62) → after c k false (host_names_fit without) (policy_fits without) (answers_fit without) (certificates_fit without) (policy_answer a.body).number (walked (facts_of (with_expanded 1 x a))) ≡ cond (not c || (c && not k)) (host_answer without) (refused 60)
      go false k e f = sym (e refl)
      go true false e f = sym (f refl refl)
      go true true e f = refl

  -- Another code: 67.
  pub code_0 : host_answer (with_expanded 0 x a) ≡ refused 67
  unfolding host_answer checks codes_fit
  code_0 = refl

  pub code_above : (given : ℕ) → 2 < given → host_answer (with_expanded given x a) ≡ refused 67
  unfolding host_answer checks codes_fit
  code_above given h = rw (lt-leb given 2 h, and-false (leb 1 given))

  -- A name.
  module _ (named : is_name x ≡ true) where
    given_is : host_answer (with_expanded 1 x a) ≡ checked_then (next_hops_fit without) (walked (facts_of (with_expanded 1 x a)))
    unfolding host_answer checks codes_fit clocks_fit next_hops_fit host_names_fit policy_fits answers_fit certificates_fit
    given_is = rw named

    -- by the answers with none, with this next-hop and with y
    module _ (y : List ℕ) (good : is_name a.next_hop ≡ true → is_name y ≡ true) (hosts : host_names_fit (other y) ≡ host_names_fit without) (dane : ByEither (origin_of a.numbers.origin) a.next_hop x y) where
      other_is : host_answer (other y) ≡ checked_then (next_hops_fit (other y)) (walked (facts_of (other y)))
      unfolding host_answer checks codes_fit clocks_fit policy_fits answers_fit certificates_fit
      other_is = rw hosts

      good_other : next_hops_fit without ≡ true → next_hops_fit (other y) ≡ true
      unfolding next_hops_fit
      good_other h = and-true (is_name y) ∙ good (sym (and-true (is_name a.next_hop)) ∙ h)

      walks_either : walked (facts_of (with_expanded 1 x a)) ≡ unless26 (walked (facts_of without)) (walked (facts_of (other y)))
      unfolding facts_of base_of presented_in
      walks_either = walked_either (base_of a) a.next_hop x y dane (facts_of a)

      by_either : host_answer (with_expanded 1 x a) ≡ unless26 (host_answer without) (host_answer (other y))
      unfolding policy_fits
      by_either =
          given_is
          ∙ after_either (codes_fit without) (clocks_fit without) (next_hops_fit without) (next_hops_fit (other y)) (host_names_fit without) (policy_fits without) (answers_fit without) (certificates_fit without) (policy_answer a.body).number (walked (facts_of (with_expanded 1 x a))) (walked (facts_of without)) (walked (facts_of (other y))) good_other policy_other walks_either
          ∙ rw (← without_is, ← other_is)

    -- With secure MX the answer is the one with none; where that is 26, it is the one with none for the expanded next-hop in the next-hop's place.
    pub secure_exactly : a.numbers.origin ≡ 1 → host_answer (with_expanded 1 x a) ≡ unless26 (host_answer (with_expanded 2 [] a)) (host_answer (with_next_hop x (with_expanded 2 [] a)))
    unfolding host_names_fit
    secure_exactly secure = by_either x (λ h. named) (rw secure) (λ domain records p. rw secure (dane_by_either domain a.next_hop x records p))

    -- Where the references are the same without it, so is the answer: it is a reference and nothing else.
    pub only_a_reference : ((domain : List ℕ) → references (origin_of a.numbers.origin) domain a.next_hop (some x) ≡ references (origin_of a.numbers.origin) domain a.next_hop none) → host_answer (with_expanded 1 x a) ≡ host_answer (with_expanded 2 [] a)
    only_a_reference same = by_either a.next_hop (λ h. h) refl (λ domain records p. ap (λ (refs : List (List ℕ)). dane_passes refs records p) (same domain) ∙ twice (dane_passes (references (origin_of a.numbers.origin) domain a.next_hop none) records p)) ∙ once (eqb (host_answer without).number 26)
      where
        twice : (t : Bool) → t ≡ (t || t)
        twice true = refl
        twice false = refl

        once : (t : Bool) → cond t (host_answer without) (host_answer without) ≡ host_answer without
        once true = refl
        once false = refl

    -- so with insecure MX, with no MX, and where it is the next-hop in whatever case
    pub insecure_as_before : a.numbers.origin ≡ 2 → host_answer (with_expanded 1 x a) ≡ host_answer (with_expanded 2 [] a)
    insecure_as_before e = only_a_reference (λ domain. rw e (insecure_with_any domain a.next_hop (some x) ∙ sym (insecure_with_any domain a.next_hop none)))

    pub no_mx_as_before : a.numbers.origin ≡ 3 → host_answer (with_expanded 1 x a) ≡ host_answer (with_expanded 2 [] a)
    no_mx_as_before e = only_a_reference (λ domain. rw e (no_mx_with_any domain a.next_hop (some x) ∙ sym (no_mx_with_any domain a.next_hop none)))

    pub same_as_before : same_text x a.next_hop ≡ true → host_answer (with_expanded 1 x a) ≡ host_answer (with_expanded 2 [] a)
    same_as_before e = only_a_reference (λ domain. go domain (origin_of a.numbers.origin))
      where
        go : (domain : List ℕ) (o : Origin) → references o domain a.next_hop (some x) ≡ references o domain a.next_hop none
        go domain SecureMx = same_adds_nothing domain a.next_hop x e ∙ sym (secure_without domain a.next_hop)
        go domain InsecureMx = insecure_with_any domain a.next_hop (some x) ∙ sym (insecure_with_any domain a.next_hop none)
        go domain NoMx = no_mx_with_any domain a.next_hop (some x) ∙ sym (no_mx_with_any domain a.next_hop none)
