-- The version of TLS (document 02, No. 6): at 03 03 hex and above every answer is what it was, and a version below changes only the answers that authentication decides. Assumes nothing.
use Prim.Native.Nat.{ℕ, ◌+◌, ◌<◌, ◌≤◌}
use mathlib.Core.Path.{◌≡◌, refl, sym, ap, subst, ◌∙◌}
use mathlib.Core.Bool.{Bool, true, false, cond, not, ◌&&◌, ◌||◌, and-false}
use mathlib.Core.List.{List, [], ◌∷◌}
use mathlib.Core.Option.{Option, none, some}
use native.Mathlib.Omega.{arith}
use lib.Dec.{eqb}
use borrow.Author.Tests.{not-true, lt-leb, le-leb, lt-ltb, le-ltb, ne_eqb}
use Rattle.lists.specs.Check.{Check}
use Rattle.lists.specs.Bytes.{all}
use Rattle.lists.proofs.Bools.{apart, and_left, and_right, by_cond}
use Rattle.policies.proofs.Sanity.{is_policy_refusal, refusal_range}
use Rattle.tlsa.specs.declared.Address.{Address}
use Rattle.tlsa.specs.declared.Address.TheVariants.{NoAliasSecure, NoAliasInsecure, AliasSecure, AliasFirstStepSecure, AliasFirstStepInsecure, Failed, NoAddress}
use Rattle.tlsa.specs.declared.Read.{Read}
use Rattle.tlsa.specs.declared.Read.TheVariants as R
use Rattle.tlsa.specs.Address.{TlsaName, expanded_name, host_name, names, names_to_try}
use Rattle.tlsa.specs.Answer.{secure_records, read_of}
use Rattle.certificates.specs.Facts.{Presented}
use Rattle.hosts.specs.declared.HostAnswer.{HostAnswer}
use Rattle.hosts.specs.Facts.{Base, established, Place, first, second, Fact, Value, tlsa, starttls, handshake, certificates, Facts, given, later}
use Rattle.hosts.specs.Tree.{Rules, verdict, ask, Outcome, final, missing, on_given, walk, is_tlsa, answers_read}
use Rattle.hosts.specs.Rules.{needs_mta_sts, is_listed, mta_sts_passes, Taken, nothing, set, needs_dane, needs_authentication, needs_anything, taken_passes, last_verdict, is_old, after_handshake, connect, after_answer, seek, start, rules}
use Rattle.hosts.specs.Arguments.{Arguments, arguments_of, base_of, presented_in, facts_of}
use Rattle.hosts.specs.Call.{codes_fit, clocks_fit, next_hops_fit, host_names_fit, policy_fits, answers_fit, certificates_fit, checks, refused, checked, outcome_answer, walked, host_answer}
use Rattle.hosts.specs.Verdicts.{Tests, dane_needed, mta_sts_needed, encrypts, is3, is4, is5, is26, is27, is28}
use Rattle.hosts.proofs.Accepted.{refuses_by, refusals, bad_version}
use Rattle.hosts.proofs.Order.{refused_67}

-- The answers that authentication decides: delivery by DANE, by MTA-STS, by both; the question of certificate facts; DANE did not match; the MTA-STS check did not pass.
abbrev pub is_by_authentication : ℕ → Bool
is_by_authentication n = eqb n 3 || (eqb n 4 || (eqb n 5 || (eqb n 12 || (eqb n 26 || eqb n 27))))

-- an answer, and 28 with its count in its place where authentication decides it
abbrev pub or_old : HostAnswer → HostAnswer
or_old r = cond (is_by_authentication r.number) (record { number = 28; tlsa_questions = r.tlsa_questions }) r

-- the rules that there were

-- At a version that is not old, the rules after an established handshake are those that there were.
pub new_rules : (b : Base) (s : Taken) (version : ℕ) → 771 ≤ version → after_handshake b s (established version) ≡ cond (needs_dane s || needs_mta_sts b) (ask 12 certificates (λ p. verdict (last_verdict (needs_dane s) (needs_mta_sts b) (taken_passes b s p) (mta_sts_passes b p)))) (verdict 2)
unfolding is_old
new_rules b s version h = rw (le-ltb version 771 h)

-- And so are the conditions of the verdicts on what is authenticated; that of 28 does not hold.
module _ (t : Tests) (new : t.old ≡ false) where
  pub new_28 : is28 t ≡ false
  new_28 = simp (new, and-false)

  pub new_26 : is26 t ≡ (encrypts t && (dane_needed t && not t.dane_passed))
  new_26 = rw new_28

  pub new_27 : is27 t ≡ (encrypts t && (not (encrypts t && (dane_needed t && not t.dane_passed)) && (mta_sts_needed t && not t.mta_sts_passed)))
  new_27 = rw new_28

  pub new_5 : is5 t ≡ (encrypts t && (dane_needed t && (mta_sts_needed t && (t.dane_passed && t.mta_sts_passed))))
  new_5 = rw new_28

  pub new_3 : is3 t ≡ (encrypts t && (dane_needed t && (not (mta_sts_needed t) && t.dane_passed)))
  new_3 = rw new_28

  pub new_4 : is4 t ≡ (encrypts t && (not (dane_needed t) && (mta_sts_needed t && t.mta_sts_passed)))
  new_4 = rw new_28

-- the walk at two versions

-- what a walk comes to at an old version, by what it comes to at 03 03 hex
abbrev aged : Outcome → Outcome
aged (final n) = cond (is_by_authentication n) (final 28) (final n)
aged (missing q) = cond (is_by_authentication q.number) (final 28) (missing q)

-- where both choices are the same
either_way : {A : Type 0} (w : Bool) (x : A) → x ≡ cond w x x
either_way true x = refl
either_way false x = refl

-- where authentication is needed, it decides the last verdict
last_decided : (n e d s : Bool) → (n || e) ≡ true → is_by_authentication (last_verdict n e d s) ≡ true
last_decided true true true true h = refl
last_decided true true true false h = refl
last_decided true true false s h = refl
last_decided true false true s h = refl
last_decided true false false s h = refl
last_decided false true d true h = refl
last_decided false true d false h = refl
last_decided false false d s h = apart h

-- a question that authentication decides is that of certificate facts, the last
abbrev AsksLast : Outcome → Type 0
AsksLast (final n) = Unit {0}
AsksLast (missing q) = is_by_authentication q.number ≡ true → q.fact ≡ certificates

module _ (b : Base) (g : Facts) (version : ℕ) (w : Bool) (old : is_old version ≡ w) where
  -- the facts with a handshake established at a version
  abbrev at_with : Option Presented → ℕ → Facts
  at_with p v = record { base = b; tlsa1 = g.tlsa1; tlsa2 = g.tlsa2; offered = g.offered; outcome = some (established v); presented = p }

  abbrev at : ℕ → Facts
  at v = at_with g.presented v

  -- of the rules: at the version they come to what they come to at 03 03 hex, aged where it is old (w); they read as many TLSA answers
  record Aged (t : Rules) : Type 0 where
    pub walks : walk t (at version) ≡ cond w (aged (walk t (at 771))) (walk t (at 771))
    pub reads : answers_read t (at version) ≡ answers_read t (at 771)
    pub asks : AsksLast (walk t (at 771))

  aged_verdict : (v : ℕ) → is_by_authentication v ≡ false → Aged (verdict v)
  aged_verdict v h = record { walks = rw h (either_way w (final v)); reads = refl; asks = tt }

  -- a question whose fact is the same at both
  aged_ask : (n : ℕ) → is_by_authentication n ≡ false → (q : Fact) (k : Value q → Rules) → given (at version) q ≡ given (at 771) q → ((a : Value q) → Aged (k a)) → Aged (ask n q k)
  aged_ask n plain q k same h = record { walks = rw same (go (given (at 771) q)); reads = rw same (read (given (at 771) q)); asks = last (given (at 771) q) }
    where
      go : (o : Option (Value q)) → on_given o (missing (record { number = n; fact = q })) (λ a. walk (k a) (at version)) ≡ cond w (aged (on_given o (missing (record { number = n; fact = q })) (λ a. walk (k a) (at 771)))) (on_given o (missing (record { number = n; fact = q })) (λ a. walk (k a) (at 771)))
      go none = rw plain (either_way w (missing (record { number = n; fact = q })))
      go (some a) = (h a).walks

      read : (o : Option (Value q)) → on_given o 0 (λ a. is_tlsa q + answers_read (k a) (at version)) ≡ on_given o 0 (λ a. is_tlsa q + answers_read (k a) (at 771))
      read none = refl
      read (some a) = ap (λ (c : ℕ). is_tlsa q + c) (h a).reads

      last : (o : Option (Value q)) → AsksLast (on_given o (missing (record { number = n; fact = q })) (λ a. walk (k a) (at 771)))
      last none = λ t. apart (sym plain ∙ t)
      last (some a) = (h a).asks

  -- the handshake: what follows it, where authentication is needed (k) or not
  module _ (s : Taken) where
    abbrev asked : Rules
    asked = ask 12 certificates (λ p. verdict (last_verdict (needs_dane s) (needs_mta_sts b) (taken_passes b s p) (mta_sts_passes b p)))

    decided : (k w : Bool) (o : Option Presented) → (needs_authentication b s) ≡ k → walk (cond k (cond w (verdict 28) asked) (verdict 2)) (at_with o version) ≡ cond w (aged (walk (cond k asked (verdict 2)) (at_with o 771))) (walk (cond k asked (verdict 2)) (at_with o 771))
    decided true true none e = refl
    decided true true (some p) e = rw (last_decided (needs_dane s) (needs_mta_sts b) (taken_passes b s p) (mta_sts_passes b p) e)
    decided true false none e = refl
    decided true false (some p) e = refl
    decided false w o e = either_way w (final 2)

    read_none : (k w : Bool) (o : Option Presented) (v : ℕ) → answers_read (cond k (cond w (verdict 28) asked) (verdict 2)) (at_with o v) ≡ 0
    read_none true true o v = refl
    read_none true false none v = refl
    read_none true false (some p) v = refl
    read_none false w o v = refl

    last_asked : (k : Bool) (o : Option Presented) → AsksLast (walk (cond k asked (verdict 2)) (at_with o 771))
    last_asked true none = λ t. refl
    last_asked true (some p) = tt
    last_asked false o = tt

    not_old : is_old 771 ≡ false
    unfolding is_old
    not_old = refl

    -- after a handshake at an old version or not
    abbrev after : Bool → Rules
    after t = cond (needs_authentication b s) (cond t (verdict 28) asked) (verdict 2)

    aged_handshake : Aged (ask 11 handshake (after_handshake b s))
    aged_handshake = record {
      walks = ap (λ (t : Bool). walk (after t) (at version)) old ∙ decided (needs_authentication b s) w g.presented refl ∙ sym (ap (λ (t : Bool). cond w (aged (walk (after t) (at 771))) (walk (after t) (at 771))) not_old);
      reads = ap (λ (c : ℕ). 0 + c) (read_none (needs_authentication b s) (is_old version) g.presented version ∙ sym (read_none (needs_authentication b s) (is_old 771) g.presented 771));
      asks = subst (λ (t : Bool). AsksLast (walk (after t) (at 771))) (sym not_old) (last_asked (needs_authentication b s) g.presented);
    }

    aged_needed : (n : ℕ) → is_by_authentication n ≡ false → Aged (verdict (cond (needs_anything b s) n 1))
    aged_needed n h = go (needs_anything b s)
      where
        go : (x : Bool) → Aged (verdict (cond x n 1))
        go true = aged_verdict n h
        go false = aged_verdict 1 refl

    aged_connect : Aged (connect b s)
    aged_connect = aged_ask 10 refl starttls _ refl (λ o. by_cond Aged o (λ e. aged_handshake) (λ e. aged_needed 24 refl))

  aged_answer : (domain : List ℕ) (records : List (List ℕ)) (next : Rules) → Aged next → (r : Read) → Aged (after_answer b domain records next r)
  aged_answer domain records next h R.LookupFailed = aged_verdict 22 refl
  aged_answer domain records next h (R.Taken n) = aged_connect (set domain records)
  aged_answer domain records next h R.NextName = h

  same_tlsa : (place : Place) → given (at version) (tlsa place) ≡ given (at 771) (tlsa place)
  same_tlsa first = refl
  same_tlsa second = refl

  aged_seek : (place : Place) (ns : List TlsaName) → Aged (seek b place ns)
  aged_seek place [] = aged_connect nothing
  aged_seek place (expanded_name ∷ ns) = aged_ask 13 refl (tlsa place) _ (same_tlsa place) (λ a. aged_answer b.expanded (secure_records a) _ (aged_seek second ns) (read_of a))
  aged_seek place (host_name ∷ ns) = aged_ask 14 refl (tlsa place) _ (same_tlsa place) (λ a. aged_answer b.host (secure_records a) _ (aged_seek second ns) (read_of a))

  aged_names : (ns : List TlsaName) → Aged (start b (names ns))
  aged_names ns = by_cond Aged (needs_mta_sts b && not (is_listed b)) (λ e. aged_verdict 23 refl) (λ e. aged_seek first ns)

  aged_start : (x : Address) → Aged (start b (names_to_try x))
  aged_start NoAliasSecure = aged_names (host_name ∷ [])
  aged_start NoAliasInsecure = aged_names []
  aged_start AliasSecure = aged_names (expanded_name ∷ host_name ∷ [])
  aged_start AliasFirstStepSecure = aged_names (host_name ∷ [])
  aged_start AliasFirstStepInsecure = aged_names []
  aged_start Failed = aged_verdict 20 refl
  aged_start NoAddress = aged_verdict 21 refl

  aged_rules : Aged (rules b)
  unfolding rules
  aged_rules = aged_start b.address

  later_same : (q : Fact) → later q (at version) ≡ later q (at 771)
  later_same (tlsa first) = refl
  later_same (tlsa second) = refl
  later_same starttls = refl
  later_same handshake = refl
  later_same certificates = refl

  said_new : (n : ℕ) (o : Outcome) → outcome_answer (at version) n o ≡ outcome_answer (at 771) n o
  said_new n (final v) = refl
  said_new n (missing q) = rw (later_same q.fact)

  said_old : (n : ℕ) (o : Outcome) → AsksLast o → outcome_answer (at version) n (aged o) ≡ or_old (outcome_answer (at 771) n o)
  said_old n (final v) h = go (is_by_authentication v)
    where
      go : (t : Bool) → outcome_answer (at version) n (cond t (final 28) (final v)) ≡ cond t (record { number = 28; tlsa_questions = n }) (record { number = v; tlsa_questions = n })
      go true = refl
      go false = refl
  said_old n (missing q) h = go (is_by_authentication q.number) refl
    where
      go : (t : Bool) → is_by_authentication q.number ≡ t → outcome_answer (at version) n (cond t (final 28) (missing q)) ≡ or_old (outcome_answer (at 771) n (missing q))
      go true e = rw (h e, e)
      go false e = rw (later_same q.fact) (by (later q.fact (at 771)))
        where
          by : (l : Bool) → cond l (refused 66) (record { number = q.number; tlsa_questions = n }) ≡ or_old (cond l (refused 66) (record { number = q.number; tlsa_questions = n }))
          by true = refl
          by false = rw e

  said : (w : Bool) (n : ℕ) (o : Outcome) → AsksLast o → outcome_answer (at version) n (cond w (aged o) o) ≡ cond w (or_old (outcome_answer (at 771) n o)) (outcome_answer (at 771) n o)
  said true n o h = said_old n o h
  said false n o h = said_new n o

  walked_aged : walked (at version) ≡ cond w (or_old (walked (at 771))) (walked (at 771))
  walked_aged = rw (aged_rules.walks, aged_rules.reads) (said w (answers_read (rules b) (at 771)) (walk (rules b) (at 771)) aged_rules.asks)

-- the arguments with another version
abbrev pub with_version : ℕ → Arguments → Arguments
with_version version a = arguments_of (record {
  clock = a.numbers.clock;
  expanded_next_hop_given = a.numbers.expanded_next_hop_given;
  origin = a.numbers.origin;
  address = a.numbers.address;
  policy_given = a.numbers.policy_given;
  fetched = a.numbers.fetched;
  tlsa_answers = a.numbers.tlsa_answers;
  tlsa1_result = a.numbers.tlsa1_result;
  tlsa2_result = a.numbers.tlsa2_result;
  starttls = a.numbers.starttls;
  handshake = a.numbers.handshake;
  tls_version = version;
  certificates_given = a.numbers.certificates_given;
  trusted_root = a.numbers.trusted_root;
  common_name_given = a.numbers.common_name_given;
}) a.next_hop a.expanded_next_hop a.host a.expanded a.body a.lengths1 a.records1 a.lengths2 a.records2 a.certificates a.certificate_lengths a.key_places a.digests a.paths a.dns_ids a.dns_id_lengths a.common_name

-- no refusal is an answer that authentication decides
abbrev is_other : ℕ → Bool
is_other n = not (is_by_authentication n)

refusal_other : (n : ℕ) → is_policy_refusal n ≡ true → is_other n ≡ true
refusal_other n h =
    let l = (refusal_range n h).0 in
    rw (ne_eqb n 3 (λ e. omega (arith, l, e)), ne_eqb n 4 (λ e. omega (arith, l, e)), ne_eqb n 5 (λ e. omega (arith, l, e)), ne_eqb n 12 (λ e. omega (arith, l, e)), ne_eqb n 26 (λ e. omega (arith, l, e)), ne_eqb n 27 (λ e. omega (arith, l, e)))

checked_old : (cs : List Check) (r : HostAnswer) → all (refuses_by is_other) cs ≡ true → checked cs (or_old r) ≡ or_old (checked cs r)
unfolding all
checked_old [] r h = refl
checked_old (c ∷ cs) r h = go c.passes (and_left (refuses_by is_other c) (all (refuses_by is_other) cs) h) (checked_old cs r (and_right (refuses_by is_other c) (all (refuses_by is_other) cs) h))
  where
    go : (x : Bool) → (x || is_other c.refusal) ≡ true → checked cs (or_old r) ≡ or_old (checked cs r) → cond x (checked cs (or_old r)) (refused c.refusal) ≡ or_old (cond x (checked cs r) (refused c.refusal))
    go true k ih = ih
    go false k ih = rw (not-true (is_by_authentication c.refusal) k)

-- what is said of every version is said of the one that is given
pub own_version : (a : Arguments) → with_version a.numbers.tls_version a ≡ a
own_version a = refl

module _ (a : Arguments) where
  -- A version is looked at only where the handshake is established.
  pub not_looked_at : (a.numbers.handshake ≡ 1 → ⊥) → (x y : ℕ) → host_answer (with_version x a) ≡ host_answer (with_version y a)
  unfolding host_answer checks codes_fit clocks_fit next_hops_fit host_names_fit policy_fits answers_fit certificates_fit facts_of base_of presented_in
  not_looked_at h x y = rw (ne_eqb a.numbers.handshake 1 h)

  module _ (up : a.numbers.handshake ≡ 1) where
    -- One of over two bytes is 67.
    pub over_two_bytes : (x : ℕ) → 65535 < x → host_answer (with_version x a) ≡ refused 67
    over_two_bytes x h = refused_67 (with_version x a) (bad_version (with_version x a) (rw (up, lt-leb x 65535 h)))

    module _ (x : ℕ) (two : x ≤ 65535) where
      same_checks : checks (with_version x a) ≡ checks (with_version 771 a)
      unfolding checks codes_fit clocks_fit next_hops_fit host_names_fit policy_fits answers_fit certificates_fit
      same_checks = rw (up, le-leb x 65535 two)

      walks_by : (w : Bool) → is_old x ≡ w → walked (facts_of (with_version x a)) ≡ cond w (or_old (walked (facts_of (with_version 771 a)))) (walked (facts_of (with_version 771 a)))
      unfolding facts_of base_of presented_in
      walks_by w old = rw up (walked_aged (base_of a) (facts_of a) x w old)

      -- At 03 03 hex and above, every answer is that at 03 03 hex.
      pub new_exactly : 771 ≤ x → host_answer (with_version x a) ≡ host_answer (with_version 771 a)
      unfolding host_answer is_old
      new_exactly h = rw (same_checks, walks_by false (le-ltb x 771 h))

      -- Below, it is that at 03 03 hex, and 28 with its count where authentication decides it.
      pub old_exactly : x < 771 → host_answer (with_version x a) ≡ or_old (host_answer (with_version 771 a))
      unfolding host_answer is_old
      old_exactly h = rw (same_checks, walks_by true (lt-ltb x 771 h)) (checked_old (checks (with_version 771 a)) (walked (facts_of (with_version 771 a))) (refusals is_other refl refusal_other (with_version 771 a)))

      -- So an old version authenticates nobody: no answer there is delivery by DANE, by MTA-STS or by both, and certificate facts are neither asked for nor judged.
      pub old_authenticates_nobody : x < 771 → is_by_authentication (host_answer (with_version x a)).number ≡ false
      old_authenticates_nobody h = rw (old_exactly h) (go (is_by_authentication (host_answer (with_version 771 a)).number) refl)
        where
          go : (t : Bool) → is_by_authentication (host_answer (with_version 771 a)).number ≡ t → is_by_authentication (cond t (record { number = 28; tlsa_questions = (host_answer (with_version 771 a)).tlsa_questions }) (host_answer (with_version 771 a))).number ≡ false
          go true e = refl
          go false e = e
