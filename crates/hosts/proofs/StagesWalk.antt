-- The walk over the tree of questions is the walk by stages. Assumes nothing.
use Prim.Native.Nat.{ℕ, ◌+◌}
use mathlib.Core.Path.{◌≡◌, refl, sym, ◌∙◌}
use mathlib.Core.Bool.{Bool, true, false, cond, not, ◌&&◌, ◌||◌}
use mathlib.Core.List.{List, [], ◌∷◌}
use mathlib.Core.Option.{Option, none, some}
use lib.Dec.{eqb, leb}
use Rattle.lists.specs.Bytes.{any}
use Rattle.lists.proofs.Bools.{apart, never}
use Rattle.tlsa.specs.Answer.{Lookup}
use Rattle.tlsa.specs.Answer as L
use Rattle.tlsa.specs.declared.Needs.{Needs}
use Rattle.tlsa.specs.declared.Needs.TheVariants as N
use Rattle.tlsa.specs.declared.Read.{Read}
use Rattle.tlsa.specs.declared.Read.TheVariants as R
use Rattle.tlsa.specs.declared.Tries.{Tries}
use Rattle.tlsa.specs.declared.Tries.TheVariants.{ExpandedThenHost, HostOnly, NoName, AddressFailed, AddressMissing}
use Rattle.tlsa.specs.Record.{short}
use Rattle.tlsa.specs.declared.Address.{Address}
use Rattle.tlsa.specs.declared.Address.TheVariants as A
use Rattle.tlsa.specs.Address.{expanded_name, host_name, meaning_of}
use Rattle.tlsa.specs.Answer.{Answer, secure_records, answer_of, records_of, read_of, taken_of, needs_of}
use Rattle.certificates.specs.declared.Origin.{Origin}
use Rattle.certificates.specs.Facts.{Presented, when}
use Rattle.certificates.specs.Checks.{references, dane_passes, shows_host}
use Rattle.hosts.specs.declared.HostAnswer.{HostAnswer}
use Rattle.hosts.specs.declared.Numbers.{Numbers}
use Rattle.hosts.specs.declared.Found.{Found}
use Rattle.std.specs.Prelude as S
use Rattle.hosts.specs.Facts.{Base, Handshake, established, failed, Place, first, second, tlsa, certificates, Facts, is_given, later}
use Rattle.hosts.specs.Tree.{Rules, verdict, ask, missing, on_given, walk, answers_read}
use Rattle.hosts.specs.Rules.{is_old, needs_mta_sts, is_listed, mta_sts_passes, Taken, nothing, set, needs, is_authentication, needs_dane, needs_authentication, taken_passes, last_verdict, connect, after_answer, seek, start, rules}
use Rattle.hosts.specs.Arguments.{Arguments, origin_of, address_of, is_alias, lookup_of, offered_of, outcome_of, base_of, presented_in, facts_of}
use Rattle.hosts.specs.Call.{outcome_answer, walked}
use Rattle.hosts.specs.Stages.{read_given, later_given, saying, Stage, no_set, read_stage, host_read, at_host, expanded_read, at_expanded, tries_of, names_stage, first_stage, handshake_stage, connection, certificate_verdict, ended, found_answer, reaching, walk_answer}
use Rattle.hosts.proofs.WalkReturns.{offered_given, outcome_given, tries_meaning}

-- the facts of a call, with what is given
abbrev facts : Base → (x y : Option Answer) → Option Bool → Option Handshake → Bool → Presented → Facts
facts b x y o m t p = record { base = b; tlsa1 = x; tlsa2 = y; offered = o; outcome = m; presented = when t p }

-- the connection reads no TLSA answer, and comes to what its stages say
module _ (b : Base) (s : Taken) (x y : Option Answer) (p : Presented) where
  connect_reads : (o : Option Bool) (m : Option Handshake) (t : Bool) → answers_read (connect b s) (facts b x y o m t p) ≡ 0
  connect_reads none m t = refl
  connect_reads (some false) m t = refl
  connect_reads (some true) none t = refl
  connect_reads (some true) (some failed) t = refl
  connect_reads (some true) (some (established version)) t = rw (go (needs_authentication b s) (is_old version) t)
    where
      go : (k w t : Bool) → answers_read (cond k (cond w (verdict 28) (ask 12 certificates (λ q. verdict (last_verdict (needs_dane s) (needs_mta_sts b) (taken_passes b s q) (mta_sts_passes b q))))) (verdict 2)) (facts b x y (some true) (some (established version)) t p) ≡ 0
      go true true t = refl
      go true false true = refl
      go true false false = refl
      go false w t = refl

  connect_is : (n : ℕ) (o : Option Bool) (m : Option Handshake) (t : Bool) → outcome_answer (facts b x y o m t p) n (walk (connect b s) (facts b x y o m t p)) ≡ ended n (last_verdict (needs_dane s) (needs_mta_sts b) (taken_passes b s p) (mta_sts_passes b p)) (connection n (needs s) (needs_mta_sts b) o m t)
  unfolding connection handshake_stage
  connect_is n none m true = refl
  connect_is n none m false = refl
  connect_is n (some false) m t = refl
  connect_is n (some true) none true = refl
  connect_is n (some true) none false = refl
  connect_is n (some true) (some failed) t = refl
  connect_is n (some true) (some (established version)) t = go (needs_authentication b s) (is_old version) t
    where
      go : (k w t : Bool) → outcome_answer (facts b x y (some true) (some (established version)) t p) n (walk (cond k (cond w (verdict 28) (ask 12 certificates (λ q. verdict (last_verdict (needs_dane s) (needs_mta_sts b) (taken_passes b s q) (mta_sts_passes b q))))) (verdict 2)) (facts b x y (some true) (some (established version)) t p)) ≡ ended n (last_verdict (needs_dane s) (needs_mta_sts b) (taken_passes b s p) (mta_sts_passes b p)) (cond k (cond w (S.Err (saying 28 n)) (cond t (S.Ok tt) (S.Err (saying 12 n)))) (S.Err (saying 2 n)))
      go true true t = refl
      go true false true = refl
      go true false false = refl
      go false w t = refl

-- the last verdict by what is needed alone; where the MTA-STS check is needed, a pattern matches the host
last_same : (d e l x y z : Bool) → (d ≡ true → x ≡ y) → (e && not l) ≡ false → last_verdict d e x (l && z) ≡ last_verdict d e (not d || y) (not e || z)
last_same true true true x y z h k = rw (h refl)
last_same true true false x y z h k = apart (sym k)
last_same true false l x true z h k = rw (h refl)
last_same true false l x false z h k = rw (h refl)
last_same false true true x y true h k = refl
last_same false true true x y false h k = refl
last_same false true false x y z h k = apart (sym k)
last_same false false l x y z h k = refl

-- an answer whose set is taken: its records, and what they need
taken_is : (l : Lookup) (lengths records : List ℕ) (d : Needs) → read_of (answer_of l lengths records) ≡ R.Taken d → (secure_records (answer_of l lengths records) ≡ records_of lengths records) × (needs_of (records_of lengths records) ≡ d)
unfolding read_of answer_of taken_of
taken_is L.Secure lengths records d h = (refl, go (any short (records_of lengths records)) (records_of lengths records) h)
  where
    go : (t : Bool) (rs : List (List ℕ)) → cond t R.LookupFailed (taken_of rs) ≡ R.Taken d → needs_of rs ≡ d
    go true rs k = never cc
    go false [] k = never cc
    go false (r ∷ rs) k = cc
taken_is L.Insecure lengths records d h = never cc
taken_is L.Absent lengths records d h = never cc
taken_is L.Failed lengths records d h = never cc

-- the answer from the connection on, by what it looks at
abbrev verdict_from : Needs → (e : Bool) → Origin → (domain next_hop : List ℕ) (expanded_next_hop : Option (List ℕ)) (host lengths records : List ℕ) → Presented → ℕ
verdict_from d e origin domain next_hop expanded_next_hop host lengths records p =
    last_verdict (is_authentication d) e
    (not (is_authentication d) || dane_passes (references origin domain next_hop expanded_next_hop) (records_of lengths records) p)
    (not e || shows_host host p)

abbrev found_from : Numbers → (e : Bool) → Found → (domain next_hop expanded_next_hop host lengths records : List ℕ) → Presented → HostAnswer
found_from n e f domain next_hop expanded_next_hop host lengths records p =
    ended f.questions (verdict_from f.needs e (origin_of n.origin) domain next_hop (when (eqb n.expanded_next_hop_given 1) expanded_next_hop) host lengths records p)
    (connection f.questions f.needs e (offered_of n.starttls) (outcome_of n.handshake n.tls_version) (eqb n.certificates_given 1))

module _ (n : Numbers) (b : Base) (further expanded L1 R1 L2 R2 : List ℕ) (k1 k2 : Bool) (a1 a2 : Answer) (p : Presented) where
  -- the facts of the call
  abbrev these : Facts
  these = facts b (when k1 a1) (when k2 a2) (offered_of n.starttls) (outcome_of n.handshake n.tls_version) (eqb n.certificates_given 1) p

  -- what follows from the set that was found
  abbrev follow : Found → HostAnswer
  follow f = found_from n (needs_mta_sts b) f (cond f.expanded expanded b.host) b.next_hop further b.host (cond f.second L2 L1) (cond f.second R2 R1) p

  -- an answer whose set is taken has these records
  abbrev Takes : Bool → Answer → Type 0
  Takes j a = (d : Needs) → read_of a ≡ R.Taken d → (secure_records a ≡ records_of (cond j L2 L1) (cond j R2 R1)) × (needs_of (records_of (cond j L2 L1) (cond j R2 R1)) ≡ d)

  module _ (oe : origin_of n.origin ≡ b.origin) (xe : when (eqb n.expanded_next_hop_given 1) further ≡ b.expanded_next_hop) (listed : (needs_mta_sts b && not (is_listed b)) ≡ false) where
    found_is : (s : Taken) (d : Needs) (i j : Bool) (q : ℕ) → needs s ≡ d → (is_authentication d ≡ true → taken_passes b s p ≡ dane_passes (references b.origin (cond i expanded b.host) b.next_hop b.expanded_next_hop) (records_of (cond j L2 L1) (cond j R2 R1)) p) → outcome_answer these q (walk (connect b s) these) ≡ follow (record { needs = d; expanded = i; second = j; questions = q })
    unfolding mta_sts_passes
    found_is s d i j q de dp =
        connect_is b s (when k1 a1) (when k2 a2) p q (offered_of n.starttls) (outcome_of n.handshake n.tls_version) (eqb n.certificates_given 1)
        ∙ rw (de, oe, xe, last_same (is_authentication d) (needs_mta_sts b) (is_listed b) (taken_passes b s p) (dane_passes (references b.origin (cond i expanded b.host) b.next_hop b.expanded_next_hop) (records_of (cond j L2 L1) (cond j R2 R1)) p) (shows_host b.host p) dp listed)

    -- after the last name there is no set
    none_is : (q : ℕ) → outcome_answer these q (walk (connect b nothing) these) ≡ reaching follow (no_set q)
    none_is q = found_is nothing N.Nothing false false q refl (λ h. apart h)

    -- an answer that is read: pre counts the answers up to it, of what is read after it
    answer_is : (i j : Bool) (pre : ℕ → ℕ) (c : ℕ) → pre 0 ≡ c → (a : Answer) → Takes j a → (domain : List ℕ) → domain ≡ cond i expanded b.host → (next : Rules) (nx : Stage) → outcome_answer these (pre (answers_read next these)) (walk next these) ≡ reaching follow nx → (r : Read) → read_of a ≡ r → outcome_answer these (pre (answers_read (after_answer b domain (secure_records a) next r) these)) (walk (after_answer b domain (secure_records a) next r) these) ≡ reaching follow (read_stage i j c nx r)
    unfolding read_stage
    answer_is i j pre c ce a ok domain de next nx h R.LookupFailed re = rw ce
    answer_is i j pre c ce a ok domain de next nx h (R.Taken d) re =
        let k = ok d re in
        rw (connect_reads b (set domain (secure_records a)) (when k1 a1) (when k2 a2) p (offered_of n.starttls) (outcome_of n.handshake n.tls_version) (eqb n.certificates_given 1), ce)
        (found_is (set domain (secure_records a)) d i j c (rw k.0 k.1) (λ t. rw (de, k.0)))
    answer_is i j pre c ce a ok domain de next nx h R.NextName re = h

    -- the host name, at either place
    host_is : (place : Place) (j : Bool) (pre : ℕ → ℕ) (q : ℕ) → pre 0 ≡ q → pre (1 + 0) ≡ q + 1 → (l : Bool) → later (tlsa place) these ≡ l → (a : Answer) → Takes j a → (k : Bool) → outcome_answer these (pre (on_given (when k a) 0 (λ a. 1 + answers_read (after_answer b b.host (secure_records a) (connect b nothing) (read_of a)) these))) (on_given (when k a) (missing (record { number = 14; fact = tlsa place })) (λ a. walk (after_answer b b.host (secure_records a) (connect b nothing) (read_of a)) these)) ≡ reaching follow (at_host j q l (read_given (when k a)))
    unfolding at_host host_read read_given
    host_is place j pre q e e1 l le a ok false = rw (e, le)
    host_is place j pre q e e1 l le a ok true =
        answer_is false j (λ c. pre (1 + c)) (q + 1) e1 a ok b.host refl (connect b nothing) (no_set (q + 1))
        (rw (connect_reads b nothing (when k1 a1) (when k2 a2) p (offered_of n.starttls) (outcome_of n.handshake n.tls_version) (eqb n.certificates_given 1), e1) (none_is (q + 1)))
        (read_of a) refl

    module _ (ok1 : Takes false a1) (ok2 : Takes true a2) (f s : Bool) (fe : later (tlsa first) these ≡ f) (se : later (tlsa second) these ≡ s) where
      -- the host name, where it is the only one
      only_is : outcome_answer these (answers_read (seek b first (host_name ∷ [])) these) (walk (seek b first (host_name ∷ [])) these) ≡ reaching follow (at_host false 0 f (read_given (when k1 a1)))
      only_is = host_is first false (λ c. c) 0 refl refl f fe a1 ok1 k1

      -- the host name, after the expanded name
      next_is : outcome_answer these (1 + answers_read (seek b second (host_name ∷ [])) these) (walk (seek b second (host_name ∷ [])) these) ≡ reaching follow (at_host true 1 s (read_given (when k2 a2)))
      next_is = host_is second true (λ c. 1 + c) 1 refl refl s se a2 ok2 k2

      -- the expanded name, then the host name
      both_is : b.expanded ≡ expanded → (k : Bool) → outcome_answer these (on_given (when k a1) 0 (λ a. 1 + answers_read (after_answer b b.expanded (secure_records a) (seek b second (host_name ∷ [])) (read_of a)) these)) (on_given (when k a1) (missing (record { number = 13; fact = tlsa first })) (λ a. walk (after_answer b b.expanded (secure_records a) (seek b second (host_name ∷ [])) (read_of a)) these)) ≡ reaching follow (at_expanded f s (read_given (when k a1)) (read_given (when k2 a2)))
      unfolding at_expanded expanded_read read_given
      both_is ee false = rw fe
      both_is ee true = answer_is true false (λ c. 1 + c) 1 refl a1 ok1 b.expanded ee (seek b second (host_name ∷ [])) (at_host true 1 s (read_given (when k2 a2))) next_is (read_of a1) refl

  -- 23 goes before the names
  module _ (oe : origin_of n.origin ≡ b.origin) (xe : when (eqb n.expanded_next_hop_given 1) further ≡ b.expanded_next_hop) (ok1 : Takes false a1) (ok2 : Takes true a2) (f s : Bool) (fe : later (tlsa first) these ≡ f) (se : later (tlsa second) these ≡ s) where
    listed_is : (u : Bool) → (needs_mta_sts b && not (is_listed b)) ≡ u → (t : Rules) (x : Stage) → ((needs_mta_sts b && not (is_listed b)) ≡ false → outcome_answer these (answers_read t these) (walk t these) ≡ reaching follow x) → outcome_answer these (answers_read (cond u (verdict 23) t) these) (walk (cond u (verdict 23) t) these) ≡ reaching follow (cond u (S.Err (saying 23 0)) x)
    listed_is true ue t x h = refl
    listed_is false ue t x h = h ue

    names_are : (t : Tries) → (t ≡ ExpandedThenHost → b.expanded ≡ expanded) → outcome_answer these (answers_read (start b (meaning_of t)) these) (walk (start b (meaning_of t)) these) ≡ reaching follow (names_stage t (needs_mta_sts b && not (is_listed b)) f s (read_given (when k1 a1)) (read_given (when k2 a2)))
    unfolding names_stage
    names_are AddressFailed ee = refl
    names_are AddressMissing ee = refl
    names_are NoName ee =
        listed_is (needs_mta_sts b && not (is_listed b)) refl (connect b nothing) (no_set 0)
        (λ l. rw (connect_reads b nothing (when k1 a1) (when k2 a2) p (offered_of n.starttls) (outcome_of n.handshake n.tls_version) (eqb n.certificates_given 1)) (none_is oe xe l 0))
    names_are HostOnly ee =
        listed_is (needs_mta_sts b && not (is_listed b)) refl (seek b first (host_name ∷ [])) (at_host false 0 f (read_given (when k1 a1)))
        (λ l. only_is oe xe l ok1 ok2 f s fe se)
    names_are ExpandedThenHost ee =
        listed_is (needs_mta_sts b && not (is_listed b)) refl (seek b first (expanded_name ∷ host_name ∷ [])) (at_expanded f s (read_given (when k1 a1)) (read_given (when k2 a2)))
        (λ l. both_is oe xe l ok1 ok2 f s fe se (ee refl) k1)

-- what is given by a test
when_given : {A : Type 0} (t : Bool) (a : A) → is_given (when t a) ≡ t
when_given true a = refl
when_given false a = refl

-- an alias that is secure at every stage has an expanded name
expanded_is : (a : Address) (e : List ℕ) → tries_of a ≡ ExpandedThenHost → cond (is_alias a) e [] ≡ e
unfolding tries_of
expanded_is A.NoAliasSecure e h = never cc
expanded_is A.NoAliasInsecure e h = never cc
expanded_is A.AliasSecure e h = refl
expanded_is A.AliasFirstStepSecure e h = refl
expanded_is A.AliasFirstStepInsecure e h = refl
expanded_is A.Failed e h = never cc
expanded_is A.NoAddress e h = never cc

-- the walk of a call
pub walk_is : (a : Arguments) → walked (facts_of a) ≡ walk_answer a (needs_mta_sts (base_of a)) (needs_mta_sts (base_of a) && not (is_listed (base_of a)))
unfolding facts_of rules walk_answer found_answer certificate_verdict first_stage base_of later_given
walk_is a =
    rw (← tries_meaning (address_of a.numbers.address))
    (names_are a.numbers (base_of a) a.expanded_next_hop a.expanded a.lengths1 a.records1 a.lengths2 a.records2
    (leb 1 a.numbers.tlsa_answers) (leb 2 a.numbers.tlsa_answers)
    (answer_of (lookup_of a.numbers.tlsa1_result) a.lengths1 a.records1) (answer_of (lookup_of a.numbers.tlsa2_result) a.lengths2 a.records2)
    (presented_in a) refl refl
    (taken_is (lookup_of a.numbers.tlsa1_result) a.lengths1 a.records1) (taken_is (lookup_of a.numbers.tlsa2_result) a.lengths2 a.records2)
    (leb 2 a.numbers.tlsa_answers || later_given a.numbers.starttls a.numbers.handshake a.numbers.certificates_given)
    (later_given a.numbers.starttls a.numbers.handshake a.numbers.certificates_given)
    (rw (when_given (leb 2 a.numbers.tlsa_answers) (answer_of (lookup_of a.numbers.tlsa2_result) a.lengths2 a.records2), offered_given a.numbers.starttls, outcome_given a.numbers.handshake a.numbers.tls_version, when_given (eqb a.numbers.certificates_given 1) (presented_in a)))
    (rw (offered_given a.numbers.starttls, outcome_given a.numbers.handshake a.numbers.tls_version, when_given (eqb a.numbers.certificates_given 1) (presented_in a)))
    (tries_of (address_of a.numbers.address)) (expanded_is (address_of a.numbers.address) a.expanded))
