-- Each verdict is answered exactly where the papers' condition for it holds, the fourteen conditions exclude each other, and one of them holds. Assumes nothing.
use Prim.Native.Nat.{ℕ, ◌+◌, ◌/◌, ◌%◌}
use mathlib.Core.Path.{◌≡◌, refl, sym, ◌∙◌, ap, subst}
use mathlib.Core.Logic.{◌↔◌}
use mathlib.Core.Bool.{Bool, true, false, not, cond, ◌&&◌, ◌||◌}
use mathlib.Core.List.{List, [], ◌∷◌}
use mathlib.Core.Option.{Option, none, some}
use native.Mathlib.Omega.{arith}
use lib.Dec.{T, eqb, ltb}
use lib.ListN.{get_or}
use borrow.Author.Tests.{eq-eqb, eqb-true, eqb-false, ltb-true, ltb-false}
use Rattle.lists.specs.Bytes.{any}
use Rattle.lists.proofs.Bools.{apart, holds, by_true, by_cond}
use Rattle.clock.specs.Clock.{is_live}
use Rattle.policies.specs.declared.Mode.{Mode}
use Rattle.policies.specs.declared.Mode.TheVariants as M
use Rattle.names.specs.Name.{some_matches}
use Rattle.tlsa.specs.declared.Address.{Address}
use Rattle.tlsa.specs.declared.Address.TheVariants.{NoAliasSecure, NoAliasInsecure, AliasSecure, AliasFirstStepSecure, AliasFirstStepInsecure, Failed, NoAddress}
use Rattle.tlsa.specs.Address.{TlsaName, expanded_name, host_name, names, names_to_try}
use Rattle.tlsa.specs.Record.{short, usable}
use Rattle.tlsa.specs.Answer.{Answer, secure, secure_records, read_of}
use Rattle.certificates.specs.Checks.{references, dane_passes, shows_host}
use Rattle.hosts.specs.Facts.{HeldPolicy, Base, Handshake, first, second, Full}
use Rattle.hosts.specs.Facts as F
use Rattle.hosts.specs.Tree.{Rules, verdict, verdict_of, answers_read}
use Rattle.hosts.specs.Rules.{is_old, is_enforce, is_enforced, needs_mta_sts, patterns_of, is_listed, mta_sts_passes, Taken, nothing, set, needs_authentication, after_handshake, connect, after_answer, seek, start, rules}
use Rattle.hosts.specs.Arguments.{Arguments, base_of}
use Rattle.hosts.specs.Call.{host_answer}
use Rattle.hosts.specs.Demands.{is_established, IsFull, full_of}
use Rattle.hosts.specs.Verdicts.{address_failed, address_missing, Tried, tried, search_end, is_lookup_failure, has_record, enforces, is_live_enforce, lists_host, certifies_host, is_handshake_made, is_made_below0303, Tests, tests_at, tests_of, is1, is2, is3, is4, is5, is20, is21, is22, is23, is24, is25, is26, is27, is28, Condition, conditions, holding, Exactly, answers_up_to, count_of}
use Rattle.hosts.proofs.AnswerCases.{authentication_is, tls_is, by_answer}
use Rattle.hosts.proofs.FullSets.{full_number, full_count}
use Rattle.hosts.proofs.Trees.{full}
use Rattle.hosts.proofs.Second.{ended, made, is_made_old, quiet_connect}

-- which of the numbers v is, and which of the conditions hold
abbrev row : ℕ → List Condition → List Bool
row v [] = []
row v (c ∷ cs) = eqb v c.number ∷ row v cs

abbrev held : List Condition → List Bool
held [] = []
held (c ∷ cs) = c.holds ∷ held cs

-- the condition of v holds, and no other
unfoldable Only : ℕ → Tests → Type 0
Only v t = (holding (conditions t) ≡ v ∷ []) × (row v (conditions t) ≡ held (conditions t))

both_ways : (m n : ℕ) (x : Bool) → eqb m n ≡ x → (m ≡ n) ↔ T x
both_ways m n x e = (λ p. by_true x (sym e ∙ eq-eqb m n p), λ t. eqb-true m n (e ∙ holds x t))

each_exactly : (v : ℕ) (cs : List Condition) → row v cs ≡ held cs → Exactly v cs
each_exactly v [] e = tt
each_exactly v (c ∷ cs) e = (both_ways v c.number c.holds (cc), each_exactly v cs (cc))

-- the tests of a host with an address
abbrev tests : (e l b k u o m w d s : Bool) → Tests
tests e l b k u o m w d s = record { address_fails = false; addressless = false; enforced = e; listed = l; tlsa_fails = b; taken = k; has_usable = u; offered = o; established = m; old = w; dane_passed = d; mta_sts_passed = s }

only_23 : (e l b k u o m w d s : Bool) → (e && not l) ≡ true → Only 23 (tests e l b k u o m w d s)
unfolding Only
only_23 true false b k u o m w d s h = (refl, refl)
only_23 true true b k u o m w d s h = apart h
only_23 false l b k u o m w d s h = apart h

only_22 : (e l k u o m w d s : Bool) → (e && not l) ≡ false → Only 22 (tests e l true k u o m w d s)
unfolding Only
only_22 true false k u o m w d s h = apart (sym h)
only_22 true true k u o m w d s h = (refl, refl)
only_22 false l k u o m w d s h = (refl, refl)

-- from STARTTLS on
only_end : (e l k u o m w d s : Bool) → (e && not l) ≡ false → (u ≡ true → k ≡ true) → Only (ended k e o m (made u e w d s)) (tests e l false k u o m w d s)
unfolding Only
only_end true false k u o m w d s h g = apart (sym h)
only_end true true true u false m w d s h g = (refl, refl)
only_end true true false u false m w d s h g = (refl, refl)
only_end false l true true false m w d s h g = (refl, refl)
only_end false l true false false m w d s h g = (refl, refl)
only_end false l false true false m w d s h g = apart (g refl)
only_end false l false false false m w d s h g = (refl, refl)
only_end true true true u true false w d s h g = (refl, refl)
only_end true true false u true false w d s h g = (refl, refl)
only_end false l true true true false w d s h g = (refl, refl)
only_end false l true false true false w d s h g = (refl, refl)
only_end false l false true true false w d s h g = apart (g refl)
only_end false l false false true false w d s h g = (refl, refl)
only_end true true k true true true true d s h g = (refl, refl)
only_end true true k false true true true d s h g = (refl, refl)
only_end false l k true true true true d s h g = (refl, refl)
only_end true true k true true true false true true h g = (refl, refl)
only_end true true k true true true false true false h g = (refl, refl)
only_end true true k true true true false false s h g = (refl, refl)
only_end true true k false true true false d true h g = (refl, refl)
only_end true true k false true true false d false h g = (refl, refl)
only_end false l k true true true false true s h g = (refl, refl)
only_end false l k true true true false false s h g = (refl, refl)
only_end false l k false true true w d s h g = (refl, refl)

mode_is : (m : Mode) → enforces m ≡ is_enforce m
mode_is M.Enforce = refl
mode_is M.Testing = refl
mode_is M.None = refl

pub made_is : (m : Handshake) → is_handshake_made m ≡ is_established m
made_is (F.established version) = refl
made_is F.failed = refl

-- two bytes are below two others exactly where they are as one number
pub old_is : (m : Handshake) → is_made_below0303 m ≡ is_made_old m
unfolding is_old
old_is (F.established version) = go (ltb (version / 256) 3) (eqb (version / 256) 3) (ltb (version % 256) 3) (ltb version 771) refl refl refl refl
  where
    go : (x y z w : Bool) → ltb (version / 256) 3 ≡ x → eqb (version / 256) 3 ≡ y → ltb (version % 256) 3 ≡ z → ltb version 771 ≡ w → (x || (y && z)) ≡ w
    go true y z true p q r s = refl
    go true y z false p q r s = absurd (omega (arith, ltb-true (version / 256) 3 p, ltb-false version 771 s))
    go false true true true p q r s = refl
    go false true true false p q r s = absurd (omega (arith, eqb-true (version / 256) 3 q, ltb-true (version % 256) 3 r, ltb-false version 771 s))
    go false true false true p q r s = absurd (omega (arith, eqb-true (version / 256) 3 q, ltb-false (version % 256) 3 r, ltb-true version 771 s))
    go false true false false p q r s = refl
    go false false z true p q r s = absurd (omega (arith, ltb-false (version / 256) 3 p, eqb-false (version / 256) 3 q, ltb-true version 771 s))
    go false false z false p q r s = refl
old_is F.failed = refl

module _ (b : Base) (f : Full) where
  -- the two readings of the policy and of its check
  pub enforced_is : is_live_enforce b.clock b.policy ≡ needs_mta_sts b
  unfolding needs_mta_sts
  enforced_is = go b.policy
    where
      go : (p : Option HeldPolicy) → is_live_enforce b.clock p ≡ is_enforced b.clock p
      go none = refl
      go (some p) = ap (λ (x : Bool). x && is_live p.fetched p.policy.lifetime.0 b.clock) (mode_is p.policy.mode)

  pub listed_is : lists_host b.host b.policy ≡ is_listed b
  unfolding is_listed any
  listed_is = go b.policy
    where
      go : (p : Option HeldPolicy) → lists_host b.host p ≡ some_matches (patterns_of p) b.host
      go none = refl
      go (some p) = refl

  sts_is : (lists_host b.host b.policy && certifies_host b.host f.presented) ≡ mta_sts_passes b f.presented
  unfolding mta_sts_passes shows_host
  sts_is = rw listed_is

  -- the tests in the words of the rules, by the name at which the search ends
  abbrev at : Tried → Tests
  at t = tests (needs_mta_sts b) (is_listed b) (is_lookup_failure t.answer) (has_record (secure_records t.answer)) (any usable (secure_records t.answer)) f.offered (is_established f.outcome) (is_made_old f.outcome) (dane_passes (references b.origin t.name b.next_hop b.expanded_next_hop) (secure_records t.answer) f.presented) (mta_sts_passes b f.presented)

  abbrev Fits : Rules → List Tried → Type 0
  Fits t l = Only (verdict_of t f) (at (search_end l))

  module _ (q : (needs_mta_sts b && not (is_listed b)) ≡ false) where
    fits_nothing : Fits (connect b nothing) []
    unfolding dane_passes any
    fits_nothing = rw (quiet_connect b f nothing).2 (only_end (needs_mta_sts b) (is_listed b) false false f.offered (is_established f.outcome) (is_made_old f.outcome) false (mta_sts_passes b f.presented) q (λ z. z))

    fits_taken : (domain : List ℕ) (ts : List Tried) (r : List ℕ) (rs : List (List ℕ)) → any short (r ∷ rs) ≡ false → Fits (connect b (set domain (r ∷ rs))) (record { name = domain; answer = secure (r ∷ rs) } ∷ ts)
    fits_taken domain ts r rs e =
        let s : Taken = set domain (r ∷ rs) in
        rw ((quiet_connect b f s).2, e, authentication_is (r ∷ rs), tls_is r rs)
        (only_end (needs_mta_sts b) (is_listed b) true (any usable (r ∷ rs)) f.offered (is_established f.outcome) (is_made_old f.outcome) (dane_passes (references b.origin domain b.next_hop b.expanded_next_hop) (r ∷ rs) f.presented) (mta_sts_passes b f.presented) q (λ z. refl))

    fits_failed : (k u d : Bool) → Only 22 (tests (needs_mta_sts b) (is_listed b) true k u f.offered (is_established f.outcome) (is_made_old f.outcome) d (mta_sts_passes b f.presented))
    fits_failed k u d = only_22 (needs_mta_sts b) (is_listed b) k u f.offered (is_established f.outcome) (is_made_old f.outcome) d (mta_sts_passes b f.presented) q

    -- a name that is tried
    fits_answer : (domain : List ℕ) (next : Rules) (ts : List Tried) → Fits next ts → (a : Answer) → Fits (after_answer b domain (secure_records a) next (read_of a)) (record { name = domain; answer = a } ∷ ts)
    fits_answer domain next ts h = by_answer b domain next (λ (a : Answer) (t : Rules). Fits t (record { name = domain; answer = a } ∷ ts))
        (fits_failed _ _ _) h h h
        (λ r rs e. rw e (fits_failed _ _ _))
        (fits_taken domain ts)

    -- the host alone, with an answer
    fits_host : (a : Answer) → Fits (after_answer b b.host (secure_records a) (connect b nothing) (read_of a)) (record { name = b.host; answer = a } ∷ [])
    fits_host = fits_answer b.host (connect b nothing) [] fits_nothing

  -- the tests of the paper are those of the rules
  tests_are : (x : Address) → address_failed x ≡ false → address_missing x ≡ false → (t : Tried) → at t ≡ tests_at b f x t
  tests_are x p q t = λ i. record {
    address_fails = sym p i;
    addressless = sym q i;
    enforced = sym enforced_is i;
    listed = sym listed_is i;
    tlsa_fails = is_lookup_failure t.answer;
    taken = has_record (secure_records t.answer);
    has_usable = any usable (secure_records t.answer);
    offered = f.offered;
    established = sym (made_is f.outcome) i;
    old = sym (old_is f.outcome) i;
    dane_passed = dane_passes (references b.origin t.name b.next_hop b.expanded_next_hop) (secure_records t.answer) f.presented;
    mta_sts_passed = sym sts_is i;
  }

  -- an address result with names to try: 23, or what the search for them comes to
  fits_found : (x : Address) (ns : List TlsaName) → address_failed x ≡ false → address_missing x ≡ false → ((needs_mta_sts b && not (is_listed b)) ≡ false → Fits (seek b first ns) (tried b f x)) → Only (verdict_of (start b (names ns)) f) (tests_at b f x (search_end (tried b f x)))
  fits_found x ns p q k =
      subst (Only (verdict_of (start b (names ns)) f)) (tests_are x p q (search_end (tried b f x)))
      (by_cond (λ (t : Rules). Fits t (tried b f x)) (needs_mta_sts b && not (is_listed b)) (only_23 (needs_mta_sts b) (is_listed b) _ _ _ _ _ _ _ _) k)

  fits_20 : Only 20 (tests_at b f Failed (search_end []))
  unfolding Only
  fits_20 = (refl, refl)

  fits_21 : Only 21 (tests_at b f NoAddress (search_end []))
  unfolding Only
  fits_21 = (refl, refl)

  fits_address : (x : Address) → Only (verdict_of (start b (names_to_try x)) f) (tests_at b f x (search_end (tried b f x)))
  fits_address NoAliasSecure = fits_found NoAliasSecure (host_name ∷ []) refl refl (λ q. fits_host q f.tlsa1)
  fits_address NoAliasInsecure = fits_found NoAliasInsecure [] refl refl fits_nothing
  fits_address AliasSecure = fits_found AliasSecure (expanded_name ∷ host_name ∷ []) refl refl (λ q. fits_answer q b.expanded (seek b second (host_name ∷ [])) (record { name = b.host; answer = f.tlsa2 } ∷ []) (fits_host q f.tlsa2) f.tlsa1)
  fits_address AliasFirstStepSecure = fits_found AliasFirstStepSecure (host_name ∷ []) refl refl (λ q. fits_host q f.tlsa1)
  fits_address AliasFirstStepInsecure = fits_found AliasFirstStepInsecure [] refl refl fits_nothing
  fits_address Failed = fits_20
  fits_address NoAddress = fits_21

  fits_rules : Only (verdict_of (rules b) f) (tests_of b f)
  unfolding rules tests_of
  fits_rules = fits_address b.address

-- the count
module _ (b : Base) (f : Full) where
  abbrev reads : Rules → ℕ
  reads t = answers_read t (full b f)

  reads_handshake : (s : Taken) (m : Handshake) → reads (after_handshake b s m) ≡ 0
  reads_handshake s (F.established version) = by_cond (λ (t : Rules). reads t ≡ 0) (needs_authentication b s) (λ e. by_cond (λ (t : Rules). reads t ≡ 0) (is_old version) (λ o. refl) (λ o. refl)) (λ e. refl)
  reads_handshake s F.failed = refl

  reads_connect : (s : Taken) → reads (connect b s) ≡ 0
  reads_connect s = by_cond (λ (t : Rules). 0 + reads t ≡ 0) f.offered (λ e. rw (reads_handshake s f.outcome)) (λ e. refl)

  -- a name that is tried
  reads_answer : (domain : List ℕ) (next : Rules) (ts : List Tried) → reads next ≡ answers_up_to ts → (a : Answer) → (1 + reads (after_answer b domain (secure_records a) next (read_of a))) ≡ answers_up_to (record { name = domain; answer = a } ∷ ts)
  reads_answer domain next ts h = by_answer b domain next (λ (a : Answer) (t : Rules). (1 + reads t) ≡ answers_up_to (record { name = domain; answer = a } ∷ ts))
      refl more more more
      (λ r rs e. refl)
      (λ r rs e. rw (reads_connect (set domain (r ∷ rs))))
    where
      more : (1 + reads next) ≡ (1 + answers_up_to ts)
      more = ap (λ (n : ℕ). 1 + n) h

  reads_host : (a : Answer) → (1 + reads (after_answer b b.host (secure_records a) (connect b nothing) (read_of a))) ≡ answers_up_to (record { name = b.host; answer = a } ∷ [])
  reads_host = reads_answer b.host (connect b nothing) [] (reads_connect nothing)

  abbrev count_at : Address → ℕ
  count_at x =
      let t = tests_at b f x (search_end (tried b f x)) in
      cond (is20 t || (is21 t || is23 t)) 0 (answers_up_to (tried b f x))

  reads_names : (ns : List TlsaName) (ts : List Tried) → reads (seek b first ns) ≡ answers_up_to ts → reads (start b (names ns)) ≡ cond (is_live_enforce b.clock b.policy && not (lists_host b.host b.policy)) 0 (answers_up_to ts)
  reads_names ns ts h = rw (enforced_is b f, listed_is b f) (go (needs_mta_sts b && not (is_listed b)))
    where
      go : (u : Bool) → reads (cond u (verdict 23) (seek b first ns)) ≡ cond u 0 (answers_up_to ts)
      go true = refl
      go false = h

  reads_address : (x : Address) → reads (start b (names_to_try x)) ≡ count_at x
  reads_address NoAliasSecure = reads_names (host_name ∷ []) (tried b f NoAliasSecure) (reads_host f.tlsa1)
  reads_address NoAliasInsecure = reads_names [] [] (reads_connect nothing)
  reads_address AliasSecure = reads_names (expanded_name ∷ host_name ∷ []) (tried b f AliasSecure) (reads_answer b.expanded (seek b second (host_name ∷ [])) (record { name = b.host; answer = f.tlsa2 } ∷ []) (reads_host f.tlsa2) f.tlsa1)
  reads_address AliasFirstStepSecure = reads_names (host_name ∷ []) (tried b f AliasFirstStepSecure) (reads_host f.tlsa1)
  reads_address AliasFirstStepInsecure = reads_names [] [] (reads_connect nothing)
  reads_address Failed = refl
  reads_address NoAddress = refl

  reads_rules : reads (rules b) ≡ count_of b f
  unfolding rules tests_of count_of
  reads_rules = reads_address b.address

-- whatever the facts: of the fourteen conditions one holds and no other
pub one_condition_holds : (b : Base) (f : Full) → (n : ℕ) × (holding (conditions (tests_of b f)) ≡ n ∷ [])
unfolding Only
one_condition_holds b f = (verdict_of (rules b) f, (fits_rules b f).0)

-- a full set that the call accepts
module _ (a : Arguments) (h : IsFull a) where
  abbrev pub tests_in : Tests
  tests_in = tests_of (base_of a) (full_of a)

  fits : Only (host_answer a).number tests_in
  fits = subst (λ (n : ℕ). Only n tests_in) (sym (full_number a h)) (fits_rules (base_of a) (full_of a))

  -- the one that holds is that of the answer
  pub answers_what_holds : holding (conditions tests_in) ≡ (host_answer a).number ∷ []
  unfolding Only
  answers_what_holds = fits.0

  -- the answer is the number of each exactly where its condition holds
  pub every_verdict_exactly : Exactly (host_answer a).number (conditions tests_in)
  unfolding Only
  every_verdict_exactly = each_exactly (host_answer a).number (conditions tests_in) fits.1

  -- the same for each, as tests

  exactly : (k : ℕ) → get_or (row (host_answer a).number (conditions tests_in)) k false ≡ get_or (held (conditions tests_in)) k false
  unfolding Only
  exactly k = ap (λ (l : List Bool). get_or l k false) fits.1

  pub exactly_1 : eqb (host_answer a).number 1 ≡ is1 tests_in
  exactly_1 = exactly 0

  pub exactly_2 : eqb (host_answer a).number 2 ≡ is2 tests_in
  exactly_2 = exactly 1

  pub exactly_3 : eqb (host_answer a).number 3 ≡ is3 tests_in
  exactly_3 = exactly 2

  pub exactly_4 : eqb (host_answer a).number 4 ≡ is4 tests_in
  exactly_4 = exactly 3

  pub exactly_5 : eqb (host_answer a).number 5 ≡ is5 tests_in
  exactly_5 = exactly 4

  pub exactly_20 : eqb (host_answer a).number 20 ≡ is20 tests_in
  exactly_20 = exactly 5

  pub exactly_21 : eqb (host_answer a).number 21 ≡ is21 tests_in
  exactly_21 = exactly 6

  pub exactly_22 : eqb (host_answer a).number 22 ≡ is22 tests_in
  exactly_22 = exactly 7

  pub exactly_23 : eqb (host_answer a).number 23 ≡ is23 tests_in
  exactly_23 = exactly 8

  pub exactly_24 : eqb (host_answer a).number 24 ≡ is24 tests_in
  exactly_24 = exactly 9

  pub exactly_25 : eqb (host_answer a).number 25 ≡ is25 tests_in
  exactly_25 = exactly 10

  pub exactly_26 : eqb (host_answer a).number 26 ≡ is26 tests_in
  exactly_26 = exactly 11

  pub exactly_27 : eqb (host_answer a).number 27 ≡ is27 tests_in
  exactly_27 = exactly 12

  pub exactly_28 : eqb (host_answer a).number 28 ≡ is28 tests_in
  exactly_28 = exactly 13

  -- and its count is the paper's
  pub counts_exactly : (host_answer a).tlsa_questions ≡ count_of (base_of a) (full_of a)
  counts_exactly = full_count a h ∙ reads_rules (base_of a) (full_of a)
