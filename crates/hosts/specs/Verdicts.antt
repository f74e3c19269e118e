-- Document 01, "A host's facts, in the order learnt", with document 02, No. 6, read a second time: for each verdict the condition under which it is given, from the paper's sentences; the count; and the facts that the rules reach.
-- Nothing here uses the tree of questions (Rules.antt, Tree.antt). proofs/Verdicts.antt proves that of an accepted full set the call answers a verdict exactly where its condition holds, and proofs/Reached.antt that the tree reaches these facts.
use Rattle.std.specs.Prelude.{ℕ, ◌+◌, ◌/◌, ◌%◌, ◌≡◌, ◌↔◌, Bool, true, false, not, cond, ◌&&◌, ◌||◌, List, [], ◌∷◌, ◌++◌, T, eqb, ltb, length}
use Rattle.std.proofs.Math.Option.{Option, none, some}
use Rattle.lists.specs.Bytes.{any}
use Rattle.names.specs.Name.{matches_name}
use Rattle.clock.specs.Clock.{is_live}
use Rattle.policies.specs.declared.Mode.{Mode}
use Rattle.policies.specs.declared.Mode.TheVariants as M
use Rattle.tlsa.specs.declared.Address.{Address}
use Rattle.tlsa.specs.declared.Address.TheVariants.{NoAliasSecure, NoAliasInsecure, AliasSecure, AliasFirstStepSecure, AliasFirstStepInsecure, Failed, NoAddress}
use Rattle.tlsa.specs.Record.{short, usable}
use Rattle.tlsa.specs.Answer.{Answer, secure, insecure, absent, failed, secure_records}
use Rattle.certificates.specs.Facts.{Presented}
use Rattle.certificates.specs.Checks.{references, dane_passes}
use Rattle.hosts.specs.Facts.{HeldPolicy, Base, Handshake, Place, first, second, Fact, tlsa, starttls, handshake, certificates, Full}
use Rattle.hosts.specs.Facts as F

-- the address result

-- the address lookup failed
abbrev pub address_failed : Address → Bool
address_failed NoAliasSecure = false
address_failed NoAliasInsecure = false
address_failed AliasSecure = false
address_failed AliasFirstStepSecure = false
address_failed AliasFirstStepInsecure = false
address_failed Failed = true
address_failed NoAddress = false

-- no address
abbrev pub address_missing : Address → Bool
address_missing NoAliasSecure = false
address_missing NoAliasInsecure = false
address_missing AliasSecure = false
address_missing AliasFirstStepSecure = false
address_missing AliasFirstStepInsecure = false
address_missing Failed = false
address_missing NoAddress = true

-- the TLSA names to try

-- a name that is tried, with the TLSA answer there
pub record Tried : Type 0 where
  pub name : List ℕ
  pub answer : Answer

-- The first name that is tried has the first answer, the second the second. Not an alias, secure: host. Not an alias, insecure: none. Alias, secure at every stage:
-- expanded name, then host. Alias whose first step is secure but whose address is not: host. Alias with insecure first step: none.
abbrev pub tried : Base → Full → Address → List Tried
tried b f NoAliasSecure = record { name = b.host; answer = f.tlsa1 } ∷ []
tried b f NoAliasInsecure = []
tried b f AliasSecure = record { name = b.expanded; answer = f.tlsa1 } ∷ record { name = b.host; answer = f.tlsa2 } ∷ []
tried b f AliasFirstStepSecure = record { name = b.host; answer = f.tlsa1 } ∷ []
tried b f AliasFirstStepInsecure = []
tried b f Failed = []
tried b f NoAddress = []

-- insecure, absent, or secure with no record: next name
abbrev pub is_next_name : Answer → Bool
is_next_name (secure []) = true
is_next_name (secure (r ∷ rs)) = false
is_next_name insecure = true
is_next_name absent = true
is_next_name failed = false

-- the name at which the search ends, the first whose answer does not say next name; after the last, there is no set: as if absent
abbrev pub search_end : List Tried → Tried
search_end [] = record { name = []; answer = absent }
search_end (t ∷ ts) = cond (is_next_name t.answer) (search_end ts) t

-- failed, or a secure record under 3 bytes
abbrev pub is_lookup_failure : Answer → Bool
is_lookup_failure (secure set) = any short set
is_lookup_failure insecure = false
is_lookup_failure absent = false
is_lookup_failure failed = true

-- a set with a record
abbrev pub has_record : List (List ℕ) → Bool
has_record [] = false
has_record (r ∷ rs) = true

-- the policy

-- the mode is enforce
abbrev pub enforces : Mode → Bool
enforces M.Enforce = true
enforces M.Testing = false
enforces M.None = false

-- a live enforce policy
abbrev pub is_live_enforce : ℕ → Option HeldPolicy → Bool
is_live_enforce clock none = false
is_live_enforce clock (some p) = enforces p.policy.mode && is_live p.fetched p.policy.lifetime.0 clock

-- one of its patterns matches the host
abbrev pub lists_host : List ℕ → Option HeldPolicy → Bool
lists_host host none = false
lists_host host (some p) = any (λ (pattern : List ℕ). matches_name pattern host) p.policy.patterns

-- the trusted-root flag holds and a DNS-ID matches the host; with zero certificates the check does not pass
abbrev pub certifies_host : List ℕ → Presented → Bool
certifies_host host p = p.trusted_root && ltb 0 (length p.certificates) && any (λ (id : List ℕ). matches_name id host) p.dns_ids

-- handshake established
abbrev pub is_handshake_made : Handshake → Bool
is_handshake_made (F.established version) = true
is_handshake_made F.failed = false

-- established at a version whose two wire bytes are below 03 03 hex, the first before the second
abbrev pub is_made_below0303 : Handshake → Bool
is_made_below0303 (F.established version) = ltb (version / 256) 3 || (eqb (version / 256) 3 && ltb (version % 256) 3)
is_made_below0303 F.failed = false

-- the tests by which the verdicts differ

pub record Tests : Type 0 where
  -- the address lookup failed; there is no address
  pub address_fails : Bool
  pub addressless : Bool
  -- a live enforce policy; a policy pattern matches the host
  pub enforced : Bool
  pub listed : Bool
  -- a TLSA lookup failed, or has a record under 3 bytes; a set is taken; it has a usable record
  pub tlsa_fails : Bool
  pub taken : Bool
  pub has_usable : Bool
  -- STARTTLS offered; handshake established
  pub offered : Bool
  pub established : Bool
  -- at a version below 03 03 hex
  pub old : Bool
  -- DANE passes; MTA-STS passes
  pub dane_passed : Bool
  pub mta_sts_passed : Bool

-- the tests of a full set, by its address result and the name at which the search ends. References for DANE: the TLSA base domain, which is that name, and the next-hop and the expanded next-hop by the origin.
-- MTA-STS passes when a policy pattern matches the host, the trusted-root flag holds and a DNS-ID matches the host
abbrev pub tests_at : Base → Full → Address → Tried → Tests
tests_at b f x t = record {
  address_fails = address_failed x;
  addressless = address_missing x;
  enforced = is_live_enforce b.clock b.policy;
  listed = lists_host b.host b.policy;
  tlsa_fails = is_lookup_failure t.answer;
  taken = has_record (secure_records t.answer);
  has_usable = any usable (secure_records t.answer);
  offered = f.offered;
  established = is_handshake_made f.outcome;
  old = is_made_below0303 f.outcome;
  dane_passed = dane_passes (references b.origin t.name b.next_hop b.expanded_next_hop) (secure_records t.answer) f.presented;
  mta_sts_passed = lists_host b.host b.policy && certifies_host b.host f.presented;
}

-- the tests of a full set
unfoldable pub tests_of : Base → Full → Tests
tests_of b f = tests_at b f b.address (search_end (tried b f b.address))

-- the conditions

module _ (t : Tests) where
  -- a set with a usable record needs DANE authentication; a set with none needs TLS; a live enforce policy needs the MTA-STS check
  abbrev pub dane_needed : Bool
  dane_needed = t.has_usable

  abbrev pub tls_needed : Bool
  tls_needed = t.taken && not t.has_usable

  abbrev pub mta_sts_needed : Bool
  mta_sts_needed = t.enforced

  -- authentication is needed
  abbrev pub authentication_needed : Bool
  authentication_needed = dane_needed || mta_sts_needed

  abbrev pub any_needed : Bool
  any_needed = mta_sts_needed || (dane_needed || tls_needed)

  -- 20, 21, 23, 22 in that order

  -- 20: address lookup failed
  abbrev pub is20 : Bool
  is20 = t.address_fails

  -- 21: no address
  abbrev pub is21 : Bool
  is21 = not is20 && t.addressless

  -- 23: only under a live enforce policy, when none of its patterns matches the host
  abbrev pub is23 : Bool
  is23 = not is20 && (not is21 && (t.enforced && not t.listed))

  -- 22: TLSA lookup failed
  abbrev pub is22 : Bool
  is22 = not is20 && (not is21 && (not is23 && t.tlsa_fails))

  -- none of these: STARTTLS is reached
  abbrev pub connects : Bool
  connects = not (is20 || (is21 || (is23 || is22)))

  -- not offered: 24 if anything is needed
  abbrev pub is24 : Bool
  is24 = connects && (not t.offered && any_needed)

  -- handshake failed: 25 if anything is needed
  abbrev pub is25 : Bool
  is25 = connects && (t.offered && (not t.established && any_needed))

  -- not offered or handshake failed: 1 if nothing is needed
  abbrev pub is1 : Bool
  is1 = connects && (not (t.offered && t.established) && not any_needed)

  -- established: 28, then 26, then 27, then 5, 3, 4 or 2 by what was needed; where both are needed, both must pass
  abbrev pub encrypts : Bool
  encrypts = connects && (t.offered && t.established)

  -- 28 (document 02, No. 6): authentication is needed and the version is below 03 03 hex
  abbrev pub is28 : Bool
  is28 = encrypts && (authentication_needed && t.old)

  -- 26: DANE did not match
  abbrev pub is26 : Bool
  is26 = encrypts && (not is28 && (dane_needed && not t.dane_passed))

  -- 27: MTA-STS certificate check did not pass
  abbrev pub is27 : Bool
  is27 = encrypts && (not is28 && (not is26 && (mta_sts_needed && not t.mta_sts_passed)))

  -- 5: authenticated by both
  abbrev pub is5 : Bool
  is5 = encrypts && (not is28 && (dane_needed && (mta_sts_needed && (t.dane_passed && t.mta_sts_passed))))

  -- 3: by DANE
  abbrev pub is3 : Bool
  is3 = encrypts && (not is28 && (dane_needed && (not mta_sts_needed && t.dane_passed)))

  -- 4: by MTA-STS
  abbrev pub is4 : Bool
  is4 = encrypts && (not is28 && (not dane_needed && (mta_sts_needed && t.mta_sts_passed)))

  -- 2: encrypted, unauthenticated
  abbrev pub is2 : Bool
  is2 = encrypts && (not dane_needed && not mta_sts_needed)

-- a verdict and its condition
pub record Condition : Type 0 where
  pub number : ℕ
  pub holds : Bool

-- the thirteen of the table, and 28
abbrev pub conditions : Tests → List Condition
conditions t =
    record { number = 1; holds = is1 t }
    ∷ record { number = 2; holds = is2 t }
    ∷ record { number = 3; holds = is3 t }
    ∷ record { number = 4; holds = is4 t }
    ∷ record { number = 5; holds = is5 t }
    ∷ record { number = 20; holds = is20 t }
    ∷ record { number = 21; holds = is21 t }
    ∷ record { number = 22; holds = is22 t }
    ∷ record { number = 23; holds = is23 t }
    ∷ record { number = 24; holds = is24 t }
    ∷ record { number = 25; holds = is25 t }
    ∷ record { number = 26; holds = is26 t }
    ∷ record { number = 27; holds = is27 t }
    ∷ record { number = 28; holds = is28 t }
    ∷ []

-- the numbers whose conditions hold
abbrev pub holding : List Condition → List ℕ
holding [] = []
holding (c ∷ cs) = cond c.holds (c.number ∷ holding cs) (holding cs)

-- n is the number of each exactly where its condition holds
abbrev pub Exactly : ℕ → List Condition → Type 0
Exactly n [] = Unit {0}
Exactly n (c ∷ cs) = ((n ≡ c.number) ↔ T c.holds) × Exactly n cs

-- the count

-- the answers at the names that are tried, up to the one at which the search ends; an expanded name that equals the host is a name of its own
abbrev pub answers_up_to : List Tried → ℕ
answers_up_to [] = 0
answers_up_to (t ∷ ts) = cond (is_next_name t.answer) (1 + answers_up_to ts) 1

-- how many TLSA questions the walk reached: the answers it read; under 20, 21 and 23 it is 0
unfoldable pub count_of : Base → Full → ℕ
count_of b f = cond (is20 (tests_of b f) || (is21 (tests_of b f) || is23 (tests_of b f))) 0 (answers_up_to (tried b f b.address))

-- the facts that the rules reach

-- the TLSA answers, from a place on, up to the name at which the search ends
abbrev pub tlsa_reached : Place → List Tried → List Fact
tlsa_reached p [] = []
tlsa_reached p (t ∷ ts) = tlsa p ∷ cond (is_next_name t.answer) (tlsa_reached second ts) []

-- STARTTLS; the handshake where it is offered; certificate facts where it is established, authentication is needed, and the version is not below 03 03 hex
abbrev pub connection_reached : Tests → List Fact
connection_reached t = starttls ∷ cond t.offered (handshake ∷ cond (t.established && (authentication_needed t && not t.old)) (certificates ∷ []) []) []

-- in document 01's order: none under 20, 21 and 23, and none after the TLSA answers under 22
unfoldable pub facts_reached : Base → Full → List Fact
facts_reached b f =
    cond (is20 (tests_of b f) || (is21 (tests_of b f) || is23 (tests_of b f))) []
    (tlsa_reached first (tried b f b.address) ++ cond (is22 (tests_of b f)) [] (connection_reached (tests_of b f)))

-- the questions

-- the TLSA answers: 13 asks for the one at the expanded name, which is the first under an alias secure at every stage; 14 for the one at the host name
abbrev pub asks_at : Place → Address → ℕ
asks_at first NoAliasSecure = 14
asks_at first NoAliasInsecure = 14
asks_at first AliasSecure = 13
asks_at first AliasFirstStepSecure = 14
asks_at first AliasFirstStepInsecure = 14
asks_at first Failed = 14
asks_at first NoAddress = 14
asks_at second x = 14

-- the number that asks for a fact: 10 STARTTLS offered?; 11 handshake outcome; 12 certificate facts
abbrev pub asks : Fact → Address → ℕ
asks (tlsa p) x = asks_at p x
asks starttls x = 10
asks handshake x = 11
asks certificates x = 12
