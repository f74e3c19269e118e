-- Document 01, "A host's facts, in the order learnt", with document 02, No. 6: what a host needs, and the rules as one tree of questions.
use Rattle.std.specs.Prelude.{ℕ, ◌+◌, ◌*◌, Bool, true, false, not, cond, ◌&&◌, ◌||◌, List, [], ◌∷◌, ltb}
use Rattle.std.proofs.Math.Option.{Option, none, some}
use Rattle.names.specs.Name.{some_matches}
use Rattle.clock.specs.Clock.{is_live}
use Rattle.policies.specs.declared.Mode.{Mode}
use Rattle.policies.specs.declared.Mode.TheVariants as M
use Rattle.tlsa.specs.declared.Needs.{Needs}
use Rattle.tlsa.specs.declared.Needs.TheVariants as N
use Rattle.tlsa.specs.declared.Read.{Read}
use Rattle.tlsa.specs.declared.Read.TheVariants as R
use Rattle.tlsa.specs.Address.{TlsaName, expanded_name, host_name, question_of, NamesOrVerdict, names, names_to_try}
use Rattle.tlsa.specs.Address as A
use Rattle.tlsa.specs.Answer.{secure_records, read_of, needs_of}
use Rattle.certificates.specs.Facts.{Presented}
use Rattle.certificates.specs.Checks.{references, dane_passes, shows_host}
use Rattle.hosts.specs.Facts.{HeldPolicy, Base, Handshake, established, failed, Place, first, second, tlsa, starttls, handshake, certificates}
use Rattle.hosts.specs.Tree.{Rules, verdict, ask}

-- an enforce policy
abbrev pub is_enforce : Mode → Bool
is_enforce M.Enforce = true
is_enforce M.Testing = false
is_enforce M.None = false

-- a live enforce policy at this clock
abbrev pub is_enforced : ℕ → Option HeldPolicy → Bool
is_enforced clock none = false
is_enforced clock (some p) = is_enforce p.policy.mode && is_live p.fetched p.policy.lifetime.0 clock

-- a live enforce policy needs the MTA-STS check
unfoldable pub needs_mta_sts : Base → Bool
needs_mta_sts b = is_enforced b.clock b.policy

-- the patterns of the policy, if there is one
abbrev pub patterns_of : Option HeldPolicy → List (List ℕ)
patterns_of none = []
patterns_of (some p) = p.policy.patterns

-- a policy pattern matches the host
unfoldable pub is_listed : Base → Bool
is_listed b = some_matches (patterns_of b.policy) b.host

-- MTA-STS passes when a policy pattern matches the host, the trusted-root flag holds and a DNS-ID matches the host
unfoldable pub mta_sts_passes : Base → Presented → Bool
mta_sts_passes b p = is_listed b && shows_host b.host p

-- the set taken: none, or the records found at a TLSA base domain
pub data Taken : Type 0 where
  nothing : Taken
  set : List ℕ → List (List ℕ) → Taken

-- what it needs
abbrev pub needs : Taken → Needs
needs nothing = N.Nothing
needs (set domain records) = needs_of records

-- DANE authentication
abbrev pub is_authentication : Needs → Bool
is_authentication N.Nothing = false
is_authentication N.Tls = false
is_authentication N.Authentication = true

-- TLS, with or without authentication
abbrev pub is_tls : Needs → Bool
is_tls N.Nothing = false
is_tls N.Tls = true
is_tls N.Authentication = true

abbrev pub needs_dane : Taken → Bool
needs_dane s = is_authentication (needs s)

-- anything is needed: TLS, DANE authentication or the MTA-STS check
abbrev pub needs_anything : Base → Taken → Bool
needs_anything b s = is_tls (needs s) || needs_mta_sts b

-- DANE passes for the set taken; where none is, nothing passes
abbrev pub taken_passes : Base → Taken → Presented → Bool
taken_passes b nothing p = false
taken_passes b (set domain records) p = dane_passes (references b.origin domain b.next_hop b.expanded_next_hop) records p

-- established: 26, then 27, then 5, 3, 4 or 2 by what was needed (DANE, MTA-STS) and passes; where both are needed, both must pass
abbrev pub last_verdict : (dane sts dane_passed sts_passed : Bool) → ℕ
last_verdict true true true true = 5
last_verdict true true true false = 27
last_verdict true true false s = 26
last_verdict true false true s = 3
last_verdict true false false s = 26
last_verdict false true d true = 4
last_verdict false true d false = 27
last_verdict false false d s = 2

-- authentication is needed: by DANE or by the MTA-STS check
abbrev pub needs_authentication : Base → Taken → Bool
needs_authentication b s = needs_dane s || needs_mta_sts b

-- a version of TLS below 03 03 hex
unfoldable pub is_old : ℕ → Bool
is_old version = ltb version (3 * 256 + 3)

-- an established handshake: where no authentication is needed the walk stops; where it is and the version is old, it stops with 28, before 26; else certificate facts are asked for
abbrev pub authenticate : Base → Taken → ℕ → Rules
authenticate b s version =
    cond (needs_authentication b s)
    (cond (is_old version) (verdict 28)
    (ask 12 certificates (λ p. verdict (last_verdict (needs_dane s) (needs_mta_sts b) (taken_passes b s p) (mta_sts_passes b p)))))
    (verdict 2)

-- handshake failed: 25 if anything is needed, else 1
abbrev pub after_handshake : Base → Taken → Handshake → Rules
after_handshake b s (established version) = authenticate b s version
after_handshake b s failed = verdict (cond (needs_anything b s) 25 1)

-- STARTTLS not offered: 24 if anything is needed, else 1
abbrev pub connect : Base → Taken → Rules
connect b s =
    ask 10 starttls (λ offered. cond offered
    (ask 11 handshake (after_handshake b s))
    (verdict (cond (needs_anything b s) 24 1)))

-- the TLSA base domain of a name to try
abbrev pub domain_of : Base → TlsaName → List ℕ
domain_of b expanded_name = b.expanded
domain_of b host_name = b.host

-- an answer read: 22; or its set is taken and no more is asked; or the next name
abbrev pub after_answer : Base → List ℕ → List (List ℕ) → Rules → Read → Rules
after_answer b domain records next R.LookupFailed = verdict 22
after_answer b domain records next (R.Taken n) = connect b (set domain records)
after_answer b domain records next R.NextName = next

-- the names to try, from a place on; after the last, there is no set
abbrev pub seek : Base → Place → List TlsaName → Rules
seek b place [] = connect b nothing
seek b place (n ∷ ns) = ask (question_of n) (tlsa place) (λ a. after_answer b (domain_of b n) (secure_records a) (seek b second ns) (read_of a))

-- 20, 21 by the address result; 23 only under a live enforce policy, when none of its patterns matches the host
abbrev pub start : Base → NamesOrVerdict → Rules
start b (A.verdict v) = verdict v
start b (names ns) = cond (needs_mta_sts b && not (is_listed b)) (verdict 23) (seek b first ns)

-- the rules for a host
unfoldable pub rules : Base → Rules
rules b = start b (names_to_try b.address)
