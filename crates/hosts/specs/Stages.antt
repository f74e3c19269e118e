-- The contracts of this crate's private functions: the definitions of the call over the parts that each function is given. No promise to a caller rests on this file:
-- what the call answers is `host_answer`, and the proofs join the two.
use Rattle.std.specs.Prelude.{ℕ, ◌+◌, Bool, true, false, cond, not, ◌&&◌, ◌||◌, List, [], eqb, leb}
use Rattle.std.proofs.Math.Option.{Option, none, some}
use Rattle.lists.specs.Bytes.{within, all}
use Rattle.numbers.specs.Numbers.{numbers}
use Rattle.clock.specs.Clock.{is_live}
use Rattle.policies.specs.declared.PolicyAnswer.{PolicyAnswer}
use Rattle.policies.specs.declared.PolicyFor.{PolicyFor}
use Rattle.policies.specs.Policy.{policy_for}
use Rattle.tlsa.specs.declared.Address.{Address}
use Rattle.tlsa.specs.declared.Address.TheVariants.{NoAliasSecure, NoAliasInsecure, AliasSecure, AliasFirstStepSecure, AliasFirstStepInsecure, Failed, NoAddress}
use Rattle.tlsa.specs.declared.Needs.{Needs}
use Rattle.tlsa.specs.declared.Needs.TheVariants as N
use Rattle.tlsa.specs.declared.Read.{Read}
use Rattle.tlsa.specs.declared.Read.TheVariants as R
use Rattle.tlsa.specs.declared.Tries.{Tries}
use Rattle.tlsa.specs.declared.Tries.TheVariants.{ExpandedThenHost, HostOnly, NoName, AddressFailed, AddressMissing}
use Rattle.tlsa.specs.Answer.{Answer, records_of, answer_of, read_of}
use Rattle.certificates.specs.Facts.{when}
use Rattle.certificates.specs.Checks.{references, dane_passes, shows_host}
use Rattle.certificates.specs.Limits.{yes_no}
use Rattle.hosts.specs.declared.HostAnswer.{HostAnswer}
use Rattle.hosts.specs.declared.Numbers.{Numbers}
use Rattle.std.specs.Prelude as S
use Rattle.hosts.specs.declared.Found.{Found}
use Rattle.hosts.specs.Facts.{Handshake, established, failed, is_given}
use Rattle.hosts.specs.Rules.{is_authentication, is_tls, is_old, last_verdict}
use Rattle.hosts.specs.Arguments.{Arguments, origin_of, address_of, lookup_of, offered_of, outcome_of, presented_in}
use Rattle.hosts.specs.Call.{if_supplied, version_fits, codes_fit, clocks_fit, next_hops_fit, host_names_fit, answers_fit, certificates_fit, refused}

-- the argument checks

-- the codes of the facts that are given in every call, and the number of TLSA answers
unfoldable pub base_codes_fit : Numbers → Bool
base_codes_fit n = within 1 2 n.expanded_next_hop_given && within 1 3 n.origin && within 1 7 n.address && within 1 2 n.policy_given && leb n.tlsa_answers 2

-- the codes of the later facts
unfoldable pub later_codes_fit : Numbers → Bool
later_codes_fit n =
    if_supplied (leb 1 n.tlsa_answers) (within 1 4 n.tlsa1_result)
    && if_supplied (leb 2 n.tlsa_answers) (within 1 4 n.tlsa2_result)
    && leb n.starttls 2
    && leb n.handshake 2
    && version_fits n
    && leb n.certificates_given 1

-- the yes/no numbers of certificate facts
unfoldable pub certificate_codes_fit : Numbers → List ℕ → Bool
certificate_codes_fit n paths =
    if_supplied (eqb n.certificates_given 1)
    (all yes_no (numbers paths) && yes_no n.trusted_root && yes_no n.common_name_given)

-- a check that refuses
abbrev pub refusing : ℕ → S.Result (Unit {0}) HostAnswer
refusing n = S.Err (refused n)

-- the first refusal among 67, 62, 60, 61
unfoldable pub first_refusal : Arguments → S.Result (Unit {0}) HostAnswer
first_refusal a = cond (codes_fit a) (cond (clocks_fit a) (cond (next_hops_fit a) (cond (host_names_fit a) (S.Ok tt) (refusing 61)) (refusing 60)) (refusing 62)) (refusing 67)

-- the first refusal among 64, 65
unfoldable pub last_refusal : Arguments → S.Result (Unit {0}) HostAnswer
last_refusal a = cond (answers_fit a) (cond (certificates_fit a) (S.Ok tt) (refusing 65)) (refusing 64)

-- the policy

-- what stands for a policy that is not given: it is no refusal, and needs nothing
abbrev pub no_policy : PolicyFor
no_policy = record { answer = record { number = 7; mode = 3; lifetime = 0; mx_count = 0; line = 0; offset = 0 }; listed = false }

-- the answer to the policy, and whether it lists the host, where one is given
unfoldable pub given_policy : ℕ → (body host : List ℕ) → PolicyFor
given_policy given body host = cond (eqb given 1) (policy_for body host) no_policy

-- a live enforce policy
unfoldable pub policy_needs : PolicyAnswer → (fetched clock : ℕ) → Bool
policy_needs p fetched clock = eqb p.mode 1 && is_live fetched p.lifetime clock

-- the TLSA answers

-- what reading a TLSA answer comes to, where it is given
unfoldable pub read_given : Option Answer → S.Option Read
read_given none = S.None
read_given (some a) = S.Some (read_of a)

-- a fact after the TLSA answers is given
unfoldable pub later_given : (starttls handshake certificates_given : ℕ) → Bool
later_given starttls handshake certificates_given = not (eqb starttls 0) || (not (eqb handshake 0) || eqb certificates_given 1)

-- a question after n answers were read: 66 where a later fact is given
abbrev pub asking : (number n : ℕ) → Bool → HostAnswer
asking number n later = cond later (refused 66) (record { number = number; tlsa_questions = n })

-- a verdict after n answers were read
abbrev pub saying : (number n : ℕ) → HostAnswer
saying number n = record { number = number; tlsa_questions = n }

-- the set that was found, or none; or the answer at which the walk ends
abbrev pub Stage : Type 0
Stage = S.Result Found HostAnswer

-- no set, after n answers
abbrev pub no_set : ℕ → Stage
no_set n = S.Ok (record { needs = N.Nothing; expanded = false; second = false; questions = n })

-- an answer that was read, at the expanded name or not, as the second or not, the n-th in all: 22; its set; or what is next
unfoldable pub read_stage : (expanded second : Bool) (n : ℕ) (next : Stage) → Read → Stage
read_stage expanded second n next R.LookupFailed = S.Err (saying 22 n)
read_stage expanded second n next (R.Taken d) = S.Ok (record { needs = d; expanded = expanded; second = second; questions = n })
read_stage expanded second n next R.NextName = next

-- the answer at the host name, read as the first or the second, with n read before it
unfoldable pub host_read : (second : Bool) (n : ℕ) → Read → Stage
host_read second n r = read_stage false second (n + 1) (no_set (n + 1)) r

unfoldable pub at_host : (second : Bool) (n : ℕ) (later : Bool) → S.Option Read → Stage
at_host second n later S.None = S.Err (asking 14 n later)
at_host second n later (S.Some r) = host_read second n r

-- the answer at the expanded name, which is the first, and then at the host name
unfoldable pub expanded_read : (later : Bool) → S.Option Read → Read → Stage
expanded_read later y r = read_stage true false 1 (at_host true 1 later y) r

unfoldable pub at_expanded : (later_than_first later_than_second : Bool) → (first second : S.Option Read) → Stage
at_expanded f s S.None y = S.Err (asking 13 0 f)
at_expanded f s (S.Some r) y = expanded_read s y r

-- the case of the names to try that belongs to each address result
unfoldable pub tries_of : Address → Tries
tries_of NoAliasSecure = HostOnly
tries_of NoAliasInsecure = NoName
tries_of AliasSecure = ExpandedThenHost
tries_of AliasFirstStepSecure = HostOnly
tries_of AliasFirstStepInsecure = NoName
tries_of Failed = AddressFailed
tries_of NoAddress = AddressMissing

-- the names to try
unfoldable pub names_stage : Tries → (unlisted later_than_first later_than_second : Bool) → (first second : S.Option Read) → Stage
names_stage AddressFailed u f s x y = S.Err (saying 20 0)
names_stage AddressMissing u f s x y = S.Err (saying 21 0)
names_stage NoName u f s x y = cond u (S.Err (saying 23 0)) (no_set 0)
names_stage HostOnly u f s x y = cond u (S.Err (saying 23 0)) (at_host false 0 f x)
names_stage ExpandedThenHost u f s x y = cond u (S.Err (saying 23 0)) (at_expanded f s x y)

-- the connection

-- the certificate facts are reached and given; or the answer at which the walk ends
abbrev pub Connection : Type 0
Connection = S.Result (Unit {0}) HostAnswer

-- the handshake: an answer, or the certificate facts that are reached and given. d is what the set needs, e whether the MTA-STS check is needed
unfoldable pub handshake_stage : ℕ → Needs → (e : Bool) → Option Handshake → (certificates_given : Bool) → Connection
handshake_stage n d e none c = S.Err (asking 11 n c)
handshake_stage n d e (some failed) c = S.Err (saying (cond (is_tls d || e) 25 1) n)
handshake_stage n d e (some (established version)) c = cond (is_authentication d || e) (cond (is_old version) (S.Err (saying 28 n)) (cond c (S.Ok tt) (S.Err (saying 12 n)))) (S.Err (saying 2 n))

-- STARTTLS, then the handshake
unfoldable pub connection : ℕ → Needs → (e : Bool) → Option Bool → Option Handshake → (certificates_given : Bool) → Connection
connection n d e none m c = S.Err (asking 10 n (is_given m || c))
connection n d e (some false) m c = S.Err (saying (cond (is_tls d || e) 24 1) n)
connection n d e (some true) m c = handshake_stage n d e m c

-- the name at which the set was found, and its records
abbrev pub domain_of : Arguments → Found → List ℕ
domain_of a f = cond f.expanded a.expanded a.host

abbrev pub records_at : Arguments → Found → List (List ℕ)
records_at a f = records_of (cond f.second a.lengths2 a.lengths1) (cond f.second a.records2 a.records1)

-- the verdict at certificate facts; what is not needed is not looked at
unfoldable pub certificate_verdict : Arguments → Found → (e : Bool) → ℕ
certificate_verdict a f e =
    last_verdict (is_authentication f.needs) e
    (not (is_authentication f.needs) || dane_passes (references (origin_of a.numbers.origin) (domain_of a f) a.next_hop (when (eqb a.numbers.expanded_next_hop_given 1) a.expanded_next_hop)) (records_at a f) (presented_in a))
    (not e || shows_host a.host (presented_in a))

-- an answer, or the verdict at certificate facts
abbrev pub ended : ℕ → ℕ → Connection → HostAnswer
ended n v (S.Err x) = x
ended n v (S.Ok u) = saying v n

-- the answer from the connection on
unfoldable pub found_answer : Arguments → (e : Bool) → Found → HostAnswer
found_answer a e f =
    ended f.questions (certificate_verdict a f e)
    (connection f.questions f.needs e (offered_of a.numbers.starttls) (outcome_of a.numbers.handshake a.numbers.tls_version) (eqb a.numbers.certificates_given 1))

-- the walk

-- the TLSA answers of a call
unfoldable pub first_stage : Arguments → (unlisted : Bool) → Stage
first_stage a u =
    names_stage (tries_of (address_of a.numbers.address)) u
    (leb 2 a.numbers.tlsa_answers || later_given a.numbers.starttls a.numbers.handshake a.numbers.certificates_given)
    (later_given a.numbers.starttls a.numbers.handshake a.numbers.certificates_given)
    (read_given (when (leb 1 a.numbers.tlsa_answers) (answer_of (lookup_of a.numbers.tlsa1_result) a.lengths1 a.records1)))
    (read_given (when (leb 2 a.numbers.tlsa_answers) (answer_of (lookup_of a.numbers.tlsa2_result) a.lengths2 a.records2)))

-- an answer, or what follows from the set that was found
abbrev pub reaching : (Found → HostAnswer) → Stage → HostAnswer
reaching k (S.Err x) = x
reaching k (S.Ok f) = k f

-- the answer of the walk. e and u: whether the MTA-STS check is needed, and whether no pattern then matches the host
unfoldable pub walk_answer : Arguments → (e u : Bool) → HostAnswer
walk_answer a e u = reaching (found_answer a e) (first_stage a u)

-- the answer, whether the walk came to its end or ended before
abbrev pub answer_of_walk : S.Result HostAnswer HostAnswer → HostAnswer
answer_of_walk (S.Ok x) = x
answer_of_walk (S.Err x) = x
