-- The arguments of the call as C passes them, and the facts that they say: one definition, total. What is not supplied is not looked at.
use Rattle.std.specs.Prelude.{ℕ, Bool, true, false, cond, List, [], eqb, leb}
use Rattle.std.proofs.Math.Option.{Option, none, some}
use Rattle.policies.specs.Policy.{Reading, too_long, malformed, incomplete, policy, read_body}
use Rattle.tlsa.specs.declared.Address.{Address}
use Rattle.tlsa.specs.declared.Address.TheVariants.{NoAliasSecure, NoAliasInsecure, AliasSecure, AliasFirstStepSecure, AliasFirstStepInsecure, Failed, NoAddress}
use Rattle.tlsa.specs.Answer.{Lookup}
use Rattle.tlsa.specs.Answer as L
use Rattle.tlsa.specs.Answer.{answer_of}
use Rattle.certificates.specs.Facts.{Presented, when, presented_of}
use Rattle.certificates.specs.declared.Origin.{Origin}
use Rattle.certificates.specs.declared.Origin.TheVariants.{SecureMx, InsecureMx, NoMx}
use Rattle.hosts.specs.declared.HostCall.{HostCall}
use Rattle.hosts.specs.declared.Numbers.{Numbers}
use Rattle.hosts.specs.Facts.{HeldPolicy, Base, Handshake, established, failed, Facts}

-- the numbers of the call, and its byte slices, in the boundary's order
pub record Arguments : Type 0 where
  pub numbers : Numbers
  pub next_hop : List ℕ
  pub expanded_next_hop : List ℕ
  pub host : List ℕ
  pub expanded : List ℕ
  pub body : List ℕ
  pub lengths1 : List ℕ
  pub records1 : List ℕ
  pub lengths2 : List ℕ
  pub records2 : List ℕ
  pub certificates : List ℕ
  pub certificate_lengths : List ℕ
  pub key_places : List ℕ
  pub digests : List ℕ
  pub paths : List ℕ
  pub dns_ids : List ℕ
  pub dns_id_lengths : List ℕ
  pub common_name : List ℕ

-- origin: 1 secure MX, 2 insecure MX, 3 no MX
abbrev pub origin_of : ℕ → Origin
origin_of n = cond (eqb n 1) SecureMx (cond (eqb n 2) InsecureMx NoMx)

-- address: 1 no alias, secure; 2 no alias, insecure; 3 alias, secure at every stage; 4 alias, first step secure, address not; 5 alias, first step insecure;
-- 6 lookup failed; 7 no address
abbrev pub address_of : ℕ → Address
address_of n =
    cond (eqb n 1) NoAliasSecure
    (cond (eqb n 2) NoAliasInsecure
    (cond (eqb n 3) AliasSecure
    (cond (eqb n 4) AliasFirstStepSecure
    (cond (eqb n 5) AliasFirstStepInsecure
    (cond (eqb n 6) Failed NoAddress)))))

-- an alias, whose expanded name is supplied
abbrev pub is_alias : Address → Bool
is_alias NoAliasSecure = false
is_alias NoAliasInsecure = false
is_alias AliasSecure = true
is_alias AliasFirstStepSecure = true
is_alias AliasFirstStepInsecure = true
is_alias Failed = false
is_alias NoAddress = false

-- tlsaN_result: 1 secure, 2 insecure, 3 absent, 4 failed
abbrev pub lookup_of : ℕ → Lookup
lookup_of n = cond (eqb n 1) L.Secure (cond (eqb n 2) L.Insecure (cond (eqb n 3) L.Absent L.Failed))

-- the policy that a body is read as, with its fetch reading
abbrev pub held : ℕ → Reading → Option HeldPolicy
held fetched too_long = none
held fetched (malformed fault) = none
held fetched incomplete = none
held fetched (policy p) = some (record { policy = p; fetched = fetched })

-- starttls: 0 not given, 1 offered, 2 not offered
abbrev pub offered_of : ℕ → Option Bool
offered_of n = cond (eqb n 0) none (some (eqb n 1))

-- handshake: 0 not given, 1 established, 2 failed; tls_version is looked at only with 1
abbrev pub outcome_of : (handshake version : ℕ) → Option Handshake
outcome_of n version = cond (eqb n 0) none (some (cond (eqb n 1) (established version) failed))

-- the facts that are given in every call. expanded_next_hop_given: 1 a name, 2 none
unfoldable pub base_of : Arguments → Base
base_of a = record {
  clock = a.numbers.clock;
  next_hop = a.next_hop;
  expanded_next_hop = when (eqb a.numbers.expanded_next_hop_given 1) a.expanded_next_hop;
  origin = origin_of a.numbers.origin;
  host = a.host;
  address = address_of a.numbers.address;
  expanded = cond (is_alias (address_of a.numbers.address)) a.expanded [];
  policy = cond (eqb a.numbers.policy_given 1) (held a.numbers.fetched (read_body a.body)) none;
}

-- the certificate facts that the arguments say
unfoldable pub presented_in : Arguments → Presented
presented_in a = presented_of a.certificates a.certificate_lengths a.key_places a.digests a.paths (eqb a.numbers.trusted_root 1) a.dns_ids a.dns_id_lengths (eqb a.numbers.common_name_given 1) a.common_name

-- the facts that the arguments say
unfoldable pub facts_of : Arguments → Facts
facts_of a = record {
  base = base_of a;
  tlsa1 = when (leb 1 a.numbers.tlsa_answers) (answer_of (lookup_of a.numbers.tlsa1_result) a.lengths1 a.records1);
  tlsa2 = when (leb 2 a.numbers.tlsa_answers) (answer_of (lookup_of a.numbers.tlsa2_result) a.lengths2 a.records2);
  offered = offered_of a.numbers.starttls;
  outcome = outcome_of a.numbers.handshake a.numbers.tls_version;
  presented = when (eqb a.numbers.certificates_given 1) (presented_in a);
}

-- the arguments of a call
abbrev pub arguments_of : Numbers → (next_hop expanded_next_hop host expanded body lengths1 records1 lengths2 records2 certificates certificate_lengths key_places digests paths dns_ids dns_id_lengths common_name : List ℕ) → Arguments
arguments_of n next_hop expanded_next_hop host expanded body lengths1 records1 lengths2 records2 certificates certificate_lengths key_places digests paths dns_ids dns_id_lengths common_name = record {
  numbers = n;
  next_hop = next_hop;
  expanded_next_hop = expanded_next_hop;
  host = host;
  expanded = expanded;
  body = body;
  lengths1 = lengths1;
  records1 = records1;
  lengths2 = lengths2;
  records2 = records2;
  certificates = certificates;
  certificate_lengths = certificate_lengths;
  key_places = key_places;
  digests = digests;
  paths = paths;
  dns_ids = dns_ids;
  dns_id_lengths = dns_id_lengths;
  common_name = common_name;
}

-- the arguments that a call's struct holds
abbrev pub said_by : HostCall → Arguments
said_by c = arguments_of c.numbers c.next_hop.now c.expanded_next_hop.now c.host.now c.expanded.now c.policy.now c.tlsa1.lengths.now c.tlsa1.bytes.now c.tlsa2.lengths.now c.tlsa2.bytes.now c.chain.certificates.now c.chain.lengths.now c.chain.key_places.now c.chain.digests.now c.chain.paths.now c.dns_ids.bytes.now c.dns_ids.lengths.now c.common_name.now
