-- Document 01: which arguments are accepted, and the answer of the call that judges a host.
use Rattle.std.specs.Prelude.{ℕ, Bool, true, cond, not, ◌&&◌, ◌||◌, List, [], ◌∷◌, eqb, leb}
use Rattle.lists.specs.Check.{Check}
use Rattle.lists.specs.Bytes.{within, all}
use Rattle.lists.specs.Equal.{same_text}
use Rattle.numbers.specs.Numbers.{numbers}
use Rattle.names.specs.Name.{is_name}
use Rattle.clock.specs.Clock.{is_reading}
use Rattle.policies.specs.Policy.{policy_answer}
use Rattle.tlsa.specs.Answer.{answer_fits}
use Rattle.certificates.specs.Limits.{yes_no, facts_fit}
use Rattle.certificates.specs.declared.Origin.{Origin}
use Rattle.certificates.specs.declared.Origin.TheVariants.{SecureMx, InsecureMx, NoMx}
use Rattle.hosts.specs.declared.HostAnswer.{HostAnswer}
use Rattle.hosts.specs.declared.Numbers.{Numbers}
use Rattle.hosts.specs.Facts.{Facts, later}
use Rattle.hosts.specs.Tree.{Outcome, final, missing, walk, answers_read}
use Rattle.hosts.specs.Rules.{rules}
use Rattle.hosts.specs.Arguments.{Arguments, origin_of, address_of, is_alias, lookup_of, facts_of}

-- a test that is asked only of what is supplied
abbrev pub if_supplied : Bool → Bool → Bool
if_supplied supplied test = not supplied || test

-- the version of an established handshake has two bytes
abbrev pub version_fits : Numbers → Bool
version_fits n = if_supplied (eqb n.handshake 1) (leb n.tls_version 65535)

-- 67: every input code and yes/no number that is supplied is one of its named choices, there are at most two TLSA answers, and the version of an established handshake has two bytes
unfoldable pub codes_fit : Arguments → Bool
codes_fit a =
    within 1 2 a.numbers.expanded_next_hop_given
    && within 1 3 a.numbers.origin
    && within 1 7 a.numbers.address
    && within 1 2 a.numbers.policy_given
    && leb a.numbers.tlsa_answers 2
    && if_supplied (leb 1 a.numbers.tlsa_answers) (within 1 4 a.numbers.tlsa1_result)
    && if_supplied (leb 2 a.numbers.tlsa_answers) (within 1 4 a.numbers.tlsa2_result)
    && leb a.numbers.starttls 2
    && leb a.numbers.handshake 2
    && version_fits a.numbers
    && leb a.numbers.certificates_given 1
    && if_supplied (eqb a.numbers.certificates_given 1)
    (all yes_no (numbers a.paths) && yes_no a.numbers.trusted_root && yes_no a.numbers.common_name_given)

-- 62: the present clock, and with a policy the clock of its fetch, are readings
unfoldable pub clocks_fit : Arguments → Bool
clocks_fit a = is_reading a.numbers.clock && if_supplied (eqb a.numbers.policy_given 1) (is_reading a.numbers.fetched)

-- 60: the next-hop's name, then the expanded next-hop's where one is given, whatever the origin
unfoldable pub next_hops_fit : Arguments → Bool
next_hops_fit a = is_name a.next_hop && if_supplied (eqb a.numbers.expanded_next_hop_given 1) (is_name a.expanded_next_hop)

-- with no MX the host equals the next-hop
abbrev pub host_fits : Origin → List ℕ → List ℕ → Bool
host_fits SecureMx host next_hop = true
host_fits InsecureMx host next_hop = true
host_fits NoMx host next_hop = same_text host next_hop

-- 61: the host's name, then the expanded name under any of the three alias results
unfoldable pub host_names_fit : Arguments → Bool
host_names_fit a =
    is_name a.host
    && host_fits (origin_of a.numbers.origin) a.host a.next_hop
    && if_supplied (is_alias (address_of a.numbers.address)) (is_name a.expanded)

-- 50, 53 to 57, 52: a policy is accepted
unfoldable pub policy_fits : Arguments → Bool
policy_fits a = if_supplied (eqb a.numbers.policy_given 1) (eqb (policy_answer a.body).number 7)

-- 64: each TLSA answer that is supplied is inside the limits
unfoldable pub answers_fit : Arguments → Bool
answers_fit a =
    if_supplied (leb 1 a.numbers.tlsa_answers) (answer_fits (lookup_of a.numbers.tlsa1_result) a.lengths1 a.records1)
    && if_supplied (leb 2 a.numbers.tlsa_answers) (answer_fits (lookup_of a.numbers.tlsa2_result) a.lengths2 a.records2)

-- 65: certificate facts that are supplied are inside the limits
unfoldable pub certificates_fit : Arguments → Bool
certificates_fit a =
    if_supplied (eqb a.numbers.certificates_given 1)
    (facts_fit a.certificates a.certificate_lengths a.key_places a.digests a.paths a.dns_ids a.dns_id_lengths (eqb a.numbers.common_name_given 1) a.common_name)

-- the checks, in the order 67, 62, 60, 61, 50, 53 to 57, 52, 64, 65
unfoldable pub checks : Arguments → List Check
checks a =
    record { passes = codes_fit a; refusal = 67 }
    ∷ record { passes = clocks_fit a; refusal = 62 }
    ∷ record { passes = next_hops_fit a; refusal = 60 }
    ∷ record { passes = host_names_fit a; refusal = 61 }
    ∷ record { passes = policy_fits a; refusal = (policy_answer a.body).number }
    ∷ record { passes = answers_fit a; refusal = 64 }
    ∷ record { passes = certificates_fit a; refusal = 65 }
    ∷ []

-- a refusal: its number, and zero
abbrev pub refused : ℕ → HostAnswer
refused n = record { number = n; tlsa_questions = 0 }

-- the refusal of the first check that fails, or the answer where all pass
abbrev pub checked : List Check → HostAnswer → HostAnswer
checked [] answer = answer
checked (c ∷ cs) answer = cond c.passes (checked cs answer) (refused c.refusal)

-- what the walk comes to: its verdict; or the question of the first missing fact, 66 where a later one is given. n is how many TLSA answers it read
abbrev pub outcome_answer : Facts → ℕ → Outcome → HostAnswer
outcome_answer g n (final v) = record { number = v; tlsa_questions = n }
outcome_answer g n (missing q) = cond (later q.fact g) (refused 66) (record { number = q.number; tlsa_questions = n })

-- the answer of the rules on the facts given
abbrev pub walked : Facts → HostAnswer
walked g = outcome_answer g (answers_read (rules g.base) g) (walk (rules g.base) g)

-- the answer of the call
unfoldable pub host_answer : Arguments → HostAnswer
host_answer a = checked (checks a) (walked (facts_of a))
