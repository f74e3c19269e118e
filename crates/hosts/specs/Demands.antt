-- The letter's demands 2 and 3, of the answer of the call, over its arguments.
use Rattle.std.specs.Prelude.{ℕ, ◌+◌, ◌≤◌, ◌≡◌, ◌↔◌, Bool, true, false, not, cond, ◌&&◌, ◌||◌, List, [], ◌∷◌, T, eqb, leb, ltb}
use Rattle.std.proofs.Math.Option.{Option, none, some}
use Rattle.lists.specs.Bytes.{all, any}
use Rattle.tlsa.specs.declared.Address.{Address}
use Rattle.tlsa.specs.declared.Address.TheVariants.{NoAliasSecure, NoAliasInsecure, AliasSecure, AliasFirstStepSecure, AliasFirstStepInsecure, Failed, NoAddress}
use Rattle.tlsa.specs.Record.{short, usable}
use Rattle.tlsa.specs.Answer.{Answer, absent, is_failed, secure_records}
use Rattle.verdicts.specs.Verdicts.{is_verdict}
use Rattle.hosts.specs.declared.HostAnswer.{HostAnswer}
use Rattle.hosts.specs.Facts.{Base, Handshake, established, failed, first, second, Fact, tlsa, starttls, handshake, certificates, Value, Facts, Full, given, value, is_given}
use Rattle.hosts.specs.Tree.{Question, reached, is_tlsa}
use Rattle.hosts.specs.Rules.{needs_mta_sts, rules}
use Rattle.hosts.specs.Arguments.{Arguments, base_of, presented_in, facts_of}
use Rattle.hosts.specs.Call.{host_answer}
use Rattle.hosts.specs.Verdicts.{tests_of, conditions, holding, count_of}

-- a refusal, 40 to 67
abbrev pub is_refusal : ℕ → Bool
is_refusal n = leb 40 n

-- full sets

-- what C can pass: bytes below 256 and numbers below 2 ^ 64
pub record IsPassed (a : Arguments) : Type 0 where
  pub numbers : T (all (λ (n : ℕ). leb n 18446744073709551615) (a.numbers.clock ∷ a.numbers.expanded_next_hop_given ∷ a.numbers.origin ∷ a.numbers.address ∷ a.numbers.policy_given ∷ a.numbers.fetched ∷ a.numbers.tlsa_answers ∷ a.numbers.tlsa1_result ∷ a.numbers.tlsa2_result ∷ a.numbers.starttls ∷ a.numbers.handshake ∷ a.numbers.tls_version ∷ a.numbers.certificates_given ∷ a.numbers.trusted_root ∷ a.numbers.common_name_given ∷ []))
  pub slices : T (all (all (λ (b : ℕ). leb b 255)) (a.next_hop ∷ a.expanded_next_hop ∷ a.host ∷ a.expanded ∷ a.body ∷ a.lengths1 ∷ a.records1 ∷ a.lengths2 ∷ a.records2 ∷ a.certificates ∷ a.certificate_lengths ∷ a.key_places ∷ a.digests ∷ a.paths ∷ a.dns_ids ∷ a.dns_id_lengths ∷ a.common_name ∷ []))

-- the call accepts the arguments: it does not refuse them (66 is a refusal)
abbrev pub IsAccepted : Arguments → Type 0
IsAccepted a = T (is_refusal (host_answer a).number) → ⊥

-- what is given, else another value
abbrev pub or_else : {A : Type 0} → Option A → A → A
or_else none d = d
or_else (some a) d = a

-- the later facts that arguments say; where one is not given, some value in its place
unfoldable pub full_of : Arguments → Full
full_of c = record {
  tlsa1 = or_else (facts_of c).tlsa1 absent;
  tlsa2 = or_else (facts_of c).tlsa2 absent;
  offered = or_else (facts_of c).offered false;
  outcome = or_else (facts_of c).outcome failed;
  presented = or_else (facts_of c).presented (presented_in c);
}

-- arguments that say a full set of facts: a value for every fact, with two TLSA answers, that the call accepts
pub record IsFull (c : Arguments) : Type 0 where
  pub passed : IsPassed c
  pub every : (q : Fact) → T (is_given (given (facts_of c) q))
  pub accepted : IsAccepted c

-- a full set that keeps the facts given in a: those of every call, and the given ones of the later
pub record Keeps (a c : Arguments) : Type 0 where
  pub full : IsFull c
  pub base : base_of c ≡ base_of a
  pub keeps : (q : Fact) (v : Value q) → given (facts_of a) q ≡ some v → given (facts_of c) q ≡ some v

-- demand 2

-- the TLSA answers that the rules reach in a full set
abbrev pub answer_at : Fact → Full → List Answer → List Answer
answer_at (tlsa p) f l = value f (tlsa p) ∷ l
answer_at starttls f l = l
answer_at handshake f l = l
answer_at certificates f l = l

abbrev pub answers_at : List Question → Full → List Answer
answers_at [] f = []
answers_at (q ∷ qs) f = answer_at q.fact f (answers_at qs f)

abbrev pub is_handshake : Question → Bool
is_handshake q = elim q.fact [ tlsa p ↦ false | starttls ↦ false | handshake ↦ true | certificates ↦ false ]

abbrev pub is_established : Handshake → Bool
is_established (established version) = true
is_established failed = false

-- an address was found
abbrev pub has_address : Address → Bool
has_address NoAliasSecure = true
has_address NoAliasInsecure = true
has_address AliasSecure = true
has_address AliasFirstStepSecure = true
has_address AliasFirstStepInsecure = true
has_address Failed = false
has_address NoAddress = false

-- of the TLSA answers that the rules reach: none failed, none has a record under 3 bytes
abbrev pub none_failed : List Answer → Bool
none_failed l = not (any is_failed l || any (λ (a : Answer). any short (secure_records a)) l)

-- no usable secure record was found; no secure record was found at all
abbrev pub none_usable : List Answer → Bool
none_usable l = not (any (λ (a : Answer). any usable (secure_records a)) l)

abbrev pub is_record : List ℕ → Bool
is_record r = true

abbrev pub none_at_all : List Answer → Bool
none_at_all l = not (any (λ (a : Answer). any is_record (secure_records a)) l)

module _ (b : Base) (f : Full) where
  abbrev pub reached_answers : List Answer
  reached_answers = answers_at (reached (rules b) f) f

  -- TLS was established: the handshake is reached, and it is
  abbrev pub tls_established : Bool
  tls_established = any is_handshake (reached (rules b) f) && is_established f.outcome

  -- an address was found, no TLSA lookup that the rules reach failed or was malformed, no usable secure TLSA record was found, no unexpired enforce policy applies,
  -- and either TLS was established or no secure TLSA record was found at all
  abbrev pub delivers_unauthenticated : Bool
  delivers_unauthenticated =
      has_address b.address && (none_failed reached_answers && (none_usable reached_answers && (not (needs_mta_sts b) && (tls_established || none_at_all reached_answers))))

  -- delivery without authentication (1 or 2) is the verdict exactly then; in cleartext (1) exactly when, besides, TLS was not established
  pub record Demand2 (r : HostAnswer) : Type 0 where
    pub unauthenticated : (eqb r.number 1 || eqb r.number 2) ≡ delivers_unauthenticated
    pub cleartext : eqb r.number 1 ≡ (delivers_unauthenticated && not tls_established)

-- demand 3

-- the number of the first question that the rules reach and whose fact is not given
abbrev pub first_missing : Facts → List Question → Option ℕ
first_missing g [] = none
first_missing g (q ∷ qs) = cond (is_given (given g q.fact)) (first_missing g qs) (some q.number)

-- where a fact stands in document 01's order: TLSA answers, STARTTLS, handshake, certificate facts
abbrev pub rank : Fact → ℕ
rank (tlsa first) = 1
rank (tlsa second) = 2
rank starttls = 3
rank handshake = 4
rank certificates = 5

-- each fact stands later than n, and than those before it
abbrev pub is_rising : ℕ → List Question → Bool
is_rising n [] = true
is_rising n (q ∷ qs) = ltb n (rank q.fact) && is_rising (rank q.fact) qs

-- the number of names whose given answers the rules read
abbrev pub names_read : Facts → List Question → ℕ
names_read g [] = 0
names_read g (q ∷ qs) = cond (is_given (given g q.fact)) (is_tlsa q.fact + names_read g qs) 0

-- all full sets that keep the given facts have one and the same verdict
abbrev pub OneVerdict : Arguments → Type 0
OneVerdict a = (c d : Arguments) → Keeps a c → Keeps a d → (host_answer c).number ≡ (host_answer d).number

-- the answer is final exactly when they have, and is then that verdict; otherwise it names the first fact that the rules reach and that isn't given;
-- what they reach comes in document 01's order. The count is the number of names whose given answers the rules read, at most two. There is a full set, so none of this holds for want of one
pub record Settled (a : Arguments) (r : HostAnswer) : Type 0 where
  pub exactly : T (is_verdict r.number) ↔ OneVerdict a
  pub verdict : T (is_verdict r.number) → (c : Arguments) → Keeps a c → (host_answer c).number ≡ r.number
  pub question : (T (is_verdict r.number) → ⊥) → (c : Arguments) → Keeps a c → first_missing (facts_of a) (reached (rules (base_of a)) (full_of c)) ≡ some r.number
  pub order : (c : Arguments) → Keeps a c → is_rising 0 (reached (rules (base_of a)) (full_of c)) ≡ true
  pub count : (c : Arguments) → Keeps a c → r.tlsa_questions ≡ names_read (facts_of a) (reached (rules (base_of a)) (full_of c))
  pub most : r.tlsa_questions ≤ 2
  pub possible : (c : Arguments) × Keeps a c

-- as long as the call answers no refusal
abbrev pub Demand3 : Arguments → HostAnswer → Type 0
Demand3 a r = (T (is_refusal r.number) → ⊥) → Settled a r

-- the second reading of document 01: the verdict is that of the one condition that holds, and the count is the paper's
pub record Exact (b : Base) (f : Full) (r : HostAnswer) : Type 0 where
  pub verdict : holding (conditions (tests_of b f)) ≡ r.number ∷ []
  pub count : r.tlsa_questions ≡ count_of b f

-- the promise of the exported call: its complete result; where the arguments say a full set that it accepts, the verdict and the count of the second reading and demand 2; and demand 3
pub record Judged (a : Arguments) (r : HostAnswer) : Type 0 where
  pub is : r ≡ host_answer a
  pub exact : IsFull a → Exact (base_of a) (full_of a) r
  pub second : IsFull a → Demand2 (base_of a) (full_of a) r
  pub third : Demand3 a r
