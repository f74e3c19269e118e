-- Document 02, No. 7: "The plain entry with the relay's own facts stays; the new one answers as it does on the facts read." Its arguments are those of the plain call with no
-- names of the leaf, and with key places for the certificates after the leaf only.
use Rattle.std.specs.Prelude.{ℕ, Bool, cond, ◌&&◌, List, [], ◌∷◌, ◌++◌, eqb, ltb, length, get_or, take, Result, Ok, Err}
use Rattle.lists.specs.Check.{Check}
use Rattle.numbers.specs.Numbers.{numbers, written}
use Rattle.certificates.specs.Limits.{chain_fits}
use Rattle.hosts.specs.declared.HostAnswer.{HostAnswer}
use Rattle.hosts.specs.declared.Numbers.{Numbers}
use Rattle.hosts.specs.Arguments.{Arguments, arguments_of}
use Rattle.hosts.specs.Call.{checks, checked, refused, host_answer}
use Rattle.x509.specs.declared.Found.{Found}
use Rattle.leaf.specs.declared.ReadError.{ReadError}
use Rattle.leaf.specs.declared.ReadError.TheVariants.{Malformed, ManyDnsIds}
use Rattle.leaf.specs.Read.{read_leaf}
use Rattle.judging.specs.Texts.{place_of, names_text, lengths_text, given_of, common_name_in}

-- certificate facts are given, with a certificate
unfoldable pub is_present : ℕ → List ℕ → Bool
is_present given lengths = eqb given 1 && ltb 0 (length (numbers lengths))

-- there is a leaf
unfoldable pub has_leaf : Arguments → Bool
has_leaf a = is_present a.numbers.certificates_given a.certificate_lengths

-- the leaf's bytes: the first certificate
unfoldable pub leaf_of : Arguments → List ℕ
leaf_of a = take (get_or (numbers a.certificate_lengths) 0 0) a.certificates

-- the numbers of the plain call, with that code for common_name_given
abbrev pub with_given : ℕ → Numbers → Numbers
with_given given n = record {
  clock = n.clock;
  expanded_next_hop_given = n.expanded_next_hop_given;
  origin = n.origin;
  address = n.address;
  policy_given = n.policy_given;
  fetched = n.fetched;
  tlsa_answers = n.tlsa_answers;
  tlsa1_result = n.tlsa1_result;
  tlsa2_result = n.tlsa2_result;
  starttls = n.starttls;
  handshake = n.handshake;
  tls_version = n.tls_version;
  certificates_given = n.certificates_given;
  trusted_root = n.trusted_root;
  common_name_given = given;
}

-- the arguments with other facts of the leaf
abbrev pub with_leaf : Arguments → (given : ℕ) → (key_places dns_ids dns_id_lengths common_name : List ℕ) → Arguments
with_leaf a given key_places dns_ids dns_id_lengths common_name =
    arguments_of (with_given given a.numbers) a.next_hop a.expanded_next_hop a.host a.expanded a.body a.lengths1 a.records1 a.lengths2 a.records2
    a.certificates a.certificate_lengths key_places a.digests a.paths dns_ids dns_id_lengths common_name

-- the arguments with no names of the leaf
abbrev pub nameless : Arguments → Arguments
nameless a = with_leaf a 2 a.key_places [] [] []

-- the plain call's arguments on the facts read: the leaf's key place before those of the other certificates, its DNS-IDs and its common name
unfoldable pub on_read : Arguments → List ℕ → Found → Arguments
on_read a leaf f = with_leaf a (given_of f.name) (place_of f.key ++ a.key_places) (names_text leaf f) (lengths_text leaf f) (common_name_in leaf f.name)

-- the lists for the certificates keep the limits, with an empty place at the front for the leaf's key
unfoldable pub chain_keeps : Arguments → Bool
chain_keeps a = chain_fits a.certificates a.certificate_lengths (written (0 ∷ 0 ∷ []) ++ a.key_places) a.digests a.paths

-- 90 and 91 for the leaf, else the plain call's answer on the facts read, where 65 is for names
unfoldable pub read_answer : Arguments → Result Found ReadError → HostAnswer
read_answer a (Err (Malformed o)) = refused 90
read_answer a (Err ManyDnsIds) = refused 91
read_answer a (Ok f) = host_answer (on_read a (leaf_of a) f)

-- "There 90 and 91 stand between 65 for the certificates and 65 for names"
unfoldable pub chain_answer : Arguments → HostAnswer
chain_answer a = cond (chain_keeps a) (read_answer a (read_leaf (leaf_of a))) (refused 65)

-- the plain call's checks before its last, 65: 67, 62, 60, 61, 50, 53 to 57, 52, 64
abbrev pub checks_before : Arguments → List Check
checks_before a = take 6 (checks a)

-- the answer of the call: with a leaf the refusals before 65, then as above; "without a leaf nothing is read", and the plain call answers
unfoldable pub certificate_answer : Arguments → HostAnswer
certificate_answer a = cond (has_leaf a) (checked (checks_before a) (chain_answer a)) (host_answer a)
