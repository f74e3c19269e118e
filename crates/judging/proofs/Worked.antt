-- Calls by computation, from their arguments: a leaf with two DNS-IDs, foo.test and bar.test, and an issuer whose key info a TLSA record 2 1 1 names. Assumes nothing.
use Prim.Native.Nat.{ℕ}
use mathlib.Core.Path.{◌≡◌, refl}
use mathlib.Core.List.{List, [], ◌∷◌, ◌++◌}
use lib.ListN.{length, take, replicate}
use Rattle.lists.specs.Bytes.{all, any, lower_of}
use Rattle.lists.specs.Equal.{agree, same_byte, same_letter}
use Rattle.lists.specs.Split.{index_of, split, to_first}
use Rattle.lists.specs.Text.{text}
use Rattle.numbers.specs.Numbers.{numbers, is_whole, sum, written}
use Rattle.numbers.specs.Pieces.{cut, sums_to, up_to, numbered}
use Rattle.names.specs.Name.{label_byte, is_label, is_name, is_starred, is_wildcard, is_pattern, matches_name}
use Rattle.clock.specs.Clock.{is_reading}
use Rattle.tlsa.specs.Record.{short, is_usage, is_selector, data_fits, usable, is_sha512, ignored}
use Rattle.tlsa.specs.Answer.{answer_of, set_fits, answer_fits, needs_of, taken_of, read_of}
use Rattle.certificates.specs.Facts.{certificate_at, certificates_of, presented_of}
use Rattle.certificates.specs.Limits.{certificate_fits, total_of, chain_keeps_limits, common_name_fits, names_keep_limits, keeps_limits, one_for_each, chain_fits, names_fit, facts_fit, yes_no}
use Rattle.certificates.specs.Checks.{by_type, compared, matches_certificate, matches_on_path, record_matches, further_reference, references, leaf_names, names_reference, dane_passes, shows_host}
use Rattle.hosts.specs.declared.HostAnswer.{HostAnswer}
use Rattle.hosts.specs.Rules.{is_old, needs_mta_sts, is_listed, mta_sts_passes, rules}
use Rattle.hosts.specs.Arguments.{Arguments, base_of, presented_in, facts_of}
use Rattle.hosts.specs.Call.{codes_fit, clocks_fit, next_hops_fit, host_names_fit, policy_fits, answers_fit, certificates_fit, checks, host_answer}
use Rattle.der.specs.Header.{value_of, long_size, short_size, headed, header, is_constructed}
use Rattle.der.specs.Elements.{with_head, elements_from, elements}
use Rattle.der.specs.Walk as Der
use Rattle.x509.specs.Fields.{is_of, tagged, holds, or_else, noting, string_name, built_name, expects, may_end}
use Rattle.x509.specs.Walk.{noted, and_then, at_end, run_from, walk_run, passing, leaving, walk_in, walk_met, opened, walk_element, walk_certificate}
use Rattle.x509.specs.Found.{whole_of, contents_of, whole_at, contents_at, name_at, alternatives_at, found_at, fields_by, fields_of}
use Rattle.leaf.specs.Names.{dns_names, dns_ids_from, dns_ids_of, each_as}
use Rattle.leaf.specs.Read.{reading_of, read_leaf}
use Rattle.judging.specs.Texts.{names_text, lengths_text, given_of, common_name_in}
use Rattle.judging.specs.Judging.{is_present, has_leaf, leaf_of, on_read, chain_keeps, read_answer, chain_answer, certificate_answer}

-- the leaf: its first fields, its public key info, its extensions with subjectAltName, and its signature
abbrev leaf : List ℕ
leaf =
    (48 ∷ 129 ∷ 185 ∷ 48 ∷ 129 ∷ 163 ∷ 160 ∷ 3 ∷ 2 ∷ 1 ∷ 2 ∷ 2 ∷ 4 ∷ 222 ∷ 173 ∷ 190 ∷ 239 ∷ 48 ∷ 13 ∷ 6 ∷ 9 ∷ 42 ∷ 134 ∷ 72 ∷ 134 ∷ 247 ∷ 13 ∷ 1 ∷ 1 ∷ 11 ∷ 5 ∷ 0 ∷ 48 ∷ 12 ∷ 49 ∷ 10 ∷ 48 ∷ 8 ∷ 6 ∷ 0 ∷ 19 ∷ 4 ∷ 84 ∷ 101 ∷ 115 ∷ 116 ∷ 48 ∷ 28 ∷ 23 ∷ 12 ∷ 48 ∷ 57 ∷ 48 ∷ 49 ∷ 48 ∷ 49 ∷ 48 ∷ 48 ∷ 48 ∷ 48 ∷ 48 ∷ 48 ∷ 23 ∷ 12 ∷ 48 ∷ 57 ∷ 49 ∷ 50 ∷ 51 ∷ 49 ∷ 50 ∷ 51 ∷ 53 ∷ 57 ∷ 53 ∷ 57 ∷ 48 ∷ 12 ∷ 49 ∷ 10 ∷ 48 ∷ 8 ∷ 6 ∷ 0 ∷ 19 ∷ 4 ∷ 84 ∷ 101 ∷ 115 ∷ 116 ∷ [])
    ++ (48 ∷ 42 ∷ 48 ∷ 13 ∷ 6 ∷ 9 ∷ 42 ∷ 134 ∷ 72 ∷ 134 ∷ 247 ∷ 13 ∷ 1 ∷ 1 ∷ 1 ∷ 5 ∷ 0 ∷ 3 ∷ 25 ∷ 0 ∷ 48 ∷ 22 ∷ 2 ∷ 16 ∷ 255 ∷ 255 ∷ 255 ∷ 255 ∷ 255 ∷ 255 ∷ 255 ∷ 255 ∷ 255 ∷ 255 ∷ 255 ∷ 255 ∷ 255 ∷ 255 ∷ 255 ∷ 255 ∷ 2 ∷ 2 ∷ 255 ∷ 255 ∷ [])
    ++ (163 ∷ 33 ∷ 48 ∷ 31 ∷ 48 ∷ 29 ∷ 6 ∷ 3 ∷ 85 ∷ 29 ∷ 17 ∷ 4 ∷ 22 ∷ 48 ∷ 20 ∷ [])
    ++ (130 ∷ 8 ∷ text "foo.test" ++ (130 ∷ 8 ∷ text "bar.test"))
    ++ (48 ∷ 13 ∷ 6 ∷ 9 ∷ 42 ∷ 134 ∷ 72 ∷ 134 ∷ 247 ∷ 13 ∷ 1 ∷ 1 ∷ 11 ∷ 5 ∷ 0 ∷ 3 ∷ 2 ∷ 0 ∷ 255 ∷ [])

-- the numbers of the call: certificate facts given (1) or not (0), and the origin, of which 2 is insecure MX: the host's name alone is a reference
abbrev call_with : (origin given : ℕ) (host leaf_bytes key_places : List ℕ) → Arguments
call_with origin given host leaf_bytes key_places = record {
  numbers = record {
    clock = 605000;
    expanded_next_hop_given = 2;
    origin = origin;
    address = 1;
    policy_given = 2;
    fetched = 0;
    tlsa_answers = 1;
    tlsa1_result = 1;
    tlsa2_result = 0;
    starttls = 1;
    handshake = 1;
    tls_version = 771;
    certificates_given = given;
    trusted_root = 2;
    common_name_given = 2;
  };
  next_hop = text "example.com";
  expanded_next_hop = [];
  host = host;
  expanded = [];
  body = [];
  lengths1 = written (35 ∷ []);
  records1 = 2 ∷ 1 ∷ 1 ∷ replicate 32 9;
  lengths2 = [];
  records2 = [];
  certificates = leaf_bytes ++ (7 ∷ []);
  certificate_lengths = written (length leaf_bytes ∷ 1 ∷ []);
  key_places = key_places;
  digests = replicate 192 0 ++ replicate 96 0 ++ replicate 32 9 ++ replicate 64 0;
  paths = written (2 ∷ 1 ∷ []);
  dns_ids = [];
  dns_id_lengths = [];
  common_name = [];
}

-- with the issuer's key place
abbrev call : (host leaf_bytes : List ℕ) → HostAnswer
call host leaf_bytes = certificate_answer (call_with 2 1 host leaf_bytes (written (0 ∷ 1 ∷ [])))

abbrev says : ℕ → ℕ → HostAnswer
says number questions = record { number = number; tlsa_questions = questions }

-- both DNS-IDs are read: each authenticates its host by DANE (3), and another host is not named (26)
-- a leaf that lacks its last byte: 90; also a code outside its choices: 67; also a key place too many: 65; without certificate facts nothing is read: 12
pub worked :
    call (text "foo.test") leaf
    ∷ call (text "bar.test") leaf
    ∷ call (text "baz.test") leaf
    ∷ call (text "bar.test") (take 187 leaf)
    ∷ certificate_answer (call_with 4 1 (text "bar.test") (take 187 leaf) (written (0 ∷ 1 ∷ [])))
    ∷ certificate_answer (call_with 2 1 (text "bar.test") (take 187 leaf) (written (0 ∷ 1 ∷ 0 ∷ 1 ∷ [])))
    ∷ certificate_answer (call_with 2 0 (text "bar.test") (take 187 leaf) (written (0 ∷ 1 ∷ [])))
    ∷ []
    ≡ says 3 1
    ∷ says 3 1
    ∷ says 26 1
    ∷ says 90 0
    ∷ says 67 0
    ∷ says 65 0
    ∷ says 12 1
    ∷ []
unfolding all any lower_of agree same_byte same_letter index_of split to_first numbers is_whole sum written cut sums_to up_to numbered label_byte is_label is_name is_starred is_wildcard is_pattern matches_name is_reading short is_usage is_selector data_fits usable is_sha512 ignored answer_of set_fits answer_fits needs_of taken_of read_of certificate_at certificates_of presented_of certificate_fits total_of chain_keeps_limits common_name_fits names_keep_limits keeps_limits one_for_each chain_fits names_fit facts_fit yes_no by_type compared matches_certificate matches_on_path record_matches further_reference references leaf_names names_reference dane_passes shows_host is_old needs_mta_sts is_listed mta_sts_passes rules base_of presented_in facts_of codes_fit clocks_fit next_hops_fit host_names_fit policy_fits answers_fit certificates_fit checks host_answer value_of long_size short_size headed header is_constructed with_head elements_from elements Der.and_then Der.run_from Der.walk_run Der.walk_contents Der.opened Der.walk_element is_of tagged holds or_else noting string_name built_name expects may_end noted and_then at_end run_from walk_run passing leaving walk_in walk_met opened walk_element walk_certificate whole_of contents_of whole_at contents_at name_at alternatives_at found_at fields_by fields_of dns_names dns_ids_from dns_ids_of each_as reading_of read_leaf names_text lengths_text given_of common_name_in is_present has_leaf leaf_of on_read chain_keeps read_answer chain_answer certificate_answer
worked = refl
