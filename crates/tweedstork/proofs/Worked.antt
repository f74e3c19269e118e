-- Full sets of facts by computation, from the arguments of a call: the answer, the conditions that hold, and the count. One for each verdict, then one for each code. Assumes nothing.
-- A host of example.com at the clock 605,000; the policy was fetched at 1,000 and is live until 605,800.
use Prim.Native.Nat.{ℕ}
use mathlib.Core.Path.{◌≡◌, refl}
use mathlib.Core.List.{List, [], ◌∷◌, ◌++◌, map, flatten}
use lib.ListN.{length, replicate}
use Rattle.lists.specs.Text.{text}
use Rattle.numbers.specs.Numbers.{written}
use Rattle.hosts.specs.declared.HostAnswer.{HostAnswer}
use Rattle.hosts.specs.Arguments.{Arguments, base_of}
use Rattle.hosts.specs.Call.{host_answer}
use Rattle.hosts.specs.Demands.{full_of}
use Rattle.hosts.specs.Verdicts.{tests_of, conditions, holding, count_of}
use Rattle.hosts.proofs.NextHops.{with_expanded, with_next_hop}
use Rattle.hosts.proofs.Digests.{with_sets}
use Rattle.hosts.proofs.Versions.{with_version}
use Rattle.tweedstork.proofs.Cases.{host_computed}

-- records: 3 1 1 with the digest of the leaf's key info, and with another; 2 1 1 with that of the issuer's; usage 1
abbrev matching : List ℕ
matching = 3 ∷ 1 ∷ 1 ∷ replicate 32 7

abbrev other : List ℕ
other = 3 ∷ 1 ∷ 1 ∷ replicate 32 8

abbrev issuing : List ℕ
issuing = 2 ∷ 1 ∷ 1 ∷ replicate 32 9

abbrev usage1 : List ℕ
usage1 = 1 ∷ 1 ∷ 1 ∷ replicate 32 7

-- a host that a pattern of the policy matches, one that none matches, and the expanded name
abbrev mail : List ℕ
mail = text "mail.example.com"

abbrev stray : List ℕ
stray = text "mail.example.net"

abbrev expanded : List ℕ
expanded = text "mx.example.org"

abbrev next_hop : List ℕ
next_hop = text "example.com"

-- what the sets differ in: origin, address result, whether the policy is given (1) or not (2), host, two TLSA answers (the first with one record),
-- STARTTLS, the handshake (at 03 03 hex), the trusted-root flag and one DNS-ID
abbrev full_with : (origin address policy : ℕ) (host : List ℕ) (tlsa1 : ℕ) (record1 : List ℕ) (tlsa2 starttls handshake root : ℕ) (id : List ℕ) → Arguments
full_with origin address policy host tlsa1 record1 tlsa2 starttls handshake root id = record {
  numbers = record {
    clock = 605000;
    expanded_next_hop_given = 2;
    origin = origin;
    address = address;
    policy_given = policy;
    fetched = 1000;
    tlsa_answers = 2;
    tlsa1_result = tlsa1;
    tlsa2_result = tlsa2;
    starttls = starttls;
    handshake = handshake;
    tls_version = 771;
    certificates_given = 1;
    trusted_root = root;
    common_name_given = 2;
  };
  next_hop = next_hop;
  expanded_next_hop = [];
  host = host;
  expanded = expanded;
  body = text "version: STSv1\nmode: enforce\nmx: *.example.com\nmax_age: 604800\n";
  lengths1 = written (length record1 ∷ []);
  records1 = record1;
  lengths2 = [];
  records2 = [];
  certificates = 1 ∷ 2 ∷ 3 ∷ [];
  certificate_lengths = written (2 ∷ 1 ∷ []);
  key_places = written (0 ∷ 1 ∷ 0 ∷ 1 ∷ []);
  digests = replicate 96 0 ++ replicate 32 7 ++ replicate 64 0 ++ replicate 96 0 ++ replicate 32 9 ++ replicate 64 0;
  paths = written (2 ∷ 1 ∷ []);
  dns_ids = id;
  dns_id_lengths = written (length id ∷ []);
  common_name = [];
}

-- the answer of a call; the verdicts whose conditions hold, and the count
pub record Result : Type 0 where
  pub answer : HostAnswer
  pub holds : List ℕ
  pub count : ℕ

abbrev result_of : Arguments → Result
result_of a = record { answer = host_answer a; holds = holding (conditions (tests_of (base_of a) (full_of a))); count = count_of (base_of a) (full_of a) }

-- the verdict n after k answers were read; its condition holds alone
abbrev alone : ℕ → ℕ → Result
alone n k = record { answer = record { number = n; tlsa_questions = k }; holds = n ∷ []; count = k }

-- 1, 2: nothing is needed, not offered; established. 3, 4, 5: DANE, MTA-STS, both are needed and pass
-- 20, 21: also under a policy that doesn't list the host. 22: at the second name. 23: also where the first TLSA answer failed
-- 24, 25: TLS is needed by a record that isn't usable. 26: DANE doesn't match, though MTA-STS passes. 27: DANE matches, and MTA-STS doesn't pass
-- 28: at 03 02 hex, though both pass
pub each_verdict :
    result_of (full_with 1 1 2 mail 3 [] 3 2 1 1 mail)
    ∷ result_of (full_with 1 1 2 mail 3 [] 3 1 1 1 mail)
    ∷ result_of (full_with 1 1 2 mail 1 matching 3 1 1 1 stray)
    ∷ result_of (full_with 1 1 1 mail 3 [] 3 1 1 1 mail)
    ∷ result_of (full_with 1 1 1 mail 1 matching 3 1 1 1 mail)
    ∷ result_of (full_with 1 6 1 stray 4 [] 4 1 1 1 mail)
    ∷ result_of (full_with 1 7 1 stray 4 [] 4 1 1 1 mail)
    ∷ result_of (full_with 1 3 1 mail 2 [] 4 1 1 1 mail)
    ∷ result_of (full_with 1 1 1 stray 4 [] 4 1 1 1 mail)
    ∷ result_of (full_with 1 1 2 mail 1 usage1 3 2 1 1 mail)
    ∷ result_of (full_with 1 1 2 mail 1 usage1 3 1 2 1 mail)
    ∷ result_of (full_with 1 1 1 mail 1 other 3 1 1 1 mail)
    ∷ result_of (full_with 1 1 1 mail 1 matching 3 1 1 1 stray)
    ∷ result_of (with_version 770 (full_with 1 1 1 mail 1 matching 3 1 1 1 mail))
    ∷ []
    ≡ alone 1 1
    ∷ alone 2 1
    ∷ alone 3 1
    ∷ alone 4 1
    ∷ alone 5 1
    ∷ alone 20 0
    ∷ alone 21 0
    ∷ alone 22 2
    ∷ alone 23 0
    ∷ alone 24 1
    ∷ alone 25 1
    ∷ alone 26 1
    ∷ alone 27 1
    ∷ alone 28 1
    ∷ []
unfolding host_computed full_of tests_of count_of
each_verdict = refl

-- the codes. Address results beside a first TLSA answer with a record that matches: 1 and 4 read it at the host, 2 and 5 read none (nothing is needed), 3 reads it at the expanded name
-- TLSA results 1 to 4: the set is taken; next name; next name; 22
-- origins beside a record 2 1 1 at the expanded name and the next-hop as the DNS-ID: it is a reference with secure MX (1) and no MX (3), and none with insecure MX (2)
-- a path that doesn't end in a trusted root (2): 27
pub each_code :
    result_of (full_with 1 1 2 mail 1 matching 4 1 1 1 mail)
    ∷ result_of (full_with 1 2 2 mail 1 matching 4 1 1 1 mail)
    ∷ result_of (full_with 1 3 2 mail 1 matching 4 1 1 1 mail)
    ∷ result_of (full_with 1 4 2 mail 1 matching 4 1 1 1 mail)
    ∷ result_of (full_with 1 5 2 mail 1 matching 4 1 1 1 mail)
    ∷ result_of (full_with 1 3 2 mail 2 [] 3 1 1 1 mail)
    ∷ result_of (full_with 1 3 2 mail 3 [] 2 1 1 1 mail)
    ∷ result_of (full_with 1 3 2 mail 4 [] 3 1 1 1 mail)
    ∷ result_of (full_with 1 3 2 mail 1 issuing 4 1 1 1 next_hop)
    ∷ result_of (full_with 2 3 2 mail 1 issuing 4 1 1 1 next_hop)
    ∷ result_of (full_with 3 3 2 next_hop 1 issuing 4 1 1 1 next_hop)
    ∷ result_of (full_with 1 1 1 mail 3 [] 3 1 1 2 mail)
    ∷ []
    ≡ alone 3 1
    ∷ alone 2 0
    ∷ alone 3 1
    ∷ alone 3 1
    ∷ alone 2 0
    ∷ alone 2 2
    ∷ alone 2 2
    ∷ alone 22 1
    ∷ alone 3 1
    ∷ alone 26 1
    ∷ alone 3 1
    ∷ alone 27 1
    ∷ []
unfolding host_computed full_of tests_of count_of
each_code = refl

-- the name that the next-hop is an alias of
abbrev further : List ℕ
further = text "example.net"

-- The expanded next-hop (document 02, No. 3), beside a record 2 1 1 at the expanded name and a leaf that names the expanded next-hop alone: given (1) it is a reference with secure MX;
-- it is none where it isn't given (2), with insecure MX and with no MX
pub each_expanded_next_hop :
    result_of (with_expanded 1 further (full_with 1 3 2 mail 1 issuing 4 1 1 1 further))
    ∷ result_of (with_expanded 2 further (full_with 1 3 2 mail 1 issuing 4 1 1 1 further))
    ∷ result_of (with_expanded 1 further (full_with 2 3 2 mail 1 issuing 4 1 1 1 further))
    ∷ result_of (with_expanded 1 further (full_with 3 3 2 next_hop 1 issuing 4 1 1 1 further))
    ∷ []
    ≡ alone 3 1
    ∷ alone 26 1
    ∷ alone 26 1
    ∷ alone 26 1
    ∷ []
unfolding host_computed full_of tests_of count_of
each_expanded_next_hop = refl

-- Document 02, No. 3, "Test, from the RFC", of the call: mail to exchange.example.org, an alias of example.com, through mx10.example.com accepts these three names and not the alias between
pub rfc_example :
    map (λ (id : List ℕ). (host_answer (with_expanded 1 (text "example.com") (with_next_hop (text "exchange.example.org") (full_with 1 1 2 (text "mx10.example.com") 1 issuing 3 1 1 1 id)))).number)
    (text "exchange.example.org" ∷ text "example.com" ∷ text "mx10.example.com" ∷ text "mail.example.org" ∷ [])
    ≡ 3 ∷ 3 ∷ 3 ∷ 26 ∷ []
unfolding host_computed
rfc_example = refl

-- It is none of the names that MTA-STS looks at (27; 23 where a pattern matches it alone), and a live enforce policy is needed as without it
pub expanded_next_hop_beside_a_policy :
    map (λ (a : Arguments). (host_answer a).number)
    (with_expanded 1 further (full_with 1 1 1 mail 3 [] 3 1 1 1 mail)
    ∷ with_expanded 1 further (full_with 1 1 1 mail 3 [] 3 1 1 1 further)
    ∷ with_expanded 1 (text "shop.example.com") (full_with 1 1 1 stray 3 [] 3 1 1 1 stray)
    ∷ with_expanded 1 further (full_with 1 1 1 mail 3 [] 3 2 1 1 mail)
    ∷ [])
    ≡ 4 ∷ 27 ∷ 23 ∷ 24 ∷ []
unfolding host_computed
expanded_next_hop_beside_a_policy = refl

-- other codes: 67. No name: 60, with each origin, before 61 (a host that is no name); where it isn't given it is not looked at
pub refused_expanded_next_hops :
    map (λ (a : Arguments). (host_answer a).number)
    (with_expanded 0 further (full_with 1 1 2 mail 3 [] 3 1 1 1 mail)
    ∷ with_expanded 3 further (full_with 1 1 2 mail 3 [] 3 1 1 1 mail)
    ∷ with_expanded 1 (text "a..b") (full_with 1 1 2 mail 3 [] 3 1 1 1 mail)
    ∷ with_expanded 1 (text "a..b") (full_with 2 1 2 mail 3 [] 3 1 1 1 mail)
    ∷ with_expanded 1 [] (full_with 3 1 2 next_hop 3 [] 3 1 1 1 mail)
    ∷ with_expanded 1 (text "a..b") (full_with 1 1 2 (text "a..b") 3 [] 3 1 1 1 mail)
    ∷ with_expanded 2 (text "a..b") (full_with 1 1 2 (text "a..b") 3 [] 3 1 1 1 mail)
    ∷ with_expanded 2 (text "a..b") (full_with 1 1 2 mail 3 [] 3 1 1 1 mail)
    ∷ [])
    ≡ 67 ∷ 67 ∷ 60 ∷ 60 ∷ 60 ∷ 60 ∷ 61 ∷ 2 ∷ []
unfolding host_computed
refused_expanded_next_hops = refl

-- The version of TLS (document 02, No. 6): 00 00, 02 03, 02 ff, 03 00 to 03 04, 04 00 and ff ff hex, beside a record that matches
pub each_version :
    map (λ (version : ℕ). result_of (with_version version (full_with 1 1 2 mail 1 matching 3 1 1 1 stray)))
    (0 ∷ 515 ∷ 767 ∷ 768 ∷ 769 ∷ 770 ∷ 771 ∷ 772 ∷ 1024 ∷ 65535 ∷ [])
    ≡ alone 28 1 ∷ alone 28 1 ∷ alone 28 1 ∷ alone 28 1 ∷ alone 28 1 ∷ alone 28 1 ∷ alone 3 1 ∷ alone 3 1 ∷ alone 3 1 ∷ alone 3 1 ∷ []
unfolding host_computed full_of tests_of count_of
each_version = refl

-- DANE, MTA-STS and both pass; DANE doesn't match; MTA-STS doesn't pass; both fail; nothing is needed; TLS is needed by a record that isn't usable;
-- not offered, then handshake failed, each where DANE and where MTA-STS alone is needed; a TLSA lookup failed; no pattern matches
abbrev needs : List Arguments
needs =
    full_with 1 1 2 mail 1 matching 3 1 1 1 mail
    ∷ full_with 1 1 1 mail 3 [] 3 1 1 1 mail
    ∷ full_with 1 1 1 mail 1 matching 3 1 1 1 mail
    ∷ full_with 1 1 2 mail 1 other 3 1 1 1 mail
    ∷ full_with 1 1 1 mail 3 [] 3 1 1 1 stray
    ∷ full_with 1 1 1 mail 1 other 3 1 1 1 stray
    ∷ full_with 1 1 2 mail 3 [] 3 1 1 1 mail
    ∷ full_with 1 1 2 mail 1 usage1 3 1 1 1 mail
    ∷ full_with 1 1 2 mail 1 matching 3 2 1 1 mail
    ∷ full_with 1 1 1 mail 3 [] 3 2 1 1 mail
    ∷ full_with 1 1 2 mail 1 matching 3 1 2 1 mail
    ∷ full_with 1 1 1 mail 3 [] 3 1 2 1 mail
    ∷ full_with 1 1 1 mail 4 [] 3 1 1 1 mail
    ∷ full_with 1 1 1 stray 1 matching 3 1 1 1 mail
    ∷ []

-- at 03 03 hex, and at 03 02 hex: 28 in the place of the first six, and of no other
pub each_need_at_two_versions :
    map (λ (version : ℕ). map (λ (a : Arguments). (host_answer (with_version version a)).number) needs) (771 ∷ 770 ∷ [])
    ≡ (3 ∷ 4 ∷ 5 ∷ 26 ∷ 27 ∷ 26 ∷ 2 ∷ 2 ∷ 24 ∷ 24 ∷ 25 ∷ 25 ∷ 22 ∷ 23 ∷ [])
    ∷ (28 ∷ 28 ∷ 28 ∷ 28 ∷ 28 ∷ 28 ∷ 2 ∷ 2 ∷ 24 ∷ 24 ∷ 25 ∷ 25 ∷ 22 ∷ 23 ∷ [])
    ∷ []
unfolding host_computed
each_need_at_two_versions = refl

-- A version of over two bytes: 67 where the handshake is established, also where STARTTLS isn't offered; after a failed one it is not looked at
pub refused_versions :
    map (λ (a : Arguments). (host_answer (with_version 65536 a)).number)
    (full_with 1 1 2 mail 3 [] 3 1 1 1 mail
    ∷ full_with 1 1 2 mail 1 matching 3 1 1 1 mail
    ∷ full_with 1 1 2 mail 1 matching 3 2 1 1 mail
    ∷ full_with 1 1 2 mail 1 matching 3 1 2 1 mail
    ∷ [])
    ≡ 67 ∷ 67 ∷ 67 ∷ 25 ∷ []
unfolding host_computed
refused_versions = refl

-- Strongest digest only (document 02, No. 8). The leaf's key info has SHA-256 of sevens and SHA-512 of zeros: `matching` and `strong` have them, `other` and `rotated` have not
abbrev strong : List ℕ
strong = 3 ∷ 1 ∷ 2 ∷ replicate 64 0

abbrev rotated : List ℕ
rotated = 3 ∷ 1 ∷ 2 ∷ replicate 64 8

-- a full set whose first TLSA answer has these records
abbrev with_records : List (List ℕ) → Arguments → Arguments
with_records set a = with_sets (written (map length set)) (flatten set) [] [] a

-- The merchant's story: keys were rotated, and one of the two records was updated. Where only the SHA-256 record matches, 26; where the SHA-512 record does, 3; in either order. Then SHA-256 that
-- matches beside SHA-512 of 63 bytes, of the other selector, of the other usage and of usage 1: 3. Then types 0, 1 and 2, of which type 0 alone matches: 3; and type 1 alone: 26
pub each_digest :
    map (λ (set : List (List ℕ)). result_of (with_records set (full_with 1 1 2 mail 1 [] 3 1 1 1 mail)))
    ((matching ∷ rotated ∷ [])
    ∷ (rotated ∷ matching ∷ [])
    ∷ (other ∷ strong ∷ [])
    ∷ (strong ∷ other ∷ [])
    ∷ (matching ∷ (3 ∷ 1 ∷ 2 ∷ replicate 63 8) ∷ [])
    ∷ (matching ∷ (3 ∷ 0 ∷ 2 ∷ replicate 64 8) ∷ [])
    ∷ (matching ∷ (2 ∷ 1 ∷ 2 ∷ replicate 64 8) ∷ [])
    ∷ (matching ∷ (1 ∷ 1 ∷ 2 ∷ replicate 64 8) ∷ [])
    ∷ ((3 ∷ 1 ∷ 0 ∷ 1 ∷ []) ∷ other ∷ rotated ∷ [])
    ∷ ((3 ∷ 1 ∷ 0 ∷ 2 ∷ []) ∷ matching ∷ rotated ∷ [])
    ∷ [])
    ≡ alone 26 1 ∷ alone 26 1 ∷ alone 3 1 ∷ alone 3 1 ∷ alone 3 1 ∷ alone 3 1 ∷ alone 3 1 ∷ alone 3 1 ∷ alone 3 1 ∷ alone 26 1 ∷ []
unfolding host_computed full_of tests_of count_of flatten
each_digest = refl

-- What a host needs doesn't change. Where only an ignored record matches: DANE, beside a policy that passes (26) and one that doesn't (26); TLS not offered (24), handshake failed (25), an old
-- version (28). Where no record is usable, TLS alone (2)
pub each_need_beside_an_ignored_record :
    map (λ (a : Arguments). (host_answer a).number)
    (with_records (matching ∷ rotated ∷ []) (full_with 1 1 1 mail 1 [] 3 1 1 1 mail)
    ∷ with_records (matching ∷ rotated ∷ []) (full_with 1 1 1 mail 1 [] 3 1 1 1 stray)
    ∷ with_records (matching ∷ rotated ∷ []) (full_with 1 1 2 mail 1 [] 3 2 1 1 mail)
    ∷ with_records (matching ∷ rotated ∷ []) (full_with 1 1 2 mail 1 [] 3 1 2 1 mail)
    ∷ with_version 770 (with_records (matching ∷ rotated ∷ []) (full_with 1 1 2 mail 1 [] 3 1 1 1 mail))
    ∷ with_records (usage1 ∷ (1 ∷ 1 ∷ 2 ∷ replicate 64 8) ∷ []) (full_with 1 1 2 mail 1 [] 3 1 1 1 mail)
    ∷ [])
    ≡ 26 ∷ 26 ∷ 24 ∷ 25 ∷ 28 ∷ 2 ∷ []
unfolding host_computed flatten
each_need_beside_an_ignored_record = refl
