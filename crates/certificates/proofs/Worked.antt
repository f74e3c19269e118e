-- Certificate facts at the edges of document 01's rules, by computation from the lists of a call. Assumes nothing.
-- Two certificates: the leaf has 3 bytes, its key info the last 2; the other has 4 bytes, its key info the first. Digests are of one byte over and over.
use Prim.Native.Nat.{ℕ}
use mathlib.Core.Path.{◌≡◌, refl}
use mathlib.Core.Bool.{true, false}
use mathlib.Core.List.{List, [], ◌∷◌, ◌++◌, map}
use mathlib.Core.Option.{none, some}
use lib.ListN.{length, replicate}
use Rattle.lists.specs.Bytes.{all, any, lower_of}
use Rattle.lists.specs.Equal.{agree, same_byte, same_letter}
use Rattle.lists.specs.Split.{split, to_first, index_of}
use Rattle.lists.specs.Text.{text}
use Rattle.names.specs.Name.{label_byte, is_label, is_name, is_starred, is_wildcard, matches_name}
use Rattle.numbers.specs.Numbers.{numbers, is_whole, sum, written}
use Rattle.numbers.specs.Pieces.{cut, numbered, sums_to, up_to}
use Rattle.tlsa.specs.Record.{short, is_usage, is_selector, data_fits, usable, is_sha512, ignored}
use Rattle.certificates.specs.Facts.{Presented, certificate_at, certificates_of, presented_of}
use Rattle.certificates.specs.Limits.{certificate_fits, total_of, chain_keeps_limits, common_name_fits, names_keep_limits, one_for_each, chain_fits, names_fit, facts_fit, yes_no}
use Rattle.certificates.specs.Checks.{by_type, compared, matches_certificate, matches_on_path, record_matches, further_reference, references, leaf_names, names_reference, dane_passes, shows_host}
use Rattle.certificates.specs.declared.Origin.TheVariants.{SecureMx, InsecureMx, NoMx}

abbrev chain : List ℕ
chain = 1 ∷ 2 ∷ 3 ∷ 4 ∷ 5 ∷ 6 ∷ 7 ∷ []

abbrev places : List ℕ
places = written (1 ∷ 2 ∷ 0 ∷ 1 ∷ [])

abbrev digests : List ℕ
digests = replicate 32 11 ++ (replicate 64 12 ++ (replicate 32 13 ++ (replicate 64 14 ++ (replicate 32 21 ++ (replicate 64 22 ++ (replicate 32 23 ++ replicate 64 24))))))

-- the path to the second certificate verifies, or not
abbrev yes : List ℕ
yes = written (1 ∷ 1 ∷ [])

abbrev no : List ℕ
no = written (1 ∷ 2 ∷ [])

-- both certificates, with no name; and with the one DNS-ID `*.example.com`
abbrev nameless : List ℕ → Presented
nameless paths = presented_of chain (written (3 ∷ 4 ∷ [])) places digests paths false [] [] false []

abbrev named : List ℕ → Presented
named paths = presented_of chain (written (3 ∷ 4 ∷ [])) places digests paths false (text "*.example.com") (written (13 ∷ [])) false []

-- the leaf alone, with the same DNS-ID
abbrev alone : Presented
alone = presented_of (1 ∷ 2 ∷ 3 ∷ []) (written (3 ∷ [])) (written (1 ∷ 2 ∷ [])) digests (written (1 ∷ [])) true (text "*.example.com") (written (13 ∷ [])) false []

-- the set of one record
abbrev one : List ℕ → List (List ℕ)
one r = r ∷ []

-- a base domain that the DNS-ID matches, and one that it does not
abbrev mx : List (List ℕ)
mx = references InsecureMx (text "mx.example.com") [] none

abbrev other : List (List ℕ)
other = references InsecureMx (text "mx.example.net") [] none

-- Usage 3, each selector and matching type, with no name at all; then data that differ, and the second certificate's.
usage_3 :
    map (λ (r : List ℕ). dane_passes mx (one r) (nameless no))
    ((3 ∷ 0 ∷ 0 ∷ 1 ∷ 2 ∷ 3 ∷ []) ∷ (3 ∷ 0 ∷ 1 ∷ replicate 32 11) ∷ (3 ∷ 0 ∷ 2 ∷ replicate 64 12)
    ∷ (3 ∷ 1 ∷ 0 ∷ 2 ∷ 3 ∷ []) ∷ (3 ∷ 1 ∷ 1 ∷ replicate 32 13) ∷ (3 ∷ 1 ∷ 2 ∷ replicate 64 14)
    ∷ (3 ∷ 0 ∷ 0 ∷ 1 ∷ 2 ∷ []) ∷ (3 ∷ 1 ∷ 1 ∷ replicate 32 11) ∷ (3 ∷ 0 ∷ 0 ∷ 4 ∷ 5 ∷ 6 ∷ 7 ∷ [])
    ∷ [])
    ≡ true ∷ true ∷ true ∷ true ∷ true ∷ true ∷ false ∷ false ∷ false ∷ []
unfolding dane_passes names_reference references leaf_names any ignored is_sha512 usable short is_usage is_selector data_fits record_matches matches_certificate matches_on_path compared by_type agree same_byte presented_of certificates_of certificate_at numbered cut numbers written
usage_3 = refl

-- Usage 2, each selector and matching type, against the second certificate.
usage_2 :
    map (λ (r : List ℕ). dane_passes mx (one r) (named yes))
    ((2 ∷ 0 ∷ 0 ∷ 4 ∷ 5 ∷ 6 ∷ 7 ∷ []) ∷ (2 ∷ 0 ∷ 1 ∷ replicate 32 21) ∷ (2 ∷ 0 ∷ 2 ∷ replicate 64 22)
    ∷ (2 ∷ 1 ∷ 0 ∷ 4 ∷ []) ∷ (2 ∷ 1 ∷ 1 ∷ replicate 32 23) ∷ (2 ∷ 1 ∷ 2 ∷ replicate 64 24)
    ∷ [])
    ≡ replicate 6 true
unfolding dane_passes names_reference references leaf_names any ignored is_sha512 usable short is_usage is_selector data_fits record_matches matches_certificate matches_on_path compared by_type agree same_byte same_letter lower_of presented_of certificates_of certificate_at numbered cut numbers written matches_name is_name is_starred is_wildcard is_label label_byte all split to_first index_of
usage_2 = refl

-- Usage 2 does not pass where the path flag is no, the leaf names no reference or nothing, the record is the leaf's, or there is the leaf alone.
usage_2_not :
    dane_passes mx (one (2 ∷ 1 ∷ 0 ∷ 4 ∷ [])) (named no)
    ∷ dane_passes other (one (2 ∷ 1 ∷ 0 ∷ 4 ∷ [])) (named yes)
    ∷ dane_passes mx (one (2 ∷ 1 ∷ 0 ∷ 4 ∷ [])) (nameless yes)
    ∷ dane_passes mx (one (2 ∷ 0 ∷ 0 ∷ 1 ∷ 2 ∷ 3 ∷ [])) (named yes)
    ∷ dane_passes mx (one (2 ∷ 0 ∷ 0 ∷ 1 ∷ 2 ∷ 3 ∷ [])) alone
    ∷ []
    ≡ replicate 5 false
unfolding dane_passes names_reference references leaf_names any ignored is_sha512 usable short is_usage is_selector data_fits record_matches matches_certificate matches_on_path compared by_type agree same_byte same_letter lower_of presented_of certificates_of certificate_at numbered cut numbers written matches_name is_name is_starred is_wildcard is_label label_byte all split to_first index_of
usage_2_not = refl

-- No record, usage 1, a digest of the wrong length, and a record under 3 bytes beside a certificate without bytes authenticate nobody; one record that matches does.
sets :
    dane_passes mx [] (named yes)
    ∷ dane_passes mx (one (1 ∷ 0 ∷ 0 ∷ 1 ∷ 2 ∷ 3 ∷ [])) (named yes)
    ∷ dane_passes mx (one (3 ∷ 0 ∷ 1 ∷ replicate 31 11)) (named yes)
    ∷ dane_passes mx (one (3 ∷ 0 ∷ [])) (presented_of [] (written (0 ∷ [])) (written (0 ∷ 0 ∷ [])) digests (written (1 ∷ [])) true [] [] false [])
    ∷ dane_passes mx ((1 ∷ 0 ∷ 0 ∷ 1 ∷ []) ∷ (3 ∷ 0 ∷ 0 ∷ 9 ∷ []) ∷ (3 ∷ 1 ∷ 0 ∷ 2 ∷ 3 ∷ []) ∷ []) (nameless no)
    ∷ []
    ≡ false ∷ false ∷ false ∷ false ∷ true ∷ []
unfolding dane_passes names_reference references leaf_names any ignored is_sha512 usable short is_usage is_selector data_fits record_matches matches_certificate matches_on_path compared by_type agree same_byte same_letter lower_of presented_of certificates_of certificate_at numbered cut numbers written matches_name is_name is_starred is_wildcard is_label label_byte all split to_first index_of
sets = refl

-- Strongest digest only. Keys were rotated, and of a SHA-256 and a SHA-512 record one has what is presented, in either order, for the key and for the certificate.
strongest :
    map (λ (set : List (List ℕ)). dane_passes mx set (nameless no))
    (((3 ∷ 1 ∷ 1 ∷ replicate 32 13) ∷ (3 ∷ 1 ∷ 2 ∷ replicate 64 9) ∷ [])
    ∷ ((3 ∷ 1 ∷ 2 ∷ replicate 64 9) ∷ (3 ∷ 1 ∷ 1 ∷ replicate 32 13) ∷ [])
    ∷ ((3 ∷ 0 ∷ 1 ∷ replicate 32 11) ∷ (3 ∷ 0 ∷ 2 ∷ replicate 64 9) ∷ [])
    ∷ ((3 ∷ 1 ∷ 1 ∷ replicate 32 9) ∷ (3 ∷ 1 ∷ 2 ∷ replicate 64 14) ∷ [])
    ∷ ((3 ∷ 1 ∷ 2 ∷ replicate 64 14) ∷ (3 ∷ 1 ∷ 1 ∷ replicate 32 9) ∷ [])
    ∷ ((3 ∷ 0 ∷ 1 ∷ replicate 32 9) ∷ (3 ∷ 0 ∷ 2 ∷ replicate 64 12) ∷ [])
    ∷ [])
    ≡ false ∷ false ∷ false ∷ true ∷ true ∷ true ∷ []
unfolding dane_passes names_reference references leaf_names any ignored is_sha512 usable short is_usage is_selector data_fits record_matches matches_certificate matches_on_path compared by_type agree same_byte presented_of certificates_of certificate_at numbered cut numbers written
strongest = refl

-- Type 0 beside the digests: it matches alone; it doesn't match, and beside it SHA-256 does, with a SHA-512 record and without; and SHA-512 does. Then SHA-256 that matches beside SHA-512 of
-- 63 bytes, of the other selector and of the other usage.
strongest_beside :
    map (λ (set : List (List ℕ)). dane_passes mx set (nameless no))
    (((3 ∷ 1 ∷ 0 ∷ 2 ∷ 3 ∷ []) ∷ (3 ∷ 1 ∷ 1 ∷ replicate 32 9) ∷ (3 ∷ 1 ∷ 2 ∷ replicate 64 9) ∷ [])
    ∷ ((3 ∷ 1 ∷ 0 ∷ 9 ∷ []) ∷ (3 ∷ 1 ∷ 1 ∷ replicate 32 13) ∷ (3 ∷ 1 ∷ 2 ∷ replicate 64 9) ∷ [])
    ∷ ((3 ∷ 1 ∷ 0 ∷ 9 ∷ []) ∷ (3 ∷ 1 ∷ 1 ∷ replicate 32 13) ∷ [])
    ∷ ((3 ∷ 1 ∷ 0 ∷ 9 ∷ []) ∷ (3 ∷ 1 ∷ 2 ∷ replicate 64 14) ∷ [])
    ∷ ((3 ∷ 1 ∷ 1 ∷ replicate 32 13) ∷ (3 ∷ 1 ∷ 2 ∷ replicate 63 9) ∷ [])
    ∷ ((3 ∷ 1 ∷ 1 ∷ replicate 32 13) ∷ (3 ∷ 0 ∷ 2 ∷ replicate 64 9) ∷ [])
    ∷ ((3 ∷ 1 ∷ 1 ∷ replicate 32 13) ∷ (2 ∷ 1 ∷ 2 ∷ replicate 64 9) ∷ [])
    ∷ [])
    ≡ true ∷ false ∷ true ∷ true ∷ true ∷ true ∷ true ∷ []
unfolding dane_passes names_reference references leaf_names any ignored is_sha512 usable short is_usage is_selector data_fits record_matches matches_certificate matches_on_path compared by_type agree same_byte presented_of certificates_of certificate_at numbered cut numbers written
strongest_beside = refl

-- The same of usage 2: SHA-256 that matches, of the key and of the certificate, beside SHA-512 of its own pair, and beside SHA-512 of both others.
strongest_of_usage_2 :
    map (λ (set : List (List ℕ)). dane_passes mx set (named yes))
    (((2 ∷ 1 ∷ 1 ∷ replicate 32 23) ∷ (2 ∷ 1 ∷ 2 ∷ replicate 64 9) ∷ [])
    ∷ ((2 ∷ 0 ∷ 1 ∷ replicate 32 21) ∷ (2 ∷ 0 ∷ 2 ∷ replicate 64 9) ∷ [])
    ∷ ((2 ∷ 1 ∷ 1 ∷ replicate 32 23) ∷ (2 ∷ 0 ∷ 2 ∷ replicate 64 9) ∷ (3 ∷ 1 ∷ 2 ∷ replicate 64 9) ∷ [])
    ∷ [])
    ≡ false ∷ false ∷ true ∷ []
unfolding dane_passes names_reference references leaf_names any ignored is_sha512 usable short is_usage is_selector data_fits record_matches matches_certificate matches_on_path compared by_type agree same_byte same_letter lower_of presented_of certificates_of certificate_at numbered cut numbers written matches_name is_name is_starred is_wildcard is_label label_byte all split to_first index_of
strongest_of_usage_2 = refl

-- The leaf's names against the references: the next-hop is one with secure MX and with no MX. The common name counts where there is no DNS-ID, not beside one, not even beside an empty one.
abbrev names : List ℕ → List ℕ → Presented
names dns_ids lengths = presented_of [] [] [] [] [] true dns_ids lengths true (text "example.org")

naming :
    names_reference (references SecureMx (text "mx.example.com") (text "Example.org") none) (names (text "example.org") (written (11 ∷ [])))
    ∷ names_reference (references NoMx (text "mx.example.com") (text "example.org") none) (names (text "a.example.org" ++ text "example.org") (written (13 ∷ 11 ∷ [])))
    ∷ names_reference (references InsecureMx (text "mx.example.com") (text "example.org") none) (names (text "example.org") (written (11 ∷ [])))
    ∷ names_reference (references InsecureMx (text "example.org") [] none) (names [] [])
    ∷ names_reference (references InsecureMx (text "example.org") [] none) (names (text "a.b") (written (3 ∷ [])))
    ∷ names_reference (references InsecureMx (text "example.org") [] none) (names [] (written (0 ∷ [])))
    ∷ []
    ≡ true ∷ true ∷ false ∷ true ∷ false ∷ false ∷ []
unfolding names_reference references leaf_names any agree same_letter lower_of presented_of cut numbers written matches_name is_name is_starred is_wildcard is_label label_byte all split to_first index_of
naming = refl

-- RFC 7672, 3.2.2: mail to exchange.example.org, an alias of example.com, through mx10.example.com accepts these three names, whatever their case, and no other.
abbrev through_mx10 : List ℕ → Presented
through_mx10 id = presented_of [] [] [] [] [] true id (written (length id ∷ [])) false []

expanded_next_hop :
    map (λ (id : List ℕ). names_reference (references SecureMx (text "mx10.example.com") (text "exchange.example.org") (some (text "example.com"))) (through_mx10 id))
    (text "exchange.example.org" ∷ text "example.com" ∷ text "mx10.example.com" ∷ text "EXAMPLE.com"
    ∷ text "mail.example.org" ∷ text "example.org" ∷ text "mx15.example.com" ∷ text "www.example.com" ∷ [])
    ≡ true ∷ true ∷ true ∷ true ∷ false ∷ false ∷ false ∷ false ∷ []
unfolding names_reference further_reference references leaf_names any agree same_letter lower_of presented_of cut numbers written matches_name is_name is_starred is_wildcard is_label label_byte all split to_first index_of
expanded_next_hop = refl

-- The references themselves: none is further with insecure MX, with no MX, or where the expanded next-hop is the next-hop in whatever case.
further_references :
    references SecureMx (text "mx.a") (text "b.c") (some (text "d.e"))
    ∷ references InsecureMx (text "mx.a") (text "b.c") (some (text "d.e"))
    ∷ references NoMx (text "mx.a") (text "b.c") (some (text "d.e"))
    ∷ references SecureMx (text "mx.a") (text "b.c") (some (text "B.c"))
    ∷ references SecureMx (text "mx.a") (text "b.c") none
    ∷ []
    ≡ (text "mx.a" ∷ text "b.c" ∷ text "d.e" ∷ [])
    ∷ (text "mx.a" ∷ [])
    ∷ (text "mx.a" ∷ text "b.c" ∷ [])
    ∷ (text "mx.a" ∷ text "b.c" ∷ [])
    ∷ (text "mx.a" ∷ text "b.c" ∷ [])
    ∷ []
unfolding further_reference references agree same_letter lower_of
further_references = refl

-- MTA-STS: a trusted root and a DNS-ID that matches the host; no root, another host, no certificate, the common name alone.
hosts :
    shows_host (text "mx.example.com") alone
    ∷ shows_host (text "mx.example.com") (named yes)
    ∷ shows_host (text "example.com") alone
    ∷ shows_host (text "mx.example.com") (presented_of [] [] [] [] [] true (text "*.example.com") (written (13 ∷ [])) false [])
    ∷ shows_host (text "example.org") (presented_of (1 ∷ []) (written (1 ∷ [])) (written (0 ∷ 1 ∷ [])) digests yes true [] [] true (text "example.org"))
    ∷ []
    ≡ true ∷ false ∷ false ∷ false ∷ false ∷ []
unfolding shows_host any agree same_letter lower_of presented_of certificates_of certificate_at numbered cut numbers written matches_name is_name is_starred is_wildcard is_label label_byte all split to_first index_of
hosts = refl

-- Within the limits: two certificates; one without bytes, whose key info is empty; none, with a name. Key info may end where its certificate does.
within_limits :
    facts_fit chain (written (3 ∷ 4 ∷ [])) places digests yes [] [] false []
    ∷ facts_fit [] (written (0 ∷ [])) (written (0 ∷ 0 ∷ [])) (replicate 192 0) (written (1 ∷ [])) [] [] false []
    ∷ facts_fit [] [] [] [] [] (text "a") (written (1 ∷ [])) false (replicate 256 0)
    ∷ facts_fit (1 ∷ []) (written (1 ∷ [])) (written (1 ∷ 0 ∷ [])) (replicate 192 0) (written (2 ∷ [])) [] [] true (replicate 255 0)
    ∷ []
    ≡ replicate 4 true
unfolding facts_fit chain_fits names_fit one_for_each chain_keeps_limits names_keep_limits common_name_fits certificate_fits total_of all up_to certificates_of certificate_at numbered cut numbers written sums_to is_whole sum
within_limits = refl

-- Outside them: key info past the end; lengths that do not sum; a list for a certificate that is not there; left-over bytes; a byte of digests too few; 9
-- certificates; 65 DNS-IDs; one of 256 bytes; a common name of 256.
outside_limits :
    facts_fit chain (written (3 ∷ 4 ∷ [])) (written (2 ∷ 2 ∷ 0 ∷ 1 ∷ [])) digests yes [] [] false []
    ∷ facts_fit chain (written (3 ∷ 5 ∷ [])) places digests yes [] [] false []
    ∷ facts_fit [] [] [] [] (written (1 ∷ [])) [] [] false []
    ∷ facts_fit [] [] (0 ∷ []) [] [] [] [] false []
    ∷ facts_fit [] (written (0 ∷ [])) (written (0 ∷ 0 ∷ [])) (replicate 191 0) (written (1 ∷ [])) [] [] false []
    ∷ facts_fit [] (replicate 36 0) (replicate 72 0) (replicate 1728 0) (written (replicate 9 1)) [] [] false []
    ∷ facts_fit [] [] [] [] [] [] (replicate 260 0) false []
    ∷ facts_fit [] [] [] [] [] (replicate 256 0) (written (256 ∷ [])) false []
    ∷ facts_fit [] [] [] [] [] [] [] true (replicate 256 0)
    ∷ []
    ≡ replicate 9 false
unfolding facts_fit chain_fits names_fit one_for_each chain_keeps_limits names_keep_limits common_name_fits certificate_fits total_of all up_to certificates_of certificate_at numbered cut numbers written sums_to is_whole sum
outside_limits = refl

-- Each whole number is 1 or 2; left-over bytes are no number.
yes_or_no : map (λ (l : List ℕ). all yes_no (numbers l)) ([] ∷ no ∷ written (1 ∷ 0 ∷ []) ∷ written (3 ∷ []) ∷ (0 ∷ 0 ∷ 0 ∷ 2 ∷ 9 ∷ []) ∷ []) ≡ true ∷ true ∷ false ∷ false ∷ true ∷ []
unfolding all yes_no numbers written
yes_or_no = refl
