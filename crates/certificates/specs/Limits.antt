-- Document 01, "A host's facts, in the order learnt": the limits of certificate facts, which are refused with 65 outside them; and of their yes/no numbers, 67.
use Rattle.std.specs.Prelude.{ℕ, ◌+◌, ◌*◌, Bool, true, ◌&&◌, ◌||◌, List, [], ◌∷◌, eqb, leb, length}
use Rattle.std.proofs.Math.Option.{Option, none, some}
use Rattle.lists.specs.Bytes.{all}
use Rattle.numbers.specs.Numbers.{numbers}
use Rattle.numbers.specs.Pieces.{sums_to, up_to}
use Rattle.certificates.specs.declared.Chain.{Chain}
use Rattle.certificates.specs.declared.CertificateFacts.{CertificateFacts}
use Rattle.certificates.specs.Facts.{Certificate, Presented, certificates_of, dns_ids_of, common_name_of, text_in}

-- A certificate has up to 16,384 bytes, and the place of its key info lies inside it.
unfoldable pub certificate_fits : Certificate → Bool
certificate_fits c = up_to 16384 c.bytes && leb (c.key_start + c.key_length) (length c.bytes)

-- How many bytes some certificates have in all.
unfoldable pub total_of : List Certificate → ℕ
total_of [] = 0
total_of (c ∷ certs) = length c.bytes + total_of certs

-- Up to 8 certificates, each within its limits, and 65,536 bytes in all.
unfoldable pub chain_keeps_limits : List Certificate → Bool
chain_keeps_limits certs = leb (length certs) 8 && all certificate_fits certs && leb (total_of certs) 65536

-- A common name has at most 255 bytes, where there is one.
unfoldable pub common_name_fits : Option (List ℕ) → Bool
common_name_fits none = true
common_name_fits (some name) = up_to 255 name

-- Up to 64 DNS-IDs and one common name or none, each of at most 255 bytes.
unfoldable pub names_keep_limits : List (List ℕ) → Option (List ℕ) → Bool
names_keep_limits dns_ids common_name = leb (length dns_ids) 64 && all (up_to 255) dns_ids && common_name_fits common_name

-- The facts themselves keep the limits.
unfoldable pub keeps_limits : Presented → Bool
keeps_limits p = chain_keeps_limits p.certificates && names_keep_limits p.dns_ids p.common_name

-- For each of n certificates two numbers of key places, 192 bytes of digests and one number of paths. A number is four bytes, and none are left over.
unfoldable pub one_for_each : ℕ → (key_places digests paths : List ℕ) → Bool
one_for_each n key_places digests paths = eqb (length key_places) (n * 8) && eqb (length digests) (n * 192) && eqb (length paths) (n * 4)

-- The lists of a call for its certificates: lengths that sum to the bytes, none left over, certificates within the limits, and the rest for each of them.
unfoldable pub chain_fits : (certificates lengths key_places digests paths : List ℕ) → Bool
chain_fits certificates lengths key_places digests paths =
    sums_to lengths (length certificates)
    && chain_keeps_limits (certificates_of certificates lengths key_places digests paths)
    && one_for_each (length (numbers lengths)) key_places digests paths

-- The lists of a call for the leaf's names: lengths that sum to the bytes, none left over, and names within the limits.
unfoldable pub names_fit : (dns_ids lengths : List ℕ) → Bool → List ℕ → Bool
names_fit dns_ids lengths common_name_given common_name =
    sums_to lengths (length dns_ids) && names_keep_limits (dns_ids_of dns_ids lengths) (common_name_of common_name_given common_name)

-- The certificate facts of a call keep the limits.
unfoldable pub facts_fit : (certificates certificate_lengths key_places digests paths dns_ids dns_id_lengths : List ℕ) → Bool → List ℕ → Bool
facts_fit certificates certificate_lengths key_places digests paths dns_ids dns_id_lengths common_name_given common_name =
    chain_fits certificates certificate_lengths key_places digests paths && names_fit dns_ids dns_id_lengths common_name_given common_name

-- The same of what code holds as one value.
abbrev pub chain_keeps : Chain → Bool
chain_keeps c = chain_fits c.certificates.now c.lengths.now c.key_places.now c.digests.now c.paths.now

unfoldable pub names_keep : CertificateFacts → Bool
names_keep f = sums_to f.dns_ids.lengths.now (length f.dns_ids.bytes.now) && names_keep_limits (dns_ids_of f.dns_ids.bytes.now f.dns_ids.lengths.now) (text_in f.common_name)

unfoldable pub facts_keep : CertificateFacts → Bool
facts_keep f = chain_keeps f.chain && names_keep f

-- A yes/no number: 1 is yes, 2 is no.
unfoldable pub yes_no : ℕ → Bool
yes_no n = eqb n 1 || eqb n 2
