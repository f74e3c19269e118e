-- Document 01, "A host's facts, in the order learnt": what a record is compared with, and when DANE and MTA-STS pass (RFC 7672, sections 3.1 and 3.2).
use Rattle.std.specs.Prelude.{ℕ, Bool, cond, ◌&&◌, ◌||◌, List, [], ◌∷◌, eqb, ltb, length, take, drop}
use Rattle.std.proofs.Math.Option.{Option, none, some}
use Rattle.lists.specs.Bytes.{any}
use Rattle.lists.specs.Equal.{same_bytes, same_text}
use Rattle.names.specs.Name.{some_matches}
use Rattle.tlsa.specs.Record.{usage_of, selector_of, matching_type_of, data_of, counts}
use Rattle.certificates.specs.Facts.{Certificate, key_info, Presented, text_in}
use Rattle.certificates.specs.declared.ReferenceNames.{ReferenceNames}
use Rattle.certificates.specs.declared.Origin.{Origin}
use Rattle.certificates.specs.declared.Origin.TheVariants.{SecureMx, InsecureMx, NoMx}

-- By matching type: as bytes (type 0), SHA-256 (1) or SHA-512 (2). A record that counts has no other.
unfoldable pub by_type : (matching_type : ℕ) (bytes sha256 sha512 : List ℕ) → List ℕ
by_type matching_type bytes sha256 sha512 = cond (eqb matching_type 0) bytes (cond (eqb matching_type 1) sha256 sha512)

-- Compared: certificate (selector 0) or key info (1), by matching type. A record that counts has no other selector.
unfoldable pub compared : (selector matching_type : ℕ) → Certificate → List ℕ
compared selector matching_type c =
    cond (eqb selector 0) (by_type matching_type c.bytes c.sha256 c.sha512) (by_type matching_type (key_info c) c.key_sha256 c.key_sha512)

-- A record matches a certificate: its data are the bytes that it is compared with.
unfoldable pub matches_certificate : List ℕ → Certificate → Bool
matches_certificate r c = same_bytes (data_of r) (compared (selector_of r) (matching_type_of r) c)

-- A record matches a certificate whose path flag holds.
unfoldable pub matches_on_path : List ℕ → Certificate → Bool
matches_on_path r c = c.path && matches_certificate r c

-- The leaf, where there is a certificate at all.
abbrev pub leaf_of : List Certificate → List Certificate
leaf_of certs = take 1 certs

-- The certificates after the leaf.
abbrev pub after_leaf : List Certificate → List Certificate
after_leaf certs = drop 1 certs

-- A record matches: usage 3 against the leaf alone, without names; usage 2 against a certificate after the leaf whose path flag holds, with the leaf
-- naming a reference (`named`).
unfoldable pub record_matches : (named : Bool) → List Certificate → List ℕ → Bool
record_matches named certs r =
    eqb (usage_of r) 3 && any (matches_certificate r) (leaf_of certs)
    || eqb (usage_of r) 2 && named && any (matches_on_path r) (after_leaf certs)

-- The fully expanded next-hop, or none, as a further reference: when it differs from the next-hop. ASCII case is no difference.
unfoldable pub further_reference : (next_hop : List ℕ) (expanded_next_hop : Option (List ℕ)) → List (List ℕ)
further_reference next_hop none = []
further_reference next_hop (some expanded) = cond (same_text expanded next_hop) [] (expanded ∷ [])

-- References: the TLSA base domain; with secure MX or no MX also the next-hop; with secure MX also the fully expanded next-hop (RFC 7672, 3.2.2).
unfoldable pub references : Origin → (domain next_hop : List ℕ) (expanded_next_hop : Option (List ℕ)) → List (List ℕ)
references SecureMx domain next_hop expanded_next_hop = domain ∷ next_hop ∷ further_reference next_hop expanded_next_hop
references InsecureMx domain next_hop expanded_next_hop = domain ∷ []
references NoMx domain next_hop expanded_next_hop = domain ∷ next_hop ∷ []

-- The same of what code holds as one value.
abbrev pub references_in : ReferenceNames → List (List ℕ)
references_in n = references n.origin n.domain.now n.next_hop.now (text_in n.expanded_next_hop)

-- The names that count: the DNS-IDs; the common name only where there is no DNS-ID.
unfoldable pub leaf_names : List (List ℕ) → Option (List ℕ) → List (List ℕ)
leaf_names [] none = []
leaf_names [] (some common_name) = common_name ∷ []
leaf_names (id ∷ ids) common_name = id ∷ ids

-- The leaf names a reference: a name that counts matches one of the references.
unfoldable pub names_reference : List (List ℕ) → Presented → Bool
names_reference refs p = any (some_matches (leaf_names p.dns_ids p.common_name)) refs

-- One record of a set matches that counts: a usable record that is not ignored.
abbrev pub one_matches : (named : Bool) → List (List ℕ) → List Certificate → Bool
one_matches named set certs = any (λ (r : List ℕ). counts set r && record_matches named certs r) set

-- DANE passes when one usable record of the set that is not ignored matches.
unfoldable pub dane_passes : (refs set : List (List ℕ)) → Presented → Bool
dane_passes refs set p = one_matches (names_reference refs p) set p.certificates

-- What MTA-STS asks of the certificate facts: the trusted-root flag holds, there is a certificate, and a DNS-ID matches the host. The common name never counts.
unfoldable pub shows_host : (host : List ℕ) → Presented → Bool
shows_host host p = p.trusted_root && ltb 0 (length p.certificates) && some_matches p.dns_ids host
