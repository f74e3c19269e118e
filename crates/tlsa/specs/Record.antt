-- Document 01, "A host's facts, in the order learnt": a TLSA record (RFC 6698, section 2.1; RFC 7672, section 3.1).
use Rattle.std.specs.Prelude.{ℕ, Bool, not, ◌&&◌, ◌||◌, List, eqb, leb, ltb, length, get_or, drop}
use Rattle.lists.specs.Bytes.{any}

-- A record is usage, selector, matching type, data: one byte for each of the first three, and the rest.
abbrev pub usage_of : List ℕ → ℕ
usage_of r = get_or r 0 0

abbrev pub selector_of : List ℕ → ℕ
selector_of r = get_or r 1 0

abbrev pub matching_type_of : List ℕ → ℕ
matching_type_of r = get_or r 2 0

abbrev pub data_of : List ℕ → List ℕ
data_of r = drop 3 r

-- A record under 3 bytes.
unfoldable pub short : List ℕ → Bool
short r = ltb (length r) 3

-- Usage 2, DANE-TA, or 3, DANE-EE.
unfoldable pub is_usage : ℕ → Bool
is_usage usage = eqb usage 2 || eqb usage 3

-- Selector 0, the certificate, or 1, its public key info.
unfoldable pub is_selector : ℕ → Bool
is_selector selector = eqb selector 0 || eqb selector 1

-- Matching type 0, as it is, with at least 1 byte of data; type 1, SHA-256, with 32; or type 2, SHA-512, with 64.
unfoldable pub data_fits : ℕ → ℕ → Bool
data_fits matching_type n = eqb matching_type 0 && leb 1 n || eqb matching_type 1 && eqb n 32 || eqb matching_type 2 && eqb n 64

-- A usable record: it has the three bytes, and each of them and its data are as above.
unfoldable pub usable : List ℕ → Bool
usable r = not (short r) && is_usage (usage_of r) && is_selector (selector_of r) && data_fits (matching_type_of r) (length (data_of r))

-- Document 02, No. 8: strongest digest only (RFC 7671, section 9, named by RFC 7672, section 5).
-- A usable record of a usage and selector with matching type 2, SHA-512.
unfoldable pub is_sha512 : (usage selector : ℕ) → List ℕ → Bool
is_sha512 usage selector r = usable r && eqb (usage_of r) usage && eqb (selector_of r) selector && eqb (matching_type_of r) 2

-- A record of a set is ignored: it has matching type 1, SHA-256, and a usable record of the same usage and selector with type 2 is present in the set.
-- (Of a record that is not usable it makes no difference: it does not count anyway.)
unfoldable pub ignored : (set : List (List ℕ)) → List ℕ → Bool
ignored set r = eqb (matching_type_of r) 1 && any (is_sha512 (usage_of r) (selector_of r)) set

-- A record of a set counts when the set is matched with certificates: it is usable and not ignored.
abbrev pub counts : (set : List (List ℕ)) → List ℕ → Bool
counts set r = usable r && not (ignored set r)
