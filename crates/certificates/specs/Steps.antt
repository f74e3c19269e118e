-- Not of document 01: the contracts of private functions, what the parts of a check give to each other. A reader of the promises needs none of it.
use Rattle.std.specs.Prelude.{ℕ, zero, suc, ◌+◌, ◌*◌, Bool, true, false, not, cond, ◌&&◌, ◌||◌, List, [], ◌∷◌, eqb, leb, length, get_or}
use Rattle.lists.specs.Bytes.{any}
use Rattle.lists.specs.Equal.{same_bytes}
use Rattle.numbers.specs.Numbers.{numbers}
use Rattle.tlsa.specs.Record.{usage_of, selector_of, matching_type_of, usable, is_sha512}
use Rattle.certificates.specs.Facts.{Certificate, digest_at}
use Rattle.certificates.specs.Checks.{record_matches}
use Rattle.certificates.specs.declared.Match.{Match}
use Rattle.certificates.specs.declared.Match.TheVariants.{Unnamed, Named, Nothing}
use Rattle.certificates.specs.declared.Sha512Pairs.{Sha512Pairs}

-- where the digest of the certificate (selector 0) or of its key info starts, of matching type 1 or 2, among the 192 bytes of digests of a certificate
unfoldable pub digest_start : (selector matching_type : ℕ) → ℕ
digest_start selector matching_type = cond (eqb selector 0) (cond (eqb matching_type 1) 0 32) (cond (eqb matching_type 1) 96 128)

-- the path flag of the certificate at place k holds, and the bytes that are held are its digest from the byte `from` on
unfoldable pub digest_on_path : (held : List ℕ) (from : ℕ) (digests paths : List ℕ) → ℕ → Bool
digest_on_path held from digests paths k = eqb (get_or (numbers paths) k 0) 1 && same_bytes held (digest_at digests k from (length held))

-- one of m places from k on passes the test
unfoldable pub any_place : (ℕ → Bool) → ℕ → ℕ → Bool
any_place p k zero = false
any_place p k (suc m) = p k || any_place p (k + 1) m

-- of which usages and selectors a set has a usable record of matching type 2
unfoldable pub sha512_of : List (List ℕ) → Sha512Pairs
sha512_of set = record { ta_certificate = any (is_sha512 2 0) set; ta_key = any (is_sha512 2 1) set; ee_certificate = any (is_sha512 3 0) set; ee_key = any (is_sha512 3 1) set }

-- the same with one record more
unfoldable pub with_record : Sha512Pairs → List ℕ → Sha512Pairs
with_record found r = record {
  ta_certificate = found.ta_certificate || is_sha512 2 0 r;
  ta_key = found.ta_key || is_sha512 2 1 r;
  ee_certificate = found.ee_certificate || is_sha512 3 0 r;
  ee_key = found.ee_key || is_sha512 3 1 r;
}

-- a usable record is ignored, by what its set has
unfoldable pub ignored_beside : Sha512Pairs → List ℕ → Bool
ignored_beside found r =
    eqb (matching_type_of r) 1
    && cond (eqb (usage_of r) 2)
    (cond (eqb (selector_of r) 0) found.ta_certificate found.ta_key)
    (cond (eqb (selector_of r) 0) found.ee_certificate found.ee_key)

-- a record counts, by what its set has, and matches: with the leaf naming a reference (`named`), or without names
unfoldable pub passes : Sha512Pairs → (named : Bool) → List Certificate → List ℕ → Bool
passes found named certs r = usable r && not (ignored_beside found r) && record_matches named certs r

-- how a record or a set matches, by whether it does without names, and with them
unfoldable pub match_of : (unnamed named : Bool) → Match
match_of unnamed named = cond unnamed Unnamed (cond named Named Nothing)

-- each place of a key info, of the numbers ps from place k on, lies inside a certificate of that length
unfoldable pub places_fit : (ps : List ℕ) → ℕ → (lengths : List ℕ) → Bool
places_fit ps k [] = true
places_fit ps k (n ∷ ns) = leb (get_or ps (k * 2) 0 + get_or ps (k * 2 + 1) 0) n && places_fit ps (k + 1) ns
