-- Document 02, No. 7: what is read of a certificate, and the answer of the call that reads it.
use Rattle.std.specs.Prelude.{ℕ, ◌-◌, ◌*◌, cond, List, ◌++◌, leb, ltb, length, Option, None, Some, Result, Ok, Err}
use Rattle.der.specs.declared.Fault.{Fault}
use Rattle.lists.specs.Write.{wrote_front}
use Rattle.numbers.specs.Numbers.{eight}
use Rattle.x509.specs.declared.Part.{Part}
use Rattle.x509.specs.declared.Found.{Found}
use Rattle.x509.specs.Found.{fields_of}
use Rattle.leaf.specs.declared.ReadError.{ReadError}
use Rattle.leaf.specs.declared.ReadError.TheVariants.{Malformed, ManyDnsIds}
use Rattle.leaf.specs.declared.CertificateAnswer.{CertificateAnswer}
use Rattle.leaf.specs.Names.{dns_ids_of, each_as}

-- 90: a fault at an offset; "91, after 90, when there are over 64 DNS-IDs"; else what was found
unfoldable pub reading_of : List ℕ → Result Found Fault → Result Found ReadError
reading_of s (Err o) = Err (Malformed o)
reading_of s (Ok found) = cond (ltb 64 (length (dns_ids_of s found))) (Err ManyDnsIds) (Ok found)

-- what is read of a certificate
unfoldable pub read_leaf : List ℕ → Result Found ReadError
read_leaf s = reading_of s (fields_of s)

-- the place of a part: its start and its length, eight bytes each
unfoldable pub sixteen : Part → List ℕ
sixteen p = eight p.start ++ eight (p.end - p.start)

-- the places of some parts, one after another
abbrev pub places_text : List Part → List ℕ
places_text ps = each_as sixteen ps

-- a refusal: its number and an offset, and zeros
abbrev pub refusal : ℕ → ℕ → CertificateAnswer
refusal number offset = record {
  number = number;
  length = 0;
  offset = offset;
  key_start = 0;
  key_length = 0;
  dns_id_count = 0;
  common_name_given = 0;
  common_name_start = 0;
  common_name_length = 0;
}

-- 15: the places that were written, the key's place, how many DNS-IDs there are, and the common name (1) or none (2)
unfoldable pub accepted : Part → ℕ → Option Part → CertificateAnswer
accepted key count (Some p) = record {
  number = 15;
  length = 16 * count;
  offset = 0;
  key_start = key.start;
  key_length = key.end - key.start;
  dns_id_count = count;
  common_name_given = 1;
  common_name_start = p.start;
  common_name_length = p.end - p.start;
}
accepted key count None = record {
  number = 15;
  length = 16 * count;
  offset = 0;
  key_start = key.start;
  key_length = key.end - key.start;
  dns_id_count = count;
  common_name_given = 2;
  common_name_start = 0;
  common_name_length = 0;
}

-- the answer where `places` has so many bytes: 90 with the offset, 91, 83 where they are too few, or 15
unfoldable pub answer_of : List ℕ → ℕ → Result Found ReadError → CertificateAnswer
answer_of s room (Err (Malformed o)) = refusal 90 o.at
answer_of s room (Err ManyDnsIds) = refusal 91 0
answer_of s room (Ok found) =
    cond (leb (16 * length (dns_ids_of s found)) room) (accepted found.key (length (dns_ids_of s found)) found.name) (refusal 83 0)

-- the answer of the call
unfoldable pub read_certificate : List ℕ → ℕ → CertificateAnswer
read_certificate s room = answer_of s room (read_leaf s)

-- the lent `places` after the call: those of the DNS-IDs over the front, where there is room for them, and the rest as it was; under a refusal all as it was
unfoldable pub wrote_as : List ℕ → List ℕ → Result Found ReadError → List ℕ
wrote_as s places (Err (Malformed o)) = places
wrote_as s places (Err ManyDnsIds) = places
wrote_as s places (Ok found) = wrote_front (places_text (dns_ids_of s found)) places

unfoldable pub wrote_places : List ℕ → List ℕ → List ℕ
wrote_places s places = wrote_as s places (read_leaf s)
