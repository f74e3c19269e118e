-- Document 01, "A host's facts, in the order learnt": certificate facts, and how the lists of a call give them.
use Rattle.std.specs.Prelude.{ℕ, ◌+◌, ◌*◌, Bool, cond, List, eqb, get_or, take, drop}
use Rattle.std.specs.Borrow.{Bor}
use Rattle.std.specs.Prelude as S
use Rattle.std.proofs.Math.Option.{Option, none, some}
use Rattle.numbers.specs.Numbers.{numbers}
use Rattle.numbers.specs.Pieces.{cut, numbered, pieces_in}
use Rattle.certificates.specs.declared.Chain.{Chain}
use Rattle.certificates.specs.declared.CertificateFacts.{CertificateFacts}

-- A certificate: its bytes, the place of its public key info inside it, SHA-256 and SHA-512 of both, and whether the path from the leaf to it verifies.
pub record Certificate : Type 0 where
  pub bytes : List ℕ
  pub key_start : ℕ
  pub key_length : ℕ
  pub sha256 : List ℕ
  pub sha512 : List ℕ
  pub key_sha256 : List ℕ
  pub key_sha512 : List ℕ
  pub path : Bool

-- The public key info of a certificate.
abbrev pub key_info : Certificate → List ℕ
key_info c = take c.key_length (drop c.key_start c.bytes)

-- Certificate facts: the certificates, leaf first; the leaf's DNS-IDs and its common name or none; whether the path ends in a trusted root, unexpired.
pub record Presented : Type 0 where
  pub certificates : List Certificate
  pub dns_ids : List (List ℕ)
  pub common_name : Option (List ℕ)
  pub trusted_root : Bool

-- Of the 192 bytes of digests of the certificate at place k, the n bytes from the byte `from` on.
abbrev pub digest_at : List ℕ → ℕ → ℕ → ℕ → List ℕ
digest_at digests k from n = take n (drop (k * 192 + from) digests)

-- The certificate at place k, with the bytes x. Each certificate has two numbers of the key places, start and length of its key info; 192 bytes of the
-- digests, SHA-256 and SHA-512 of the certificate, then of its key info; and one number of the paths, of which 1 is yes.
unfoldable pub certificate_at : (key_places digests paths : List ℕ) → ℕ → List ℕ → Certificate
certificate_at key_places digests paths k x = record {
  bytes = x;
  key_start = get_or (numbers key_places) (k * 2) 0;
  key_length = get_or (numbers key_places) (k * 2 + 1) 0;
  sha256 = digest_at digests k 0 32;
  sha512 = digest_at digests k 32 64;
  key_sha256 = digest_at digests k 96 32;
  key_sha512 = digest_at digests k 128 64;
  path = eqb (get_or (numbers paths) k 0) 1;
}

-- The certificates: they stand one after another, and a list of numbers has their lengths.
unfoldable pub certificates_of : (certificates lengths key_places digests paths : List ℕ) → List Certificate
certificates_of certificates lengths key_places digests paths = numbered (certificate_at key_places digests paths) 0 (cut certificates (numbers lengths))

-- The DNS-IDs: they too stand one after another, with a list of their lengths.
abbrev pub dns_ids_of : List ℕ → List ℕ → List (List ℕ)
dns_ids_of dns_ids lengths = cut dns_ids (numbers lengths)

-- What is given, or none: where it is not given, what stands in its place is not looked at.
abbrev pub when : {A : Type 0} → Bool → A → Option A
when given a = cond given (some a) none

-- The common name, or none.
abbrev pub common_name_of : Bool → List ℕ → Option (List ℕ)
common_name_of given name = when given name

-- The facts that the arguments of a call give, in the call's order.
unfoldable pub presented_of : (certificates certificate_lengths key_places digests paths : List ℕ) (trusted_root : Bool) (dns_ids dns_id_lengths : List ℕ) (common_name_given : Bool) (common_name : List ℕ) → Presented
presented_of certificates certificate_lengths key_places digests paths trusted_root dns_ids dns_id_lengths common_name_given common_name = record {
  certificates = certificates_of certificates certificate_lengths key_places digests paths;
  dns_ids = dns_ids_of dns_ids dns_id_lengths;
  common_name = common_name_of common_name_given common_name;
  trusted_root = trusted_root;
}

-- The certificates that code holds as one value.
abbrev pub certificates_in : Chain → List Certificate
certificates_in c = certificates_of c.certificates.now c.lengths.now c.key_places.now c.digests.now c.paths.now

-- A text that code holds, or none.
abbrev pub text_in : S.Option (Bor (List ℕ)) → Option (List ℕ)
text_in S.None = none
text_in (S.Some s) = some s.now

-- The facts that code holds as one value.
unfoldable pub presented_by : CertificateFacts → Presented
presented_by f = record {
  certificates = certificates_in f.chain;
  dns_ids = pieces_in f.dns_ids;
  common_name = text_in f.common_name;
  trusted_root = f.trusted_root;
}
