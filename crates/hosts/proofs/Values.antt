-- What the values of accepted facts keep: the limits of document 01, bytes below 256, digests of 32 and 64 bytes, and versions of two bytes. Assumes nothing.
use Prim.Native.Nat.{ℕ}
use mathlib.Core.Path.{◌≡◌, refl}
use mathlib.Core.Bool.{Bool, true, false, cond, ◌&&◌}
use mathlib.Core.List.{List, []}
use mathlib.Core.Option.{none}
use lib.Dec.{eqb, leb}
use lib.ListN.{length}
use Rattle.lists.specs.Bytes.{all, is_bytes}
use Rattle.tlsa.specs.Answer.{Answer, secure, insecure, absent, failed, set_fits}
use Rattle.certificates.specs.Facts.{Certificate, Presented}
use Rattle.certificates.specs.Limits.{keeps_limits}
use Rattle.certificates.proofs.Written.{name_of}
use Rattle.hosts.specs.Facts.{Handshake, established, first, second, Fact, tlsa, starttls, handshake, certificates, Value, Full}
use Rattle.hosts.specs.Facts as F
use Rattle.hosts.proofs.Trees.{AllOk}

-- a TLSA answer: a set inside the limits, of bytes
abbrev pub OkAnswer : Answer → Type 0
OkAnswer (secure set) = (set_fits set ≡ true) × (all is_bytes set ≡ true)
OkAnswer insecure = Unit {0}
OkAnswer absent = Unit {0}
OkAnswer failed = Unit {0}

-- n bytes
abbrev pub sized : ℕ → List ℕ → Bool
sized n d = eqb (length d) n && is_bytes d

-- a certificate: bytes, and digests of their sizes
unfoldable pub ok_certificate : Certificate → Bool
ok_certificate c = is_bytes c.bytes && (sized 32 c.sha256 && (sized 64 c.sha512 && (sized 32 c.key_sha256 && sized 64 c.key_sha512)))

pub record OkPresented (p : Presented) : Type 0 where
  pub limits : keeps_limits p ≡ true
  pub each : all ok_certificate p.certificates ≡ true
  pub ids : all is_bytes p.dns_ids ≡ true
  pub name : is_bytes (name_of p.common_name) ≡ true

-- a handshake: a version of two bytes
abbrev pub OkHandshake : Handshake → Type 0
OkHandshake (established version) = leb version 65535 ≡ true
OkHandshake F.failed = Unit {0}

abbrev pub Ok : (q : Fact) → Value q → Type 0
Ok (tlsa p) a = OkAnswer a
Ok starttls a = Unit {0}
Ok handshake a = OkHandshake a
Ok certificates a = OkPresented a

-- a full set of one TLSA answer, TLS offered and established (as TLS 1.2) or not, and certificate facts
abbrev pub set_of : Answer → Bool → Presented → Full
set_of a t p = record { tlsa1 = a; tlsa2 = a; offered = t; outcome = cond t (established 771) F.failed; presented = p }

set_outcome_ok : (t : Bool) → OkHandshake (cond t (established 771) F.failed)
set_outcome_ok true = refl
set_outcome_ok false = tt

pub set_ok : (a : Answer) (t : Bool) (p : Presented) → OkAnswer a → OkPresented p → AllOk Ok (set_of a t p)
set_ok a t p h k (tlsa first) = h
set_ok a t p h k (tlsa second) = h
set_ok a t p h k starttls = tt
set_ok a t p h k handshake = set_outcome_ok t
set_ok a t p h k certificates = k

-- no certificates
abbrev pub nobody : Presented
nobody = record { certificates = []; dns_ids = []; common_name = none; trusted_root = false }

pub nobody_ok : OkPresented nobody
unfolding keeps_limits Rattle.certificates.specs.Limits.chain_keeps_limits Rattle.certificates.specs.Limits.total_of Rattle.certificates.specs.Limits.names_keep_limits Rattle.certificates.specs.Limits.common_name_fits all
nobody_ok = record { limits = refl; each = refl; ids = refl; name = refl }
