-- Facts written as the boundary asks are read back, keep the limits and are bytes: TLSA answers with their codes, and certificate facts. Assumes nothing.
use Prim.Native.Nat.{ℕ}
use mathlib.Core.Path.{◌≡◌, refl, ap}
use mathlib.Core.Bool.{true}
use mathlib.Core.List.{List, [], ◌∷◌, ◌++◌, flatten}
use mathlib.Core.Option.{Option}
use lib.Dec.{eqb, leb}
use lib.ListN.{length}
use Rattle.lists.specs.Bytes.{all, is_bytes}
use Rattle.lists.proofs.Bools.{and_left, and_right, and_both}
use Rattle.lists.proofs.All.{all_more, all_map, all_append, all_flatten}
use Rattle.numbers.specs.Numbers.{written}
use Rattle.numbers.proofs.Written.{lengths_of}
use Rattle.tlsa.specs.Answer.{Answer, secure, insecure, absent, failed, secure_records, answer_of, answer_fits}
use Rattle.tlsa.proofs.Written.{set_lengths_bytes, set_back, set_accepted}
use Rattle.certificates.specs.Facts.{Certificate, Presented, presented_of}
use Rattle.certificates.specs.Limits.{facts_fit, yes_no}
use Rattle.certificates.proofs.Written.{digests_sized, bodies_of, places_of, digests_of, flags_of, yes_no_of, yes_no_back, yes_no_fits, is_given, name_of, facts_back, facts_accepted, certificate_lengths_bytes, places_bytes, flags_bytes, id_lengths_bytes}
use Rattle.hosts.specs.Arguments.{lookup_of}
use Rattle.hosts.proofs.Values.{OkAnswer, sized, ok_certificate, OkPresented}

-- TLSA answers

abbrev pub answer_code : Answer → ℕ
answer_code (secure set) = 1
answer_code insecure = 2
answer_code absent = 3
answer_code failed = 4

abbrev pub answer_lengths : Answer → List ℕ
answer_lengths a = lengths_of (secure_records a)

abbrev pub answer_records : Answer → List ℕ
answer_records a = flatten (secure_records a)

pub answer_read : (a : Answer) → OkAnswer a → answer_of (lookup_of (answer_code a)) (answer_lengths a) (answer_records a) ≡ a
unfolding answer_of
answer_read (secure set) h = ap secure (set_back set h.0)
answer_read insecure h = refl
answer_read absent h = refl
answer_read failed h = refl

pub answer_fits_lem : (a : Answer) → OkAnswer a → answer_fits (lookup_of (answer_code a)) (answer_lengths a) (answer_records a) ≡ true
unfolding answer_fits
answer_fits_lem (secure set) h = set_accepted set h.0
answer_fits_lem insecure h = refl
answer_fits_lem absent h = refl
answer_fits_lem failed h = refl

pub answer_bytes : (a : Answer) → OkAnswer a → (is_bytes (answer_lengths a) ≡ true) × (is_bytes (answer_records a) ≡ true)
unfolding all written flatten
answer_bytes (secure set) h = (set_lengths_bytes set h.0, all_flatten (λ (b : ℕ). leb b 255) set h.1)
answer_bytes insecure h = (refl, refl)
answer_bytes absent h = (refl, refl)
answer_bytes failed h = (refl, refl)

-- certificates: bytes, and digests of their sizes
module _ (c : Certificate) (h : ok_certificate c ≡ true) where
  parts : (is_bytes c.bytes ≡ true) × (sized 32 c.sha256 ≡ true) × (sized 64 c.sha512 ≡ true) × (sized 32 c.key_sha256 ≡ true) × (sized 64 c.key_sha512 ≡ true)
  unfolding ok_certificate
  parts =
      let h2 = and_both (is_bytes c.bytes) _ h in
      let h3 = and_both (sized 32 c.sha256) _ h2.1 in
      let h4 = and_both (sized 64 c.sha512) _ h3.1 in
      let h5 = and_both (sized 32 c.key_sha256) (sized 64 c.key_sha512) h4.1 in
      (h2.0, h3.0, h4.0, h5.0, h5.1)

  digests_sized_lem : digests_sized c ≡ true
  digests_sized_lem = rw (size_is 32 c.sha256 parts.1, size_is 64 c.sha512 parts.2, size_is 32 c.key_sha256 parts.3, size_is 64 c.key_sha512 parts.4)
    where
      size_is : (n : ℕ) (d : List ℕ) → sized n d ≡ true → eqb (length d) n ≡ true
      size_is n d = and_left (eqb (length d) n) (is_bytes d)

  digest_bytes : (rest : List ℕ) → is_bytes rest ≡ true → is_bytes (c.sha256 ++ (c.sha512 ++ (c.key_sha256 ++ (c.key_sha512 ++ rest)))) ≡ true
  digest_bytes rest k = simp (all_append, bytes_in 32 c.sha256 parts.1, bytes_in 64 c.sha512 parts.2, bytes_in 32 c.key_sha256 parts.3, bytes_in 64 c.key_sha512 parts.4) k
    where
      bytes_in : (n : ℕ) (d : List ℕ) → sized n d ≡ true → is_bytes d ≡ true
      bytes_in n d = and_right (eqb (length d) n) (is_bytes d)

bodies_bytes : (cs : List Certificate) → all ok_certificate cs ≡ true → all is_bytes (bodies_of cs) ≡ true
bodies_bytes cs h = rw (all_map (λ (c : Certificate). c.bytes) is_bytes cs) (all_more ok_certificate (λ (c : Certificate). is_bytes c.bytes) (λ c e. (parts c e).0) cs h)

digests_bytes : (cs : List Certificate) → all ok_certificate cs ≡ true → is_bytes (digests_of cs) ≡ true
unfolding all
digests_bytes [] h = refl
digests_bytes (c ∷ cs) h = digest_bytes c (and_left (ok_certificate c) (all ok_certificate cs) h) (digests_of cs) (digests_bytes cs (and_right (ok_certificate c) (all ok_certificate cs) h))

-- all the certificate facts

abbrev pub common_code : Option (List ℕ) → ℕ
common_code n = yes_no_of (is_given n)

pub common_fits : (n : Option (List ℕ)) → yes_no (common_code n) ≡ true
common_fits n = yes_no_fits (is_given n)

module _ (p : Presented) (h : OkPresented p) where
  all_sized : all digests_sized p.certificates ≡ true
  all_sized = all_more ok_certificate digests_sized digests_sized_lem p.certificates h.each

  pub presented_read : presented_of (flatten (bodies_of p.certificates)) (lengths_of (bodies_of p.certificates)) (written (places_of p.certificates)) (digests_of p.certificates) (written (flags_of p.certificates))
      (eqb (yes_no_of p.trusted_root) 1) (flatten p.dns_ids) (lengths_of p.dns_ids) (eqb (common_code p.common_name) 1) (name_of p.common_name) ≡ p
  presented_read = rw (yes_no_back p.trusted_root, yes_no_back (is_given p.common_name)) (facts_back p h.limits all_sized)

  pub presented_fits : facts_fit (flatten (bodies_of p.certificates)) (lengths_of (bodies_of p.certificates)) (written (places_of p.certificates)) (digests_of p.certificates) (written (flags_of p.certificates))
      (flatten p.dns_ids) (lengths_of p.dns_ids) (eqb (common_code p.common_name) 1) (name_of p.common_name) ≡ true
  presented_fits = rw (yes_no_back (is_given p.common_name)) (facts_accepted p h.limits all_sized)

  pub presented_bytes : all is_bytes (flatten (bodies_of p.certificates) ∷ lengths_of (bodies_of p.certificates) ∷ written (places_of p.certificates) ∷ digests_of p.certificates ∷ written (flags_of p.certificates)
      ∷ flatten p.dns_ids ∷ lengths_of p.dns_ids ∷ name_of p.common_name ∷ []) ≡ true
  unfolding all
  presented_bytes = rw (
    all_flatten (λ (b : ℕ). leb b 255) (bodies_of p.certificates) (bodies_bytes p.certificates h.each),
    certificate_lengths_bytes p h.limits all_sized,
    places_bytes p h.limits all_sized,
    digests_bytes p.certificates h.each,
    flags_bytes p h.limits all_sized,
    all_flatten (λ (b : ℕ). leb b 255) p.dns_ids h.ids,
    id_lengths_bytes p h.limits all_sized,
    h.name,
  )
