-- Certificate facts that a usable record matches, inside the limits. Assumes nothing.
use Prim.Native.Nat.{ℕ, ◌+◌, ◌≤◌}
use mathlib.Core.Path.{◌≡◌, refl, sym, ◌∙◌, ap}
use mathlib.Core.Bool.{Bool, true, false, cond, ◌&&◌, ◌||◌}
use mathlib.Core.List.{List, [], ◌∷◌}
use mathlib.Core.Option.{Option, none}
use native.Mathlib.Omega.{arith}
use lib.Dec.{eqb, leb}
use lib.ListN.{length, take, replicate}
use lib.Seq.{take_all}
use borrow.Author.Tests.{le-leb, ne_eqb, eqb-true, eqb-false}
use Rattle.lists.specs.Bytes.{all, any, is_bytes}
use Rattle.lists.proofs.Bools.{apart, and_intro, or_left, or_right}
use Rattle.lists.proofs.Agree.{bytes_self, text_self}
use Rattle.numbers.specs.Pieces.{up_to}
use Rattle.names.specs.Name.{is_name, matches_name}
use Rattle.names.proofs.Cover.{name_short}
use Rattle.names.proofs.Exactly.{plain_exactly}
use Rattle.tlsa.specs.Record.{usage_of, selector_of, matching_type_of, data_of, data_fits, usable}
use Rattle.certificates.specs.Facts.{Certificate, Presented}
use Rattle.certificates.specs.Limits.{certificate_fits, total_of, chain_keeps_limits, common_name_fits, names_keep_limits, keeps_limits}
use Rattle.certificates.specs.Checks.{by_type, compared, matches_certificate, matches_on_path, record_matches, leaf_of, after_leaf, references, leaf_names, names_reference, shows_host}
use Rattle.certificates.specs.declared.Origin.{Origin}
use Rattle.certificates.specs.declared.Origin.TheVariants.{SecureMx, InsecureMx, NoMx}
use Rattle.certificates.proofs.Passing.{matches_3, matches_2, usable_usage_2, usable_data}
use Rattle.hosts.proofs.Values.{sized, ok_certificate, OkPresented}

-- d where it has n bytes, else n zeros
abbrev resized : ℕ → List ℕ → List ℕ
resized n d = cond (eqb (length d) n) d (replicate n 0)

-- a certificate with the bytes d, whose key info is the whole of it, and whose digests are d where it has their size
abbrev pub forged : List ℕ → Certificate
forged d = record { bytes = d; key_start = 0; key_length = length d; sha256 = resized 32 d; sha512 = resized 64 d; key_sha256 = resized 32 d; key_sha512 = resized 64 d; path = true }

-- the choice by type and length, as tests
chosen : (t0 t1 t2 n1 n32 n64 : Bool) (d k z w : List ℕ) → k ≡ d → (t1 ≡ true → t2 ≡ false) → (t0 && n1 || t1 && n32 || t2 && n64) ≡ true → cond t0 k (cond t1 (cond n32 d z) (cond n64 d w)) ≡ d
chosen true t1 t2 n1 n32 n64 d k z w e x h = e
chosen false true t2 n1 true n64 d k z w e x h = refl
chosen false true t2 n1 false n64 d k z w e x h = apart (sym (ap (λ (t : Bool). t && n64) (x refl)) ∙ h)
chosen false false true n1 n32 true d k z w e x h = refl
chosen false false true n1 n32 false d k z w e x h = apart h
chosen false false false n1 n32 n64 d k z w e x h = apart h

not_both : (t : ℕ) → eqb t 1 ≡ true → eqb t 2 ≡ false
not_both t e = ne_eqb t 2 (λ z. omega (arith, eqb-true t 1 e))

cond_same : {A : Type 0} (x : Bool) (a b c : A) → a ≡ c → b ≡ c → cond x a b ≡ c
cond_same true a b c p q = p
cond_same false a b c p q = q

-- compared with what is forged from data that fit the type: the data
compared_is : (s t : ℕ) (d : List ℕ) → data_fits t (length d) ≡ true → compared s t (forged d) ≡ d
unfolding data_fits compared by_type
compared_is s t d h = cond_same (eqb s 0) _ _ d (by d refl) (by (take (length d) d) (take_all (length d) d (omega arith)))
  where
    by : (k : List ℕ) → k ≡ d → cond (eqb t 0) k (cond (eqb t 1) (resized 32 d) (resized 64 d)) ≡ d
    by k e = chosen (eqb t 0) (eqb t 1) (eqb t 2) (leb 1 (length d)) (eqb (length d) 32) (eqb (length d) 64) d k (replicate 32 0) (replicate 64 0) e (not_both t) h

-- a usable record matches what is forged from its data
forged_matches : (r : List ℕ) → usable r ≡ true → matches_certificate r (forged (data_of r)) ≡ true
unfolding matches_certificate
forged_matches r h = rw (compared_is (selector_of r) (matching_type_of r) (data_of r) (usable_data r h)) (bytes_self (data_of r))

-- the limits
sized_ok : (n : ℕ) (d : List ℕ) → sized n (replicate n 0) ≡ true → is_bytes d ≡ true → sized n (resized n d) ≡ true
sized_ok n d z h = go (eqb (length d) n) refl
  where
    go : (b : Bool) → eqb (length d) n ≡ b → sized n (cond b d (replicate n 0)) ≡ true
    go true e = and_intro (eqb (length d) n) (is_bytes d) e h
    go false e = z

zeros_32 : sized 32 (replicate 32 0) ≡ true
unfolding all
zeros_32 = refl

zeros_64 : sized 64 (replicate 64 0) ≡ true
unfolding all
zeros_64 = refl

forged_ok : (d : List ℕ) → is_bytes d ≡ true → ok_certificate (forged d) ≡ true
unfolding ok_certificate
forged_ok d h = rw (h, sized_ok 32 d zeros_32 h, sized_ok 64 d zeros_64 h)

forged_fits : (d : List ℕ) → length d ≤ 4096 → certificate_fits (forged d) ≡ true
unfolding certificate_fits up_to
forged_fits d l = rw (le-leb (length d) 16384 (omega arith), le-leb (0 + length d) (length d) (omega arith))

-- a name matches itself, and may be a DNS-ID
matches_self : (n : List ℕ) → is_name n ≡ true → matches_name n n ≡ true
matches_self n h = plain_exactly n n h ∙ text_self n

name_fits : (n : List ℕ) → is_name n ≡ true → up_to 255 n ≡ true
unfolding up_to
name_fits n h = le-leb (length n) 255 (omega (arith, name_short n h))

-- two certificates forged from d, which name the two names
abbrev pub showing : List ℕ → List ℕ → List ℕ → Presented
showing d domain host = record { certificates = forged d ∷ forged d ∷ []; dns_ids = domain ∷ host ∷ []; common_name = none; trusted_root = true }

module _ (d domain host : List ℕ) (is_domain : is_name domain ≡ true) (is_host : is_name host ≡ true) where
  showing_fits : length d ≤ 4096 → keeps_limits (showing d domain host) ≡ true
  unfolding keeps_limits chain_keeps_limits total_of names_keep_limits common_name_fits all
  showing_fits l = rw (forged_fits d l, le-leb (length d + (length d + 0)) 65536 (omega arith), name_fits domain is_domain, name_fits host is_host)

  pub showing_ok : length d ≤ 4096 → is_bytes d ≡ true → is_bytes domain ≡ true → is_bytes host ≡ true → OkPresented (showing d domain host)
  unfolding all
  showing_ok l h m n = record { limits = showing_fits l; each = rw (forged_ok d h); ids = rw (m, n); name = refl }

  -- they name the domain, whatever else is a reference, and they show the host
  showing_names : (o : Origin) (next_hop : List ℕ) (further : Option (List ℕ)) → names_reference (references o domain next_hop further) (showing d domain host) ≡ true
  unfolding names_reference references leaf_names any
  showing_names SecureMx next_hop further = rw (matches_self domain is_domain)
  showing_names InsecureMx next_hop further = rw (matches_self domain is_domain)
  showing_names NoMx next_hop further = rw (matches_self domain is_domain)

  pub showing_host : shows_host host (showing d domain host) ≡ true
  unfolding shows_host any
  showing_host = or_right (matches_name domain host) (matches_name host host || false) (or_left (matches_name host host) false (matches_self host is_host))

-- a usable record matches them by the name of its domain
module _ (r domain host : List ℕ) (is_domain : is_name domain ≡ true) (is_host : is_name host ≡ true) (h : usable r ≡ true) where
  abbrev pair : List Certificate
  pair = forged (data_of r) ∷ forged (data_of r) ∷ []

  leaf_matches : any (matches_certificate r) (leaf_of pair) ≡ true
  unfolding any
  leaf_matches = or_left (matches_certificate r (forged (data_of r))) false (forged_matches r h)

  after_matches : any (matches_on_path r) (after_leaf pair) ≡ true
  unfolding any matches_on_path
  after_matches = or_left (matches_certificate r (forged (data_of r))) false (forged_matches r h)

  pub showing_matches : (o : Origin) (next_hop : List ℕ) (further : Option (List ℕ)) → record_matches (names_reference (references o domain next_hop further) (showing (data_of r) domain host)) pair r ≡ true
  showing_matches o next_hop further = go (eqb (usage_of r) 3) refl
    where
      go : (x : Bool) → eqb (usage_of r) 3 ≡ x → record_matches (names_reference (references o domain next_hop further) (showing (data_of r) domain host)) pair r ≡ true
      go true e = matches_3 (names_reference (references o domain next_hop further) (showing (data_of r) domain host)) pair r (eqb-true (usage_of r) 3 e) ∙ leaf_matches
      go false e = matches_2 (names_reference (references o domain next_hop further) (showing (data_of r) domain host)) pair r (usable_usage_2 r h (eqb-false (usage_of r) 3 e)) ∙ rw (showing_names (data_of r) domain host is_domain is_host o next_hop further) after_matches
