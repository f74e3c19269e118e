-- The ways out of the functions that read a certificate. Assumes nothing.
use Rattle.std.specs.Prelude.{Option, None, Some, Result, Ok, Err}
use Prim.Native.Nat.{ℕ, ◌-◌, ◌*◌, ◌/◌, ◌^◌, ◌<◌, ◌≤◌}
use mathlib.Core.Path.{◌≡◌, refl, ap, ◌∙◌}
use mathlib.Core.List.{List, ◌++◌}
use native.Mathlib.Omega.{arith}
use borrow.Author.Rules.{rules}
use borrow.Author.Tests.{lt-leb, le-leb, lt-ltb, le-ltb}
use lib.ListN.{length, drop}
use Rattle.der.specs.declared.Fault.{Fault}
use Rattle.x509.specs.declared.Part.{Part}
use Rattle.x509.specs.declared.Found.{Found}
use Rattle.x509.specs.Found.{fields_of}
use Rattle.lists.specs.Write.{wrote_front}
use Rattle.leaf.specs.declared.ReadError.{ReadError}
use Rattle.leaf.specs.declared.CertificateAnswer.{CertificateAnswer}
use Rattle.leaf.specs.Names.{dns_ids_of}
use Rattle.leaf.specs.Read.{places_text, refusal, accepted, answer_of, reading_of, read_leaf, read_certificate, wrote_as, wrote_places}
use Rattle.leaf.proofs.Writing.{places_length}

module _ (s : List ℕ) (w : Result Found Fault) (is_w : w ≡ fields_of s) where
  pub read_fault : (o : Fault) → w ≡ Err o → Err (ReadError.Malformed o) ≡ read_leaf s
  unfolding read_leaf reading_of
  read_fault o e = cc

  module _ (found : Found) (are : w ≡ Ok found) (ids : List Part) (is_ids : ids ≡ dns_ids_of s found) (k : ℕ) (is_k : k ≡ length ids) where
    pub read_many : 64 < k → (Err ReadError.ManyDnsIds) ≡ read_leaf s
    unfolding read_leaf reading_of
    read_many h = cc (is_ids, lt-ltb 64 k h)

    pub read_is : k ≤ 64 → Ok found ≡ read_leaf s
    unfolding read_leaf reading_of
    read_is h = cc (is_ids, le-ltb 64 k h)

pub ruleset read_laws = (read_fault, read_many, read_is, rules)

-- the answer of a certificate that is read
module _ (key : Part) (n : ℕ) (name : Option Part) where
  pub accepted_given : (p : Part) → name ≡ Some p
      → record { number = 15; length = 16 * n; offset = 0; key_start = key.start; key_length = key.end - key.start; dns_id_count = n; common_name_given = 1; common_name_start = p.start; common_name_length = p.end - p.start } ≡ accepted key n name
  unfolding accepted
  accepted_given p e = rw e

  pub accepted_none : name ≡ None
      → record { number = 15; length = 16 * n; offset = 0; key_start = key.start; key_length = key.end - key.start; dns_id_count = n; common_name_given = 2; common_name_start = 0; common_name_length = 0 } ≡ accepted key n name
  unfolding accepted
  accepted_none e = rw e

pub ruleset accepted_laws = (accepted_given, accepted_none, rules)

-- how many DNS-IDs were counted
pub the_count : (ids others : List Part) → ids ≡ others → (n : ℕ) → n ≡ length ids → n ≡ length others
the_count ids others e n f = f ∙ ap length e

-- and that their places were written
pub the_places : (ids others : List Part) → ids ≡ others → (d x : List ℕ) → length (places_text others) ≤ length d → x ≡ places_text ids ++ drop (length (places_text ids)) d → x ≡ wrote_front (places_text others) d
unfolding wrote_front
the_places ids others e d x h f = rw (le-leb (length (places_text others)) (length d) h) (f ∙ rw e)

-- the ways out of `read_certificate`: its answer, and the places
module _ (s d : List ℕ) (w : Result Found Fault) (is_w : w ≡ fields_of s) (r : CertificateAnswer) where
  pub answer_fault : (o : Fault) → w ≡ Err o → r ≡ refusal 90 o.at → r ≡ read_certificate s (length d)
  unfolding read_certificate answer_of
  answer_fault o e f = rw (← read_fault s w is_w o e) f

  pub places_fault : (o : Fault) → w ≡ Err o → d ≡ wrote_places s d
  unfolding wrote_places wrote_as
  places_fault o e = rw (← read_fault s w is_w o e)

  module _ (found : Found) (n : ℕ) (e : w ≡ Ok found) (is_n : n ≡ length (dns_ids_of s found)) where
    pub answer_many : 64 < n → r ≡ refusal 91 0 → r ≡ read_certificate s (length d)
    unfolding read_certificate answer_of
    answer_many h f = rw (← read_many s w is_w found e (dns_ids_of s found) refl n is_n h) f

    pub places_many : 64 < n → d ≡ wrote_places s d
    unfolding wrote_places wrote_as
    places_many h = rw (← read_many s w is_w found e (dns_ids_of s found) refl n is_n h)

    module _ (few : n ≤ 64) where
      pub answer_short : length d / 16 < n → r ≡ refusal 83 0 → r ≡ read_certificate s (length d)
      unfolding read_certificate answer_of
      answer_short h f = rw (← read_is s w is_w found e (dns_ids_of s found) refl n is_n few, ← is_n, lt-leb (16 * n) (length d) (omega arith)) f

      pub answer_is : n ≤ length d / 16 → r ≡ accepted found.key n found.name → r ≡ read_certificate s (length d)
      unfolding read_certificate answer_of
      answer_is h f = rw (← read_is s w is_w found e (dns_ids_of s found) refl n is_n few, ← is_n, le-leb (16 * n) (length d) (omega arith)) f

      pub places_short : length d / 16 < n → d ≡ wrote_places s d
      unfolding wrote_places wrote_as wrote_front
      places_short h = rw (← read_is s w is_w found e (dns_ids_of s found) refl n is_n few, lt-leb (length (places_text (dns_ids_of s found))) (length d) (omega (arith, places_length (dns_ids_of s found))))

      pub places_are : (y : List ℕ) → y ≡ wrote_front (places_text (dns_ids_of s found)) d → y ≡ wrote_places s d
      unfolding wrote_places wrote_as
      places_are y f = rw (← read_is s w is_w found e (dns_ids_of s found) refl n is_n few) f

    pub answer_fits_lem : n ≤ 64 → 16 * n < 2 ^ 64
    answer_fits_lem h = omega arith

    pub places_room : n ≤ length d / 16 → length (places_text (dns_ids_of s found)) ≤ length d
    places_room h = omega (arith, places_length (dns_ids_of s found))

pub ruleset answer_laws = (answer_fault, answer_many, answer_short, answer_is, answer_fits_lem, places_room, places_short, places_are, places_fault, places_many, rules)
