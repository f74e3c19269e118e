-- The returns of `is_compared`, `matches_certificate` and `matches_on_path`. P, D and Q are the key places, the digests and the paths, x is the certificate
-- at place k. Assumes nothing.
use Prim.Native.Nat.{ℕ, ◌+◌, ◌*◌, ◌-◌}
use mathlib.Core.Path.{◌≡◌, refl}
use mathlib.Core.Bool.{Bool, true, false}
use mathlib.Core.List.{List, []}
use lib.Dec.{eqb}
use lib.ListN.{length, get_or, take, drop}
use borrow.Author.Rules.{rules}
use borrow.Author.Tests.{not-true, not-false, eq-eqb, ne_eqb}
use Rattle.lists.specs.Equal.{same_bytes}
use Rattle.lists.proofs.Laws.{take_rest}
use Rattle.numbers.specs.Numbers.{numbers}
use Rattle.tlsa.specs.Record.{matching_type_of}
use Rattle.certificates.specs.Facts.{certificate_at}
use Rattle.certificates.specs.Checks.{by_type, compared, matches_certificate, matches_on_path}

-- `is_compared`: s is the selector, d the key info, r what `equal` gave
module _ (held P x : List ℕ) (k s : ℕ) (r : Bool) where
  pub compared_bytes : s ≡ 0 → r ≡ same_bytes held x → r ≡ same_bytes held (compared s 0 (certificate_at P [] [] k x))
  unfolding compared by_type certificate_at
  compared_bytes sel e = rw (eq-eqb s 0 sel) e

  pub compared_key : (s ≡ 0 → ⊥) → (d : List ℕ) → d ≡ take (get_or (numbers P) (k * 2 + 1) 0) (drop (get_or (numbers P) (k * 2) 0) x) → r ≡ same_bytes held d → r ≡ same_bytes held (compared s 0 (certificate_at P [] [] k x))
  unfolding compared by_type certificate_at
  compared_key sel d g e = rw (ne_eqb s 0 sel, ← g) e

pub ruleset compared_laws = (compared_bytes, compared_key, rules)

-- `matches_certificate`: r is what `is_compared` gave of a record of matching type 0
pub matches_is : (entry P x : List ℕ) (k : ℕ) (r : Bool) → matching_type_of entry ≡ 0 → r ≡ same_bytes (take (length entry - 3) (drop 3 entry)) (compared (get_or entry 1 0) 0 (certificate_at P [] [] k x)) → r ≡ matches_certificate entry (certificate_at P [] [] k x)
unfolding matches_certificate
matches_is entry P x k r z e = cc (take_rest entry 3)

pub ruleset matches_laws = (matches_is, rules)

-- whether a record matches a certificate does not depend on the path flag
pub any_path : (r P D Q x : List ℕ) (k : ℕ) → matches_certificate r (certificate_at P D [] k x) ≡ matches_certificate r (certificate_at P D Q k x)
unfolding matches_certificate compared by_type certificate_at
any_path r P D Q x k = refl

-- by matching type 0 it does not depend on the digests either
pub any_digests : (r P D Q x : List ℕ) (k : ℕ) → matching_type_of r ≡ 0 → matches_certificate r (certificate_at P [] [] k x) ≡ matches_certificate r (certificate_at P D Q k x)
unfolding matches_certificate compared by_type certificate_at
any_digests r P D Q x k z = rw z

pub on_path_digests : (r P D Q x : List ℕ) (k : ℕ) → matching_type_of r ≡ 0 → matches_on_path r (certificate_at P [] Q k x) ≡ matches_on_path r (certificate_at P D Q k x)
unfolding matches_on_path matches_certificate compared by_type certificate_at
on_path_digests r P D Q x k z = rw z

-- `matches_on_path`: b and r are what `is_on_path` and `matches_certificate` gave
module _ (entry P Q x : List ℕ) (k : ℕ) (b : Bool) (given : b ≡ eqb (get_or (numbers Q) k 0) 1) where
  path_flag : (certificate_at P [] Q k x).path ≡ b
  unfolding certificate_at
  path_flag = rw given

  pub path_no : b ≡ false → false ≡ matches_on_path entry (certificate_at P [] Q k x)
  unfolding matches_on_path
  path_no h = cc (path_flag)

  pub path_yes : b ≡ true → (r : Bool) → r ≡ matches_certificate entry (certificate_at P [] [] k x) → r ≡ matches_on_path entry (certificate_at P [] Q k x)
  unfolding matches_on_path
  path_yes h r e = cc (path_flag, any_path entry P [] Q x k)

pub ruleset path_laws = (path_no, path_yes, not-true, not-false, rules)
