-- What C passes, from what is known of each number and of each byte. Assumes nothing.
use Prim.Native.Nat.{ℕ, suc, ◌<◌}
use mathlib.Core.Path.{◌≡◌, refl}
use mathlib.Core.Bool.{true}
use mathlib.Core.List.{List, [], ◌∷◌}
use native.Mathlib.Omega.{arith}
use lib.Dec.{leb}
use lib.ListN.{length, get_or}
use borrow.Author.Tests.{le-leb}
use Rattle.lists.specs.Bytes.{all, is_bytes}
use Rattle.lists.proofs.Bools.{and_intro, by_true}
use Rattle.hosts.specs.Arguments.{Arguments}
use Rattle.hosts.specs.Demands.{IsPassed}
use Rattle.hosts.proofs.Accepted.{slices, numbers_in, is_number}

-- a slice whose bytes are each below 256
pub bytes_by_place : (s : List ℕ) → ((i : ℕ) → i < length s → get_or s i 0 < 256) → is_bytes s ≡ true
unfolding all
bytes_by_place [] h = refl
bytes_by_place (x ∷ s) h = and_intro (leb x 255) (is_bytes s) (le-leb x 255 (omega (arith, h 0 (omega arith)))) (bytes_by_place s (λ i k. h (suc i) (omega arith)))

pub number_below : (n : ℕ) → n < 18446744073709551616 → is_number n ≡ true
number_below n h = le-leb n 18446744073709551615 (omega arith)

pub is_passed : (a : Arguments) → all is_number (numbers_in a) ≡ true → all is_bytes (slices a) ≡ true → IsPassed a
is_passed a n s = record { numbers = by_true (all is_number (numbers_in a)) n; slices = by_true (all is_bytes (slices a)) s }
