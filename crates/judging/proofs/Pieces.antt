-- The DNS-IDs of a leaf as texts, one after another, and what is gathered of them. Assumes nothing.
use Prim.Native.Nat.{ℕ, ◌^◌, ◌<◌, ◌≤◌}
use mathlib.Core.Path.{◌≡◌, refl, ap}
use mathlib.Core.Bool.{true}
use mathlib.Core.List.{List, [], ◌∷◌, ◌++◌, map, flatten}
use native.Mathlib.Omega.{arith}
use borrow.Author.Tests.{leb-true}
use lib.Dec.{leb}
use lib.ListN.{length}
use Rattle.std.specs.Prelude.{Ok}
use Rattle.lists.specs.Bytes.{all}
use Rattle.lists.proofs.Bools.{and_left, and_right}
use Rattle.numbers.specs.Numbers.{written}
use Rattle.numbers.proofs.Written.{lengths_of}
use Rattle.x509.specs.declared.Part.{Part}
use Rattle.x509.specs.declared.Found.{Found}
use Rattle.leaf.specs.Read.{read_leaf}
use Rattle.leaf.proofs.Sound.{inside_of}
use Rattle.judging.proofs.Handed.{names_of, names_are, lengths_are}
use Rattle.judging.proofs.Read.{names_short, lengths_short}
use Rattle.judging.proofs.Put.{Put, put_within}

-- the first of some parts that lie inside m bytes, and those after it
module _ (m : ℕ) (ps qs : List Part) (p : Part) (e : ps ≡ p ∷ qs) (inside : all (inside_of m) ps ≡ true) where
  pub part_inside : inside_of m p ≡ true
  unfolding all
  part_inside = and_left (inside_of m p) (all (inside_of m) qs) (rw e at inside)

  pub part_order : p.start ≤ p.end
  part_order = leb-true p.start p.end (and_left (leb p.start p.end) (leb p.end m) part_inside)

  pub part_end : p.end ≤ m
  part_end = leb-true p.end m (and_right (leb p.start p.end) (leb p.end m) part_inside)

  pub rest_inside : all (inside_of m) qs ≡ true
  unfolding all
  rest_inside = and_right (inside_of m p) (all (inside_of m) qs) (rw e at inside)

-- the text of some parts and the list of their lengths, by the first part
module _ (f : Part → List ℕ) (ps qs : List Part) (p : Part) (e : ps ≡ p ∷ qs) where
  pub flat_next : flatten (map f ps) ≡ f p ++ flatten (map f qs)
  unfolding flatten
  flat_next = rw e

  pub sizes_next : lengths_of (map f ps) ≡ written (length (f p) ∷ []) ++ lengths_of (map f qs)
  unfolding written
  sizes_next = rw e

pub flat_none : (f : Part → List ℕ) (ps : List Part) → ps ≡ [] → flatten (map f ps) ≡ []
unfolding flatten
flat_none f ps e = rw e

pub sizes_none : (f : Part → List ℕ) (ps : List Part) → ps ≡ [] → lengths_of (map f ps) ≡ []
unfolding written
sizes_none f ps e = rw e

pub size_of : (x : List ℕ) → 4 ≡ length (written (length x ∷ []))
unfolding written
size_of x = refl

-- a leaf that is read: its names have room
module _ (s : List ℕ) (f : Found) (is_read : read_leaf s ≡ Ok f) where
  pub flat_room : length (flatten (names_of s f)) ≤ length s
  flat_room = omega (arith, ap length (names_are s f is_read), names_short s f is_read)

  pub sizes_room : length (lengths_of (names_of s f)) ≤ 256
  sizes_room = omega (arith, ap length (lengths_are s f is_read), lengths_short s f is_read)

  -- and each of them is short
  pub piece_short : length s ≤ 16384 → (d x left : List ℕ) (n : ℕ) → Put (flatten (names_of s f)) d x left n → (p r : List ℕ) → left ≡ p ++ r → length p < 2 ^ 32
  piece_short h d x left n so p r e = omega (arith, put_within (flatten (names_of s f)) d x left n so p r e, flat_room)
