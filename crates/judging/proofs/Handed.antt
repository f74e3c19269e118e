-- What the plain call is handed of the leaf: its DNS-IDs in order, its common name and its key. Assumes nothing.
use Rattle.std.specs.Prelude as Std
use Rattle.std.specs.Prelude.{None, Some, Ok}
use Prim.Native.Nat.{ℕ, ◌-◌, ◌/◌, ◌%◌, ◌^◌, ◌<◌, ◌≤◌}
use mathlib.Core.Path.{◌≡◌, refl, ap, ◌∙◌}
use mathlib.Core.Bool.{true}
use mathlib.Core.List.{List, [], ◌∷◌, ◌++◌, map, flatten}
use mathlib.Core.Option.{Option, none, some}
use native.Mathlib.Omega.{arith}
use borrow.Author.Tests.{le-leb}
use lib.Dec.{eqb}
use lib.ListN.{length, take, drop}
use lib.Seq.{take-take}
use Rattle.lists.specs.Bytes.{all}
use Rattle.lists.proofs.Laws.{part_length, drop_take}
use Rattle.numbers.specs.Numbers.{word, numbers, written}
use Rattle.numbers.specs.Pieces.{cut, sums_to, up_to}
use Rattle.numbers.proofs.Written.{lengths_of, pieces_back, pieces_sum}
use Rattle.certificates.specs.Facts.{presented_of, common_name_of}
use Rattle.hosts.specs.Arguments.{Arguments, presented_in}
use Rattle.x509.specs.declared.Part.{Part}
use Rattle.x509.specs.declared.Found.{Found}
use Rattle.leaf.specs.Names.{dns_ids_of, each_as}
use Rattle.leaf.specs.Read.{read_leaf}
use Rattle.leaf.proofs.Sound.{Ordered, read_sound, ids_in_order}
use Rattle.judging.specs.Texts.{part_of, length_of, names_text, lengths_text, given_of, common_name_in}
use Rattle.judging.specs.Judging.{leaf_of, on_read}

ordered_far : (at : ℕ) (ps : List Part) (end : ℕ) → Ordered at ps end → at ≤ end
unfolding Ordered
ordered_far at [] end o = o
ordered_far at (p ∷ ps) end o = omega (arith, o.0, o.1.0, ordered_far p.end ps end o.1.1)

-- a part of the front is that part of the whole
part_front : (s : List ℕ) (end : ℕ) (p : Part) → p.end ≤ end → part_of (take end s) p ≡ part_of s p
part_front s end p h = rw (drop_take p.start end s) (take-take (p.end - p.start) (end - p.start) (drop p.start s) (omega arith))

parts_same : (s : List ℕ) (at : ℕ) (ps : List Part) (end : ℕ) → Ordered at ps end → map (part_of (take end s)) ps ≡ map (part_of s) ps
unfolding Ordered
parts_same s at [] end o = refl
parts_same s at (p ∷ ps) end o = rw (part_front s end p (ordered_far p.end ps end o.1.1), parts_same s p.end ps end o.1.1)

each_flat : (f : Part → List ℕ) (ps : List Part) → each_as f ps ≡ flatten (map f ps)
unfolding each_as flatten
each_flat f [] = refl
each_flat f (p ∷ ps) = rw (each_flat f ps)

sizes_are : (s : List ℕ) (at : ℕ) (ps : List Part) (end : ℕ) → Ordered at ps end → end ≤ length s → each_as length_of ps ≡ lengths_of (map (part_of s) ps)
unfolding each_as Ordered written
sizes_are s at [] end o h = refl
sizes_are s at (p ∷ ps) end o h =
    let l : length (part_of s p) ≡ p.end - p.start = part_length s p.start (p.end - p.start) (omega (arith, o.1.0, ordered_far p.end ps end o.1.1)) in
    rw (l, sizes_are s p.end ps end o.1.1 h)

parts_short : (s : List ℕ) (at : ℕ) (ps : List Part) (end : ℕ) → Ordered at ps end → end ≤ length s → all (up_to (length s)) (map (part_of s) ps) ≡ true
unfolding all Ordered up_to
parts_short s at [] end o h = refl
parts_short s at (p ∷ ps) end o h =
    let l : length (part_of s p) ≡ p.end - p.start = part_length s p.start (p.end - p.start) (omega (arith, o.1.0, ordered_far p.end ps end o.1.1)) in
    rw (le-leb (length (part_of s p)) (length s) (omega (arith, l, ordered_far p.end ps end o.1.1)), parts_short s p.end ps end o.1.1 h)

-- the DNS-IDs of the leaf as texts
abbrev pub names_of : List ℕ → Found → List (List ℕ)
names_of s f = map (part_of s) (dns_ids_of s f)

-- the common name of the leaf as a text, or none
unfoldable pub common_name_read : List ℕ → Std.Option Part → Option (List ℕ)
common_name_read s (Some p) = some (part_of s p)
common_name_read s None = none

module _ (s : List ℕ) (f : Found) (is_read : read_leaf s ≡ Ok f) where
  -- the text is the DNS-IDs one after another, and the list that of their lengths
  pub names_are : names_text s f ≡ flatten (names_of s f)
  unfolding names_text
  names_are = each_flat (part_of (take f.alternatives.end s)) (dns_ids_of s f) ∙ ap flatten (parts_same s f.alternatives.start (dns_ids_of s f) f.alternatives.end (ids_in_order s f is_read))

  pub lengths_are : lengths_text s f ≡ lengths_of (names_of s f)
  unfolding lengths_text
  lengths_are = sizes_are s f.alternatives.start (dns_ids_of s f) f.alternatives.end (ids_in_order s f is_read) (read_sound s f is_read).alternatives.1

  module _ (short : length s ≤ 16384) where
    fit : all (up_to (length s)) (names_of s f) ≡ true
    fit = parts_short s f.alternatives.start (dns_ids_of s f) f.alternatives.end (ids_in_order s f is_read) (read_sound s f is_read).alternatives.1

    pub names_back : cut (names_text s f) (numbers (lengths_text s f)) ≡ names_of s f
    names_back = rw (names_are, lengths_are) (pieces_back (length s) (omega arith) (names_of s f) fit)

    pub names_sum : sums_to (lengths_text s f) (length (names_text s f)) ≡ true
    names_sum = rw (names_are, lengths_are) (pieces_sum (length s) (omega arith) (names_of s f) fit)

pub name_back : (s : List ℕ) (name : Std.Option Part) → common_name_of (eqb (given_of name) 1) (common_name_in s name) ≡ common_name_read s name
unfolding given_of common_name_in common_name_read
name_back s (Some p) = refl
name_back s None = refl

-- the certificate facts of the plain call on the facts read have the leaf's DNS-IDs, in order, none lost and none twice, and its common name
module _ (a : Arguments) (f : Found) (is_read : read_leaf (leaf_of a) ≡ Ok f) where
  pub handed_names : length (leaf_of a) ≤ 16384 → (presented_in (on_read a (leaf_of a) f)).dns_ids ≡ names_of (leaf_of a) f
  unfolding presented_in presented_of on_read
  handed_names short = names_back (leaf_of a) f is_read short

  pub handed_common_name : (presented_in (on_read a (leaf_of a) f)).common_name ≡ common_name_read (leaf_of a) f.name
  unfolding presented_in presented_of on_read
  handed_common_name = name_back (leaf_of a) f.name

-- a key place of numbers below 2 ^ 32 is read back, before the others
word_back : (n : ℕ) → n < 2 ^ 32 → word (n / 16777216) (n / 65536 % 256) (n / 256 % 256) (n % 256) ≡ n
word_back n h = omega arith

pub place_back : (a b : ℕ) (K : List ℕ) → a < 2 ^ 32 → b < 2 ^ 32 → numbers (written (a ∷ b ∷ []) ++ K) ≡ a ∷ b ∷ numbers K
unfolding numbers written
place_back a b K h k = rw (word_back a h, word_back b k)
