-- What is known of a leaf that is read: its key lies inside it, and its names have room. Assumes nothing.
use Rattle.std.specs.Prelude.{Ok}
use Prim.Native.Nat.{ℕ, zero, suc, ◌-◌, ◌≤◌}
use mathlib.Core.Path.{◌≡◌}
use mathlib.Core.List.{List, [], ◌∷◌}
use native.Mathlib.Omega.{arith}
use lib.ListN.{length, take, drop, length-append}
use Rattle.x509.specs.declared.Part.{Part}
use Rattle.x509.specs.declared.Found.{Found}
use Rattle.leaf.specs.Names.{dns_ids_of, each_as}
use Rattle.leaf.specs.Read.{read_leaf}
use Rattle.leaf.proofs.Writing.{each_length}
use Rattle.leaf.proofs.Sound as Sound
use Rattle.leaf.proofs.Sound.{total_of, read_sound}
use Rattle.judging.specs.Texts.{part_of, length_of, names_text, lengths_text}
use Rattle.judging.proofs.Texts.{length_size}

take_short : (n : ℕ) (s : List ℕ) → length (take n s) ≤ n
take_short zero s = omega arith
take_short (suc n) [] = omega arith
take_short (suc n) (x ∷ s) = omega (arith, take_short n s)

-- the bytes of some parts are no more than their lengths say
texts_short : (s : List ℕ) (ps : List Part) → length (each_as (part_of s) ps) ≤ total_of ps
unfolding each_as total_of
texts_short s [] = omega arith
texts_short s (p ∷ ps) = omega (arith, length-append (part_of s p) (each_as (part_of s) ps), take_short (p.end - p.start) (drop p.start s), texts_short s ps)

module _ (s : List ℕ) (f : Found) (is_read : read_leaf s ≡ Ok f) where
  pub key_order : f.key.start ≤ f.key.end
  key_order = omega (arith, (read_sound s f is_read).key.0)

  pub key_inside : f.key.end ≤ length s
  key_inside = (read_sound s f is_read).key.1

  -- the DNS-IDs together are no longer than the leaf
  pub names_short : length (names_text s f) ≤ length s
  unfolding names_text
  names_short = omega (arith, texts_short (take f.alternatives.end s) (dns_ids_of s f), Sound.names_short s f is_read)

  -- the list of their lengths has at most 256 bytes
  pub lengths_short : length (lengths_text s f) ≤ 256
  unfolding lengths_text
  lengths_short = omega (arith, each_length length_of 4 length_size (dns_ids_of s f), (read_sound s f is_read).count)
