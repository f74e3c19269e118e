-- The lengths of what is written of a leaf. Assumes nothing.
use Prim.Native.Nat.{ℕ}
use mathlib.Core.Path.{◌≡◌, refl}
use mathlib.Core.List.{[], ◌∷◌}
use lib.ListN.{length}
use Rattle.numbers.specs.Numbers.{written}
use Rattle.x509.specs.declared.Part.{Part}
use Rattle.judging.specs.Texts.{length_of}

-- a length as a number of a list has four bytes
pub length_size : (p : Part) → length (length_of p) ≡ 4
unfolding written
length_size p = refl

-- a pair of numbers has eight bytes
pub pair_length : (a b : ℕ) → length (written (a ∷ b ∷ [])) ≡ 8
unfolding written
pair_length a b = refl
