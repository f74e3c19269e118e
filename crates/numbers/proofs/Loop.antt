-- Pieces that are decoded with their place. Assumes nothing.
use Prim.Native.Nat.{ℕ, suc, ◌+◌}
use mathlib.Core.Path.{◌≡◌, refl, ap}
use mathlib.Core.List.{List, [], ◌∷◌}
use lib.ListN.{length}
use Rattle.numbers.specs.Pieces.{numbered}

pub placed_count : {A : Type 0} (f : ℕ → List ℕ → A) (k : ℕ) (xs : List (List ℕ)) → length (numbered f k xs) ≡ length xs
unfolding numbered
placed_count f k [] = refl
placed_count f k (x ∷ xs) = ap suc (placed_count f (k + 1) xs)
