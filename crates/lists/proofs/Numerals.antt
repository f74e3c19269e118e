-- Digits are decimal: a digit more makes ten times the number and the digit; a zero in front changes nothing. Assumes nothing.
use Prim.Native.Nat.{ℕ, ◌+◌, ◌-◌, ◌*◌}
use mathlib.Core.Path.{◌≡◌, refl}
use mathlib.Core.List.{List, [], ◌∷◌, ◌++◌}
use Rattle.lists.specs.Numerals.{decimal_after}

pub decimal_digit : (n : ℕ) (v : List ℕ) (d : ℕ) → decimal_after n (v ++ (d ∷ [])) ≡ decimal_after n v * 10 + (d - 48)
unfolding decimal_after
decimal_digit n [] d = refl
decimal_digit n (x ∷ v) d = decimal_digit (n * 10 + (x - 48)) v d

pub decimal_zero : (v : List ℕ) → decimal_after 0 (48 ∷ v) ≡ decimal_after 0 v
unfolding decimal_after
decimal_zero v = refl
