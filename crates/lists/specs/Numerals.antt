-- Numbers as they are written: by bytes, the highest first, and by decimal digits.
use Prim.Native.Char.{code}
use Rattle.std.specs.Prelude.{ℕ, ◌+◌, ◌-◌, ◌*◌, Bool, List, [], ◌∷◌}
use Rattle.lists.specs.Bytes.{within}

-- the number n with the bytes of a list after it, the highest first
unfoldable pub value_of : ℕ → List ℕ → ℕ
value_of n [] = n
value_of n (b ∷ t) = value_of (n * 256 + b) t

-- a digit
unfoldable pub is_digit : ℕ → Bool
is_digit b = within (code "0") (code "9") b

-- the number that digits write, after digits that wrote n
unfoldable pub decimal_after : ℕ → List ℕ → ℕ
decimal_after n [] = n
decimal_after n (d ∷ v) = decimal_after (n * 10 + (d - code "0")) v
