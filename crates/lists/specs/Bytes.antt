-- Bytes as letters, and tests on the elements of a list.
use Prim.Native.Char.{code}
use Rattle.std.specs.Prelude.{ℕ, ◌+◌, Bool, true, false, cond, ◌&&◌, ◌||◌, List, [], ◌∷◌, leb}

-- b stands between lo and hi, both included
abbrev pub within : ℕ → ℕ → ℕ → Bool
within lo hi b = leb lo b && leb b hi

-- every element passes the test
unfoldable pub all : {A : Type 0} → (A → Bool) → List A → Bool
all p [] = true
all p (x ∷ xs) = p x && all p xs

-- some element passes the test
unfoldable pub any : {A : Type 0} → (A → Bool) → List A → Bool
any p [] = false
any p (x ∷ xs) = p x || any p xs

-- bytes: every number is below 256
abbrev pub is_bytes : List ℕ → Bool
is_bytes s = all (λ (b : ℕ). leb b 255) s

-- the small letter of an ASCII capital, and any other byte as it is
unfoldable pub lower_of : ℕ → ℕ
lower_of b = cond (within (code "A") (code "Z") b) (b + 32) b
