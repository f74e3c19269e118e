-- Bytes as one number: how the code compares and tests eight at a time. Contracts of the code's steps; no answer of the library cites them.
use Rattle.std.specs.Prelude.{ℕ, ◌+◌, ◌*◌, Bool, cond, List, [], ◌∷◌, leb, length, take, drop}

-- the number that bytes write, the lowest first
unfoldable pub number_of : List ℕ → ℕ
number_of [] = 0
number_of (b ∷ s) = b + 256 * number_of s

-- the eight bytes from i on
abbrev pub eight_at : List ℕ → ℕ → List ℕ
eight_at s i = take 8 (drop i s)

-- the first eight bytes, or none where there are fewer
unfoldable pub first_eight : List ℕ → List ℕ
first_eight s = cond (leb 8 (length s)) (take 8 s) []

-- the marks of a test: a number with 128 for each byte that does not pass it and 0 for each that does, the lowest first
unfoldable pub marks : (ℕ → Bool) → List ℕ → ℕ
marks p [] = 0
marks p (b ∷ s) = cond (p b) 0 128 + 256 * marks p s
