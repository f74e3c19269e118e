-- Equal lists of bytes, with and without ASCII case.
use Rattle.std.specs.Prelude.{ℕ, Bool, true, false, ◌&&◌, List, [], ◌∷◌, eqb}
use Rattle.lists.specs.Bytes.{lower_of}

-- the lists are equally long, and the test holds of each two elements at the same place
unfoldable pub agree : (ℕ → ℕ → Bool) → List ℕ → List ℕ → Bool
agree p [] [] = true
agree p [] (y ∷ ys) = false
agree p (x ∷ xs) [] = false
agree p (x ∷ xs) (y ∷ ys) = p x y && agree p xs ys

-- the same byte
unfoldable pub same_byte : ℕ → ℕ → Bool
same_byte x y = eqb x y

-- the same byte, where an ASCII capital and its small letter count as one
unfoldable pub same_letter : ℕ → ℕ → Bool
same_letter x y = eqb (lower_of x) (lower_of y)

-- the same bytes
abbrev pub same_bytes : List ℕ → List ℕ → Bool
same_bytes a b = agree same_byte a b

-- the same text, ignoring ASCII case
abbrev pub same_text : List ℕ → List ℕ → Bool
same_text a b = agree same_letter a b
