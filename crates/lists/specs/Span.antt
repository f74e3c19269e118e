-- The front of a list, and what stands at its end.
use Rattle.std.specs.Prelude.{ℕ, suc, Bool, true, false, cond, ◌&&◌, List, [], ◌∷◌, eqb, take}
use Rattle.lists.specs.Bytes.{all}

-- how many bytes at the front of a list pass the test
unfoldable pub span_of : (ℕ → Bool) → List ℕ → ℕ
span_of p [] = 0
span_of p (x ∷ s) = cond (p x) (suc (span_of p s)) 0

-- the list s begins with the bytes of t
unfoldable pub begins : List ℕ → List ℕ → Bool
begins [] s = true
begins (x ∷ t) [] = false
begins (x ∷ t) (y ∷ s) = eqb y x && begins t s

-- how many bytes a list has without those at its end that pass the test
unfoldable pub trimmed_length : (ℕ → Bool) → List ℕ → ℕ
trimmed_length p [] = 0
trimmed_length p (x ∷ s) = cond (all p (x ∷ s)) 0 (suc (trimmed_length p s))

-- the list without them
abbrev pub trimmed : (ℕ → Bool) → List ℕ → List ℕ
trimmed p s = take (trimmed_length p s) s
