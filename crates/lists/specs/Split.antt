-- The first place of a byte in a list, and the pieces between its places.
use Rattle.std.specs.Prelude.{ℕ, suc, Bool, cond, not, List, [], ◌∷◌, ◌++◌, eqb}
use Rattle.lists.specs.Bytes.{all}

-- the index of the first b of a list, or the list's length where there is none
unfoldable pub index_of : ℕ → List ℕ → ℕ
index_of b [] = 0
index_of b (x ∷ s) = cond (eqb x b) 0 (suc (index_of b s))

-- x goes to the front of the first piece
unfoldable pub to_first : ℕ → List (List ℕ) → List (List ℕ)
to_first x [] = (x ∷ []) ∷ []
to_first x (p ∷ ps) = (x ∷ p) ∷ ps

-- the pieces of a list between its bytes b, one more than it has bytes b: b begins a new piece, any other byte is the first of its piece
unfoldable pub split : ℕ → List ℕ → List (List ℕ)
split b [] = [] ∷ []
split b (x ∷ s) = cond (eqb x b) ([] ∷ split b s) (to_first x (split b s))

-- no byte of a list is b
abbrev pub lacks : ℕ → List ℕ → Bool
lacks b s = all (λ (x : ℕ). not (eqb x b)) s

-- pieces joined by the byte b
unfoldable pub join : ℕ → List (List ℕ) → List ℕ
join b [] = []
join b (p ∷ []) = p
join b (p ∷ q ∷ ps) = p ++ (b ∷ join b (q ∷ ps))
