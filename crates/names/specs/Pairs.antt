-- Document 02, No. 4: two names are compared by their lengths first, then by byte pairs from the right.
use Rattle.std.specs.Prelude.{ℕ, suc, false, cond, List, [], ◌∷◌, reverse, eqb, length}
use Rattle.lists.specs.Equal.{same_letter, same_text}
use Rattle.names.specs.declared.Comparison.{Comparison}

-- how many pairs of two lists of one length are read from their front: up to and with the first that differs, ignoring ASCII case, or all
unfoldable pub pairs_read : List ℕ → List ℕ → ℕ
pairs_read [] b = 0
pairs_read (x ∷ a) [] = 0
pairs_read (x ∷ a) (y ∷ b) = suc (cond (same_letter x y) (pairs_read a b) 0)

-- texts of unequal lengths are not equal, and no pair is read; texts of one length are taken from the right, equal where all pairs are the same
unfoldable pub comparison : List ℕ → List ℕ → Comparison
comparison a b =
    cond (eqb (length a) (length b))
    (record { equal = same_text (reverse a) (reverse b); pairs = pairs_read (reverse a) (reverse b) })
    (record { equal = false; pairs = 0 })
