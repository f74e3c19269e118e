-- How the code tests and compares in one pass: not the paper's words, but the same answers (proofs/Name.antt, proofs/Cover.antt and proofs/Match.antt join them).
use Prim.Native.Char.{code}
use Rattle.std.specs.Prelude.{ℕ, ◌-◌, Bool, cond, not, ◌&&◌, List, eqb, ltb, length, get_or, drop}
use Rattle.lists.specs.Bytes.{within}
use Rattle.lists.specs.Equal.{same_text}
use Rattle.lists.specs.Split.{index_of}
use Rattle.names.specs.Name.{is_starred, after_first}

-- what a label asks besides its bytes: 1 to 63 of them, no hyphen at either end
unfoldable pub label_ends : List ℕ → Bool
label_ends l = within 1 63 (length l) && not (eqb (get_or l 0 0) (code "-")) && not (eqb (get_or l (length l - 1) 0) (code "-"))

-- n has a dot, and what follows the first is the text `rest`, ignoring ASCII case
unfoldable pub follows_dot : List ℕ → List ℕ → Bool
follows_dot rest n = ltb (index_of (code ".") n) (length n) && same_text rest (after_first n)

-- what follows the first dot of n is what p has behind `*.`; or, where p begins otherwise, n is p; both ignoring ASCII case: for a name n, p matches n
unfoldable pub covers_name : List ℕ → List ℕ → Bool
covers_name p n = cond (is_starred p) (follows_dot (drop 2 p) n) (same_text p n)
