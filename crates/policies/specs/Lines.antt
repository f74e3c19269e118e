-- Document 01, "Policy body": the lines of a body.
use Prim.Native.Char.{code}
use Rattle.std.specs.Prelude.{ℕ, zero, suc, ◌+◌, cond, ◌&&◌, List, [], ◌∷◌, eqb, get_or, drop}
use Rattle.lists.specs.Split.{index_of, to_first}

-- the byte that ends a line
abbrev pub LF : ℕ
LF = code "\n"

-- the byte that may stand before it
abbrev pub CR : ℕ
CR = code "\r"

-- the lines of a body without their ends, LF or CRLF, the last end optional; a CR anywhere else stays in its line, where no form allows it
unfoldable pub lines : List ℕ → List (List ℕ)
lines [] = []
lines (b ∷ s) = cond (eqb b LF) ([] ∷ lines s) (cond (eqb b CR && eqb (get_or s 0 0) LF) (lines s) (to_first b (lines s)))

-- where line n of a body begins, counted from 0: the first at 0, each other after the LF of the line before it
unfoldable pub line_start : List ℕ → ℕ → ℕ
line_start s zero = 0
line_start s (suc n) = line_start s n + index_of LF (drop (line_start s n) s) + 1
