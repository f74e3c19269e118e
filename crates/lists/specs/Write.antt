-- Lent memory after a text was written into its front.
use Rattle.std.specs.Prelude.{ℕ, cond, List, ◌++◌, leb, length, drop}

-- the text t over the front of d and the rest of d as it was; all of d as it was where t does not fit
unfoldable pub wrote_front : List ℕ → List ℕ → List ℕ
wrote_front t d = cond (leb (length t) (length d)) (t ++ drop (length t) d) d
