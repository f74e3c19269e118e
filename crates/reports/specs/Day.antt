-- Document 02, No. 9: a day's history. "From all zeros, each count equals its verdicts in the day's history, for up to 1,000,000,000 in all; the next counted one is refused with
-- 73, counts unchanged." proofs/Day.antt has the claim.
use Rattle.std.specs.Prelude.{ℕ, ◌+◌, Bool, cond, List, [], ◌∷◌, eqb, replicate}
use Rattle.lists.specs.Bytes.{any}
use Rattle.reports.specs.Calls.{counts_after}

-- counts of a day that has just begun: all zeros
abbrev pub zeros : List ℕ
zeros = replicate 32 0

-- the counts after calls with these verdicts, one after another
unfoldable pub day_after : (history counts : List ℕ) → List ℕ
day_after [] counts = counts
day_after (v ∷ vs) counts = day_after vs (counts_after v counts)

-- n is one of these
unfoldable pub is_one_of : List ℕ → ℕ → Bool
is_one_of these n = any (eqb n) these

-- how many of a history are one of these
unfoldable pub how_many : (these history : List ℕ) → ℕ
how_many these [] = 0
how_many these (v ∷ vs) = cond (is_one_of these v) 1 0 + how_many these vs
