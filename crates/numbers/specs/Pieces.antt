-- Byte strings that stand one after another, with a list of their lengths: RDATAs, TLSA records, certificates, DNS-IDs.
use Rattle.std.specs.Prelude.{ℕ, ◌+◌, Bool, cond, ◌&&◌, List, [], ◌∷◌, eqb, leb, length, take, drop}
use Rattle.std.proofs.Math.Option.{Option, none, some}
use Rattle.numbers.specs.declared.Pieces.{Pieces}
use Rattle.numbers.specs.Numbers.{numbers, is_whole, sum}

-- s cut into pieces of these lengths, one after another, as far as s goes
unfoldable pub cut : List ℕ → List ℕ → List (List ℕ)
cut s [] = []
cut s (n ∷ ns) = take n s ∷ cut (drop n s) ns

-- the list has no left-over bytes, and its numbers sum to the total
unfoldable pub sums_to : List ℕ → ℕ → Bool
sums_to list total = is_whole list && eqb (sum (numbers list)) total

-- the pieces of s by the list of their lengths; none where the list has left-over bytes, or the lengths do not sum to the bytes of s
unfoldable pub pieces : List ℕ → List ℕ → Option (List (List ℕ))
pieces s lengths = cond (sums_to lengths (length s)) (some (cut s (numbers lengths))) none

-- a piece of at most n bytes
unfoldable pub up_to : ℕ → List ℕ → Bool
up_to n p = leb (length p) n

-- what f makes of each piece and its place, from place k on
unfoldable pub numbered : {A : Type 0} → (ℕ → List ℕ → A) → ℕ → List (List ℕ) → List A
numbered f k [] = []
numbered f k (x ∷ xs) = f k x ∷ numbered f (k + 1) xs

-- where the piece of n bytes that starts at `at` ends, of `total` bytes: no further than these go
unfoldable pub end_of : ℕ → ℕ → ℕ → ℕ
end_of total at n = cond (leb (at + n) total) (at + n) total

-- the pieces that are still to come
abbrev pub pieces_in : Pieces → List (List ℕ)
pieces_in p = cut p.bytes.now (numbers p.lengths.now)
