-- Document 01, "Answer numbers": lists of numbers are bytes, four each, high first.
use Rattle.std.specs.Prelude.{ℕ, ◌+◌, ◌*◌, ◌/◌, ◌%◌, Bool, List, [], ◌∷◌, eqb, leb, length}
use Rattle.numbers.specs.declared.Words.{Words}

-- the number of four bytes, the highest first
abbrev pub word : ℕ → ℕ → ℕ → ℕ → ℕ
word a b c d = ((a * 256 + b) * 256 + c) * 256 + d

-- the numbers of a list, one for each four bytes; up to three bytes at the end are left over and count for nothing
unfoldable pub numbers : List ℕ → List ℕ
numbers [] = []
numbers (a ∷ []) = []
numbers (a ∷ b ∷ []) = []
numbers (a ∷ b ∷ c ∷ []) = []
numbers (a ∷ b ∷ c ∷ d ∷ s) = word a b c d ∷ numbers s

-- no bytes are left over
unfoldable pub is_whole : List ℕ → Bool
is_whole s = eqb (length s % 4) 0

-- the sum of some numbers
unfoldable pub sum : List ℕ → ℕ
sum [] = 0
sum (x ∷ xs) = x + sum xs

-- n is at most the bound
unfoldable pub at_most : ℕ → ℕ → Bool
at_most bound n = leb n bound

-- the list of bytes of some numbers, each below 2 ^ 32
unfoldable pub written : List ℕ → List ℕ
written [] = []
written (n ∷ ns) = n / 16777216 ∷ n / 65536 % 256 ∷ n / 256 % 256 ∷ n % 256 ∷ written ns

-- document 02, No. 7: a number below 2 ^ 64 as eight bytes, high first
unfoldable pub eight : ℕ → List ℕ
eight n =
    n / 72057594037927936 % 256
    ∷ n / 281474976710656 % 256
    ∷ n / 1099511627776 % 256
    ∷ n / 4294967296 % 256
    ∷ n / 16777216 % 256
    ∷ n / 65536 % 256
    ∷ n / 256 % 256
    ∷ n % 256
    ∷ []

-- the numbers that are still to come
abbrev pub words_in : Words → List ℕ
words_in w = numbers w.list.now
