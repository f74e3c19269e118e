-- Numbers in decimal, as the max_age of a policy is written. No digit `0` stands in front of others, so no text of digits that writes the number is shorter
-- (`decimal_shortest`, in publish/proofs/Digits.antt).
use Prim.Native.Char.{code}
use Rattle.std.specs.Prelude.{ℕ, zero, suc, ◌+◌, ◌/◌, ◌%◌, cond, List, [], ◌∷◌, ◌++◌, ltb}

-- the digit of a number below ten
abbrev pub digit : ℕ → ℕ
digit n = code "0" + n

-- the digits of a number below ten are its digit; those of any other are the digits of its tenth, and then the last. The first argument bounds how many are written
unfoldable pub decimal_in : ℕ → ℕ → List ℕ
decimal_in zero n = []
decimal_in (suc k) n =
    let longer : List ℕ = decimal_in k (n / 10) ++ (digit (n % 10) ∷ []) in
    cond (ltb n 10) (digit n ∷ []) longer

-- all of them: a number has at most as many digits as it counts, and zero has one
unfoldable pub decimal : ℕ → List ℕ
decimal n = decimal_in (suc n) n
