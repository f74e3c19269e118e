-- Read this first. Document 02, No. 9: "Keep, for one policy domain and one day, counts of sessions: delivered at 3, 4 or 5 is a success, and each of 22 to 28 is a failure
-- under an RFC 8460 result type (22 dnssec-invalid, 24 starttls-not-supported, 23 and 25 to 28 validation-failure). The four counts (success, then the types as named) stand
-- in a lent buffer, eight bytes each, high first".
use Rattle.std.specs.Prelude.{ℕ, ◌+◌, ◌*◌, cond, ◌||◌, List, [], ◌∷◌, eqb, take, drop}
use Rattle.std.proofs.Math.Option.{Option, none, some}
use Rattle.lists.specs.Bytes.{within}
use Rattle.lists.specs.Numerals.{value_of}
use Rattle.numbers.specs.Numbers.{sum, eight}
use Rattle.writing.specs.Over.{over}

-- what a session is counted as
pub data Result : Type 0 where
  success : Result
  dnssec_invalid : Result
  starttls_not_supported : Result
  validation_failure : Result

-- what a session with this verdict is counted as; other verdicts aren't counted
unfoldable pub result_of : ℕ → Option Result
result_of verdict =
    cond (within 3 5 verdict) (some success)
    (cond (eqb verdict 22) (some dnssec_invalid)
    (cond (eqb verdict 24) (some starttls_not_supported)
    (cond (eqb verdict 23 || within 25 28 verdict) (some validation_failure)
    none)))

-- the place of its count among the four
unfoldable pub place_of : Result → ℕ
place_of success = 0
place_of dnssec_invalid = 1
place_of starttls_not_supported = 2
place_of validation_failure = 3

-- the eight bytes at a place, as one number, high first
unfoldable pub count_at : List ℕ → ℕ → ℕ
count_at counts k = value_of 0 (take 8 (drop (8 * k) counts))

-- the four counts
unfoldable pub counts_of : List ℕ → List ℕ
counts_of counts = count_at counts 0 ∷ count_at counts 1 ∷ count_at counts 2 ∷ count_at counts 3 ∷ []

-- their total
unfoldable pub total_of : List ℕ → ℕ
total_of counts = sum (counts_of counts)

-- the counts with one session more at a place: eight bytes are written there, and all others are as they were
unfoldable pub one_more : ℕ → List ℕ → List ℕ
one_more k counts = over (8 * k) (eight (count_at counts k + 1)) counts
