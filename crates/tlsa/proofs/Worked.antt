-- Records and answers at the edges of document 01's rules, by computation from raw lists. Assumes nothing.
use Prim.Native.Nat.{ℕ}
use mathlib.Core.Path.{◌≡◌, refl}
use mathlib.Core.Bool.{true, false}
use mathlib.Core.List.{List, [], ◌∷◌, ◌++◌, map}
use mathlib.Core.Option.{none, some}
use lib.ListN.{replicate}
use Rattle.lists.specs.Bytes.{all, any}
use Rattle.numbers.specs.Numbers.{numbers, is_whole, sum, written}
use Rattle.numbers.specs.Pieces.{cut, sums_to, up_to}
use Rattle.tlsa.specs.Record.{short, is_usage, is_selector, data_fits, usable, is_sha512, ignored, counts}
use Rattle.tlsa.specs.Answer.{answer_of, set_fits, answer_fits, needs_of, taken_of, read_of, lookup_verdict}
use Rattle.tlsa.specs.Answer.{Secure, Insecure, Absent, Failed}
use Rattle.tlsa.specs.declared.Needs.TheVariants.{Tls, Authentication}
use Rattle.tlsa.specs.declared.Read.TheVariants.{LookupFailed, Taken, NextName}

-- a record with n bytes of data
abbrev rec : ℕ → ℕ → ℕ → ℕ → List ℕ
rec usage selector matching_type n = usage ∷ selector ∷ matching_type ∷ replicate n 7

-- the recommended `3 1 1` and `2 0 1`, and the other forms
usable_ones :
    map usable
    (rec 3 1 1 32 ∷ rec 2 0 1 32 ∷ rec 3 0 2 64 ∷ rec 2 1 2 64 ∷ rec 3 0 0 1 ∷ rec 2 1 0 300
    ∷ [])
    ≡ replicate 6 true
unfolding usable short is_usage is_selector data_fits
usable_ones = refl

-- another usage, selector or matching type, data of another length, and records without the three bytes
unusable_ones :
    map usable
    (rec 0 1 1 32 ∷ rec 1 1 1 32 ∷ rec 4 1 1 32 ∷ rec 3 2 1 32 ∷ rec 3 1 3 64 ∷ rec 3 1 0 0 ∷ rec 3 1 1 31
    ∷ rec 3 1 1 33 ∷ rec 3 1 1 64 ∷ rec 3 1 2 32 ∷ rec 3 1 2 65
    ∷ [] ∷ (3 ∷ []) ∷ (3 ∷ 1 ∷ [])
    ∷ [])
    ≡ replicate 14 false
unfolding usable short is_usage is_selector data_fits
unusable_ones = refl

-- Strongest digest only. `3 1 1` is ignored beside `3 1 2`; not where its data have 63 or 65 bytes, beside another selector or usage, beside one that is not usable,
-- or beside another matching type.
ignored_beside :
    map (λ (s : List ℕ). ignored (rec 3 1 1 32 ∷ s ∷ []) (rec 3 1 1 32))
    (rec 3 1 2 64 ∷ rec 3 1 2 63 ∷ rec 3 1 2 65 ∷ rec 3 0 2 64 ∷ rec 2 1 2 64 ∷ rec 2 0 2 64 ∷ rec 1 1 2 64 ∷ rec 3 2 2 64 ∷ rec 3 1 0 64 ∷ rec 3 1 1 32 ∷ rec 3 1 3 64
    ∷ [])
    ≡ true ∷ replicate 10 false
unfolding ignored is_sha512 any usable short is_usage is_selector data_fits
ignored_beside = refl

-- beside `3 1 2` and `2 0 2`: types 0, 1 and 2 of the same usage and selector, type 1 of the other two, and one that is not usable
counting_beside :
    map (counts (rec 3 1 2 64 ∷ rec 2 0 2 64 ∷ []))
    (rec 3 1 0 1 ∷ rec 3 1 1 32 ∷ rec 3 1 2 64 ∷ rec 2 0 0 1 ∷ rec 2 0 1 32 ∷ rec 2 0 2 64 ∷ rec 3 0 1 32 ∷ rec 2 1 1 32 ∷ rec 1 1 2 64
    ∷ [])
    ≡ true ∷ false ∷ true ∷ true ∷ false ∷ true ∷ true ∷ true ∷ false ∷ []
unfolding ignored is_sha512 any usable short is_usage is_selector data_fits
counting_beside = refl

-- each pair of usage and selector has its own: of the SHA-256 records of all four, beside one SHA-512 record
one_pair_each :
    map (λ (s : List ℕ). map (ignored (s ∷ [])) (rec 2 0 1 32 ∷ rec 2 1 1 32 ∷ rec 3 0 1 32 ∷ rec 3 1 1 32 ∷ []))
    (rec 2 0 2 64 ∷ rec 2 1 2 64 ∷ rec 3 0 2 64 ∷ rec 3 1 2 64 ∷ [])
    ≡ (true ∷ false ∷ false ∷ false ∷ [])
    ∷ (false ∷ true ∷ false ∷ false ∷ [])
    ∷ (false ∷ false ∷ true ∷ false ∷ [])
    ∷ (false ∷ false ∷ false ∷ true ∷ [])
    ∷ []
unfolding ignored is_sha512 any usable short is_usage is_selector data_fits
one_pair_each = refl

-- lists of one record, `1 1 1`, `3 1 1`, and one of 2 bytes
abbrev one : List ℕ
one = written (35 ∷ [])

abbrev two : List ℕ
two = written (35 ∷ 2 ∷ [])

readings :
    read_of (answer_of Secure one (rec 3 1 1 32))
    ∷ read_of (answer_of Secure one (rec 1 1 1 32))
    ∷ read_of (answer_of Secure two (rec 3 1 1 32 ++ (3 ∷ 1 ∷ [])))
    ∷ read_of (answer_of Secure [] [])
    ∷ read_of (answer_of Insecure one (rec 3 1 1 32))
    ∷ read_of (answer_of Absent one (rec 3 1 1 32))
    ∷ read_of (answer_of Failed one (rec 3 1 1 32))
    ∷ []
    ≡ Taken Authentication ∷ Taken Tls ∷ LookupFailed ∷ NextName ∷ NextName ∷ NextName ∷ LookupFailed ∷ []
unfolding read_of answer_of taken_of needs_of any short usable is_usage is_selector data_fits cut numbers written
readings = refl

verdicts :
    lookup_verdict (answer_of Failed [] [])
    ∷ lookup_verdict (answer_of Secure (written (2 ∷ [])) (3 ∷ 1 ∷ []))
    ∷ lookup_verdict (answer_of Secure (written (3 ∷ [])) (3 ∷ 1 ∷ 1 ∷ []))
    ∷ lookup_verdict (answer_of Absent (written (2 ∷ [])) (3 ∷ 1 ∷ []))
    ∷ []
    ≡ some 22 ∷ some 22 ∷ none ∷ none ∷ []
unfolding lookup_verdict answer_of any short cut numbers written
verdicts = refl

-- 32 records and 33, 4,096 bytes and 4,097, lengths that do not sum, left-over bytes; and the same where the answer is not secure
limits :
    answer_fits Secure (replicate 128 0) []
    ∷ answer_fits Secure (replicate 132 0) []
    ∷ answer_fits Secure (written (4096 ∷ [])) (replicate 4096 3)
    ∷ answer_fits Secure (written (4097 ∷ [])) (replicate 4097 3)
    ∷ answer_fits Secure (written (4 ∷ [])) (replicate 5 3)
    ∷ answer_fits Secure (written (5 ∷ [])) (replicate 4 3)
    ∷ answer_fits Secure (0 ∷ 0 ∷ 0 ∷ 4 ∷ 0 ∷ []) (replicate 4 3)
    ∷ answer_fits Absent (0 ∷ 0 ∷ 0 ∷ 4 ∷ 0 ∷ []) (replicate 5 3)
    ∷ []
    ≡ true ∷ false ∷ true ∷ false ∷ false ∷ false ∷ false ∷ true ∷ []
unfolding answer_fits set_fits all up_to sums_to is_whole sum cut numbers written
limits = refl
