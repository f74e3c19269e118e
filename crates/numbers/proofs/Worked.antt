-- Lists of numbers and their pieces, by computation.
use mathlib.Core.Path.{◌≡◌, refl}
use mathlib.Core.Bool.{true, false}
use mathlib.Core.List.{[], ◌∷◌, ◌++◌}
use mathlib.Core.Option.{none, some}
use Rattle.lists.specs.Text.{text}
use Rattle.numbers.specs.Numbers.{numbers, is_whole, sum, written}
use Rattle.numbers.specs.Pieces.{cut, sums_to, pieces}

-- the highest byte comes first, and left-over bytes count for nothing
high_first : numbers (0 ∷ 0 ∷ 1 ∷ 2 ∷ 255 ∷ 255 ∷ 255 ∷ 255 ∷ 7 ∷ 7 ∷ 7 ∷ []) ≡ 258 ∷ 4294967295 ∷ []
unfolding numbers
high_first = refl

whole : is_whole [] ∷ is_whole (0 ∷ []) ∷ is_whole (0 ∷ 0 ∷ []) ∷ is_whole (0 ∷ 0 ∷ 0 ∷ []) ∷ is_whole (0 ∷ 0 ∷ 0 ∷ 0 ∷ []) ∷ [] ≡ true ∷ false ∷ false ∷ false ∷ true ∷ []
unfolding is_whole
whole = refl

-- three pieces, one of them empty
three : pieces (text "abcde") (written (2 ∷ 0 ∷ 3 ∷ [])) ≡ some (text "ab" ∷ [] ∷ text "cde" ∷ [])
unfolding pieces sums_to is_whole numbers sum cut written
three = refl

-- lengths that sum to less or to more, and a left-over byte: none
none_there :
    pieces (text "abcde") (written (2 ∷ 2 ∷ []))
    ∷ pieces (text "abcde") (written (2 ∷ 4 ∷ []))
    ∷ pieces (text "abcde") (written (5 ∷ []) ++ (0 ∷ []))
    ∷ pieces (text "a") []
    ∷ []
    ≡ none ∷ none ∷ none ∷ none ∷ []
unfolding pieces sums_to is_whole numbers sum cut written
none_there = refl

-- no lengths and no bytes: no piece, and nothing wrong
no_piece : pieces [] [] ≡ some []
unfolding pieces sums_to is_whole numbers sum cut
no_piece = refl
