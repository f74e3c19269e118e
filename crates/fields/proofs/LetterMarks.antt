-- Eight bytes tested as one word: the marks of those that are neither letter nor digit. Assumes nothing.
use Prim.Native.Nat.{ℕ, ◌<◌}
use mathlib.Core.Path.{refl}
use lib.Bits.{or_lt}
use lib.Dec.{lit<}
use Rattle.lists.proofs.Lanes.{Expression, Marking, on_word, on_byte, below, makes_bytes, keeps_bytes, is_marking, marking, low, low_below}
use Rattle.lists.proofs.Lanes.Expression.{given, byte, plus, and, or, xor}
use Rattle.fields.specs.Name.{letter_or_digit}

-- what `mark_non_letters` does
abbrev small : Expression
small = or low (byte 32)

abbrev letters : Expression
letters = xor (plus small (byte 31)) (plus small (byte 5))

abbrev digits : Expression
digits = xor (plus low (byte 80)) (plus low (byte 70))

abbrev non_letters : Expression
non_letters = and (or given (xor (or letters digits) (byte 128))) (byte 128)

pub non_letters_marked : Marking non_letters letter_or_digit
unfolding on_byte below makes_bytes keeps_bytes is_marking letter_or_digit
non_letters_marked = marking non_letters letter_or_digit refl

pub small_below : (x : ℕ) → on_word small x < 9223372036854775808
small_below x = or_lt 63 (on_word low x) 2314885530818453536 (low_below x) (lit< tt)
