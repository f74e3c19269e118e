-- Eight bytes tested as one word: the marks of those that may not stand in a value. Assumes nothing.
use Prim.Native.Nat.{ℕ, ◌*◌, ◌<◌}
use mathlib.Core.Path.{refl}
use lib.Bits.{xor_lt}
use Rattle.lists.proofs.Lanes.{Expression, Marking, on_word, on_byte, below, makes_bytes, keeps_bytes, is_marking, marking, low, low_below}
use Rattle.lists.proofs.Lanes.Expression.{given, byte, plus, and, or, xor}
use Rattle.txt.specs.Paper.{value_byte}

-- what `mark_non_values` does
abbrev inside : Expression
inside = xor (plus low (byte 95)) (plus low (byte 1))

-- another byte than n
abbrev differs : ℕ → Expression
differs n = plus (xor low (byte n)) (byte 127)

abbrev good : Expression
good = and (and inside (differs 61)) (differs 59)

abbrev non_values : Expression
non_values = and (or given (xor good (byte 128))) (byte 128)

pub non_values_marked : Marking non_values value_byte
unfolding on_byte below makes_bytes keeps_bytes is_marking value_byte
non_values_marked = marking non_values value_byte refl

pub differs_below : (x n : ℕ) → n * 72340172838076673 < 9223372036854775808 → on_word (xor low (byte n)) x < 9223372036854775808
differs_below x n h = xor_lt 63 (on_word low x) (on_word (byte n) x) (low_below x) h
