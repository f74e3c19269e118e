-- Eight bytes tested as one word: the marks of those that are no space and no byte 21 to 7E. Assumes nothing.
use mathlib.Core.Path.{refl}
use Rattle.lists.proofs.Lanes.{Expression, Marking, on_byte, below, makes_bytes, keeps_bytes, is_marking, marking, low}
use Rattle.lists.proofs.Lanes.Expression.{given, byte, plus, and, or, xor}
use Rattle.policies.specs.Texts.{printable}

-- what `mark_unprintable` does
abbrev inside : Expression
inside = xor (plus low (byte 96)) (plus low (byte 1))

abbrev unprintables : Expression
unprintables = and (or given (xor inside (byte 128))) (byte 128)

pub unprintable_marked : Marking unprintables printable
unfolding on_byte below makes_bytes keeps_bytes is_marking printable
unprintable_marked = marking unprintables printable refl
