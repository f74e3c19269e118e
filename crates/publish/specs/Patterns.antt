-- Not of document 02: the patterns that the code's two iterators have still to give.
use Rattle.std.specs.Prelude.{ℕ, List}
use Rattle.numbers.specs.Pieces.{pieces_in}
use Rattle.policies.specs.Policy.{patterns_of}
use Rattle.publish.specs.declared.body.MxLines.{MxLines}
use Rattle.publish.specs.declared.body.Patterns.{Patterns}
use Rattle.publish.specs.declared.body.Patterns.TheVariants as S

-- those of a body's mx lines
abbrev pub mx_in : MxLines → List (List ℕ)
mx_in m = patterns_of m.body.now

-- those of either
abbrev pub patterns_in : Patterns → List (List ℕ)
patterns_in (S.Given pieces) = pieces_in pieces
patterns_in (S.Kept lines) = mx_in lines
