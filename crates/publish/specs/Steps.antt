-- Not of document 02: what the private functions write and measure. A reader of the promises needs none of it.
use Rattle.std.specs.Prelude.{ℕ, ◌+◌, ◌≡◌, cond, List, [], ◌++◌, length, eqb, Result, Ok, Err}
use Rattle.std.proofs.Math.Option.{none, some}
use Rattle.lists.specs.Check.{Check, refusal_of}
use Rattle.lists.specs.Text.{text}
use Rattle.policies.specs.declared.Mode.{Mode}
use Rattle.policies.specs.declared.Mode.TheVariants as M
use Rattle.policies.specs.Fields.{is_named, value_of}
use Rattle.policies.specs.Paper.{mode_text}
use Rattle.writing.specs.Decimal.{decimal}
use Rattle.publish.specs.declared.body.Policy.{Policy}
use Rattle.publish.specs.declared.Refusal.{Refusal}
use Rattle.publish.specs.declared.Refusal.TheVariants as R
use Rattle.publish.specs.Patterns.{patterns_in}
use Rattle.publish.specs.Texts.{field_line, policy_text}

-- the lines before the mx lines
unfoldable pub head_text : Mode → List ℕ
head_text mode = field_line (text "version") (text "STSv1") ++ field_line (text "mode") (mode_text mode)

-- the line after them
unfoldable pub age_line : ℕ → List ℕ
age_line lifetime = field_line (text "max_age") (decimal lifetime)

-- how many bytes a body has whose mx lines have m
unfoldable pub body_length : Mode → ℕ → ℕ → ℕ
body_length mode lifetime m = length (head_text mode) + m + length (age_line lifetime)

-- what a line of a body is rewritten to: an mx line to one of the same pattern, any other to nothing
unfoldable pub kept_line : List ℕ → List ℕ
kept_line l = cond (is_named (text "mx") l) (field_line (text "mx") (value_of l)) []

-- the number of a refusal
abbrev pub number_of : Refusal → ℕ
number_of R.BadMode = 67
number_of R.BadId = 80
number_of R.BadPatterns = 81
number_of R.BadLifetime = 82
number_of R.OutputShort = 83
number_of (R.BadBody number) = number

-- the mode of a number, or the refusal of one that is none of them
unfoldable pub moded : ℕ → Result Mode Refusal
moded n = cond (eqb n 1) (Ok M.Enforce) (cond (eqb n 2) (Ok M.Testing) (cond (eqb n 3) (Ok M.None) (Err R.BadMode)))

-- the body of a policy
abbrev pub bytes_of : Policy → List ℕ
bytes_of p = policy_text p.mode p.lifetime (patterns_in p.patterns)

-- a policy has this body where nothing is refused, and else the refusal
unfoldable pub agrees : Result Policy Refusal → List Check → List ℕ → Type 0
agrees (Ok p) checks t = (refusal_of checks ≡ none) × (bytes_of p ≡ t)
agrees (Err e) checks t = refusal_of checks ≡ some (number_of e)
