-- Document 01, "Policy body": the lines of a body as fields, what they must hold, and what is wrong with a line.
use Prim.Native.Char.{code}
use Rattle.std.specs.Prelude.{ℕ, ◌+◌, ◌*◌, ◌-◌, Bool, true, false, cond, not, ◌&&◌, List, [], ◌∷◌, ltb, length}
use Rattle.std.proofs.Math.Option.{Option, none, some}
use Rattle.lists.specs.Bytes.{within, all, any}
use Rattle.lists.specs.Equal.{same_bytes}
use Rattle.lists.specs.Split.{index_of}
use Rattle.lists.specs.Text.{text}
use Rattle.names.specs.Name.{is_pattern}
use Rattle.fields.specs.Name.{before, after, has_name}
use Rattle.fields.specs.Blank.{after_blanks, before_blanks}
use Rattle.policies.specs.declared.Mode.{Mode}
use Rattle.policies.specs.declared.Mode.TheVariants as M
use Rattle.policies.specs.declared.Cause.{Cause}
use Rattle.policies.specs.declared.Cause.TheVariants as C
use Rattle.policies.specs.Texts.{is_value}

-- what stands before the first colon of a line
unfoldable pub name_of : List ℕ → List ℕ
name_of l = before (code ":") l

-- what follows the first colon of a line, without the blanks on both sides
unfoldable pub value_of : List ℕ → List ℕ
value_of l = before_blanks (after_blanks (after (code ":") l))

-- the form of a line: name, `:`, blanks, value, blanks
unfoldable pub is_line : List ℕ → Bool
is_line l = has_name (code ":") l && is_value (value_of l)

-- the line has a colon, and this name before it
unfoldable pub is_named : List ℕ → List ℕ → Bool
is_named name l = ltb (index_of (code ":") l) (length l) && same_bytes (name_of l) name

-- one of the lines has this name
abbrev pub any_named : List ℕ → List (List ℕ) → Bool
any_named name ls = any (is_named name) ls

-- the value of the first line of this name, where there is one
unfoldable pub first_named : List ℕ → List (List ℕ) → Option (List ℕ)
first_named name [] = none
first_named name (l ∷ ls) = cond (is_named name l) (some (value_of l)) (first_named name ls)

-- the patterns: the values of the lines named `mx`, in order
unfoldable pub patterns : List (List ℕ) → List (List ℕ)
patterns [] = []
patterns (l ∷ ls) = cond (is_named (text "mx") l) (value_of l ∷ patterns ls) (patterns ls)

-- a version: `STSv1`
unfoldable pub is_version : List ℕ → Bool
is_version v = same_bytes v (text "STSv1")

-- the mode that a value names: `enforce`, `testing` or `none`, and no other
unfoldable pub mode_of : List ℕ → Option Mode
mode_of v = cond (same_bytes v (text "enforce")) (some M.Enforce) (cond (same_bytes v (text "testing")) (some M.Testing) (cond (same_bytes v (text "none")) (some M.None) none))

-- a digit
unfoldable pub is_digit : ℕ → Bool
is_digit b = within (code "0") (code "9") b

-- the number that digits write, after digits that wrote n
unfoldable pub decimal_after : ℕ → List ℕ → ℕ
decimal_after n [] = n
decimal_after n (d ∷ v) = decimal_after (n * 10 + (d - code "0")) v

-- the max_age that a value writes: 1 to 10 digits, and nothing else
unfoldable pub age_of : List ℕ → Option ℕ
age_of v = cond (within 1 10 (length v) && all is_digit v) (some (decimal_after 0 v)) none

-- there is one
unfoldable pub is_there : {A : Type 0} → Option A → Bool
is_there none = false
is_there (some a) = true

-- the line l has this name, and none of the lines before it has
unfoldable pub is_first : List ℕ → List (List ℕ) → List ℕ → Bool
is_first name earlier l = is_named name l && not (any_named name earlier)

-- what is wrong with the line l after the lines `earlier`, if anything; form comes before content
unfoldable pub cause_after : List (List ℕ) → List ℕ → Option Cause
cause_after earlier l =
    cond (not (is_line l)) (some C.Form)
    (cond (is_first (text "version") earlier l && not (is_version (value_of l))) (some C.Version)
    (cond (is_first (text "mode") earlier l && not (is_there (mode_of (value_of l)))) (some C.Mode)
    (cond (is_first (text "max_age") earlier l && not (is_there (age_of (value_of l)))) (some C.MaxAge)
    (cond (is_named (text "mx") l && not (is_pattern (value_of l))) (some C.Mx)
    none))))
