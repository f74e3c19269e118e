-- Document 02, No. 5: the texts that are written. "Write the TXT text `v=STSv1; id=ID;` from an id, and the policy body from a mode, a lifetime and 1 to 16 patterns
-- (0 to 16 for mode none), in the order version, mode, mx lines, max_age (shortest decimal), LF after every line, one space after the colon."
use Rattle.std.specs.Prelude.{ℕ, List, [], ◌∷◌, ◌++◌}
use Rattle.lists.specs.Text.{text}
use Rattle.policies.specs.declared.Mode.{Mode}
use Rattle.policies.specs.Lines.{LF}
use Rattle.policies.specs.Paper.{mode_text}
use Rattle.writing.specs.Decimal.{decimal}

-- the TXT text of an id
unfoldable pub txt_text : List ℕ → List ℕ
txt_text id = text "v=STSv1; id=" ++ (id ++ text ";")

-- a line of a body: the name, a colon, one space, the value, LF
unfoldable pub field_line : List ℕ → List ℕ → List ℕ
field_line name value = name ++ (text ": " ++ (value ++ (LF ∷ [])))

-- the mx lines, one for each pattern, in order
unfoldable pub mx_lines : List (List ℕ) → List ℕ
mx_lines [] = []
mx_lines (p ∷ ps) = field_line (text "mx") p ++ mx_lines ps

-- the policy body of a mode, a lifetime and patterns
unfoldable pub policy_text : Mode → ℕ → List (List ℕ) → List ℕ
policy_text mode lifetime ps =
    field_line (text "version") (text "STSv1")
    ++ (field_line (text "mode") (mode_text mode)
    ++ (mx_lines ps
    ++ field_line (text "max_age") (decimal lifetime)))
