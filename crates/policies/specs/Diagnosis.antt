-- Document 02, No. 2, "Say what is wrong with a policy", written as the paper writes it: what is wrong with a line, which line of a body offends first, and the
-- number for it. The laws `diagnosis` and `diagnosed` (proofs/Diagnosis.antt) say that the answer to a body is this, in both directions.
use Rattle.std.specs.Prelude.{ℕ, suc, ◌+◌, ◌<◌, ◌≡◌, Bool, true, false, cond, List, [], ◌∷◌, ◌++◌, eqb, length, take, drop}
use Rattle.lists.specs.Text.{text}
use Rattle.names.specs.Name.{is_pattern}
use Rattle.policies.specs.declared.Cause.{Cause}
use Rattle.policies.specs.declared.Cause.TheVariants as C
use Rattle.policies.specs.Lines.{LF, lines}
use Rattle.policies.specs.Fields.{value_of, is_line, is_named, is_version, mode_of, age_of, is_there, is_first}

-- what is wrong with the line l after the lines `earlier`. "Within a line, form comes before content"; of version, mode and max_age only the first is looked at
pub data Wrong (earlier : List (List ℕ)) (l : List ℕ) : Cause → Type 0 where
  form : is_line l ≡ false → Wrong earlier l C.Form
  version : is_line l ≡ true → is_first (text "version") earlier l ≡ true → is_version (value_of l) ≡ false → Wrong earlier l C.Version
  mode : is_line l ≡ true → is_first (text "mode") earlier l ≡ true → is_there (mode_of (value_of l)) ≡ false → Wrong earlier l C.Mode
  max_age : is_line l ≡ true → is_first (text "max_age") earlier l ≡ true → is_there (age_of (value_of l)) ≡ false → Wrong earlier l C.MaxAge
  mx : is_line l ≡ true → is_named (text "mx") l ≡ true → is_pattern (value_of l) ≡ false → Wrong earlier l C.Mx

-- lines with nothing wrong, each after those before it
pub data Sound : List (List ℕ) → Type 0 where
  none : Sound []
  one_more : {ls : List (List ℕ)} {l : List ℕ} → Sound ls → ((cause : Cause) → Wrong ls l cause → ⊥) → Sound (ls ++ (l ∷ []))

-- how many LF a list has
unfoldable pub count_lf : List ℕ → ℕ
count_lf [] = 0
count_lf (b ∷ s) = cond (eqb b LF) (suc (count_lf s)) (count_lf s)

-- no bytes, or bytes that end in LF
unfoldable pub whole_lines : List ℕ → Bool
whole_lines [] = true
whole_lines (b ∷ []) = eqb b LF
whole_lines (b ∷ c ∷ s) = whole_lines (c ∷ s)

-- line n of the body s, counted from 1, begins at the offset k: inside of the body, after whole lines, n - 1 of them
pub record Begins (s : List ℕ) (n k : ℕ) : Type 0 where
  pub inside : k < length s
  pub after : whole_lines (take k s) ≡ true
  pub counted : n ≡ count_lf (take k s) + 1

-- line n of the body s is "the first line that offends", by this cause, and k is "the byte offset where it begins"
pub record Offends (s : List ℕ) (cause : Cause) (n k : ℕ) : Type 0 where
  pub begins : Begins s n k
  pub earlier : Sound (lines (take k s))
  pub line : List ℕ
  pub later : List (List ℕ)
  pub here : lines (drop k s) ≡ line ∷ later
  pub wrong : Wrong (lines (take k s)) line cause

-- "53 line form, 54 bad version, 55 bad mode, 56 bad max_age, 57 bad mx"
pub data Means : ℕ → Cause → Type 0 where
  line_form : Means 53 C.Form
  bad_version : Means 54 C.Version
  bad_mode : Means 55 C.Mode
  bad_max_age : Means 56 C.MaxAge
  bad_mx : Means 57 C.Mx

-- what is wrong with the body s: a number, a line and an offset. "A body of zero bytes is 53 at line 1"
pub data Diagnosis : (s : List ℕ) (number line offset : ℕ) → Type 0 where
  zero_bytes : Diagnosis [] 53 1 0
  offending : {s : List ℕ} {number n k : ℕ} {cause : Cause} → Means number cause → Offends s cause n k → Diagnosis s number n k
