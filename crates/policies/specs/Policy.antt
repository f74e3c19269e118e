-- Document 01, "Policy body": what a body is read as, and the answer to it. Document 02, No. 2: what is wrong with a policy.
use Rattle.std.specs.Prelude.{ℕ, ◌+◌, Bool, true, false, cond, ◌&&◌, List, [], ◌∷◌, eqb, ltb, length}
use Rattle.std.proofs.Math.Option.{Option, none, some}
use Rattle.lists.specs.Text.{text}
use Rattle.names.specs.Name.{some_matches}
use Rattle.clock.specs.declared.Lifetime.{Lifetime}
use Rattle.clock.specs.Clock.{lifetime_of}
use Rattle.policies.specs.declared.Mode.{Mode}
use Rattle.policies.specs.declared.Mode.TheVariants as M
use Rattle.policies.specs.declared.Cause.{Cause}
use Rattle.policies.specs.declared.Cause.TheVariants as C
use Rattle.policies.specs.declared.Fault.{Fault}
use Rattle.policies.specs.declared.PolicyAnswer.{PolicyAnswer}
use Rattle.policies.specs.declared.PolicyFor.{PolicyFor}
use Rattle.policies.specs.Lines.{lines, line_start}
use Rattle.policies.specs.Fields.{any_named, first_named, patterns, mode_of, age_of, cause_after}

-- a policy: its mode, its lifetime and its patterns, in order
pub record Policy : Type 0 where
  pub mode : Mode
  pub lifetime : Lifetime
  pub patterns : List (List ℕ)

-- what a body is read as: too long, malformed by its first fault, without a required field, or a policy
pub data Reading : Type 0 where
  too_long : Reading
  malformed : Fault → Reading
  incomplete : Reading
  policy : Policy → Reading

-- the most bytes of a body
abbrev pub longest_body : ℕ
longest_body = 65536

-- a cause in the line n of the body s, counted from 0: the fault gives the line counted from 1 and the place where it begins
unfoldable pub fault_at : List ℕ → ℕ → Cause → Fault
fault_at s n cause = record { cause = cause; line = n + 1; offset = line_start s n }

-- the fault of the line n where it has a cause, else the later one
unfoldable pub or_later : List ℕ → ℕ → Option Cause → Option Fault → Option Fault
or_later s n none later = later
or_later s n (some cause) later = some (fault_at s n cause)

-- the first fault of the body s in the lines that follow the lines `earlier`, which are asked only for their names and their number, so their order is free
unfoldable pub first_fault : List ℕ → List (List ℕ) → List (List ℕ) → Option Fault
first_fault s earlier [] = none
first_fault s earlier (l ∷ ls) = or_later s (length earlier) (cause_after earlier l) (first_fault s (l ∷ earlier) ls)

-- the first fault of a body; zero bytes are a fault of form in line 1
unfoldable pub body_fault : List ℕ → Option Fault
body_fault s = cond (eqb (length s) 0) (some (fault_at s 0 C.Form)) (first_fault s [] (lines s))

-- the mode that a value names, where there is a value
unfoldable pub mode_in : Option (List ℕ) → Option Mode
mode_in none = none
mode_in (some v) = mode_of v

-- the max_age that a value writes, where there is a value
unfoldable pub age_in : Option (List ℕ) → Option ℕ
age_in none = none
age_in (some v) = age_of v

-- the first mode of the lines
abbrev pub first_mode : List (List ℕ) → Option Mode
first_mode ls = mode_in (first_named (text "mode") ls)

-- the first max_age of the lines
abbrev pub first_age : List (List ℕ) → Option ℕ
first_age ls = age_in (first_named (text "max_age") ls)

-- a pattern is there, unless the mode is none
unfoldable pub has_patterns : Mode → List (List ℕ) → Bool
has_patterns M.Enforce ps = ltb 0 (length ps)
has_patterns M.Testing ps = ltb 0 (length ps)
has_patterns M.None ps = true

-- a policy where version, mode and max_age are there, and an mx unless the mode is none; a max_age above the longest lifetime counts as the longest
unfoldable pub complete : Bool → Option Mode → Option ℕ → List (List ℕ) → Reading
complete false mode age ps = incomplete
complete true none age ps = incomplete
complete true (some mode) none ps = incomplete
complete true (some mode) (some age) ps = cond (has_patterns mode ps) (policy (record { mode = mode; lifetime = lifetime_of age; patterns = ps })) incomplete

-- what lines without a fault are read as
unfoldable pub completed : List (List ℕ) → Reading
completed ls = complete (any_named (text "version") ls) (first_mode ls) (first_age ls) (patterns ls)

-- the first fault decides; without one the required fields do
unfoldable pub judged : Option Fault → List (List ℕ) → Reading
judged (some fault) ls = malformed fault
judged none ls = completed ls

-- what a body is read as, in the order 50, 53 to 57, 52
unfoldable pub read_body : List ℕ → Reading
read_body s = cond (ltb longest_body (length s)) too_long (judged (body_fault s) (lines s))

-- the number of a mode
unfoldable pub mode_number : Mode → ℕ
mode_number M.Enforce = 1
mode_number M.Testing = 2
mode_number M.None = 3

-- the number of a cause: "53 line form, 54 bad version, 55 bad mode, 56 bad max_age, 57 bad mx"
unfoldable pub cause_number : Cause → ℕ
cause_number C.Form = 53
cause_number C.Version = 54
cause_number C.Mode = 55
cause_number C.MaxAge = 56
cause_number C.Mx = 57

-- a refusal with this number and this line that offends, counted from 1, which begins at this offset
abbrev pub refused_at : (number line offset : ℕ) → PolicyAnswer
refused_at number line offset = record { number = number; mode = 0; lifetime = 0; mx_count = 0; line = line; offset = offset }

-- a refusal that names no line has its number, and zeros
abbrev pub refused : ℕ → PolicyAnswer
refused number = refused_at number 0 0

-- the refusal of a fault: "Besides the number return the first line that offends, counted from 1, and the byte offset where it begins"
unfoldable pub fault_answer : Fault → PolicyAnswer
fault_answer fault = refused_at (cause_number fault.cause) fault.line fault.offset

-- the papers' number for each; for a fault its line, and for a policy its mode, its lifetime and the count of `mx` lines
unfoldable pub answer_to : Reading → PolicyAnswer
answer_to too_long = refused 50
answer_to (malformed fault) = fault_answer fault
answer_to incomplete = refused 52
answer_to (policy p) = record { number = 7; mode = mode_number p.mode; lifetime = p.lifetime.0; mx_count = length p.patterns; line = 0; offset = 0 }

-- the answer to a body
unfoldable pub policy_answer : List ℕ → PolicyAnswer
policy_answer s = answer_to (read_body s)

-- the patterns of a body, refused or not
unfoldable pub patterns_of : List ℕ → List (List ℕ)
patterns_of s = patterns (lines s)

-- the answer to a body, and whether it is accepted and one of its patterns matches the host
unfoldable pub policy_for : (body host : List ℕ) → PolicyFor
policy_for s host = record { answer = policy_answer s; listed = some_matches (patterns_of s) host && eqb (policy_answer s).number 7 }
