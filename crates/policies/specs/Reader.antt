-- The reader's own steps, for the contracts of its private functions: not the paper's words, but the same answers (proofs/Same.antt and proofs/Answers.antt join them).
use Rattle.std.specs.Prelude.{ℕ, ◌+◌, ◌-◌, Bool, true, false, cond, ◌&&◌, ◌||◌, List, eqb, leb, ltb, length, get_or, take, drop, Option, Some, None, Result, Ok, Err}
use Rattle.std.proofs.Math.Option as O
use Rattle.std.proofs.Math.Option.{none, some}
use Rattle.lists.specs.Equal.{same_bytes}
use Rattle.lists.specs.Split.{index_of}
use Rattle.lists.specs.Text.{text}
use Rattle.names.specs.Name.{is_pattern, matches_name, some_matches}
use Rattle.clock.specs.Clock.{capped_age}
use Rattle.policies.specs.declared.Mode.{Mode}
use Rattle.policies.specs.declared.Mode.TheVariants as M
use Rattle.policies.specs.declared.Cause.{Cause}
use Rattle.policies.specs.declared.Cause.TheVariants as C
use Rattle.policies.specs.declared.Fault.{Fault}
use Rattle.policies.specs.declared.Kind.{Kind}
use Rattle.policies.specs.declared.Kind.TheVariants as K
use Rattle.policies.specs.declared.Seen.{Seen}
use Rattle.policies.specs.declared.Step.{Step}
use Rattle.policies.specs.declared.Step.TheVariants.{Next, Pattern}
use Rattle.policies.specs.declared.Checked.{Checked}
use Rattle.policies.specs.declared.PolicyAnswer.{PolicyAnswer}
use Rattle.policies.specs.declared.PolicyFor.{PolicyFor}
use Rattle.policies.specs.Texts.{is_text}
use Rattle.policies.specs.Lines.{LF, CR, lines}
use Rattle.policies.specs.Fields.{name_of, value_of, is_line, any_named, patterns, is_version, mode_of, age_of}
use Rattle.policies.specs.Policy.{body_fault, first_mode, first_age, mode_number, refused}

-- a value, of a text with no blank at either end
unfoldable pub stripped_value : List ℕ → Bool
stripped_value v = leb 1 (length v) && is_text v

-- the end of the text of a line that begins at `at` and whose LF, or the body's end, stands at e
unfoldable pub text_end : List ℕ → ℕ → ℕ → ℕ
text_end s at e = cond (ltb e (length s) && ltb at e && eqb (get_or s (e - 1) 0) CR) (e - 1) e

-- the kind of a field, by its name
unfoldable pub kind_of : List ℕ → Kind
kind_of name =
    cond (same_bytes name (text "mx")) K.Mx
    (cond (same_bytes name (text "version")) K.Version
    (cond (same_bytes name (text "mode")) K.Mode
    (cond (same_bytes name (text "max_age")) K.MaxAge
    K.Other)))

-- a value that may be missing, as the code holds it
unfoldable pub held : {A : Type 0} → O.Option A → Option A
held none = None
held (some a) = Some a

-- there is one
unfoldable pub holds : {A : Type 0} → Option A → Bool
holds None = false
holds (Some a) = true

-- what a version does to the fields r that were seen before it
unfoldable pub take_version : Seen → List ℕ → Result Step Cause
take_version r v = cond r.version (Ok (Next r)) (cond (is_version v) (Ok (Next (record { version = true; mode = r.mode; age = r.age }))) (Err C.Version))

-- the same of a first mode
unfoldable pub new_mode : Seen → Option Mode → Result Step Cause
new_mode r None = Err C.Mode
new_mode r (Some mode) = Ok (Next (record { version = r.version; mode = Some mode; age = r.age }))

-- the same of any mode
unfoldable pub take_mode : Seen → List ℕ → Result Step Cause
take_mode r v = cond (holds r.mode) (Ok (Next r)) (new_mode r (held (mode_of v)))

-- the same of a first max_age
unfoldable pub new_age : Seen → Option ℕ → Result Step Cause
new_age r None = Err C.MaxAge
new_age r (Some age) = Ok (Next (record { version = r.version; mode = r.mode; age = Some age }))

-- the same of any max_age
unfoldable pub take_age : Seen → List ℕ → Result Step Cause
take_age r v = cond (holds r.age) (Ok (Next r)) (new_age r (held (age_of v)))

-- the same of an mx: the host h is listed where it was (x), or where the pattern matches it
unfoldable pub take_mx : (h : List ℕ) (x : Bool) → List ℕ → Result Step Cause
take_mx h x v = cond (is_pattern v) (Ok (Pattern (x || matches_name v h))) (Err C.Mx)

-- the same of a field of each kind
unfoldable pub take_field : (h : List ℕ) (x : Bool) → Seen → Kind → List ℕ → Result Step Cause
take_field h x r K.Version v = take_version r v
take_field h x r K.Mode v = take_mode r v
take_field h x r K.MaxAge v = take_age r v
take_field h x r K.Mx v = take_mx h x v
take_field h x r K.Other v = Ok (Next r)

-- the same of a line
unfoldable pub take_line : (h : List ℕ) (x : Bool) → Seen → List ℕ → Result Step Cause
take_line h x r l = cond (is_line l) (take_field h x r (kind_of (name_of l)) (value_of l)) (Err C.Form)

-- where the LF stands that ends the line at `at`, or the body ends
unfoldable pub line_end : List ℕ → ℕ → ℕ
line_end s at = at + index_of LF (drop at s)

-- the line that begins at `at` and whose LF, or the body's end, stands at e
abbrev pub line_to : List ℕ → ℕ → ℕ → List ℕ
line_to s at e = take (text_end s at e - at) (drop at s)

-- the line that begins at `at`
unfoldable pub line_at : List ℕ → ℕ → List ℕ
line_at s at = line_to s at (line_end s at)

-- what a line does, with the place where the next one begins
unfoldable pub placed : Result Step Cause → ℕ → Result (Step × ℕ) Cause
placed (Ok step) next = Ok (record { 0 = step; 1 = next })
placed (Err cause) next = Err cause

-- the same of the line that begins at `at`
unfoldable pub turn_at : (h : List ℕ) (x : Bool) → Seen → List ℕ → ℕ → Result (Step × ℕ) Cause
turn_at h x r s at = placed (take_line h x r (line_at s at)) (line_end s at + 1)

-- the fields of the lines
unfoldable pub seen_in : List (List ℕ) → Seen
seen_in ls = record { version = any_named (text "version") ls; mode = held (first_mode ls); age = held (first_age ls) }

-- a fault, or the fields, the number of patterns and whether the host is listed
unfoldable pub outcome : Seen → ℕ → Bool → O.Option Fault → Result Checked Fault
outcome r m x none = Ok (record { seen = r; patterns = m; listed = x })
outcome r m x (some fault) = Err fault

-- the first fault of a body, or its fields, the number of its patterns and whether the host is listed: where x says so, or a pattern matches it
unfoldable pub checked : (h : List ℕ) (x : Bool) → List ℕ → Result Checked Fault
checked h x s = outcome (seen_in (lines s)) (length (patterns (lines s))) (x || some_matches (patterns (lines s)) h) (body_fault s)

-- the answer to a policy with m patterns
unfoldable pub accepted : Mode → ℕ → ℕ → PolicyAnswer
accepted mode age m = record { number = 7; mode = mode_number mode; lifetime = capped_age age; mx_count = m; line = 0; offset = 0 }

-- m patterns are enough for the mode
unfoldable pub enough : Mode → ℕ → Bool
enough M.Enforce m = ltb 0 m
enough M.Testing m = ltb 0 m
enough M.None m = true

-- the answer to a mode and a max_age, where there are such, and m patterns
unfoldable pub answer_in : Option Mode → Option ℕ → ℕ → PolicyAnswer
answer_in None age m = refused 52
answer_in (Some mode) None m = refused 52
answer_in (Some mode) (Some age) m = cond (enough mode m) (accepted mode age m) (refused 52)

-- the same of all fields together
unfoldable pub seen_answer : Seen → ℕ → PolicyAnswer
seen_answer r m = cond r.version (answer_in r.mode r.age m) (refused 52)

-- an answer, for a host that is listed or not: a refused body lists none
unfoldable pub for_host : PolicyAnswer → Bool → PolicyFor
for_host answer x = record { answer = answer; listed = x && eqb answer.number 7 }
