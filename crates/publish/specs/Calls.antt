-- Document 02, No. 5: the calls. "Refuse a bad id (80), a bad pattern, count or length (81), a lifetime over 31,557,600 (82), and an output too short (83), in that order,
-- output unchanged." A mode that is none of the three is 67, before all others. Each call is its checks and its text: 83 is the last check of every call that writes
-- (`write_refusal`), and what is answered and left in the output is said there too.
use Rattle.std.specs.Prelude.{ℕ, Bool, cond, ◌&&◌, List, [], ◌∷◌, eqb, leb, length}
use Rattle.lists.specs.Bytes.{within, all}
use Rattle.lists.specs.Check.{Check}
use Rattle.numbers.specs.Numbers.{numbers}
use Rattle.numbers.specs.Pieces.{cut, sums_to}
use Rattle.names.specs.Name.{is_pattern}
use Rattle.clock.specs.Clock.{longest}
use Rattle.txt.specs.Paper.{is_id}
use Rattle.policies.specs.declared.Mode.{Mode}
use Rattle.policies.specs.declared.Mode.TheVariants as M
use Rattle.policies.specs.Policy.{Reading, too_long, malformed, incomplete, policy, read_body, policy_answer}
use Rattle.writing.specs.declared.WriteAnswer.{WriteAnswer}
use Rattle.writing.specs.Answer.{write_answer, write_output}
use Rattle.publish.specs.Texts.{txt_text, policy_text}

-- ---- the TXT text of an id

-- what is checked before 83
unfoldable pub txt_checks : List ℕ → List Check
txt_checks id = record { passes = is_id id; refusal = 80 } ∷ []

-- the answer, where the output has `room` bytes
unfoldable pub write_txt_answer : (id : List ℕ) (room : ℕ) → WriteAnswer
write_txt_answer id room = write_answer (txt_checks id) (txt_text id) room

-- the output afterwards
unfoldable pub write_txt_output : (id out : List ℕ) → List ℕ
write_txt_output id out = write_output (txt_checks id) (txt_text id) out

-- ---- the policy body of a mode, a lifetime and patterns

-- the mode of a number: 1 enforce, 2 testing, 3 none; every other number is refused
abbrev pub mode_from : ℕ → Mode
mode_from n = cond (eqb n 1) M.Enforce (cond (eqb n 2) M.Testing M.None)

-- 1 to 16 patterns, 0 to 16 for mode none
unfoldable pub count_fits : Mode → ℕ → Bool
count_fits M.Enforce n = within 1 16 n
count_fits M.Testing n = within 1 16 n
count_fits M.None n = leb n 16

-- the list of lengths has no left-over bytes and they sum to the patterns' bytes, their count is right, and each piece is a pattern
unfoldable pub patterns_fit : Mode → List ℕ → List ℕ → Bool
patterns_fit mode patterns lengths = sums_to lengths (length patterns) && count_fits mode (length (numbers lengths)) && all is_pattern (cut patterns (numbers lengths))

-- what is checked before 83, in this order
unfoldable pub policy_checks : (mode lifetime : ℕ) (patterns lengths : List ℕ) → List Check
policy_checks mode lifetime patterns lengths =
    record { passes = within 1 3 mode; refusal = 67 }
    ∷ record { passes = patterns_fit (mode_from mode) patterns lengths; refusal = 81 }
    ∷ record { passes = leb lifetime longest; refusal = 82 }
    ∷ []

-- the body
abbrev pub policy_of : (mode lifetime : ℕ) (patterns lengths : List ℕ) → List ℕ
policy_of mode lifetime patterns lengths = policy_text (mode_from mode) lifetime (cut patterns (numbers lengths))

-- the answer, where the output has `room` bytes
unfoldable pub write_policy_answer : (mode lifetime : ℕ) (patterns lengths : List ℕ) (room : ℕ) → WriteAnswer
write_policy_answer mode lifetime patterns lengths room = write_answer (policy_checks mode lifetime patterns lengths) (policy_of mode lifetime patterns lengths) room

-- the output afterwards
unfoldable pub write_policy_output : (mode lifetime : ℕ) (patterns lengths out : List ℕ) → List ℕ
write_policy_output mode lifetime patterns lengths out = write_output (policy_checks mode lifetime patterns lengths) (policy_of mode lifetime patterns lengths) out

-- ---- rewriting a body: "Rewriting takes a body (50 to 52, then 81 for over 16 patterns, 83) and keeps mode, lifetime and patterns in order, but no other field."

-- what is checked before 83, in this order: the reader's refusal, 50, 53 to 57 or 52; then the count of mx lines
unfoldable pub rewrite_checks : List ℕ → List Check
rewrite_checks body =
    record { passes = eqb (policy_answer body).number 7; refusal = (policy_answer body).number }
    ∷ record { passes = leb (policy_answer body).mx_count 16; refusal = 81 }
    ∷ []

-- the policy body of what a body is read as; no text where it is no policy
unfoldable pub text_of : Reading → List ℕ
text_of too_long = []
text_of (malformed fault) = []
text_of incomplete = []
text_of (policy p) = policy_text p.mode p.lifetime.0 p.patterns

-- the new body
abbrev pub rewritten : List ℕ → List ℕ
rewritten body = text_of (read_body body)

-- the answer, where the output has `room` bytes
unfoldable pub rewrite_answer : (body : List ℕ) (room : ℕ) → WriteAnswer
rewrite_answer body room = write_answer (rewrite_checks body) (rewritten body) room

-- the output afterwards
unfoldable pub rewrite_output : (body out : List ℕ) → List ℕ
rewrite_output body out = write_output (rewrite_checks body) (rewritten body) out
