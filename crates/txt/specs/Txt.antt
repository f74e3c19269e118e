-- Document 01, "TXT record": what the call answers and what it leaves in the output. Order: 43, 40, 41, 44, 42.
use Rattle.std.specs.Prelude.{ℕ, ◌-◌, Bool, cond, List, [], ◌∷◌, ◌++◌, leb, length, take, drop}
use Rattle.std.proofs.Math.Option.{Option, none, some}
use Rattle.lists.specs.Span.{begins}
use Rattle.lists.specs.Text.{text}
use Rattle.txt.specs.declared.TxtAnswer.{TxtAnswer}
use Rattle.txt.specs.Rdata.{is_wire_form, texts}
use Rattle.txt.specs.Grammar.{after_name, value_of, id_field}

-- a record is kept where its text begins with `v=STSv1;`
unfoldable pub is_candidate : List ℕ → Bool
is_candidate t = begins (text "v=STSv1;") t

-- the texts of the records that are kept; the others are dropped
unfoldable pub candidates : List (List ℕ) → List (List ℕ)
candidates [] = []
candidates (t ∷ ts) = cond (is_candidate t) (t ∷ candidates ts) (candidates ts)

-- what comes of a call: it is refused before anything is written; or the one candidate's text fills the front of the output, and the grammar decides
pub data Outcome : Type 0 where
  refused : ℕ → Outcome
  wrote : List ℕ → Outcome

-- none left: 40. Two or more: 41. The output, of `room` bytes, shorter than the text: 44
unfoldable pub chosen : List (List ℕ) → ℕ → Outcome
chosen [] room = refused 40
chosen (t ∷ []) room = cond (leb (length t) room) (wrote t) (refused 44)
chosen (t ∷ u ∷ ts) room = refused 41

-- before all of these, 43: the wire form is broken
unfoldable pub outcome : List ℕ → List ℕ → ℕ → Outcome
outcome rdatas lengths room = cond (is_wire_form rdatas lengths) (chosen (candidates (texts rdatas lengths)) room) (refused 43)

-- a refusal has its number only
abbrev pub refusal : ℕ → TxtAnswer
refusal n = record { number = n; id_start = 0; id_length = 0 }

-- 6 with the place and the length of the id in the text t, by the field of the id: as many bytes stand before its value as t has more than what follows its `=`.
-- 42 where there is no such field
unfoldable pub record_answer : List ℕ → Option (List ℕ) → TxtAnswer
record_answer t none = refusal 42
record_answer t (some f) = record { number = 6; id_start = length t - length (after_name f); id_length = length (value_of f) }

-- the grammar's answer for a text
abbrev pub grammar : List ℕ → TxtAnswer
grammar t = record_answer t (id_field t)

-- the answer of a call
unfoldable pub txt_answer : Outcome → TxtAnswer
txt_answer (refused n) = refusal n
txt_answer (wrote t) = grammar t

-- the output afterwards: as it was; or the text at its front, and the rest as it was
unfoldable pub output_of : Outcome → List ℕ → List ℕ
output_of (refused n) out = out
output_of (wrote t) out = t ++ drop (length t) out

-- what `read_txt` answers: the RDATAs one after another, the list of their lengths, and how many bytes the output has
unfoldable pub read_txt : List ℕ → List ℕ → ℕ → TxtAnswer
read_txt rdatas lengths room = txt_answer (outcome rdatas lengths room)

-- what `read_txt` leaves in the output, which was `out`
unfoldable pub wrote_txt : List ℕ → List ℕ → List ℕ → List ℕ
wrote_txt rdatas lengths out = output_of (outcome rdatas lengths (length out)) out

-- the id of an answer: the part of the output where it stands; of a refusal nothing
abbrev pub id_part : List ℕ → TxtAnswer → List ℕ
id_part out r = take r.id_length (drop r.id_start out)
