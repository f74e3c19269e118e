-- Not of document 01: the contracts of the private functions, what the parts of the reader give to each other. A reader of the promises needs none of it.
use Rattle.std.specs.Prelude.{ℕ, ◌+◌, ◌-◌, ◌<◌, ◌≤◌, ◌≡◌, Bool, true, false, cond, ◌&&◌, List, [], ◌∷◌, map, eqb, length, take, drop, Option, Some, None, Result, Ok, Err}
use Rattle.std.proofs.Math.Option as M
use Rattle.std.proofs.Math.Option.{none, some}
use denote.Ref.{Bor}
use Rattle.lists.specs.Bytes.{all}
use Rattle.numbers.specs.Numbers.{numbers, sum}
use Rattle.numbers.specs.Pieces.{cut}
use Rattle.txt.specs.declared.TxtAnswer.{TxtAnswer}
use Rattle.txt.specs.declared.CharacterStrings.{CharacterStrings}
use Rattle.txt.specs.declared.Found.{Found}
use Rattle.txt.specs.declared.Found.TheVariants.{Nothing, One, Several}
use Rattle.txt.specs.declared.Refusal.{Refusal}
use Rattle.txt.specs.declared.Refusal.TheVariants.{NoRecord, SeveralRecords, Grammar, WireForm, OutputTooShort}
use Rattle.txt.specs.declared.Field.{Field}
use Rattle.txt.specs.Paper.{is_id}
use Rattle.txt.specs.Rdata.{is_rdata, strings, joined}
use Rattle.txt.specs.Grammar.{name_of, after_name, value_of, fields_of, one_more}
use Rattle.txt.specs.Txt.{is_candidate, candidates, refusal}

-- 01's number of a refusal
abbrev pub refusal_number : Refusal → ℕ
refusal_number NoRecord = 40
refusal_number SeveralRecords = 41
refusal_number Grammar = 42
refusal_number WireForm = 43
refusal_number OutputTooShort = 44

-- an answer, or the answer of a refusal
abbrev pub answered : Result TxtAnswer Refusal → TxtAnswer
answered (Ok answer) = answer
answered (Err r) = refusal (refusal_number r)

-- the character strings that are still to come
abbrev pub strings_left : CharacterStrings → List (List ℕ)
strings_left c = strings c.rest.now

-- the candidates among the RDATAs of these lengths, which s begins with
unfoldable pub candidates_left : List ℕ → List ℕ → List (List ℕ)
candidates_left s ns = candidates (map joined (cut s ns))

-- the wire form of these RDATAs: their lengths sum to the bytes of s, and each is an RDATA
unfoldable pub wire_left : List ℕ → List ℕ → Bool
wire_left s ns = eqb (sum ns) (length s) && all is_rdata (cut s ns)

-- what was found of the candidates cs when `rest` are still to come
unfoldable pub SeenIs : List (List ℕ) → List (List ℕ) → Found → Type 0
SeenIs cs rest Nothing = cs ≡ rest
SeenIs cs rest (One s) = (cs ≡ joined s.now ∷ rest) × (is_candidate (joined s.now) ≡ true)
SeenIs cs rest Several = 2 ≤ length cs

-- what was found, and one candidate more
abbrev pub with_one : Found → Bor (List ℕ) → Found
with_one Nothing s = One s
with_one (One u) s = Several
with_one Several s = Several

-- the one candidate of all RDATAs
unfoldable pub CandidateIs : List ℕ → List ℕ → Result (Bor (List ℕ)) Refusal → Type 0
CandidateIs s l (Ok r) = (wire_left s (numbers l) ≡ true) × (candidates_left s (numbers l) ≡ joined r.now ∷ []) × (is_candidate (joined r.now) ≡ true)
CandidateIs s l (Err NoRecord) = (wire_left s (numbers l) ≡ true) × (candidates_left s (numbers l) ≡ [])
CandidateIs s l (Err SeveralRecords) = (wire_left s (numbers l) ≡ true) × (2 ≤ length (candidates_left s (numbers l)))
CandidateIs s l (Err Grammar) = ⊥
CandidateIs s l (Err WireForm) = wire_left s (numbers l) ≡ false
CandidateIs s l (Err OutputTooShort) = ⊥

-- at `at` stand a delimiter and a field: its name from a, `=` at e, its value up to v
pub record FieldIs (t : List ℕ) (at a e v : ℕ) : Type 0 where
  pub later : at < a
  pub named : a ≤ e
  pub valued : e + 1 < v
  pub inside : v ≤ length t
  pub fields : fields_of (drop at t) ≡ one_more (drop a t) (fields_of (drop v t))
  pub name : name_of (drop a t) ≡ take (e - a) (drop a t)
  pub rest : after_name (drop a t) ≡ drop (e + 1) t
  pub value : value_of (drop a t) ≡ take (v - (e + 1)) (drop (e + 1) t)

-- what stands at `at`, after the version or a field
unfoldable pub FieldAt : List ℕ → ℕ → Result (Option Field) Refusal → Type 0
FieldAt t at (Ok None) = fields_of (drop at t) ≡ some []
FieldAt t at (Ok (Some f)) = FieldIs t at f.name f.equals f.end
FieldAt t at (Err r) = (fields_of (drop at t) ≡ none) × (r ≡ Grammar)

-- the form is right: there are fields, or none, but no fault
unfoldable pub has_form : M.Option (List (List ℕ)) → Bool
has_form none = false
has_form (some fs) = true

-- the same, as the code says it
unfoldable pub form_of : M.Option (List (List ℕ)) → Result (Unit {0}) Refusal
form_of none = Err Grammar
form_of (some fs) = Ok tt

-- the answer where the value of the first field named `id` stands from a to v
unfoldable pub id_answer : List ℕ → ℕ → ℕ → TxtAnswer
id_answer t a v = cond (is_id (take (v - a) (drop a t)) && has_form (fields_of (drop v t))) (record { number = 6; id_start = a; id_length = v - a }) (refusal 42)
