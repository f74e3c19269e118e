-- Document 02, No. 1: "A new call that succeeds answers 15 and the length it wrote to its output, 0 where it has none"; a refusal has its number, and zero, and changes
-- nothing. No. 5: the last refusal of a call that writes a text is 83, "an output too short".
use Rattle.std.specs.Prelude.{ℕ, List, [], ◌∷◌, ◌++◌, leb}
use Rattle.std.proofs.Math.Option.{Option, none, some}
use Rattle.std.proofs.Math.ListN as L
use Rattle.lists.specs.Check.{Check, refusal_of}
use Rattle.writing.specs.declared.WriteAnswer.{WriteAnswer}

-- success, with the length that was written
abbrev pub success : ℕ → WriteAnswer
success n = record { number = 15; length = n }

-- a refusal
abbrev pub refusal : ℕ → WriteAnswer
refusal number = record { number = number; length = 0 }

-- the answer of a call that writes n bytes unless it is refused
unfoldable pub answer_unless : Option ℕ → ℕ → WriteAnswer
answer_unless none n = success n
answer_unless (some number) n = refusal number

-- what a call leaves, of what was there before it and what stands there where it succeeds: a refusal changes nothing
unfoldable pub unless_refused : {A : Type 0} → Option ℕ → A → A → A
unless_refused none before after = after
unless_refused (some number) before after = before

-- an output of `room` bytes is too short for the text: 83
abbrev pub room_check : List ℕ → ℕ → Check
room_check t room = record { passes = leb (L.length t) room; refusal = 83 }

-- the refusal, or none, of a call that writes the text t into an output of `room` bytes: first these checks of its other arguments, then 83
unfoldable pub write_refusal : List Check → List ℕ → ℕ → Option ℕ
write_refusal checks t room = refusal_of (checks ++ (room_check t room ∷ []))

-- its answer
unfoldable pub write_answer : List Check → List ℕ → ℕ → WriteAnswer
write_answer checks t room = answer_unless (write_refusal checks t room) (L.length t)

-- the output after it: the text at its front, and the rest as it was
unfoldable pub write_output : List Check → List ℕ → List ℕ → List ℕ
write_output checks t out = unless_refused (write_refusal checks t (L.length out)) out (t ++ L.drop (L.length t) out)
