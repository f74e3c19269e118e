-- The returns of `write_one` and `read_txt`: what they answer, and what they leave in the output. Assumes nothing.
use Prim.Native.Nat.{ℕ, ◌-◌, ◌<◌, ◌≤◌}
use mathlib.Core.Path.{◌≡◌, refl, sym, ap, ◌∙◌}
use mathlib.Core.Bool.{Bool, true, false}
use mathlib.Core.List.{List, [], ◌∷◌, ◌++◌}
use native.Mathlib.Omega.{arith}
use lib.ListN.{length, take, drop}
use lib.Seq.{take_at}
use borrow.Author.Rules.{rules}
use borrow.Author.Tests.{le-leb, lt-leb}
use Rattle.lists.specs.Span.{begins}
use Rattle.lists.specs.Text.{text}
use Rattle.numbers.specs.Numbers.{numbers, is_whole}
use Rattle.lists.proofs.Span.{begins_front}
use Rattle.txt.specs.declared.TxtAnswer.{TxtAnswer}
use Rattle.txt.specs.declared.Refusal.{Refusal}
use Rattle.txt.specs.declared.Refusal.TheVariants.{NoRecord, SeveralRecords, Grammar, WireForm, OutputTooShort}
use Rattle.std.specs.Prelude.{Ok, Err}
use denote.Ref.{Bor}
use Rattle.txt.specs.Rdata.{is_wire_form, joined}
use Rattle.txt.specs.Grammar.{version}
use Rattle.txt.specs.Txt.{is_candidate, Outcome, refused, wrote, chosen, outcome, refusal, grammar, txt_answer, output_of, read_txt, wrote_txt}
use Rattle.txt.specs.Steps.{CandidateIs, refusal_number, answered, wire_left, candidates_left}
use Rattle.txt.proofs.Candidates.{wire_odd, wire_whole, found_start}

-- a candidate begins with the version
pub candidate_version : (t : List ℕ) → is_candidate t ≡ true → begins version t ≡ true
unfolding is_candidate
candidate_version t h = begins_front version (text ";") t h

-- `write_one`: t is the text, d the output at the start, n what `joined_length` gave
module _ (t d : List ℕ) (n : ℕ) (gave : n ≡ length t) where
  module _ (h : length d < n) where
    no_room : chosen (t ∷ []) (length d) ≡ refused 44
    unfolding chosen
    no_room = let k : length d < length t = omega arith in rw (lt-leb (length t) (length d) k)

    pub short_answer : (x : TxtAnswer) → x ≡ refusal 44 → x ≡ txt_answer (chosen (t ∷ []) (length d))
    unfolding txt_answer
    short_answer x e = e ∙ rw no_room

    pub short_kept : d ≡ output_of (chosen (t ∷ []) (length d)) d
    unfolding output_of
    short_kept = rw no_room

  module _ (fits : n ≤ length d) (out : List ℕ) (put : out ≡ t ++ drop (length t) d) where
    room : chosen (t ∷ []) (length d) ≡ wrote t
    unfolding chosen
    room = let k : length t ≤ length d = omega arith in rw (le-leb (length t) (length d) k)

    front : take (n - 0) (drop 0 out) ≡ t
    front =
        let m : length t ≡ n - 0 = omega arith in
        ap (take (n - 0)) put ∙ take_at t (drop (length t) d) (n - 0) m

    pub long_version : is_candidate t ≡ true → begins version (take (n - 0) (drop 0 out)) ≡ true
    long_version c = rw front (candidate_version t c)

    pub long_answer : (x : TxtAnswer) → x ≡ grammar (take (n - 0) (drop 0 out)) → x ≡ txt_answer (chosen (t ∷ []) (length d))
    unfolding txt_answer
    long_answer x e = e ∙ rw (room, front)

    pub long_wrote : out ≡ output_of (chosen (t ∷ []) (length d)) d
    unfolding output_of
    long_wrote = rw room put

pub ruleset one_laws = (short_answer, short_kept, long_version, long_answer, long_wrote, rules)

-- two candidates or more
chosen_several : (cs : List (List ℕ)) (room : ℕ) → 2 ≤ length cs → chosen cs room ≡ refused 41
unfolding chosen
chosen_several [] room h = absurd (omega arith)
chosen_several (t ∷ []) room h = absurd (omega arith)
chosen_several (t ∷ u ∷ ts) room h = refl

chosen_none : (cs : List (List ℕ)) (room : ℕ) → cs ≡ [] → chosen cs room ≡ refused 40
unfolding chosen
chosen_none cs room e = rw e

-- a call whose outcome is known
module _ (s l d : List ℕ) (o : Outcome) (is : outcome s l (length d) ≡ o) where
  answer_by : txt_answer o ≡ read_txt s l (length d)
  unfolding read_txt
  answer_by = rw is

  output_by : output_of o d ≡ wrote_txt s l d
  unfolding wrote_txt
  output_by = rw is

refused_answer : (s l d : List ℕ) (n : ℕ) → outcome s l (length d) ≡ refused n → (x : TxtAnswer) → x ≡ refusal n → x ≡ read_txt s l (length d)
unfolding txt_answer
refused_answer s l d n is x e = e ∙ answer_by s l d (refused n) is

refused_kept : (s l d : List ℕ) (n : ℕ) → outcome s l (length d) ≡ refused n → d ≡ wrote_txt s l d
unfolding output_of
refused_kept s l d n is = output_by s l d (refused n) is

-- `read_txt`: w is what `is_whole` gave
module _ (s l d : List ℕ) (w : Bool) (gave : w ≡ is_whole l) where
  broken_by : is_wire_form s l ≡ false → outcome s l (length d) ≡ refused 43
  unfolding outcome
  broken_by f = rw f

  module _ (f : w ≡ false) where
    odd : outcome s l (length d) ≡ refused 43
    odd = broken_by (wire_odd s l (sym gave ∙ f))

    pub odd_answer : (x : TxtAnswer) → x ≡ refusal 43 → x ≡ read_txt s l (length d)
    odd_answer x e = refused_answer s l d 43 odd x e

    pub odd_kept : d ≡ wrote_txt s l d
    odd_kept = refused_kept s l d 43 odd

  module _ (y : w ≡ true) where
    wire : is_wire_form s l ≡ wire_left s (numbers l)
    wire = wire_whole s l (sym gave ∙ y)

    sound : wire_left s (numbers l) ≡ true → outcome s l (length d) ≡ chosen (candidates_left s (numbers l)) (length d)
    unfolding outcome
    sound t = rw (wire, t, found_start s l)

    -- no one candidate
    refused_by : (r : Refusal) → CandidateIs s l (Err r) → outcome s l (length d) ≡ refused (refusal_number r)
    unfolding CandidateIs
    refused_by NoRecord is = sound is.0 ∙ chosen_none (candidates_left s (numbers l)) (length d) is.1
    refused_by SeveralRecords is = sound is.0 ∙ chosen_several (candidates_left s (numbers l)) (length d) is.1
    refused_by Grammar is = absurd is
    refused_by WireForm is = broken_by (wire ∙ is)
    refused_by OutputTooShort is = absurd is

    pub no_one_answer : (r : Refusal) → CandidateIs s l (Err r) → answered (Err r) ≡ read_txt s l (length d)
    no_one_answer r is = refused_answer s l d (refusal_number r) (refused_by r is) (refusal (refusal_number r)) refl

    pub no_one_kept : (r : Refusal) → CandidateIs s l (Err r) → d ≡ wrote_txt s l d
    no_one_kept r is = refused_kept s l d (refusal_number r) (refused_by r is)

    -- one, the RDATA p
    module _ (p : Bor (List ℕ)) (is : CandidateIs s l (Ok p)) where
      facts : (wire_left s (numbers l) ≡ true) × (candidates_left s (numbers l) ≡ joined p.now ∷ []) × (is_candidate (joined p.now) ≡ true)
      unfolding CandidateIs
      facts = is

      one : outcome s l (length d) ≡ chosen (joined p.now ∷ []) (length d)
      one = sound facts.0 ∙ rw facts.1

      pub one_kept : is_candidate (joined p.now) ≡ true
      one_kept = facts.2

      pub one_answer : (x : TxtAnswer) → x ≡ txt_answer (chosen (joined p.now ∷ []) (length d)) → x ≡ read_txt s l (length d)
      one_answer x g = g ∙ answer_by s l d (chosen (joined p.now ∷ []) (length d)) one

      pub one_wrote : (out : List ℕ) → out ≡ output_of (chosen (joined p.now ∷ []) (length d)) d → out ≡ wrote_txt s l d
      one_wrote out g = g ∙ output_by s l d (chosen (joined p.now ∷ []) (length d)) one

pub ruleset read_laws = (odd_answer, odd_kept, no_one_answer, no_one_kept, one_kept, one_answer, one_wrote)
