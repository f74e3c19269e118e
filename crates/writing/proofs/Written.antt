-- What a call that writes a text answers and leaves: where it succeeds, and where its number is not 15. Assumes nothing.
use Prim.Native.Nat.{ℕ, ◌≤◌}
use mathlib.Core.Path.{◌≡◌, refl, ◌∙◌}
use mathlib.Core.Bool.{cond}
use mathlib.Core.List.{List, [], ◌∷◌}
use mathlib.Core.Option.{Option, none, some}
use native.Mathlib.Omega.{arith}
use lib.Dec.{leb}
use lib.ListN.{length, take, drop, length-append, length-drop}
use lib.Seq.{take-append_seam, drop_at}
use borrow.Author.Tests.{le-leb}
use Rattle.lists.specs.Check.{Check, refusal_of}
use Rattle.lists.proofs.Check.{checks_more, checks_refused}
use Rattle.writing.specs.declared.WriteAnswer.{WriteAnswer}
use Rattle.writing.specs.Answer.{answer_unless, unless_refused, room_check, write_refusal, write_answer, write_output}

-- a call that wrote the text t: what it answered, and the output `after` it, which was `out`: the text stands at its front, and the rest is as it was
pub record Wrote (t out : List ℕ) (answer : WriteAnswer) (after : List ℕ) : Type 0 where
  pub number : answer.number ≡ 15
  pub size : answer.length ≡ length t
  pub front : take (length t) after ≡ t
  pub rest : drop (length t) after ≡ drop (length t) out
  pub as_long : length after ≡ length out

module _ (checks : List Check) (t out : List ℕ) where
  -- the first check that fails decides; where none does, the room
  pub by_room : refusal_of checks ≡ none → write_refusal checks t (length out) ≡ cond (leb (length t) (length out)) none (some 83)
  unfolding write_refusal refusal_of
  by_room e = checks_more checks (room_check t (length out) ∷ []) e

  pub by_check : (k : ℕ) → refusal_of checks ≡ some k → write_refusal checks t (length out) ≡ some k
  unfolding write_refusal
  by_check k e = checks_refused checks (room_check t (length out) ∷ []) k e

  -- so a call succeeds where no check refuses it and the text fits
  pub wrote : refusal_of checks ≡ none → length t ≤ length out → Wrote t out (write_answer checks t (length out)) (write_output checks t out)
  unfolding write_answer answer_unless write_output unless_refused
  wrote p l =
      let e : write_refusal checks t (length out) ≡ none = by_room p ∙ rw (le-leb (length t) (length out) l) in
      record {
        number = rw e;
        size = rw e;
        front = rw e (take-append_seam t (drop (length t) out));
        rest = rw e (drop_at t (drop (length t) out) (length t) refl);
        as_long = rw e (omega (arith, l, length-append t (drop (length t) out), length-drop (length t) out));
      }

  -- any other number than 15 is a refusal: nothing is changed, and the length is zero
  pub not_written : ((write_answer checks t (length out)).number ≡ 15 → ⊥) → (write_output checks t out ≡ out) × ((write_answer checks t (length out)).length ≡ 0)
  unfolding write_answer answer_unless write_output unless_refused
  not_written h = go (write_refusal checks t (length out)) refl
    where
      go : (o : Option ℕ) → write_refusal checks t (length out) ≡ o → (write_output checks t out ≡ out) × ((write_answer checks t (length out)).length ≡ 0)
      go none e = absurd (h (rw e))
      go (some k) e = (rw e, rw e)
