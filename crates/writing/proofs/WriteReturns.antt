-- What a call that writes a text returns and leaves, path by path: r is its answer, out the output before it. Assumes nothing.
use Prim.Native.Nat.{ℕ, ◌<◌, ◌≤◌}
use mathlib.Core.Path.{◌≡◌, ◌∙◌}
use mathlib.Core.List.{List}
use mathlib.Core.Option.{none, some}
use lib.ListN.{length}
use borrow.Author.Tests.{lt-leb, le-leb}
use Rattle.lists.specs.Check.{Check, refusal_of}
use Rattle.lists.specs.Write.{wrote_front}
use Rattle.writing.specs.declared.WriteAnswer.{WriteAnswer}
use Rattle.writing.specs.Answer.{refusal, success, answer_unless, unless_refused, write_refusal, write_answer, write_output}
use Rattle.writing.specs.Over.{over}
use Rattle.writing.proofs.Written.{by_check, by_room}

module _ (checks : List Check) (t out : List ℕ) where
  -- one of the checks refuses it
  module _ (n : ℕ) (is : refusal_of checks ≡ some n) where
    pub refused_answer : (r : WriteAnswer) → r ≡ refusal n → r ≡ write_answer checks t (length out)
    unfolding write_answer answer_unless
    refused_answer r e = rw (by_check checks t out n is) e

    pub refused_kept : out ≡ write_output checks t out
    unfolding write_output unless_refused
    refused_kept = rw (by_check checks t out n is)

  module _ (is : refusal_of checks ≡ none) where
    -- the output is too short
    module _ (h : length out < length t) where
      short_is : write_refusal checks t (length out) ≡ some 83
      short_is = by_room checks t out is ∙ rw (lt-leb (length t) (length out) h)

      pub short_answer : (r : WriteAnswer) → r ≡ refusal 83 → r ≡ write_answer checks t (length out)
      unfolding write_answer answer_unless
      short_answer r e = rw short_is e

      pub short_kept : out ≡ write_output checks t out
      unfolding write_output unless_refused
      short_kept = rw short_is

    -- it is written
    module _ (h : length t ≤ length out) where
      done_is : write_refusal checks t (length out) ≡ none
      done_is = by_room checks t out is ∙ rw (le-leb (length t) (length out) h)

      pub done_answer : (r : WriteAnswer) → r ≡ success (length t) → r ≡ write_answer checks t (length out)
      unfolding write_answer answer_unless
      done_answer r e = rw done_is e

      pub done_written : (y : List ℕ) → y ≡ over 0 t out → y ≡ write_output checks t out
      unfolding write_output unless_refused over wrote_front
      done_written y e = rw done_is (e ∙ rw (le-leb (length t) (length out) h))
