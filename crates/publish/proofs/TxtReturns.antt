-- What `write_txt` returns and leaves, path by path. Assumes nothing.
use Prim.Native.Nat.{ℕ, ◌+◌, ◌<◌, ◌≤◌}
use mathlib.Core.Path.{◌≡◌, refl, sym, ◌∙◌}
use mathlib.Core.Bool.{Bool, true, false}
use mathlib.Core.List.{List, ◌++◌}
use mathlib.Core.Option.{none, some}
use native.Mathlib.Omega.{arith}
use lib.ListN.{length, length-append}
use borrow.Author.Rules.{rules}
use borrow.Author.Tests.{not-true, not-false}
use Rattle.lists.specs.Text.{text}
use Rattle.lists.specs.Check.{refusal_of}
use Rattle.txt.specs.Paper.{is_id}
use Rattle.txt.proofs.Paper.{id_parts}
use Rattle.writing.specs.declared.WriteAnswer.{WriteAnswer}
use Rattle.writing.specs.Over.{over}
use Rattle.writing.specs.Answer.{refusal, success}
use Rattle.writing.proofs.Over.{step_is, step_fits}
use Rattle.writing.proofs.WriteReturns.{refused_answer, refused_kept, short_answer, short_kept, done_answer, done_written}
use Rattle.publish.specs.Texts.{txt_text}
use Rattle.publish.specs.Calls.{txt_checks, write_txt_answer, write_txt_output}
use Rattle.publish.proofs.TxtBack.{txt_length}

-- `write_txt`: g is what `is_id` gave
module _ (id : List ℕ) (g : Bool) (gave : g ≡ is_id id) where
  module _ (t : g ≡ false) where
    bad : refusal_of (txt_checks id) ≡ some 80
    unfolding txt_checks refusal_of
    bad = rw (sym gave ∙ t)

    module _ (out : List ℕ) where
      pub id_bad : (r : WriteAnswer) → r ≡ refusal 80 → r ≡ write_txt_answer id (length out)
      unfolding write_txt_answer
      id_bad = refused_answer (txt_checks id) (txt_text id) out 80 bad

      pub id_kept : out ≡ write_txt_output id out
      unfolding write_txt_output
      id_kept = refused_kept (txt_checks id) (txt_text id) out 80 bad

  module _ (t : g ≡ true) where
    pub id_most : length id ≤ 32
    id_most = (id_parts id (sym gave ∙ t)).1

    good : refusal_of (txt_checks id) ≡ none
    unfolding txt_checks refusal_of
    good = rw (sym gave ∙ t)

    module _ (out : List ℕ) where
      module _ (h : length out ≤ length id + 12) where
        pub txt_short : (r : WriteAnswer) → r ≡ refusal 83 → r ≡ write_txt_answer id (length out)
        unfolding write_txt_answer
        txt_short = short_answer (txt_checks id) (txt_text id) out good (omega (arith, txt_length id))

        pub txt_kept : out ≡ write_txt_output id out
        unfolding write_txt_output
        txt_kept = short_kept (txt_checks id) (txt_text id) out good (omega (arith, txt_length id))

      module _ (h : length id + 12 < length out) where
        pub txt_done : (r : WriteAnswer) → r ≡ success (length id + 12 + 1) → r ≡ write_txt_answer id (length out)
        unfolding write_txt_answer
        txt_done r e =
            let size : length (txt_text id) ≡ length id + 12 + 1 = omega (arith, txt_length id) in
            done_answer (txt_checks id) (txt_text id) out good (omega (arith, txt_length id)) r (rw size e)

        pub txt_written : (x y z : List ℕ) → x ≡ over 0 (text "v=STSv1; id=") out → y ≡ over 12 id x → z ≡ over (length id + 12) (text ";") y → z ≡ write_txt_output id out
        unfolding write_txt_output txt_text
        txt_written x y z p q s =
            let a : 0 + length (text "v=STSv1; id=" ++ (id ++ text ";")) ≤ length out = omega (arith, length-append id (text ";")) in
            let b : 12 + length (id ++ text ";") ≤ length x = step_fits 0 12 (text "v=STSv1; id=") (id ++ text ";") out x p refl a in
            let e : length id + 12 ≡ 12 + length id = omega arith in
            let whole : over 0 (text "v=STSv1; id=" ++ (id ++ text ";")) out ≡ z = step_is 0 12 (text "v=STSv1; id=") (id ++ text ";") out x p refl a ∙ (step_is 12 (length id + 12) id (text ";") x y q e b ∙ sym s) in
            done_written (txt_checks id) (txt_text id) out good (omega (arith, txt_length id)) z (sym whole)

pub ruleset txt_laws = (id_bad, id_kept, id_most, txt_short, txt_kept, txt_done, txt_written, not-true, not-false, rules)
