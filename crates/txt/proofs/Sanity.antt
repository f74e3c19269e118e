-- What the definitions imply, for every input. Assumes nothing.
use Prim.Native.Nat.{ℕ, zero, suc, ◌≤◌}
use mathlib.Core.Path.{◌≡◌, refl, sym, ap, subst, ◌∙◌}
use mathlib.Core.Bool.{Bool, true, false, cond, ◌&&◌, ◌||◌}
use mathlib.Core.List.{List, [], ◌∷◌, ◌++◌, append-nil}
use mathlib.Core.Option.{Option, none, some}
use native.Mathlib.Omega.{arith}
use lib.Dec.{eqb, leb}
use lib.ListN.{length, drop, length-append, length-drop, take-append-drop}
use lib.Seq.{drop-append_seam, take-append_seam, length-take-le}
use borrow.Author.Tests.{leb-true, le-leb, eqb-true}
use Rattle.lists.specs.Bytes.{within}
use Rattle.lists.proofs.Bools.{and_left, and_right, never}
use Rattle.txt.specs.declared.TxtAnswer.{TxtAnswer}
use Rattle.txt.specs.Paper.{Record}
use Rattle.txt.specs.Rdata.{strings, strings_in, strings_fit, fit_in, is_wire_form, texts}
use Rattle.txt.specs.Grammar.{value_of, id_field}
use Rattle.txt.specs.Txt.{candidates, Outcome, refused, wrote, chosen, outcome, refusal, record_answer, grammar, txt_answer, output_of, read_txt, wrote_txt, id_part}
use Rattle.txt.proofs.Strings.{strings_cons, fit_cons}
use Rattle.txt.proofs.Places.{id_value}
use Rattle.txt.proofs.Paper.{accepted, accepts, record_six}

-- ---- the number is one of the table: 6, or 40 to 44 with zeros. So it is never zero, and a refusal comes with zeros

unfoldable pub in_table : TxtAnswer → Bool
in_table r = eqb r.number 6 || within 40 44 r.number && eqb r.id_start 0 && eqb r.id_length 0

record_table : (t : List ℕ) (o : Option (List ℕ)) → in_table (record_answer t o) ≡ true
unfolding record_answer in_table
record_table t none = refl
record_table t (some f) = refl

-- the outcomes are 43, 40, 41, 44, or a text
refuses : Outcome → Bool
refuses (refused n) = eqb n 40 || eqb n 41 || eqb n 43 || eqb n 44
refuses (wrote t) = true

chosen_refuses : (cs : List (List ℕ)) (room : ℕ) → refuses (chosen cs room) ≡ true
unfolding chosen refuses
chosen_refuses [] room = refl
chosen_refuses (t ∷ []) room = go (leb (length t) room)
  where
    go : (b : Bool) → refuses (cond b (wrote t) (refused 44)) ≡ true
    go true = refl
    go false = refl
chosen_refuses (t ∷ u ∷ ts) room = refl

outcome_refuses : (s l : List ℕ) (room : ℕ) → refuses (outcome s l room) ≡ true
unfolding outcome refuses
outcome_refuses s l room = go (is_wire_form s l)
  where
    go : (b : Bool) → refuses (cond b (chosen (candidates (texts s l)) room) (refused 43)) ≡ true
    go true = chosen_refuses (candidates (texts s l)) room
    go false = refl

one_of : (n : ℕ) → (eqb n 40 || eqb n 41 || eqb n 43 || eqb n 44) ≡ true → in_table (refusal n) ≡ true
unfolding in_table
one_of n h = go (eqb n 40) refl (eqb n 41) refl (eqb n 43) refl (eqb n 44) refl h
  where
    go : (a : Bool) → eqb n 40 ≡ a → (b : Bool) → eqb n 41 ≡ b → (c : Bool) → eqb n 43 ≡ c → (d : Bool) → eqb n 44 ≡ d → (a || b || c || d) ≡ true → in_table (refusal n) ≡ true
    go true p b q c r d s h = let e : n ≡ 40 = eqb-true n 40 p in rw e
    go false p true q c r d s h = let e : n ≡ 41 = eqb-true n 41 q in rw e
    go false p false q true r d s h = let e : n ≡ 43 = eqb-true n 43 r in rw e
    go false p false q false r true s h = let e : n ≡ 44 = eqb-true n 44 s in rw e
    go false p false q false r false s h = never cc

answer_table : (o : Outcome) → refuses o ≡ true → in_table (txt_answer o) ≡ true
unfolding txt_answer refuses
answer_table (refused n) h = one_of n h
answer_table (wrote t) h = record_table t (id_field t)

pub read_table : (s l : List ℕ) (room : ℕ) → in_table (read_txt s l room) ≡ true
unfolding read_txt
read_table s l room = answer_table (outcome s l room) (outcome_refuses s l room)

-- ---- what is left in the output

-- the grammar decided: 6 or 42
unfoldable pub decided : ℕ → Bool
decided n = eqb n 6 || eqb n 42

record_decided : (t : List ℕ) (o : Option (List ℕ)) → decided (record_answer t o).number ≡ true
unfolding record_answer decided
record_decided t none = refl
record_decided t (some f) = refl

not_decided : (n : ℕ) → (eqb n 40 || eqb n 41 || eqb n 43 || eqb n 44) ≡ true → decided n ≡ false
unfolding decided
not_decided n h = go (eqb n 40) refl (eqb n 41) refl (eqb n 43) refl (eqb n 44) refl h
  where
    go : (a : Bool) → eqb n 40 ≡ a → (b : Bool) → eqb n 41 ≡ b → (c : Bool) → eqb n 43 ≡ c → (d : Bool) → eqb n 44 ≡ d → (a || b || c || d) ≡ true → decided n ≡ false
    go true p b q c r d s h = let e : n ≡ 40 = eqb-true n 40 p in rw e
    go false p true q c r d s h = let e : n ≡ 41 = eqb-true n 41 q in rw e
    go false p false q true r d s h = let e : n ≡ 43 = eqb-true n 43 r in rw e
    go false p false q false r true s h = let e : n ≡ 44 = eqb-true n 44 s in rw e
    go false p false q false r false s h = never cc

-- where the grammar decides: the wire form is right, `one` is the only candidate, there is room for it; it stands at the front of the output, and the rest is as it was
pub record Wrote (s l out : List ℕ) : Type 0 where
  pub one : List ℕ
  pub form : is_wire_form s l ≡ true
  pub only : candidates (texts s l) ≡ one ∷ []
  pub room : length one ≤ length out
  pub answer : read_txt s l (length out) ≡ grammar one
  pub now : wrote_txt s l out ≡ one ++ drop (length one) out

chosen_one : (cs : List (List ℕ)) (room : ℕ) (t : List ℕ) → chosen cs room ≡ wrote t → (cs ≡ t ∷ []) × (length t ≤ room)
unfolding chosen
chosen_one [] room t e = never cc
chosen_one (u ∷ []) room t e = go (leb (length u) room) refl e
  where
    go : (b : Bool) → leb (length u) room ≡ b → cond b (wrote u) (refused 44) ≡ wrote t → (u ∷ [] ≡ t ∷ []) × (length t ≤ room)
    go true h e = let q : u ≡ t = cc in (rw q, rw q at (leb-true (length u) room h))
    go false h e = never cc
chosen_one (u ∷ v ∷ cs) room t e = never cc

module _ (s l out : List ℕ) where
  answer_wrote : (t : List ℕ) → outcome s l (length out) ≡ wrote t → read_txt s l (length out) ≡ grammar t
  unfolding read_txt txt_answer
  answer_wrote t e = rw e

  output_wrote : (t : List ℕ) → outcome s l (length out) ≡ wrote t → wrote_txt s l out ≡ t ++ drop (length t) out
  unfolding wrote_txt output_of
  output_wrote t e = rw e

  outcome_one : (t : List ℕ) → outcome s l (length out) ≡ wrote t → Wrote s l out
  unfolding outcome
  outcome_one t e = go (is_wire_form s l) refl e
    where
      go : (b : Bool) → is_wire_form s l ≡ b → cond b (chosen (candidates (texts s l)) (length out)) (refused 43) ≡ wrote t → Wrote s l out
      go true h k = record {
        one = t;
        form = h;
        only = (chosen_one (candidates (texts s l)) (length out) t k).0;
        room = (chosen_one (candidates (texts s l)) (length out) t k).1;
        answer = answer_wrote t e;
        now = output_wrote t e;
      }
      go false h k = never cc

  by_outcome : (o : Outcome) → outcome s l (length out) ≡ o → refuses o ≡ true → decided (txt_answer o).number ≡ true → Wrote s l out
  unfolding txt_answer refuses
  by_outcome (refused n) e h d = let k : decided n ≡ false = not_decided n h in never cc
  by_outcome (wrote t) e h d = outcome_one t e

  kept_outcome : (o : Outcome) → decided (txt_answer o).number ≡ false → output_of o out ≡ out
  unfolding txt_answer output_of
  kept_outcome (refused n) d = refl
  kept_outcome (wrote t) d = let k : decided (grammar t).number ≡ true = record_decided t (id_field t) in never cc

  -- 6 and 42 leave the one candidate's text at the front of the output
  pub read_wrote : decided (read_txt s l (length out)).number ≡ true → Wrote s l out
  unfolding read_txt
  read_wrote d = by_outcome (outcome s l (length out)) refl (outcome_refuses s l (length out)) d

  -- 43, 40, 41 and 44 leave the output as it was
  pub read_kept : decided (read_txt s l (length out)).number ≡ false → wrote_txt s l out ≡ out
  unfolding read_txt wrote_txt
  read_kept d = kept_outcome (outcome s l (length out)) d

  -- ---- 6: the part of the output that the answer names is the id of the one candidate, which is a record of document 01's grammar

  pub record Accepted : Type 0 where
    pub text : List ℕ
    pub form : is_wire_form s l ≡ true
    pub only : candidates (texts s l) ≡ text ∷ []
    pub room : length text ≤ length out
    pub record_of : Record text (id_part (wrote_txt s l out) (read_txt s l (length out)))

  six_decided : (n : ℕ) → n ≡ 6 → decided n ≡ true
  unfolding decided
  six_decided n e = rw e

  -- the id is the same part of the text and of the output that begins with it
  same_part : (t d : List ℕ) → (grammar t).number ≡ 6 → id_part (t ++ d) (grammar t) ≡ id_part t (grammar t)
  same_part t d h =
      let g : (f : List ℕ) × (id_field t ≡ some f) = record_six t (id_field t) h in
      let at_all : (x : List ℕ) → id_part (t ++ x) (grammar t) ≡ value_of g.0 = λ x. ap (λ (o : Option (List ℕ)). id_part (t ++ x) (record_answer t o)) g.1 ∙ id_value t x g.0 g.1 in
      at_all d ∙ (sym (at_all []) ∙ ap (λ (x : List ℕ). id_part x (grammar t)) (append-nil t))

  same_answer : (x y : List ℕ) (r q : TxtAnswer) → x ≡ y → r ≡ q → id_part x r ≡ id_part y q
  same_answer x y r q e f = ap (λ (z : List ℕ). id_part z r) e ∙ ap (λ (z : TxtAnswer). id_part y z) f

  pub read_six : (read_txt s l (length out)).number ≡ 6 → Accepted
  read_six h =
      let w : Wrote s l out = read_wrote (six_decided (read_txt s l (length out)).number h) in
      let n : (grammar w.one).number ≡ 6 = sym (ap (λ (r : TxtAnswer). r.number) w.answer) ∙ h in
      let p : id_part (wrote_txt s l out) (read_txt s l (length out)) ≡ id_part w.one (grammar w.one) = same_answer (wrote_txt s l out) (w.one ++ drop (length w.one) out) (read_txt s l (length out)) (grammar w.one) w.now w.answer ∙ same_part w.one (drop (length w.one) out) n in
      record { text = w.one; form = w.form; only = w.only; room = w.room; record_of = subst (λ (x : List ℕ). Record w.one x) (sym p) (accepted w.one n) }

  -- and every such input is answered so
  pub six_read : (t v : List ℕ) → is_wire_form s l ≡ true → candidates (texts s l) ≡ t ∷ [] → length t ≤ length out → Record t v
      → ((read_txt s l (length out)).number ≡ 6) × (id_part (wrote_txt s l out) (read_txt s l (length out)) ≡ v)
  unfolding outcome chosen
  six_read t v f o r i =
      let e : outcome s l (length out) ≡ wrote t = rw (f, o, le-leb (length t) (length out) r) in
      let a : ((grammar t).number ≡ 6) × (id_part t (grammar t) ≡ v) = accepts t v i in
      (rw (answer_wrote t e) a.0, same_answer (wrote_txt s l out) (t ++ drop (length t) out) (read_txt s l (length out)) (grammar t) (output_wrote t e) (answer_wrote t e) ∙ (same_part t (drop (length t) out) a.0 ∙ a.1))

-- ---- the wire form: what is written as character strings is read back, and an RDATA whose strings fit is nothing but its strings

-- character strings as they stand in an RDATA: a length byte, then the bytes
unfoldable pub written : List (List ℕ) → List ℕ
written [] = []
written (t ∷ ts) = length t ∷ (t ++ written ts)

pub strings_written : (ts : List (List ℕ)) → strings (written ts) ≡ ts
unfolding written strings strings_in
strings_written [] = refl
strings_written (t ∷ ts) = strings_cons (length t) (t ++ written ts) ∙ rw (take-append_seam t (written ts), drop-append_seam t (written ts), strings_written ts)

pub fit_written : (ts : List (List ℕ)) → strings_fit (written ts) ≡ true
unfolding written strings_fit fit_in
fit_written [] = refl
fit_written (t ∷ ts) =
    let k : length t ≤ length (t ++ written ts) = omega (arith, length-append t (written ts)) in
    fit_cons (length t) (t ++ written ts) ∙ rw (le-leb (length t) (length (t ++ written ts)) k, drop-append_seam t (written ts)) (fit_written ts)

whole_in : (k : ℕ) (s : List ℕ) → length s ≤ k → fit_in k s ≡ true → written (strings_in k s) ≡ s
unfolding fit_in strings_in written
whole_in zero [] h f = refl
whole_in zero (n ∷ s) h f = absurd (omega arith)
whole_in (suc k) [] h f = refl
whole_in (suc k) (n ∷ s) h f =
    let p : leb n (length s) ≡ true = and_left (leb n (length s)) (fit_in k (drop n s)) f in
    let q : fit_in k (drop n s) ≡ true = and_right (leb n (length s)) (fit_in k (drop n s)) f in
    let i : written (strings_in k (drop n s)) ≡ drop n s = whole_in k (drop n s) (omega (arith, length-drop n s)) q in
    rw (i, length-take-le n s (leb-true n (length s) p), take-append-drop n s)

pub strings_whole : (s : List ℕ) → strings_fit s ≡ true → written (strings s) ≡ s
unfolding strings_fit strings
strings_whole s f = whole_in (length s) s (omega arith) f
