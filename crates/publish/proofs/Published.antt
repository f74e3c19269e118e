-- Document 02, No. 5: "What we write, our reader accepts (the TXT text as one character string) and reads back to the same id, mode, lifetime and patterns. Rewriting ..
-- keeps mode, lifetime and patterns in order, but no other field." Said of the calls, for every input that they accept; and how much output is always enough. Assumes nothing.
use Prim.Native.Nat.{ℕ, ◌+◌, ◌≤◌}
use mathlib.Core.Path.{◌≡◌, refl, sym, ap, ◌∙◌}
use mathlib.Core.Bool.{Bool, true, false, cond, not, ◌&&◌}
use mathlib.Core.List.{List, [], ◌∷◌}
use native.Mathlib.Omega.{arith}
use lib.Dec.{eqb, leb}
use lib.ListN.{length, take}
use borrow.Author.Tests.{eqb-true, eqb-false, eq-eqb, leb-true, le-leb}
use Rattle.lists.specs.Bytes.{within, all}
use Rattle.lists.specs.Check.{refusal_of}
use Rattle.lists.proofs.Bools.{and_both}
use Rattle.lists.proofs.Laws.{within_true}
use Rattle.numbers.specs.Numbers.{numbers}
use Rattle.numbers.specs.Pieces.{cut}
use Rattle.numbers.proofs.Cut.{cut_count}
use Rattle.numbers.proofs.Written.{lengths_of}
use Rattle.names.specs.Name.{is_pattern}
use Rattle.clock.specs.Clock.{longest}
use Rattle.policies.specs.declared.Mode.TheVariants as M
use Rattle.policies.specs.Paper.{Body}
use Rattle.policies.specs.Policy.{Policy, Reading, policy, mode_number, answer_to, policy_answer, read_body}
use Rattle.policies.proofs.Sanity.{Accepts, accepted_answer}
use Rattle.txt.specs.Paper.{is_id}
use Rattle.txt.specs.Txt.{read_txt, wrote_txt, id_part}
use Rattle.writing.proofs.Written.{Wrote, wrote, not_written}
use Rattle.publish.specs.Texts.{txt_text, policy_text}
use Rattle.publish.specs.Calls.{txt_checks, write_txt_answer, write_txt_output, mode_from, count_fits, patterns_fit, policy_checks, policy_of, write_policy_answer, write_policy_output, rewrite_checks, text_of, rewritten, rewrite_answer, rewrite_output}
use Rattle.publish.proofs.TxtBack.{as_string, txt_length, txt_most, txt_back}
use Rattle.publish.proofs.PolicyBack.{fields_of, policy_fields, policy_back, policy_kept, kept_fields, kept_most}
use Rattle.publish.proofs.PolicyReturns.{fit_parts, given_most}
use Rattle.publish.proofs.Exactly.{txt_15, txt_83, policy_15, policy_83, rewrite_15, rewrite_83}

-- ---- the TXT text of an id
module _ (id out : List ℕ) (done : (write_txt_answer id (length out)).number ≡ 15) where
  txt_good : (is_id id ≡ true) × (leb (length id + 13) (length out) ≡ true)
  txt_good = and_both (is_id id) (leb (length id + 13) (length out)) (sym (txt_15 id (length out)) ∙ eq-eqb (write_txt_answer id (length out)).number 15 done)

  -- the text stands at the front of the output, whose rest is as it was
  pub txt_wrote : Wrote (txt_text id) out (write_txt_answer id (length out)) (write_txt_output id out)
  unfolding write_txt_answer write_txt_output txt_checks refusal_of
  txt_wrote = wrote (txt_checks id) (txt_text id) out (rw txt_good.0) (omega (arith, leb-true (length id + 13) (length out) txt_good.1, txt_length id))

  -- what was written
  abbrev pub txt_written : List ℕ
  txt_written = take (write_txt_answer id (length out)).length (write_txt_output id out)

  pub txt_is : txt_written ≡ txt_text id
  txt_is = rw txt_wrote.size txt_wrote.front

  -- as one character string it is accepted, with the same id, whatever output has room for it
  pub txt_read_back : (other : List ℕ) → length (txt_text id) ≤ length other → ((read_txt (as_string txt_written) (lengths_of (as_string txt_written ∷ [])) (length other)).number ≡ 6) × (id_part (wrote_txt (as_string txt_written) (lengths_of (as_string txt_written ∷ [])) other) (read_txt (as_string txt_written) (lengths_of (as_string txt_written ∷ [])) (length other)) ≡ id)
  txt_read_back other room = rw txt_is (txt_back id txt_good.0 other room)

-- with any other number than 15 the output is as it was, and the length is zero
pub txt_unwritten : (id out : List ℕ) → ((write_txt_answer id (length out)).number ≡ 15 → ⊥) → (write_txt_output id out ≡ out) × ((write_txt_answer id (length out)).length ≡ 0)
unfolding write_txt_answer write_txt_output
txt_unwritten id out = not_written (txt_checks id) (txt_text id) out

-- 45 bytes of output are always enough
pub txt_enough : (id : List ℕ) (room : ℕ) → 45 ≤ room → eqb (write_txt_answer id room).number 83 ≡ false
txt_enough id room h = txt_83 id room ∙ go (is_id id) refl
  where
    go : (b : Bool) → is_id id ≡ b → (b && not (leb (length id + 13) room)) ≡ false
    go false e = refl
    go true e = rw (le-leb (length id + 13) room (omega (arith, txt_most id e, txt_length id)))

-- ---- the policy body of a mode, a lifetime and patterns

-- the mode of a number has this number
mode_number_lem : (mode : ℕ) → within 1 3 mode ≡ true → mode_number (mode_from mode) ≡ mode
unfolding mode_number
mode_number_lem mode h = go (eqb mode 1) refl (eqb mode 2) refl
  where
    go : (a : Bool) → eqb mode 1 ≡ a → (b : Bool) → eqb mode 2 ≡ b → mode_number (cond a M.Enforce (cond b M.Testing M.None)) ≡ mode
    go true e b f = sym (eqb-true mode 1 e)
    go false e true f = sym (eqb-true mode 2 f)
    go false e false f = omega (arith, within_true 1 3 mode h, eqb-false mode 1 e, eqb-false mode 2 f)

-- what passes the checks
record Good (mode lifetime : ℕ) (patterns lengths : List ℕ) : Type 0 where
  named : within 1 3 mode ≡ true
  fit : patterns_fit (mode_from mode) patterns lengths ≡ true
  short : lifetime ≤ longest

module _ (mode lifetime : ℕ) (patterns lengths : List ℕ) (good : Good mode lifetime patterns lengths) where
  abbrev pieces : List (List ℕ)
  pieces = cut patterns (numbers lengths)

  counted : count_fits (mode_from mode) (length pieces) ≡ true
  counted = rw (cut_count patterns (numbers lengths)) (fit_parts (mode_from mode) patterns lengths good.fit).1

  patterns_are : all is_pattern pieces ≡ true
  patterns_are = (fit_parts (mode_from mode) patterns lengths good.fit).2

  given_fields : Body (policy_of mode lifetime patterns lengths) (fields_of (mode_from mode) lifetime pieces)
  given_fields = policy_fields (mode_from mode) lifetime pieces good.short counted patterns_are

  given_back : read_body (policy_of mode lifetime patterns lengths) ≡ policy (record { mode = mode_from mode; lifetime = record { 0 = lifetime }; patterns = pieces })
  given_back = policy_back (mode_from mode) lifetime pieces good.short counted patterns_are

module _ (mode lifetime : ℕ) (patterns lengths out : List ℕ) (done : (write_policy_answer mode lifetime patterns lengths (length out)).number ≡ 15) where
  fits_too : Bool
  fits_too = leb (length (policy_of mode lifetime patterns lengths)) (length out)

  policy_good : Good mode lifetime patterns lengths × (fits_too ≡ true)
  unfolding fits_too
  policy_good =
      let all_four = sym (policy_15 mode lifetime patterns lengths (length out)) ∙ eq-eqb (write_policy_answer mode lifetime patterns lengths (length out)).number 15 done in
      let d = and_both (within 1 3 mode && patterns_fit (mode_from mode) patterns lengths && leb lifetime longest) fits_too all_four in
      let c = and_both (within 1 3 mode && patterns_fit (mode_from mode) patterns lengths) (leb lifetime longest) d.0 in
      let b = and_both (within 1 3 mode) (patterns_fit (mode_from mode) patterns lengths) c.0 in
      (record { named = b.0; fit = b.1; short = leb-true lifetime longest c.1 }, d.1)

  passed : Good mode lifetime patterns lengths
  passed = policy_good.0

  -- the body stands at the front of the output, whose rest is as it was
  pub policy_wrote : Wrote (policy_of mode lifetime patterns lengths) out (write_policy_answer mode lifetime patterns lengths (length out)) (write_policy_output mode lifetime patterns lengths out)
  unfolding write_policy_answer write_policy_output policy_checks refusal_of fits_too
  policy_wrote =
      wrote (policy_checks mode lifetime patterns lengths) (policy_of mode lifetime patterns lengths) out
      (rw (passed.named, passed.fit, le-leb lifetime longest passed.short))
      (leb-true (length (policy_of mode lifetime patterns lengths)) (length out) policy_good.1)

  -- what was written
  abbrev pub policy_written : List ℕ
  policy_written = take (write_policy_answer mode lifetime patterns lengths (length out)).length (write_policy_output mode lifetime patterns lengths out)

  pub policy_is : policy_written ≡ policy_text (mode_from mode) lifetime (cut patterns (numbers lengths))
  policy_is = rw policy_wrote.size policy_wrote.front

  -- it has these fields, in this order, and no other
  pub policy_has : Body policy_written (fields_of (mode_from mode) lifetime (cut patterns (numbers lengths)))
  policy_has = rw policy_is (given_fields mode lifetime patterns lengths passed)

  -- it is read as the policy of the same mode, lifetime and patterns in order
  pub policy_read_back : read_body policy_written ≡ policy (record { mode = mode_from mode; lifetime = record { 0 = lifetime }; patterns = cut patterns (numbers lengths) })
  policy_read_back = rw policy_is (given_back mode lifetime patterns lengths passed)

  -- and accepted: 7, with the numbers that were given, and how many patterns there are
  pub policy_accepted : policy_answer policy_written ≡ record { number = 7; mode = mode; lifetime = lifetime; mx_count = length (numbers lengths); line = 0; offset = 0 }
  unfolding policy_answer answer_to
  policy_accepted = rw (policy_read_back, mode_number_lem mode passed.named, cut_count patterns (numbers lengths))

  -- and rewriting it writes the same
  pub policy_stays : rewritten policy_written ≡ policy_written
  unfolding text_of
  policy_stays = ap text_of policy_read_back ∙ sym policy_is

-- with any other number than 15 the output is as it was, and the length is zero
pub policy_unwritten : (mode lifetime : ℕ) (patterns lengths out : List ℕ) → ((write_policy_answer mode lifetime patterns lengths (length out)).number ≡ 15 → ⊥) → (write_policy_output mode lifetime patterns lengths out ≡ out) × ((write_policy_answer mode lifetime patterns lengths (length out)).length ≡ 0)
unfolding write_policy_answer write_policy_output
policy_unwritten mode lifetime patterns lengths out = not_written (policy_checks mode lifetime patterns lengths) (policy_of mode lifetime patterns lengths) out

-- 4,207 bytes of output are always enough
pub policy_enough : (mode lifetime : ℕ) (patterns lengths : List ℕ) (room : ℕ) → 4207 ≤ room → eqb (write_policy_answer mode lifetime patterns lengths room).number 83 ≡ false
policy_enough mode lifetime patterns lengths room h = policy_83 mode lifetime patterns lengths room ∙ go (within 1 3 mode) refl (patterns_fit (mode_from mode) patterns lengths) refl (leb lifetime longest) refl
  where
    go : (a : Bool) → within 1 3 mode ≡ a → (b : Bool) → patterns_fit (mode_from mode) patterns lengths ≡ b → (c : Bool) → leb lifetime longest ≡ c → (a && b && c && not (leb (length (policy_of mode lifetime patterns lengths)) room)) ≡ false
    go false e b f c g = refl
    go true e false f c g = refl
    go true e true f false g = refl
    go true e true f true g =
        rw (le-leb (length (policy_of mode lifetime patterns lengths)) room (omega (arith, given_most mode lifetime patterns lengths f (leb-true lifetime longest g))))

-- ---- rewriting a body

-- what passes the checks: the body is read as a policy of at most 16 patterns
record Read (body : List ℕ) : Type 0 where
  read : Policy
  reads : read_body body ≡ policy read
  few : length read.patterns ≤ 16

body_read : (body : List ℕ) → eqb (policy_answer body).number 7 ≡ true → leb (policy_answer body).mx_count 16 ≡ true → Read body
body_read body a b =
    let k : Accepts body = accepted_answer body (eqb-true (policy_answer body).number 7 a) in
    record { read = k.read; reads = k.reads; few = omega (arith, leb-true (policy_answer body).mx_count 16 b, k.count, ap length k.patterns) }

module _ (body : List ℕ) (r : Read body) where
  anew : rewritten body ≡ policy_text r.read.mode r.read.lifetime.0 r.read.patterns
  unfolding text_of
  anew = ap text_of r.reads

  anew_back : read_body (rewritten body) ≡ read_body body
  anew_back = rw (anew, r.reads) (policy_kept body r.read r.reads r.few)

  anew_most : length (rewritten body) ≤ 4207
  anew_most = rw anew (kept_most body r.read r.reads r.few)

module _ (body out : List ℕ) (done : (rewrite_answer body (length out)).number ≡ 15) where
  rewrite_good : (eqb (policy_answer body).number 7 ≡ true) × (leb (policy_answer body).mx_count 16 ≡ true) × (leb (length (rewritten body)) (length out) ≡ true)
  rewrite_good =
      let all_three = sym (rewrite_15 body (length out)) ∙ eq-eqb (rewrite_answer body (length out)).number 15 done in
      let c = and_both (eqb (policy_answer body).number 7 && leb (policy_answer body).mx_count 16) (leb (length (rewritten body)) (length out)) all_three in
      let b = and_both (eqb (policy_answer body).number 7) (leb (policy_answer body).mx_count 16) c.0 in
      (b.0, b.1, c.1)

  -- the body stands at the front of the output, whose rest is as it was
  pub rewrite_wrote : Wrote (rewritten body) out (rewrite_answer body (length out)) (rewrite_output body out)
  unfolding rewrite_answer rewrite_output rewrite_checks refusal_of
  rewrite_wrote =
      wrote (rewrite_checks body) (rewritten body) out
      (rw (rewrite_good.0, rewrite_good.1))
      (leb-true (length (rewritten body)) (length out) rewrite_good.2)

  was : Read body
  was = body_read body rewrite_good.0 rewrite_good.1

  -- what was written
  abbrev pub body_written : List ℕ
  body_written = take (rewrite_answer body (length out)).length (rewrite_output body out)

  pub rewrite_is : body_written ≡ rewritten body
  rewrite_is = rw rewrite_wrote.size rewrite_wrote.front

  -- it is read as the old body is: the same mode, lifetime and patterns in order
  pub rewrite_keeps : read_body body_written ≡ read_body body
  rewrite_keeps = rw rewrite_is (anew_back body was)

  -- so it has the old body's answer
  pub rewrite_answers : policy_answer body_written ≡ policy_answer body
  unfolding policy_answer
  rewrite_answers = ap answer_to rewrite_keeps

  -- rewriting it writes the same, and answers the same: twice is once
  pub rewrite_twice : rewritten body_written ≡ body_written
  rewrite_twice = ap text_of rewrite_keeps ∙ sym rewrite_is

  pub rewrite_again : (room : ℕ) → rewrite_answer body_written room ≡ rewrite_answer body room
  unfolding rewrite_answer rewrite_checks
  rewrite_again room = rw (rewrite_answers, rewrite_keeps)

  -- its fields are those of that mode, that lifetime and these patterns, in this order, and no other
  pub rewrite_has : (p : Policy) → read_body body ≡ policy p → Body body_written (fields_of p.mode p.lifetime.0 p.patterns)
  unfolding text_of policy_answer answer_to
  rewrite_has p e =
      let few : leb (length p.patterns) 16 ≡ true = sym (ap (λ (r : Reading). leb (answer_to r).mx_count 16) e) ∙ rewrite_good.1 in
      rw (rewrite_is, ap text_of e) (kept_fields body p e (leb-true (length p.patterns) 16 few))

-- with any other number than 15 the output is as it was, and the length is zero
pub rewrite_unwritten : (body out : List ℕ) → ((rewrite_answer body (length out)).number ≡ 15 → ⊥) → (rewrite_output body out ≡ out) × ((rewrite_answer body (length out)).length ≡ 0)
unfolding rewrite_answer rewrite_output
rewrite_unwritten body out = not_written (rewrite_checks body) (rewritten body) out

-- 4,207 bytes of output are always enough
pub rewrite_enough : (body : List ℕ) (room : ℕ) → 4207 ≤ room → eqb (rewrite_answer body room).number 83 ≡ false
rewrite_enough body room h = rewrite_83 body room ∙ go (eqb (policy_answer body).number 7) refl (leb (policy_answer body).mx_count 16) refl
  where
    go : (a : Bool) → eqb (policy_answer body).number 7 ≡ a → (b : Bool) → leb (policy_answer body).mx_count 16 ≡ b → (a && b && not (leb (length (rewritten body)) room)) ≡ false
    go false e b f = refl
    go true e false f = refl
    go true e true f = rw (le-leb (length (rewritten body)) room (omega (arith, anew_most body (body_read body e f))))
