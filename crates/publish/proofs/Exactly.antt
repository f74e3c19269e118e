-- Each number is answered exactly where document 02, No. 5, says: the numbers and limits stand here once more, as literals. Assumes nothing.
use Prim.Native.Nat.{ℕ, ◌+◌}
use mathlib.Core.Path.{◌≡◌, refl, sym, ap, ◌∙◌}
use mathlib.Core.Bool.{Bool, true, false, cond, not, ◌&&◌, ◌||◌}
use mathlib.Core.List.{List}
use mathlib.Core.Option.{none, some}
use native.Mathlib.Omega.{arith}
use lib.Dec.{eqb, leb}
use lib.ListN.{length}
use borrow.Author.Tests.{ne_eqb, eqb-true}
use Rattle.lists.specs.Bytes.{within, all}
use Rattle.numbers.specs.Numbers.{numbers}
use Rattle.numbers.specs.Pieces.{cut, sums_to}
use Rattle.names.specs.Name.{is_pattern}
use Rattle.lists.specs.Check.{refusal_of}
use Rattle.lists.proofs.Bools.{apart}
use Rattle.policies.specs.declared.Mode.{Mode}
use Rattle.policies.specs.declared.Mode.TheVariants as M
use Rattle.policies.specs.Policy.{mode_number, policy_answer}
use Rattle.policies.proofs.Sanity.{is_policy_refusal, refusal_range, policy_number_lem}
use Rattle.txt.specs.Paper.{is_id}
use Rattle.writing.specs.Answer.{answer_unless, write_refusal, write_answer}
use Rattle.publish.specs.Texts.{txt_text}
use Rattle.publish.specs.Calls.{txt_checks, write_txt_answer, mode_from, count_fits, patterns_fit, policy_checks, policy_of, write_policy_answer, rewrite_checks, rewritten, rewrite_answer}
use Rattle.publish.proofs.TxtBack.{txt_length}

-- ---- the TXT text of an id, for an output of `room` bytes
module _ (id : List ℕ) (room : ℕ) where
  abbrev txt_number : ℕ
  txt_number = (write_txt_answer id room).number

  -- the text is 13 bytes longer than the id
  abbrev txt_fits : Bool
  txt_fits = leb (length id + 13) room

  -- the number, in the order 80, 83; else 15
  pub txt_number_lem : txt_number ≡ cond (is_id id) (cond txt_fits 15 83) 80
  unfolding write_txt_answer write_answer answer_unless write_refusal refusal_of txt_checks
  txt_number_lem = go (is_id id) (leb (length (txt_text id)) room) ∙ ap (λ (n : ℕ). cond (is_id id) (cond (leb n room) 15 83) 80) (txt_length id)
    where
      go : (a b : Bool) → (answer_unless (cond a (cond b none (some 83)) (some 80)) (length (txt_text id))).number ≡ cond a (cond b 15 83) 80
      go false b = refl
      go true false = refl
      go true true = refl

  txt_each : (eqb txt_number 80 ≡ not (is_id id)) × (eqb txt_number 83 ≡ (is_id id && not txt_fits)) × (eqb txt_number 15 ≡ (is_id id && txt_fits))
  txt_each = rw txt_number_lem (go (is_id id) txt_fits)
    where
      go : (a b : Bool) → (eqb (cond a (cond b 15 83) 80) 80 ≡ not a) × (eqb (cond a (cond b 15 83) 80) 83 ≡ (a && not b)) × (eqb (cond a (cond b 15 83) 80) 15 ≡ (a && b))
      go false b = (refl, refl, refl)
      go true false = (refl, refl, refl)
      go true true = (refl, refl, refl)

  pub txt_80 : eqb txt_number 80 ≡ not (is_id id)
  txt_80 = txt_each.0

  pub txt_83 : eqb txt_number 83 ≡ (is_id id && not txt_fits)
  txt_83 = txt_each.1

  pub txt_15 : eqb txt_number 15 ≡ (is_id id && txt_fits)
  txt_15 = txt_each.2

-- ---- the policy body of a mode, a lifetime and patterns

some_and_few : (a b : Bool) → (a && b) ≡ (b && (a || false))
some_and_few false false = refl
some_and_few false true = refl
some_and_few true false = refl
some_and_few true true = refl

few_alone : (a b : Bool) → b ≡ (b && (a || true))
few_alone a false = refl
few_alone false true = refl
few_alone true true = refl

-- a count of patterns is right where it is at most 16, and at least 1 unless the mode is 3, none
pub count_exactly : (m : Mode) (n : ℕ) → count_fits m n ≡ (leb n 16 && (leb 1 n || eqb (mode_number m) 3))
unfolding count_fits mode_number
count_exactly M.Enforce n = some_and_few (leb 1 n) (leb n 16)
count_exactly M.Testing n = some_and_few (leb 1 n) (leb n 16)
count_exactly M.None n = few_alone (leb 1 n) (leb n 16)

-- patterns fit where the list of their lengths has no left-over bytes and sums to their bytes, their count is right, and each is a pattern
pub fit_exactly : (m : Mode) (s l : List ℕ) → patterns_fit m s l ≡ (sums_to l (length s) && (leb (length (numbers l)) 16 && (leb 1 (length (numbers l)) || eqb (mode_number m) 3)) && all is_pattern (cut s (numbers l)))
unfolding patterns_fit
fit_exactly m s l = rw (count_exactly m (length (numbers l)))

module _ (mode lifetime : ℕ) (patterns lengths : List ℕ) (room : ℕ) where
  abbrev policy_number : ℕ
  policy_number = (write_policy_answer mode lifetime patterns lengths room).number

  abbrev named : Bool
  named = within 1 3 mode

  abbrev fit : Bool
  fit = patterns_fit (mode_from mode) patterns lengths

  abbrev short : Bool
  short = leb lifetime 31557600

  abbrev policy_fits : Bool
  policy_fits = leb (length (policy_of mode lifetime patterns lengths)) room

  -- the number, in the order 67, 81, 82, 83; else 15
  pub policy_number_is : policy_number ≡ cond named (cond fit (cond short (cond policy_fits 15 83) 82) 81) 67
  unfolding write_policy_answer write_answer answer_unless write_refusal refusal_of policy_checks
  policy_number_is = go named fit short policy_fits
    where
      go : (a b c d : Bool) → (answer_unless (cond a (cond b (cond c (cond d none (some 83)) (some 82)) (some 81)) (some 67)) (length (policy_of mode lifetime patterns lengths))).number ≡ cond a (cond b (cond c (cond d 15 83) 82) 81) 67
      go false b c d = refl
      go true false c d = refl
      go true true false d = refl
      go true true true false = refl
      go true true true true = refl

  policy_each : (eqb policy_number 67 ≡ not named) × (eqb policy_number 81 ≡ (named && not fit)) × (eqb policy_number 82 ≡ (named && fit && not short)) × (eqb policy_number 83 ≡ (named && fit && short && not policy_fits)) × (eqb policy_number 15 ≡ (named && fit && short && policy_fits))
  policy_each = rw policy_number_is (go named fit short policy_fits)
    where
      go : (a b c d : Bool) → (eqb (cond a (cond b (cond c (cond d 15 83) 82) 81) 67) 67 ≡ not a) × (eqb (cond a (cond b (cond c (cond d 15 83) 82) 81) 67) 81 ≡ (a && not b)) × (eqb (cond a (cond b (cond c (cond d 15 83) 82) 81) 67) 82 ≡ (a && b && not c)) × (eqb (cond a (cond b (cond c (cond d 15 83) 82) 81) 67) 83 ≡ (a && b && c && not d)) × (eqb (cond a (cond b (cond c (cond d 15 83) 82) 81) 67) 15 ≡ (a && b && c && d))
      go false b c d = (refl, refl, refl, refl, refl)
      go true false c d = (refl, refl, refl, refl, refl)
      go true true false d = (refl, refl, refl, refl, refl)
      go true true true false = (refl, refl, refl, refl, refl)
      go true true true true = (refl, refl, refl, refl, refl)

  pub policy_67 : eqb policy_number 67 ≡ not named
  policy_67 = policy_each.0

  pub policy_81 : eqb policy_number 81 ≡ (named && not fit)
  policy_81 = policy_each.1

  pub policy_82 : eqb policy_number 82 ≡ (named && fit && not short)
  policy_82 = policy_each.2

  pub policy_83 : eqb policy_number 83 ≡ (named && fit && short && not policy_fits)
  policy_83 = policy_each.3

  pub policy_15 : eqb policy_number 15 ≡ (named && fit && short && policy_fits)
  policy_15 = policy_each.4

-- ---- rewriting a body
module _ (body : List ℕ) (room : ℕ) where
  abbrev rewrite_number : ℕ
  rewrite_number = (rewrite_answer body room).number

  abbrev is_policy : Bool
  is_policy = eqb (policy_answer body).number 7

  abbrev few : Bool
  few = leb (policy_answer body).mx_count 16

  abbrev body_fits : Bool
  body_fits = leb (length (rewritten body)) room

  -- the number, in the order 50, 53 to 57, 52, 81, 83; else 15
  pub rewrite_number_lem : rewrite_number ≡ cond is_policy (cond few (cond body_fits 15 83) 81) (policy_answer body).number
  unfolding rewrite_answer write_answer answer_unless write_refusal refusal_of rewrite_checks
  rewrite_number_lem = go is_policy few body_fits
    where
      go : (a b c : Bool) → (answer_unless (cond a (cond b (cond c none (some 83)) (some 81)) (some (policy_answer body).number)) (length (rewritten body))).number ≡ cond a (cond b (cond c 15 83) 81) (policy_answer body).number
      go false b c = refl
      go true false c = refl
      go true true false = refl
      go true true true = refl

  -- the reader's number is 7, or a refusal 50 or 52 to 57
  reader_not : (n : ℕ) → (eqb n 7 || is_policy_refusal n) ≡ false → eqb (policy_answer body).number n ≡ false
  reader_not n h = ne_eqb (policy_answer body).number n (λ e. apart (sym h ∙ (rw e at (policy_number_lem body))))

  rewrite_each : (eqb rewrite_number 81 ≡ (is_policy && not few)) × (eqb rewrite_number 83 ≡ (is_policy && few && not body_fits)) × (eqb rewrite_number 15 ≡ (is_policy && few && body_fits))
  rewrite_each = rw rewrite_number_lem (go is_policy few body_fits)
    where
      go : (a b c : Bool) → (eqb (cond a (cond b (cond c 15 83) 81) (policy_answer body).number) 81 ≡ (a && not b)) × (eqb (cond a (cond b (cond c 15 83) 81) (policy_answer body).number) 83 ≡ (a && b && not c)) × (eqb (cond a (cond b (cond c 15 83) 81) (policy_answer body).number) 15 ≡ (a && b && c))
      go false b c = (reader_not 81 refl, reader_not 83 refl, reader_not 15 refl)
      go true false c = (refl, refl, refl)
      go true true false = (refl, refl, refl)
      go true true true = (refl, refl, refl)

  pub rewrite_81 : eqb rewrite_number 81 ≡ (is_policy && not few)
  rewrite_81 = rewrite_each.0

  pub rewrite_83 : eqb rewrite_number 83 ≡ (is_policy && few && not body_fits)
  rewrite_83 = rewrite_each.1

  pub rewrite_15 : eqb rewrite_number 15 ≡ (is_policy && few && body_fits)
  rewrite_15 = rewrite_each.2

  -- 50 or 52 to 57: by the reader's own number
  pub rewrite_refused : (n : ℕ) → is_policy_refusal n ≡ true → eqb rewrite_number n ≡ eqb (policy_answer body).number n
  rewrite_refused n h = rw rewrite_number_lem (go is_policy refl few body_fits)
    where
      apart_from : (k : ℕ) → (k ≡ n → ⊥) → eqb (policy_answer body).number 7 ≡ true → eqb k n ≡ eqb (policy_answer body).number n
      apart_from k d e =
          let l = refusal_range n h in
          let seven : (policy_answer body).number ≡ 7 = eqb-true (policy_answer body).number 7 e in
          ne_eqb k n d ∙ sym (ne_eqb (policy_answer body).number n (λ z. omega (arith, l.0, seven)))

      go : (a : Bool) → eqb (policy_answer body).number 7 ≡ a → (b c : Bool) → eqb (cond a (cond b (cond c 15 83) 81) (policy_answer body).number) n ≡ eqb (policy_answer body).number n
      go false e b c = refl
      go true e false c = apart_from 81 (λ z. omega (arith, (refusal_range n h).1)) e
      go true e true false = apart_from 83 (λ z. omega (arith, (refusal_range n h).1)) e
      go true e true true = apart_from 15 (λ z. omega (arith, (refusal_range n h).0)) e
