-- `tweedstork_next_host`: its returns, what its answers can be, and exactly when each is given. Assumes nothing.
use Prim.Native.Nat.{ℕ}
use mathlib.Core.Path.{◌≡◌, refl, sym, ◌∙◌}
use mathlib.Core.Bool.{Bool, true, false, cond, not, ◌&&◌, ◌||◌}
use mathlib.Core.List.{List}
use mathlib.Core.Option.{Option, none, some}
use native.Mathlib.Omega.{arith}
use lib.Dec.{eqb}
use borrow.Author.Rules.{rules}
use borrow.Author.Tests.{eq-eqb, ne_eqb, eqb-true}
use Rattle.lists.specs.Bytes.{all}
use Rattle.lists.proofs.Bools.{apart}
use Rattle.numbers.specs.Numbers.{numbers, is_whole}
use Rattle.verdicts.specs.Verdicts.{is_delivery, is_next_host}
use Rattle.messages.specs.declared.MessageAnswer.{MessageAnswer}
use Rattle.messages.specs.declared.MxLookup.{MxLookup}
use Rattle.messages.specs.declared.MxLookup.TheVariants.{Answered, Failed}
use Rattle.messages.specs.Hosts.{is_host_list, no_host, message_answer, lists_answer, next_host}
use Rattle.messages.specs.Order.{Decides, is_decision, Outcome, is_message_answer}
use Rattle.messages.specs.Order.Outcome.{refused, one}
use Rattle.messages.specs.Order as O
use Rattle.messages.proofs.Decision.{outcome, refused_when, none_when, one_when, decides, next_table, never_zero, table_position}
use Rattle.tweedstork.specs.Codes.{mx_lookup_of}
use Rattle.tweedstork.specs.Calls.{looked_up, next_host_answer}

module _ (code : ℕ) (preferences verdicts : List ℕ) (r : MessageAnswer) where
  pub next_answered : code ≡ 1 → r ≡ next_host MxLookup.Answered preferences verdicts → r ≡ next_host_answer code preferences verdicts
  unfolding next_host_answer looked_up mx_lookup_of
  next_answered c e = cc (eq-eqb code 1 c)

  pub next_failed : code ≡ 2 → r ≡ next_host MxLookup.Failed preferences verdicts → r ≡ next_host_answer code preferences verdicts
  unfolding next_host_answer looked_up mx_lookup_of
  next_failed c e = cc (eq-eqb code 2 c)

pub next_no_code : (code : ℕ) (preferences verdicts : List ℕ) → (code ≡ 1 → ⊥) → (code ≡ 2 → ⊥) → ◌≡◌ {A = MessageAnswer} (record { number = 67; position = 0 }) (next_host_answer code preferences verdicts)
unfolding next_host_answer looked_up mx_lookup_of no_host
next_no_code code preferences verdicts p q = cc (ne_eqb code 1 p, ne_eqb code 2 q)

pub ruleset next_laws = (next_answered, next_failed, next_no_code, rules)

-- what the call can answer: 8 or 1 to 5 with a position; 30, 31, 63 or 67 with position 0
abbrev pub is_next_host_answer : MessageAnswer → Bool
is_next_host_answer r = is_message_answer r || eqb r.number 67 && eqb r.position 0

looked_table : (l : Option MxLookup) (preferences verdicts : List ℕ) → is_next_host_answer (looked_up l preferences verdicts) ≡ true
unfolding looked_up no_host is_message_answer is_decision is_delivery
looked_table none preferences verdicts = refl
looked_table (some l) preferences verdicts = rw (next_table l preferences verdicts)

pub next_answers : (code : ℕ) (preferences verdicts : List ℕ) → is_next_host_answer (next_host_answer code preferences verdicts) ≡ true
unfolding next_host_answer
next_answers code preferences verdicts = looked_table (mx_lookup_of code) preferences verdicts

looked_number : (l : Option MxLookup) (preferences verdicts : List ℕ) → (looked_up l preferences verdicts).number ≡ 0 → ⊥
unfolding looked_up no_host
looked_number none preferences verdicts e = omega arith
looked_number (some l) preferences verdicts e = never_zero l preferences verdicts e

-- the number is never zero
pub next_never_zero : (code : ℕ) (preferences verdicts : List ℕ) → (next_host_answer code preferences verdicts).number ≡ 0 → ⊥
unfolding next_host_answer
next_never_zero code preferences verdicts e = looked_number (mx_lookup_of code) preferences verdicts e

looked_position : (l : Option MxLookup) (preferences verdicts : List ℕ) → is_decision (looked_up l preferences verdicts).number ≡ false → (looked_up l preferences verdicts).position ≡ 0
unfolding looked_up no_host
looked_position none preferences verdicts e = refl
looked_position (some l) preferences verdicts e = table_position (next_host l preferences verdicts) (next_table l preferences verdicts) e

-- a position stands only with 8 and 1 to 5: a refusal, 30 and 31 have 0
pub next_position : (code : ℕ) (preferences verdicts : List ℕ) → is_decision (next_host_answer code preferences verdicts).number ≡ false → (next_host_answer code preferences verdicts).position ≡ 0
unfolding next_host_answer
next_position code preferences verdicts e = looked_position (mx_lookup_of code) preferences verdicts e

-- exactly when each answer is given

module _ (preferences verdicts : List ℕ) where
  -- the two lists of a call: no left-over bytes in either, and a host list
  abbrev pub are_host_lists : Bool
  are_host_lists = is_whole preferences && (is_whole verdicts && is_host_list (numbers preferences) (numbers verdicts))

  -- a property of the answer to two lists, by whether they have left-over bytes
  by_lists : (P : Bool → MessageAnswer → Type 0) → P (is_host_list (numbers preferences) (numbers verdicts)) (message_answer (numbers preferences) (numbers verdicts)) → P false (no_host 63) → P are_host_lists (lists_answer preferences verdicts)
  unfolding lists_answer
  by_lists P m l = go (is_whole preferences) (is_whole verdicts)
    where
      go : (t u : Bool) → P (t && (u && is_host_list (numbers preferences) (numbers verdicts))) (cond (t && u) (message_answer (numbers preferences) (numbers verdicts)) (no_host 63))
      go true true = m
      go true false = l
      go false u = l

  -- no other answer than 63, 31, 8 and 1 to 5
  lists_other : (n : ℕ) → eqb 63 n ≡ false → eqb 31 n ≡ false → is_decision n ≡ false → eqb (lists_answer preferences verdicts).number n ≡ false
  unfolding no_host
  lists_other n p q d = by_lists (λ h r. eqb r.number n ≡ false) (go (message_answer (numbers preferences) (numbers verdicts)) (outcome (numbers preferences) (numbers verdicts))) p
    where
      go : (r : MessageAnswer) → Outcome (numbers preferences) (numbers verdicts) r → eqb r.number n ≡ false
      go r (refused l e) = rw e p
      go r (O.Outcome.none l a e) = rw e q
      go r (one l a z f) = ne_eqb r.number n (λ e. apart (sym d ∙ rw e at z))

  module _ (code : ℕ) where
    abbrev answer : MessageAnswer
    answer = next_host_answer code preferences verdicts

    -- a property of the answer, by the code: 1 answered, 2 failed
    by_code : (P : (answered failed : Bool) → MessageAnswer → Type 0) → P true false (lists_answer preferences verdicts) → P false true (no_host 30) → P false false (no_host 67) → P (eqb code 1) (eqb code 2) answer
    unfolding next_host_answer looked_up mx_lookup_of next_host
    by_code P a f n = go (eqb code 1) refl (eqb code 2) refl
      where
        go : (t : Bool) → eqb code 1 ≡ t → (u : Bool) → eqb code 2 ≡ u → P t u (looked_up (cond t (some Answered) (cond u (some Failed) none)) preferences verdicts)
        go true e true g = absurd (omega (arith, eqb-true code 1 e, eqb-true code 2 g))
        go true e false g = a
        go false e true g = f
        go false e false g = n

    -- 67: the code is neither of its choices
    pub exactly_67 : eqb answer.number 67 ≡ not (eqb code 1 || eqb code 2)
    unfolding no_host is_decision is_delivery
    exactly_67 = by_code (λ a f r. eqb r.number 67 ≡ not (a || f)) (lists_other 67 refl refl refl) refl refl

    -- 30: the MX lookup failed, whatever the lists are
    pub exactly_30 : eqb answer.number 30 ≡ eqb code 2
    unfolding no_host is_decision is_delivery
    exactly_30 = by_code (λ a f r. eqb r.number 30 ≡ f) (lists_other 30 refl refl refl) refl refl

    -- 63: it was answered, and a list has left-over bytes, or they are no host list
    pub exactly_63 : eqb answer.number 63 ≡ (eqb code 1 && not are_host_lists)
    unfolding no_host
    exactly_63 = by_code (λ a f r. eqb r.number 63 ≡ (a && not are_host_lists)) (by_lists (λ h r. eqb r.number 63 ≡ not h) (refused_when (numbers preferences) (numbers verdicts)) refl) refl refl

    -- 31: it was answered, and every host of the lists is a "next host"
    pub exactly_31 : eqb answer.number 31 ≡ (eqb code 1 && (are_host_lists && all is_next_host (numbers verdicts)))
    unfolding no_host
    exactly_31 = by_code (λ a f r. eqb r.number 31 ≡ (a && (are_host_lists && all is_next_host (numbers verdicts)))) (by_lists (λ h r. eqb r.number 31 ≡ (h && all is_next_host (numbers verdicts))) (none_when (numbers preferences) (numbers verdicts)) refl) refl refl

    -- 8 or 1 to 5: it was answered, and some host is not
    pub exactly_one : is_decision answer.number ≡ (eqb code 1 && (are_host_lists && not (all is_next_host (numbers verdicts))))
    unfolding no_host is_decision is_delivery
    exactly_one = by_code (λ a f r. is_decision r.number ≡ (a && (are_host_lists && not (all is_next_host (numbers verdicts))))) (by_lists (λ h r. is_decision r.number ≡ (h && not (all is_next_host (numbers verdicts)))) (one_when (numbers preferences) (numbers verdicts)) refl) refl refl

    -- then the host at its position decides
    pub next_decides : is_decision answer.number ≡ true → Decides (numbers preferences) (numbers verdicts) answer
    unfolding no_host is_decision is_delivery
    next_decides = by_code (λ a f r. is_decision r.number ≡ true → Decides (numbers preferences) (numbers verdicts) r) (by_lists (λ h r. is_decision r.number ≡ true → Decides (numbers preferences) (numbers verdicts) r) (decides (numbers preferences) (numbers verdicts)) (λ e. apart e)) (λ e. apart e) (λ e. apart e)
