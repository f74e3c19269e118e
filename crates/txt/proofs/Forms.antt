-- Laws of the grammar, and what stands at a place of a text: the returns of `step_at`. Assumes nothing.
use Prim.Native.Nat.{ℕ, zero, suc, ◌+◌, ◌-◌, ◌<◌, ◌≤◌}
use mathlib.Core.Path.{◌≡◌, refl, sym, ap, ◌∙◌}
use mathlib.Core.Bool.{true, false, and-true}
use mathlib.Core.List.{List, [], ◌∷◌}
use mathlib.Core.Option.{none, some}
use native.Mathlib.Omega.{arith}
use lib.Dec.{eqb, ltb}
use lib.ListN.{length, get_or, take, drop, length-drop, drop_of_length-le}
use lib.Seq.{drop-drop, length-take-le}
use borrow.Author.Rules.{rules}
use borrow.Author.Tests.{lt-ltb, le-ltb, eq-eqb, ne_eqb}
use Rattle.lists.specs.Span.{span_of, begins}
use Rattle.lists.proofs.Laws.{drop_next}
use Rattle.lists.proofs.Span.{span_le}
use Rattle.std.specs.Prelude.{Option, Some, None, Ok, Err}
use Rattle.fields.specs.Blank.{blank, after_blanks}
use Rattle.fields.specs.Name.{has_name, field_at}
use Rattle.fields.proofs.Name.{named_has, named_place, named_inside, named_before, named_rest, malformed_has}
use Rattle.txt.specs.declared.Refusal.{Refusal}
use Rattle.txt.specs.Paper.{value_byte}
use Rattle.txt.specs.Grammar.{has_delimiter, after_delimiter, name_of, after_name, value_of, after_field, has_field, one_more, fields_in, fields_of}
use Rattle.txt.specs.Steps.{FieldAt}

-- ---- the bound on how many fields are read is large enough

after_less : (x : ℕ) (s : List ℕ) → length (after_field (after_delimiter (x ∷ s))) ≤ length s
unfolding after_field after_name after_delimiter
after_less x s = simp length-drop (omega arith)

fields_enough : (k m : ℕ) (s : List ℕ) → length s < k → length s < m → fields_in k s ≡ fields_in m s
unfolding fields_in
fields_enough zero m s h l = absurd (omega arith)
fields_enough (suc k) zero s h l = absurd (omega arith)
fields_enough (suc k) (suc m) [] h l = refl
fields_enough (suc k) (suc m) (x ∷ s) h l =
    let a : length (after_field (after_delimiter (x ∷ s))) ≤ length s = after_less x s in
    rw (fields_enough k m (after_field (after_delimiter (x ∷ s))) (omega arith) (omega arith))

shorter : (s : List ℕ) → (length s ≡ 0 → ⊥) → length (after_field (after_delimiter s)) < length s
shorter [] h = absurd (h refl)
shorter (x ∷ s) h = let a : length (after_field (after_delimiter (x ∷ s))) ≤ length s = after_less x s in omega arith

-- ---- the fields of s by what stands at its front

pub fields_none : (s : List ℕ) → length s ≡ 0 → fields_of s ≡ some []
unfolding fields_of fields_in
fields_none s h = rw (eq-eqb (length s) 0 h)

module _ (s : List ℕ) (some_left : length s ≡ 0 → ⊥) where
  pub no_delimiter : has_delimiter s ≡ false → fields_of s ≡ none
  unfolding fields_of fields_in
  no_delimiter d = rw (ne_eqb (length s) 0 some_left, d)

  module _ (d : has_delimiter s ≡ true) where
    pub last_delimiter : length (after_delimiter s) ≡ 0 → fields_of s ≡ some []
    unfolding fields_of fields_in
    last_delimiter e = rw (ne_eqb (length s) 0 some_left, d, eq-eqb (length (after_delimiter s)) 0 e)

    module _ (more : length (after_delimiter s) ≡ 0 → ⊥) where
      pub no_field : has_field (after_delimiter s) ≡ false → fields_of s ≡ none
      unfolding fields_of fields_in
      no_field f = rw (ne_eqb (length s) 0 some_left, d, ne_eqb (length (after_delimiter s)) 0 more, f)

      one_field_in : (k : ℕ) → has_field (after_delimiter s) ≡ true → fields_in (suc k) s ≡ one_more (after_delimiter s) (fields_in k (after_field (after_delimiter s)))
      unfolding fields_in
      one_field_in k f = rw (ne_eqb (length s) 0 some_left, d, ne_eqb (length (after_delimiter s)) 0 more, f)

      pub one_field : has_field (after_delimiter s) ≡ true → fields_of s ≡ one_more (after_delimiter s) (fields_of (after_field (after_delimiter s)))
      unfolding fields_of
      one_field f = one_field_in (length s) f ∙ ap (one_more (after_delimiter s)) (fields_enough (length s) (suc (length (after_field (after_delimiter s)))) (after_field (after_delimiter s)) (shorter s some_left) (omega arith))

-- ---- what stands at the byte `at` of t: the returns of `step_at`

pub step_end : (t : List ℕ) (at : ℕ) → length t ≤ at → FieldAt t at (Ok None)
unfolding FieldAt
step_end t at h = fields_none (drop at t) (omega (arith, length-drop at t))

-- the blanks at `at` go up to p
module _ (t : List ℕ) (at : ℕ) (w : at < length t) (p : ℕ) (blanks : p ≡ at + span_of blank (drop at t)) where
  past_blanks : after_blanks (drop at t) ≡ drop p t
  past_blanks = cc (drop-drop (span_of blank (drop at t)) at t)

  left : length (drop at t) ≡ 0 → ⊥
  left z = omega (arith, length-drop at t)

  none_there : length t ≤ p → has_delimiter (drop at t) ≡ false
  unfolding has_delimiter begins
  none_there h = rw (past_blanks, drop_of_length-le t h)

  pub step_unended : length t ≤ p → FieldAt t at (Err Refusal.Grammar)
  unfolding FieldAt
  step_unended h = (no_delimiter (drop at t) left (none_there h), refl)

  module _ (h : p < length t) where
    sign : has_delimiter (drop at t) ≡ eqb (get_or t p 0) 59
    unfolding has_delimiter begins
    sign = rw (past_blanks, drop_next t p h) (and-true (eqb (get_or t p 0) 59))

    pub step_other : (get_or t p 0 ≡ 59 → ⊥) → FieldAt t at (Err Refusal.Grammar)
    unfolding FieldAt
    step_other d = (no_delimiter (drop at t) left (sign ∙ ne_eqb (get_or t p 0) 59 d), refl)

    -- the delimiter goes up to a
    module _ (semicolon : get_or t p 0 ≡ 59) (a : ℕ) (blanks_after : a ≡ p + 1 + span_of blank (drop (p + 1) t)) where
      delimiter : has_delimiter (drop at t) ≡ true
      delimiter = sign ∙ eq-eqb (get_or t p 0) 59 semicolon

      past_delimiter : after_delimiter (drop at t) ≡ drop a t
      unfolding after_delimiter
      past_delimiter = rw (past_blanks, drop-drop 1 p t) (cc (drop-drop (span_of blank (drop (p + 1) t)) (p + 1) t))

      pub step_last : length t ≤ a → FieldAt t at (Ok None)
      unfolding FieldAt
      step_last k = last_delimiter (drop at t) left delimiter (rw past_delimiter (omega (arith, length-drop a t)))

      -- f is what `name_end` gave of the name from a on
      module _ (wa : a < length t) (f : Option ℕ) (gave : f ≡ field_at 61 t a) where
        more : length (after_delimiter (drop at t)) ≡ 0 → ⊥
        more z = omega (arith, ap length past_delimiter, length-drop a t)

        nameless : has_name 61 (drop a t) ≡ false → has_field (drop a t) ≡ false
        unfolding has_field
        nameless n = rw n

        pub step_nameless : f ≡ None → FieldAt t at (Err Refusal.Grammar)
        unfolding FieldAt
        step_nameless q = (no_field (drop at t) left delimiter more (rw past_delimiter (nameless (malformed_has 61 t a f gave q))), refl)

        -- the name goes up to e, and the value up to v
        module _ (e : ℕ) (q : f ≡ Some e) (v : ℕ) (values : v ≡ e + 1 + span_of value_byte (drop (e + 1) t)) where
          past_name : after_name (drop a t) ≡ drop (e + 1) t
          unfolding after_name
          past_name = sym (named_rest 61 t a f gave e q)

          name_is : name_of (drop a t) ≡ take (e - a) (drop a t)
          unfolding name_of
          name_is = sym (named_before 61 t a f gave e q)

          value_is : value_of (drop a t) ≡ take (v - (e + 1)) (drop (e + 1) t)
          unfolding value_of
          value_is = let k : span_of value_byte (drop (e + 1) t) ≡ v - (e + 1) = omega (arith, values) in rw (past_name, k)

          value_length : length (value_of (drop a t)) ≡ v - (e + 1)
          value_length = rw value_is (length-take-le (v - (e + 1)) (drop (e + 1) t) (omega (arith, values, span_le value_byte (drop (e + 1) t))))

          has_field_lem : has_field (drop a t) ≡ ltb 0 (v - (e + 1))
          unfolding has_field
          has_field_lem = rw (named_has 61 t a f gave e q, value_length)

          pub step_valueless : v - e ≤ 1 → FieldAt t at (Err Refusal.Grammar)
          unfolding FieldAt
          step_valueless k = (no_field (drop at t) left delimiter more (rw (past_delimiter, has_field_lem) (le-ltb 0 (v - (e + 1)) (omega arith))), refl)

          past_field : after_field (drop a t) ≡ drop v t
          unfolding after_field
          past_field = rw past_name (cc (values, drop-drop (span_of value_byte (drop (e + 1) t)) (e + 1) t))

          pub step_field : 1 < v - e → FieldAt t at (Ok (Some (record { name = a; equals = e; end = v })))
          unfolding FieldAt
          step_field k = record {
            later = omega arith;
            named = omega (arith, named_place 61 t a f gave e q);
            valued = omega arith;
            inside = omega (arith, values, span_le value_byte (drop (e + 1) t), length-drop (e + 1) t, named_inside 61 t a f gave e q);
            fields = one_field (drop at t) left delimiter more (rw (past_delimiter, has_field_lem) (lt-ltb 0 (v - (e + 1)) (omega arith))) ∙ rw (past_delimiter, past_field);
            name = name_is;
            rest = past_name;
            value = value_is;
          }

pub ruleset step_laws = (step_end, step_unended, step_other, step_last, step_nameless, step_valueless, step_field, named_inside, rules)
