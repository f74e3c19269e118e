-- The returns of the functions that answer for a text: `is_id`, `has_form`, `with_id` and `read_record`. Assumes nothing.
use Prim.Native.Nat.{ℕ, ◌+◌, ◌-◌, ◌<◌, ◌≤◌}
use mathlib.Core.Path.{◌≡◌, refl, sym, ap, ◌∙◌}
use mathlib.Core.Bool.{Bool, true, false, cond, ◌&&◌, and-false, and-true}
use mathlib.Core.List.{List, []}
use mathlib.Core.Option as M
use mathlib.Core.Option.{none, some}
use Rattle.std.specs.Prelude.{Some, None, Ok, Err}
use Rattle.lists.proofs.Bools.{never}
use native.Mathlib.Omega.{arith}
use lib.Dec.{leb}
use lib.ListN.{length, take, drop, length-drop}
use lib.Seq.{length-take-le, take-length}
use borrow.Author.Rules.{rules}
use borrow.Author.Tests.{le-leb, lt-leb}
use Rattle.lists.specs.Equal.{same_bytes}
use Rattle.lists.specs.Span.{span_of, begins}
use Rattle.lists.specs.Text.{text}
use Rattle.lists.proofs.Span.{span_reaches}
use Rattle.fields.specs.Name.{letter_or_digit}
use Rattle.txt.specs.declared.TxtAnswer.{TxtAnswer}
use Rattle.txt.specs.declared.Refusal.{Refusal}
use Rattle.txt.specs.declared.Field.{Field}
use Rattle.txt.specs.Paper.{is_id}
use Rattle.txt.specs.Grammar.{version, name_of, after_name, value_of, one_more, fields_of, first_named, with_id, id_among, id_field}
use Rattle.txt.specs.Txt.{refusal, record_answer}
use Rattle.txt.specs.Steps.{FieldAt, FieldIs, has_form, form_of, answered, id_answer}

-- `is_id`: w is where `letters_end` found the end of the letters and digits
module _ (v : List ℕ) where
  pub id_none : length v < 1 → false ≡ is_id v
  unfolding is_id
  id_none h = rw (lt-leb 1 (length v) h)

  pub id_long : 32 < length v → false ≡ is_id v
  unfolding is_id
  id_long h = rw (lt-leb (length v) 32 h, and-false (leb 1 (length v)))

  pub id_letters_alone : 1 ≤ length v → length v ≤ 32 → (w : ℕ) → w ≡ 0 + span_of letter_or_digit (drop 0 v) → leb (length v) w ≡ is_id v
  unfolding is_id
  id_letters_alone small large w e =
      let k : w ≡ span_of letter_or_digit v = omega arith in
      rw (le-leb 1 (length v) small, le-leb (length v) 32 large, k, span_reaches letter_or_digit v (length v) (omega arith), take-length v)

pub ruleset id_laws = (id_none, id_long, id_letters_alone, rules)

-- one field more changes neither the form, nor the field of the id where it is not named `id`
form_more : (f : List ℕ) (o : M.Option (List (List ℕ))) → form_of (one_more f o) ≡ form_of o
unfolding form_of one_more
form_more f none = refl
form_more f (some fs) = refl

among_none : id_among (some []) ≡ none
unfolding id_among first_named with_id
among_none = refl

among_other : (f : List ℕ) (o : M.Option (List (List ℕ))) → same_bytes (name_of f) (text "id") ≡ false → id_among (one_more f o) ≡ id_among o
unfolding id_among one_more first_named
among_other f none h = refl
among_other f (some fs) h = rw h

among_id : (f : List ℕ) (o : M.Option (List (List ℕ))) → same_bytes (name_of f) (text "id") ≡ true → id_among (one_more f o) ≡ cond (is_id (value_of f) && has_form o) (some f) none
unfolding id_among one_more first_named with_id has_form
among_id f none h = rw (and-false (is_id (value_of f)))
among_id f (some fs) h = rw (h, and-true (is_id (value_of f)))

record_cond : (t f : List ℕ) (b : Bool) → record_answer t (cond b (some f) none) ≡ cond b (record { number = 6; id_start = length t - length (after_name f); id_length = length (value_of f) }) (refusal 42)
unfolding record_answer
record_cond t f true = refl
record_cond t f false = refl

-- what stands at a place: o is what `field_at` gave
module _ (t : List ℕ) (at : ℕ) where
  pub no_more : FieldAt t at (Ok None) → fields_of (drop at t) ≡ some []
  unfolding FieldAt
  no_more is = is

  pub is_field : (f : Field) → FieldAt t at (Ok (Some f)) → FieldIs t at f.name f.equals f.end
  unfolding FieldAt
  is_field f is = is

  module _ (f : Field) (is : FieldAt t at (Ok (Some f))) where
    facts : FieldIs t at f.name f.equals f.end
    facts = is_field f is

    pub field_order : f.name ≤ f.equals
    field_order = facts.named

    pub field_equals : f.equals ≤ length t
    field_equals = omega (arith, facts.valued, facts.inside)

    pub field_value : f.equals + 1 < f.end
    field_value = facts.valued

    pub field_inside : f.end ≤ length t
    field_inside = facts.inside

    pub field_less : length t - f.end < length t - at
    field_less = omega (arith, facts.later, facts.named, facts.valued, facts.inside)

  -- `check_form`
  pub form_end : FieldAt t at (Ok None) → form_of (fields_of (drop at t)) ≡ Ok tt
  unfolding form_of
  form_end is = rw (no_more is) refl

  pub form_broken : (r : Refusal) → FieldAt t at (Err r) → form_of (fields_of (drop at t)) ≡ Err r
  unfolding FieldAt form_of
  form_broken r is = rw (is.0, is.1) refl

  pub form_next : (f : Field) → FieldAt t at (Ok (Some f)) → form_of (fields_of (drop at t)) ≡ form_of (fields_of (drop f.end t))
  form_next f is = rw (facts f is).fields (form_more (drop f.name t) (fields_of (drop f.end t)))

  -- `read_record`
  module _ (inv : id_field t ≡ id_among (fields_of (drop at t))) where
    pub read_record_end : FieldAt t at (Ok None) → refusal 42 ≡ record_answer t (id_field t)
    unfolding record_answer
    read_record_end is = let i : id_field t ≡ none = inv ∙ (ap id_among (no_more is) ∙ among_none) in rw i

    pub read_record_broken : (r : Refusal) → FieldAt t at (Err r) → answered (Err r) ≡ record_answer t (id_field t)
    unfolding record_answer id_among FieldAt
    read_record_broken r is = let i : id_field t ≡ none = inv ∙ ap id_among is.0 in rw (i, is.1)

    module _ (f : Field) (is : FieldAt t at (Ok (Some f))) (named : Bool) (gave : named ≡ same_bytes (take (f.equals - f.name) (drop f.name t)) (text "id")) where
      name_gave : named ≡ same_bytes (name_of (drop f.name t)) (text "id")
      name_gave = gave ∙ ap (λ (n : List ℕ). same_bytes n (text "id")) (sym (facts f is).name)

      pub read_record_next : named ≡ false → id_field t ≡ id_among (fields_of (drop f.end t))
      read_record_next n = inv ∙ (ap id_among (facts f is).fields ∙ among_other (drop f.name t) (fields_of (drop f.end t)) (sym name_gave ∙ n))

      pub read_record_id : named ≡ true → (x : TxtAnswer) → x ≡ id_answer t (f.equals + 1) f.end → x ≡ record_answer t (id_field t)
      unfolding id_answer
      read_record_id y x z =
          let a = f.name in
          let e = f.equals in
          let v = f.end in
          let i : v ≤ length t = (facts f is).inside in
          let k : e + 1 < v = (facts f is).valued in
          let s : length t - length (after_name (drop a t)) ≡ e + 1 = rw ((facts f is).rest, length-drop (e + 1) t) (omega arith) in
          let l : length (value_of (drop a t)) ≡ v - (e + 1) = rw (facts f is).value (length-take-le (v - (e + 1)) (drop (e + 1) t) (omega (arith, length-drop (e + 1) t))) in
          let g : id_field t ≡ cond (is_id (value_of (drop a t)) && has_form (fields_of (drop v t))) (some (drop a t)) none = inv ∙ (ap id_among (facts f is).fields ∙ among_id (drop a t) (fields_of (drop v t)) (sym name_gave ∙ y)) in
          z ∙ sym (ap (record_answer t) g ∙ (record_cond t (drop a t) (is_id (value_of (drop a t)) && has_form (fields_of (drop v t))) ∙ rw (s, l, (facts f is).value)))

pub read_record_start : (t : List ℕ) → begins version t ≡ true → id_field t ≡ id_among (fields_of (drop 7 t))
unfolding id_field
read_record_start t b = rw b

-- `with_id`: the value of the first field named `id` stands from a to v
module _ (t : List ℕ) (a v : ℕ) where
  pub with_other : is_id (take (v - a) (drop a t)) ≡ false → refusal 42 ≡ id_answer t a v
  unfolding id_answer
  with_other h = rw h refl

  pub with_broken : (r : Refusal) → Err r ≡ form_of (fields_of (drop v t)) → answered (Err r) ≡ id_answer t a v
  unfolding id_answer form_of has_form
  with_broken r e = go (fields_of (drop v t)) e
    where
      go : (o : M.Option (List (List ℕ))) → Err r ≡ form_of o → answered (Err r) ≡ cond (is_id (take (v - a) (drop a t)) && has_form o) (record { number = 6; id_start = a; id_length = v - a }) (refusal 42)
      go none q = let k : r ≡ Refusal.Grammar = cc in rw (k, and-false (is_id (take (v - a) (drop a t))))
      go (some fs) q = never cc

  pub with_good : is_id (take (v - a) (drop a t)) ≡ true → Ok tt ≡ form_of (fields_of (drop v t)) → ◌≡◌ {A = TxtAnswer} (record { number = 6; id_start = a; id_length = v - a }) (id_answer t a v)
  unfolding id_answer form_of has_form
  with_good h e = rw h (go (fields_of (drop v t)) e)
    where
      go : (o : M.Option (List (List ℕ))) → Ok tt ≡ form_of o → ◌≡◌ {A = TxtAnswer} (record { number = 6; id_start = a; id_length = v - a }) (cond (has_form o) (record { number = 6; id_start = a; id_length = v - a }) (refusal 42))
      go none q = never cc
      go (some fs) q = refl

pub ruleset form_laws = (form_end, form_broken, form_next, field_less)

pub ruleset with_laws = (with_other, with_broken, with_good)

pub ruleset read_record_laws = (read_record_start, read_record_end, read_record_broken, read_record_next, read_record_id, field_order, field_equals, field_value, field_inside, field_less)
