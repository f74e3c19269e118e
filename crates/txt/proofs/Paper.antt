-- The reader reads exactly document 01's grammar, with its names and values: the grammar answers 6 exactly for the texts of a `Record`, and hands back its id.
-- Assumes nothing.
use Prim.Native.Nat.{ℕ, zero, suc, ◌≤◌}
use mathlib.Core.Path.{◌≡◌, refl, sym, ap, subst, ◌∙◌}
use mathlib.Core.Bool.{Bool, true, false, cond, ◌&&◌}
use mathlib.Core.List.{List, [], ◌∷◌, ◌++◌, map, append-nil}
use mathlib.Core.Option.{Option, none, some}
use native.Mathlib.Omega.{arith}
use native.Mathlib.Nat.{add-zero}
use lib.Dec.{eqb, ltb}
use lib.ListN.{length, take, drop, length-append, take-append-drop}
use lib.Seq.{drop-append_seam, take-append_seam}
use borrow.Author.Tests.{eqb-true}
use Rattle.lists.specs.Bytes.{within, all}
use Rattle.lists.specs.Equal.{same_bytes}
use Rattle.lists.specs.Span.{span_of, begins}
use Rattle.lists.specs.Text.{text}
use Rattle.lists.proofs.Bools.{and_left, and_right, and_both, never}
use Rattle.lists.proofs.Laws.{within_true}
use Rattle.lists.proofs.Span.{span_all, begins_whole, begins_joined, span_append}
use Rattle.fields.specs.Blank.{blank, after_blanks}
use Rattle.fields.specs.Name.{letter_or_digit, name_byte, is_field_name, has_name}
use Rattle.fields.proofs.Name.{has_whole, has_name_lem, written_before, written_after, written_has}
use Rattle.txt.specs.Paper.{is_blanks, value_byte, is_value, is_id, Pair, Rest, nothing, last, more, first_value, Record}
use Rattle.txt.specs.Grammar.{version, has_delimiter, after_delimiter, name_of, after_name, value_of, after_field, has_field, one_more, fields_in, fields_of, first_named, id_field}
use Rattle.txt.specs.Txt.{record_answer, grammar, id_part}
use Rattle.txt.proofs.Forms.{fields_none, last_delimiter, one_field}
use Rattle.txt.proofs.Places.{HasId, has_id, id_has, id_value}

-- the name and the value of a field
pub pair : List ℕ → Pair
pair f = record { name = name_of f; value = value_of f }

-- an id has 1 to 32 bytes, all of them letters or digits
pub id_parts : (i : List ℕ) → is_id i ≡ true → (1 ≤ length i) × (length i ≤ 32) × (all letter_or_digit i ≡ true)
unfolding is_id
id_parts i h =
    let k = and_both (within 1 32 (length i)) (all letter_or_digit i) h in
    let w = within_true 1 32 (length i) k.0 in
    (w.0, w.1, k.1)

-- ---- what is read is of the grammar

-- the parts of a delimiter, and of a field
delimiter_parts : (s : List ℕ) → has_delimiter s ≡ true → s ≡ take (span_of blank s) s ++ (59 ∷ (take (span_of blank (drop 1 (after_blanks s))) (drop 1 (after_blanks s)) ++ after_delimiter s))
unfolding has_delimiter after_delimiter
delimiter_parts s h =
    let r : List ℕ = drop 1 (after_blanks s) in
    let e : after_blanks s ≡ 59 ∷ r = begins_whole (text ";") (after_blanks s) h in
    sym (ap (λ (x : List ℕ). take (span_of blank s) s ++ (59 ∷ x)) (take-append-drop (span_of blank r) r) ∙ (ap (λ (x : List ℕ). take (span_of blank s) s ++ x) (sym e) ∙ take-append-drop (span_of blank s) s))

field_whole : (d : List ℕ) → has_field d ≡ true → d ≡ name_of d ++ (61 ∷ (value_of d ++ after_field d))
unfolding has_field name_of value_of after_field after_name
field_whole d h = rw (take-append-drop (span_of value_byte (after_name d)) (after_name d)) (has_whole 61 d (and_left (has_name 61 d) (ltb 0 (length (value_of d))) h))

field_name : (d : List ℕ) → has_field d ≡ true → is_field_name (name_of d) ≡ true
unfolding has_field name_of
field_name d h = has_name_lem 61 d (and_left (has_name 61 d) (ltb 0 (length (value_of d))) h)

value_all : (d : List ℕ) → all value_byte (value_of d) ≡ true
unfolding value_of
value_all d = span_all value_byte (after_name d)

field_value : (d : List ℕ) → has_field d ≡ true → is_value (value_of d) ≡ true
unfolding has_field is_value
field_value d h = rw (and_right (has_name 61 d) (ltb 0 (length (value_of d))) h) (value_all d)

blanks_read : (s : List ℕ) → is_blanks (take (span_of blank s) s) ≡ true
unfolding is_blanks
blanks_read s = span_all blank s

one_read : (s : List ℕ) (o : Option (List (List ℕ))) (fs : List (List ℕ)) → has_delimiter s ≡ true → has_field (after_delimiter s) ≡ true → ((gs : List (List ℕ)) → o ≡ some gs → Rest (after_field (after_delimiter s)) (map pair gs)) → one_more (after_delimiter s) o ≡ some fs → Rest s (map pair fs)
unfolding one_more pair
one_read s none fs d f ih e = never cc
one_read s (some gs) fs d f ih e =
    let g : List ℕ = after_delimiter s in
    let q : g ∷ gs ≡ fs = cc in
    let b : List ℕ = take (span_of blank s) s in
    let c : List ℕ = take (span_of blank (drop 1 (after_blanks s))) (drop 1 (after_blanks s)) in
    let w : b ++ (59 ∷ (c ++ (name_of g ++ (61 ∷ (value_of g ++ after_field g))))) ≡ s = ap (λ (x : List ℕ). b ++ (59 ∷ (c ++ x))) (sym (field_whole g f)) ∙ sym (delimiter_parts s d) in
    subst (λ (x : List (List ℕ)). Rest s (map pair x)) q
    (subst (λ (x : List ℕ). Rest x (map pair (g ∷ gs))) w
    (more b c (name_of g) (value_of g) (after_field g) (map pair gs) (blanks_read s) (blanks_read (drop 1 (after_blanks s))) (field_name g f) (field_value g f) (ih gs refl)))

no_more : (s : List ℕ) → length s ≡ 0 → s ≡ []
no_more [] h = refl
no_more (x ∷ s) h = absurd (omega arith)

last_read : (s : List ℕ) → has_delimiter s ≡ true → length (after_delimiter s) ≡ 0 → Rest s []
last_read s d h =
    let b : List ℕ = take (span_of blank s) s in
    let c : List ℕ = take (span_of blank (drop 1 (after_blanks s))) (drop 1 (after_blanks s)) in
    let w : b ++ (59 ∷ c) ≡ s = ap (λ (x : List ℕ). b ++ (59 ∷ x)) (sym (append-nil c) ∙ ap (λ (x : List ℕ). c ++ x) (sym (no_more (after_delimiter s) h))) ∙ sym (delimiter_parts s d) in
    subst (λ (x : List ℕ). Rest x []) w (last b c (blanks_read s) (blanks_read (drop 1 (after_blanks s))))

sound_in : (k : ℕ) (s : List ℕ) (fs : List (List ℕ)) → fields_in k s ≡ some fs → Rest s (map pair fs)
unfolding fields_in
sound_in zero s fs e = never cc
sound_in (suc k) s fs e = go (sound_in k (after_field (after_delimiter s))) (eqb (length s) 0) (has_delimiter s) (eqb (length (after_delimiter s)) 0) (has_field (after_delimiter s)) refl refl refl refl e
  where
    without : Rest s [] → some [] ≡ some fs → Rest s (map pair fs)
    without r e = let q : [] ≡ fs = cc in subst (λ (x : List (List ℕ)). Rest s (map pair x)) q r

    go : ((gs : List (List ℕ)) → fields_in k (after_field (after_delimiter s)) ≡ some gs → Rest (after_field (after_delimiter s)) (map pair gs)) → (a b c d : Bool) → eqb (length s) 0 ≡ a → has_delimiter s ≡ b → eqb (length (after_delimiter s)) 0 ≡ c → has_field (after_delimiter s) ≡ d
        → cond a (some []) (cond b (cond c (some []) (cond d (one_more (after_delimiter s) (fields_in k (after_field (after_delimiter s)))) none)) none) ≡ some fs → Rest s (map pair fs)
    go ih true b c d p q r t e = without (subst (λ (x : List ℕ). Rest x []) (sym (no_more s (eqb-true (length s) 0 p))) nothing) e
    go ih false true true d p q r t e = without (last_read s q (eqb-true (length (after_delimiter s)) 0 r)) e
    go ih false true false true p q r t e = one_read s (fields_in k (after_field (after_delimiter s))) fs q t ih e
    go ih false true false false p q r t e = never cc
    go ih false false c d p q r t e = never cc

pub sound : (s : List ℕ) (fs : List (List ℕ)) → fields_of s ≡ some fs → Rest s (map pair fs)
unfolding fields_of
sound s fs e = sound_in (suc (length s)) s fs e

-- ---- each text of the grammar is read, with its names and values

not_both : (p : ℕ → Bool) (x c : ℕ) → p c ≡ false → p x ≡ true → eqb x c ≡ false
not_both p x c f t = go (eqb x c) refl
  where
    go : (b : Bool) → eqb x c ≡ b → b ≡ false
    go true e = let q : x ≡ c = eqb-true x c e in let z : ◌≡◌ {A = Bool} true false = sym t ∙ (ap p q ∙ f) in never cc
    go false e = refl

letter_not_blank : (x : ℕ) → letter_or_digit x ≡ true → blank x ≡ false
unfolding blank letter_or_digit
letter_not_blank x h = rw (not_both letter_or_digit x 32 refl h, not_both letter_or_digit x 9 refl h)

blank_not_value : (x : ℕ) → blank x ≡ true → value_byte x ≡ false
unfolding blank value_byte
blank_not_value x h = go (value_byte x) refl
  where
    go : (b : Bool) → value_byte x ≡ b → b ≡ false
    go true e = let p : eqb x 32 ≡ false = not_both value_byte x 32 refl e in let q : eqb x 9 ≡ false = not_both value_byte x 9 refl e in never cc
    go false e = refl

equals_no_name : name_byte 61 ≡ false
unfolding name_byte letter_or_digit
equals_no_name = refl

blanks_over : (b x : List ℕ) → is_blanks b ≡ true → span_of blank x ≡ 0 → after_blanks (b ++ x) ≡ x
unfolding is_blanks
blanks_over b x h z = rw (span_append blank b x h, z, add-zero) (drop-append_seam b x)

-- a name does not begin with a blank
name_front : (n x : List ℕ) → is_field_name n ≡ true → span_of blank (n ++ x) ≡ 0
unfolding is_field_name span_of
name_front [] x h = never cc
name_front (y ∷ n) x h =
    let p : within 1 32 (suc (length n)) && letter_or_digit y ≡ true = and_left (within 1 32 (suc (length n)) && letter_or_digit y) (all name_byte (y ∷ n)) h in
    rw (letter_not_blank y (and_right (within 1 32 (suc (length n))) (letter_or_digit y) p))

-- no byte of a value stands before a delimiter or at the end
after_value : (b x : List ℕ) → is_blanks b ≡ true → span_of value_byte (b ++ (59 ∷ x)) ≡ 0
unfolding span_of is_blanks all value_byte
after_value [] x h = refl
after_value (y ∷ b) x h = rw (blank_not_value y (and_left (blank y) (all blank b) h))

rest_front : (r : List ℕ) (ps : List Pair) → Rest r ps → span_of value_byte r ≡ 0
unfolding span_of
rest_front r ps nothing = refl
rest_front r ps (last b c p q) = after_value b c p
rest_front r ps (more b c n v r₁ fs p q s t w) = after_value b (c ++ (n ++ (61 ∷ (v ++ r₁)))) p

semicolon_no_blank : (x : List ℕ) → span_of blank (59 ∷ x) ≡ 0
unfolding span_of blank
semicolon_no_blank x = refl

-- a delimiter before x
module _ (b c x : List ℕ) (p : is_blanks b ≡ true) (q : is_blanks c ≡ true) (z : span_of blank x ≡ 0) where
  front : after_blanks (b ++ (59 ∷ (c ++ x))) ≡ 59 ∷ (c ++ x)
  front = blanks_over b (59 ∷ (c ++ x)) p (semicolon_no_blank (c ++ x))

  delimiter_read : has_delimiter (b ++ (59 ∷ (c ++ x))) ≡ true
  unfolding has_delimiter begins
  delimiter_read = rw front

  delimiter_after : after_delimiter (b ++ (59 ∷ (c ++ x))) ≡ x
  unfolding after_delimiter
  delimiter_after = rw front (blanks_over c x q z)

-- a field before r, where no byte of a value follows
module _ (n v r : List ℕ) (p : is_field_name n ≡ true) (q : is_value v ≡ true) (z : span_of value_byte r ≡ 0) where
  value_some : ltb 0 (length v) ≡ true
  unfolding is_value
  value_some = and_left (ltb 0 (length v)) (all value_byte v) q

  value_span : span_of value_byte (v ++ r) ≡ length v
  unfolding is_value
  value_span = span_append value_byte v r (and_right (ltb 0 (length v)) (all value_byte v) q) ∙ rw (z, add-zero)

  name_after : after_name (n ++ (61 ∷ (v ++ r))) ≡ v ++ r
  unfolding after_name
  name_after = written_after 61 equals_no_name n (v ++ r) p

  name_read : name_of (n ++ (61 ∷ (v ++ r))) ≡ n
  unfolding name_of
  name_read = written_before 61 equals_no_name n (v ++ r) p

  value_read : value_of (n ++ (61 ∷ (v ++ r))) ≡ v
  unfolding value_of
  value_read = rw (name_after, value_span, take-append_seam v r)

  field_after : after_field (n ++ (61 ∷ (v ++ r))) ≡ r
  unfolding after_field
  field_after = rw (name_after, value_span, drop-append_seam v r)

  field_read : has_field (n ++ (61 ∷ (v ++ r))) ≡ true
  unfolding has_field
  field_read = rw (written_has 61 equals_no_name n (v ++ r) p, value_read) value_some

-- the text s is read, with these pairs
pub record Read (s : List ℕ) (ps : List Pair) : Type 0 where
  pub fields : List (List ℕ)
  pub read : fields_of s ≡ some fields
  pub pairs : map pair fields ≡ ps

none_blank : span_of blank [] ≡ 0
unfolding span_of
none_blank = refl

not_empty : (b x : List ℕ) (y : ℕ) → length (b ++ (y ∷ x)) ≡ 0 → ⊥
not_empty b x y h = omega (arith, length-append b (y ∷ x))

pub complete : (s : List ℕ) (ps : List Pair) → Rest s ps → Read s ps
unfolding one_more pair
complete s ps nothing = record { fields = []; read = fields_none [] refl; pairs = refl }
complete s ps (last b c p q) =
    let w : b ++ (59 ∷ (c ++ [])) ≡ b ++ (59 ∷ c) = rw (append-nil c) in
    let a : after_delimiter (b ++ (59 ∷ c)) ≡ [] = rw w at (delimiter_after b c [] p q none_blank) in
    record {
      fields = [];
      read = last_delimiter (b ++ (59 ∷ c)) (not_empty b c 59) (rw w at (delimiter_read b c [] p q none_blank)) (ap length a);
      pairs = refl;
    }
complete s ps (more b c n v r fs p q m t w) =
    let i : Read r fs = complete r fs w in
    let z : span_of value_byte r ≡ 0 = rest_front r fs w in
    let x : List ℕ = n ++ (61 ∷ (v ++ r)) in
    let y : span_of blank x ≡ 0 = name_front n (61 ∷ (v ++ r)) m in
    let a : after_delimiter (b ++ (59 ∷ (c ++ x))) ≡ x = delimiter_after b c x p q y in
    let f : has_field (after_delimiter (b ++ (59 ∷ (c ++ x)))) ≡ true = rw a (field_read n v r m t z) in
    let k : length (after_delimiter (b ++ (59 ∷ (c ++ x)))) ≡ 0 → ⊥ = λ h. not_empty n (v ++ r) 61 (sym (ap length a) ∙ h) in
    record {
      fields = x ∷ i.fields;
      read = one_field (b ++ (59 ∷ (c ++ x))) (not_empty b (c ++ x) 59) (delimiter_read b c x p q y) k f ∙ rw (a, field_after n v r m t z, i.read);
      pairs = rw (name_read n v r m t z, value_read n v r m t z, i.pairs);
    }

-- ---- a record, as a whole

-- the first field of a name, and the first pair of it
module _ (name : List ℕ) where
  pub value_first : (fs : List (List ℕ)) (f : List ℕ) → first_named name fs ≡ some f → first_value name (map pair fs) ≡ some (value_of f)
  unfolding first_named first_value pair
  value_first [] f e = never cc
  value_first (g ∷ fs) f e = go (value_first fs f) (same_bytes (name_of g) name) e
    where
      go : (first_named name fs ≡ some f → first_value name (map pair fs) ≡ some (value_of f)) → (b : Bool) → cond b (some g) (first_named name fs) ≡ some f → cond b (some (value_of g)) (first_value name (map pair fs)) ≡ some (value_of f)
      go ih true k = let q : g ≡ f = cc in rw q
      go ih false k = ih k

  -- the field of a value
  pub record Named (fs : List (List ℕ)) (v : List ℕ) : Type 0 where
    pub field : List ℕ
    pub first : first_named name fs ≡ some field
    pub value : value_of field ≡ v

  pub first_value_lem : (fs : List (List ℕ)) (v : List ℕ) → first_value name (map pair fs) ≡ some v → Named fs v
  unfolding first_named first_value pair
  first_value_lem [] v e = never cc
  first_value_lem (g ∷ fs) v e = go (first_value_lem fs v) (same_bytes (name_of g) name) refl e
    where
      go : (first_value name (map pair fs) ≡ some v → Named fs v) → (b : Bool) → same_bytes (name_of g) name ≡ b → cond b (some (value_of g)) (first_value name (map pair fs)) ≡ some v → Named (g ∷ fs) v
      go ih true t k = record { field = g; first = rw t; value = cc }
      go ih false t k = let n : Named fs v = ih k in record { field = n.field; first = rw t n.first; value = n.value }

-- the grammar's answer is 6 where there is a field of the id, and 42 else
pub record_six : (t : List ℕ) (o : Option (List ℕ)) → (record_answer t o).number ≡ 6 → (f : List ℕ) × (o ≡ some f)
unfolding record_answer
record_six t none h = absurd (omega arith)
record_six t (some f) h = (f, refl)

-- what the grammar accepts is a record, and its id is the part that the answer names
pub accepted : (t : List ℕ) → (grammar t).number ≡ 6 → Record t (id_part t (grammar t))
accepted t h =
    let g : (f : List ℕ) × (id_field t ≡ some f) = record_six t (id_field t) h in
    let f : List ℕ = g.0 in
    let i : HasId t f = has_id t f g.1 in
    let v : id_part t (grammar t) ≡ value_of f = ap (λ (o : Option (List ℕ)). id_part t (record_answer t o)) g.1 ∙ (ap (λ (x : List ℕ). id_part x (record_answer t (some f))) (sym (append-nil t)) ∙ id_value t [] f g.1) in
    subst (λ (x : List ℕ). Record t x) (sym v) (record {
      rest = drop 7 t;
      fields = map pair i.fields;
      whole = begins_whole version t i.versioned;
      form = sound (drop 7 t) i.fields i.read;
      first = value_first (text "id") i.fields f i.first;
      id = i.id;
    })

-- every record is accepted, and the part that the answer names is its id
pub accepts : (t v : List ℕ) → Record t v → ((grammar t).number ≡ 6) × (id_part t (grammar t) ≡ v)
unfolding record_answer
accepts t v r =
    let c : Read r.rest r.fields = complete r.rest r.fields r.form in
    let n : Named (text "id") c.fields v = first_value_lem (text "id") c.fields v (ap (first_value (text "id")) c.pairs ∙ r.first) in
    let f : List ℕ = n.field in
    let i : HasId t f = record {
      versioned = ap (begins version) r.whole ∙ begins_joined version r.rest;
      fields = c.fields;
      read = ap (λ (x : List ℕ). fields_of (drop 7 x)) r.whole ∙ c.read;
      first = n.first;
      id = ap is_id n.value ∙ r.id;
    } in
    let e : id_field t ≡ some f = id_has t f i in
    (rw e, ap (λ (o : Option (List ℕ)). id_part t (record_answer t o)) e ∙ (ap (λ (x : List ℕ). id_part x (record_answer t (some f))) (sym (append-nil t)) ∙ (id_value t [] f e ∙ n.value)))
