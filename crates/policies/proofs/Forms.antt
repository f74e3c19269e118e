-- The form of a line: the lines that `is_line` accepts are those that the paper writes, with the same name and value. Assumes nothing.
use Prim.Native.Nat.{ℕ, suc, ◌+◌, ◌-◌, ◌<◌, ◌≤◌}
use mathlib.Core.Path.{◌≡◌, refl, sym, subst, ◌∙◌}
use mathlib.Core.Bool.{Bool, true, false, cond, not, ◌&&◌}
use mathlib.Core.List.{List, [], ◌∷◌, ◌++◌}
use native.Mathlib.Omega.{arith}
use lib.Dec.{eqb, leb, ltb}
use lib.ListN.{length, get_or, take, drop, length-append, take-append-drop, drop_of_length-le}
use lib.Seq.{take-length, take-append-le, drop-append-le, drop-append-add}
use borrow.Author.Tests.{leb-true, eqb-false, ne_eqb, not-true, lt-ltb, le-ltb, ltb-true, ltb-false}
use Rattle.lists.specs.Bytes.{all}
use Rattle.lists.specs.Span.{span_of, trimmed_length}
use Rattle.lists.specs.Split.{index_of, lacks}
use Rattle.lists.proofs.Span.{span_all, span_append}
use Rattle.lists.proofs.Trim.{trim_rest, trim_whole, trim_gone, trim_start, trim_stop}
use Rattle.lists.proofs.Bools.{and_both}
use Rattle.lists.proofs.All.{all_append, all_drop, all_at, all_lacks}
use Rattle.lists.proofs.Split.{index_append, index_beyond, index_lacks}
use Rattle.fields.specs.Blank.{blank, unblanked, after_blanks, before_blanks}
use Rattle.fields.specs.Name.{name_byte, letter_or_digit, has_name, before, after}
use Rattle.fields.proofs.Name.{has_name_lem, has_whole, written_has, written_before, written_after, name_bytes}
use Rattle.policies.specs.Texts.{is_text, is_value}
use Rattle.policies.specs.Fields.{name_of, value_of, is_line, is_named}
use Rattle.policies.specs.Paper.{Pair, Line, line}
use Rattle.policies.proofs.Front.{name_append}
use Rattle.policies.proofs.Unicode.{graphic, text_graphic}

-- the name and the value of a line
abbrev pub pair_of : List ℕ → Pair
pair_of l = record { name = name_of l; value = value_of l }

-- a line that the definition accepts is one that the paper writes
pub line_made : (l : List ℕ) → is_line l ≡ true → Line l (pair_of l)
unfolding is_line name_of value_of
line_made l h =
    let k = and_both (has_name 58 l) (is_value (value_of l)) h in
    let d : List ℕ = after 58 l in
    let t : List ℕ = after_blanks d in
    let whole : l ≡ before 58 l ++ (58 ∷ (take (span_of blank d) d ++ (take (unblanked t) t ++ drop (unblanked t) t))) = has_whole 58 l k.0 ∙ rw (take-append-drop (unblanked t) t, take-append-drop (span_of blank d) d) in
    subst (λ (x : List ℕ). Line x (pair_of l)) (sym whole) (line (before 58 l) (take (span_of blank d) d) (take (unblanked t) t) (drop (unblanked t) t) (has_name_lem 58 l k.0) (span_all blank d) k.1 (trim_rest blank t))

-- blanks before a text, and blanks after it, are gone
front_gone : (b t : List ℕ) → all blank b ≡ true → after_blanks (b ++ t) ≡ after_blanks t
front_gone b t h = rw (span_append blank b t h) (drop-append-add b t (span_of blank t))

-- the ends of a value are no blanks
not_blank : (b : ℕ) → graphic b ≡ true → (b ≡ 32 → ⊥) → blank b ≡ false
unfolding blank
not_blank b g n = rw (ne_eqb b 32 n, ne_eqb b 9 (λ z. absurd (omega (arith, leb-true 32 b g))))

module _ (v : List ℕ) (h : is_value v ≡ true) where
  value_parts : (1 ≤ length v) × (get_or v 0 0 ≡ 32 → ⊥) × (get_or v (length v - 1) 0 ≡ 32 → ⊥) × (is_text v ≡ true)
  unfolding is_value
  value_parts =
      let a = and_both (leb 1 (length v) && not (eqb (get_or v 0 0) 32) && not (eqb (get_or v (length v - 1) 0) 32)) (is_text v) h in
      let b = and_both (leb 1 (length v) && not (eqb (get_or v 0 0) 32)) (not (eqb (get_or v (length v - 1) 0) 32)) a.0 in
      let c = and_both (leb 1 (length v)) (not (eqb (get_or v 0 0) 32)) b.0 in (
        leb-true 1 (length v) c.0,
        eqb-false (get_or v 0 0) 32 (not-true (eqb (get_or v 0 0) 32) c.1),
        eqb-false (get_or v (length v - 1) 0) 32 (not-true (eqb (get_or v (length v - 1) 0) 32) b.1),
        a.1,
      )

  value_graphic : all graphic v ≡ true
  value_graphic = text_graphic v value_parts.3

  value_front : (c : List ℕ) → span_of blank (v ++ c) ≡ 0
  unfolding span_of
  value_front c = go v value_parts.0 (not_blank (get_or v 0 0) (all_at graphic 0 v 0 (omega (arith, value_parts.0)) value_graphic) value_parts.1)
    where
      go : (u : List ℕ) → 1 ≤ length u → blank (get_or u 0 0) ≡ false → span_of blank (u ++ c) ≡ 0
      go [] k n = absurd (omega arith)
      go (x ∷ u) k n = rw n

  value_back : unblanked v ≡ length v
  value_back =
      let one : 1 ≤ length v = value_parts.0 in
      sym (trim_stop blank v (length v) (trim_start blank v) (omega arith) false (omega arith) (sym (not_blank (get_or v (length v - 1) 0) (all_at graphic 0 v (length v - 1) (omega arith) value_graphic) value_parts.2)) refl)

  -- so a value between blanks is read back
  value_alone : (b c : List ℕ) → all blank b ≡ true → all blank c ≡ true → before_blanks (after_blanks (b ++ (v ++ c))) ≡ v
  value_alone b c hb hc = rw (front_gone b (v ++ c) hb, value_front c) (trim_gone blank v c hc ∙ rw value_back (take-length v))

-- a line that the paper writes is accepted, with its name and value
colon_apart : name_byte 58 ≡ false
unfolding name_byte letter_or_digit
colon_apart = refl

pub line_read : (l : List ℕ) (f : Pair) → Line l f → (is_line l ≡ true) × (pair_of l ≡ f)
unfolding is_line name_of value_of
line_read l f (line n b v c hn hb hv hc) =
    let value : value_of l ≡ v = rw (written_after 58 colon_apart n (b ++ (v ++ c)) hn) (value_alone v hv b c hb hc) in
    (rw (written_has 58 colon_apart n (b ++ (v ++ c)) hn, value) hv, rw (written_before 58 colon_apart n (b ++ (v ++ c)) hn, value))

-- no control byte but the tab stands in a line
module _ (x : ℕ) (names : name_byte x ≡ false) (colon : eqb 58 x ≡ false) (blanks : blank x ≡ false) (control : graphic x ≡ false) where
  pub line_lacks : (l : List ℕ) (f : Pair) → Line l f → lacks x l ≡ true
  unfolding all
  line_lacks l f (line n b v c hn hb hv hc) =
      let p : ℕ → Bool = λ (y : ℕ). not (eqb y x) in
      all_append p n (58 ∷ (b ++ (v ++ c)))
      ∙ rw (all_lacks name_byte x names n (name_bytes n hn), colon)
      (all_append p b (v ++ c) ∙ rw (all_lacks blank x blanks b hb) (all_append p v c ∙ rw (all_lacks graphic x control v (value_graphic v hv), all_lacks blank x blanks c hc)))

-- a line has a byte at least
pub line_some : (l : List ℕ) (f : Pair) → Line l f → 1 ≤ length l
line_some l f (line n b v c hn hb hv hc) = omega (arith, length-append n (58 ∷ (b ++ (v ++ c))))

-- Blanks at the end of a line, of the form or not, change neither its form, nor its value, nor its name
value_end : (t e : List ℕ) → all blank e ≡ true → before_blanks (after_blanks (t ++ e)) ≡ before_blanks (after_blanks t)
unfolding span_of trimmed_length
value_end [] e h = rw (trim_whole blank (after_blanks e) (all_drop blank (span_of blank e) e h))
value_end (x ∷ t) e h = go (value_end t e h) (blank x)
  where
    go : before_blanks (after_blanks (t ++ e)) ≡ before_blanks (after_blanks t) → (b : Bool) → before_blanks (drop (cond b (suc (span_of blank (t ++ e))) 0) (x ∷ (t ++ e))) ≡ before_blanks (drop (cond b (suc (span_of blank t)) 0) (x ∷ t))
    go ih true = ih
    go ih false = trim_gone blank (x ∷ t) e h

blank_colon : blank 58 ≡ false
unfolding blank
blank_colon = refl

module _ (l e : List ℕ) (h : all blank e ≡ true) where
  record Unchanged : Type 0 where
    has : has_name 58 (l ++ e) ≡ has_name 58 l
    value : value_of (l ++ e) ≡ value_of l
    named : (name : List ℕ) → is_named name (l ++ e) ≡ is_named name l

  with_colon : index_of 58 l < length l → Unchanged
  unfolding has_name value_of is_named name_of
  with_colon c =
      let i : index_of 58 (l ++ e) ≡ index_of 58 l = index_append 58 l e c in
      let m : index_of 58 l < length (l ++ e) = omega (arith, length-append l e) in
      let t : take (index_of 58 l) (l ++ e) ≡ take (index_of 58 l) l = take-append-le (index_of 58 l) l e (omega arith) in
      record {
        has = name_append l e c;
        value = rw (i, drop-append-le (index_of 58 l + 1) l e (omega arith)) (value_end (after 58 l) e h);
        named = λ name. rw (i, t, lt-ltb (index_of 58 l) (length l) c, lt-ltb (index_of 58 l) (length (l ++ e)) m);
      }

  without_colon : length l ≤ index_of 58 l → Unchanged
  unfolding has_name value_of is_named
  without_colon c =
      let i : index_of 58 (l ++ e) ≡ length (l ++ e) = index_beyond 58 l e c ∙ rw (index_lacks 58 e (all_lacks blank 58 blank_colon e h), length-append l e) in
      let n : ltb (index_of 58 (l ++ e)) (length (l ++ e)) ≡ false = le-ltb (index_of 58 (l ++ e)) (length (l ++ e)) (omega arith) in
      let m : ltb (index_of 58 l) (length l) ≡ false = le-ltb (index_of 58 l) (length l) c in
      record {
        has = rw (n, m);
        value = rw (drop_of_length-le (l ++ e) {i = index_of 58 (l ++ e) + 1} (omega arith), drop_of_length-le l {i = index_of 58 l + 1} (omega arith));
        named = λ name. rw (n, m);
      }

  unchanged : Unchanged
  unchanged = go (ltb (index_of 58 l) (length l)) refl
    where
      go : (t : Bool) → ltb (index_of 58 l) (length l) ≡ t → Unchanged
      go true k = with_colon (ltb-true (index_of 58 l) (length l) k)
      go false k = without_colon (ltb-false (index_of 58 l) (length l) k)

  pub blanks_form : is_line (l ++ e) ≡ is_line l
  unfolding is_line
  blanks_form = rw (unchanged.has, unchanged.value)

  pub blanks_value : value_of (l ++ e) ≡ value_of l
  blanks_value = unchanged.value

  pub blanks_name : (name : List ℕ) → is_named name (l ++ e) ≡ is_named name l
  blanks_name = unchanged.named
