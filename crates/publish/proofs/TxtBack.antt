-- The TXT text, as one character string, is accepted and gives back the id. Assumes nothing.
use Prim.Native.Nat.{ℕ, ◌+◌, ◌≤◌}
use mathlib.Core.Path.{◌≡◌, refl}
use mathlib.Core.Bool.{true, ◌||◌}
use mathlib.Core.List.{List, [], ◌∷◌, ◌++◌, append-nil, flatten}
use native.Mathlib.Omega.{arith}
use lib.ListN.{length, length-append}
use borrow.Author.Tests.{lt-ltb, le-leb, ne_eqb}
use Rattle.lists.specs.Bytes.{within, all}
use Rattle.lists.specs.Equal.{agree, same_byte}
use Rattle.lists.specs.Span.{begins}
use Rattle.lists.specs.Text.{text}
use Rattle.lists.proofs.Bools.{or_elim}
use Rattle.lists.proofs.Laws.{within_true}
use Rattle.lists.proofs.All.{all_more}
use Rattle.numbers.specs.Numbers.{numbers}
use Rattle.numbers.specs.Pieces.{cut, sums_to, up_to}
use Rattle.numbers.proofs.Written.{lengths_of, pieces_back, pieces_sum}
use Rattle.fields.specs.Blank.{blank}
use Rattle.fields.specs.Name.{letter_or_digit, name_byte, is_field_name}
use Rattle.txt.specs.Paper.{is_blanks, value_byte, is_value, is_id, last, more, first_value, Record}
use Rattle.txt.specs.Rdata.{is_rdata, is_wire_form, joined, texts}
use Rattle.txt.specs.Txt.{is_candidate, candidates, read_txt, wrote_txt, id_part}
use Rattle.txt.proofs.Paper.{id_parts}
use Rattle.txt.proofs.Sanity.{written, strings_written, fit_written, six_read}
use Rattle.publish.specs.Texts.{txt_text}

-- a letter or digit may stand in a value
value_is : (b : ℕ) → 33 ≤ b → b ≤ 126 → (b ≡ 61 → ⊥) → (b ≡ 59 → ⊥) → value_byte b ≡ true
unfolding value_byte
value_is b l h p q = rw (le-leb 33 b l, le-leb b 126 h, ne_eqb b 61 p, ne_eqb b 59 q)

letter_value : (b : ℕ) → letter_or_digit b ≡ true → value_byte b ≡ true
unfolding letter_or_digit
letter_value b h =
    or_elim (within 97 122 b || within 65 90 b) (within 48 57 b)
    (or_elim (within 97 122 b) (within 65 90 b) (λ e. above 97 122 (within_true 97 122 b e) (omega arith) (omega arith)) (λ e. above 65 90 (within_true 65 90 b e) (omega arith) (omega arith)))
    (λ e. let w = within_true 48 57 b e in value_is b (omega (arith, w.0)) (omega (arith, w.1)) (λ z. omega (arith, w.1)) (λ z. omega (arith, w.1)))
    h
  where
    above : (lo hi : ℕ) → (lo ≤ b) × (b ≤ hi) → 62 ≤ lo → hi ≤ 126 → value_byte b ≡ true
    above lo hi w l h = value_is b (omega (arith, w.0)) (omega (arith, w.1)) (λ z. omega (arith, w.0)) (λ z. omega (arith, w.0))

-- a text as one character string: its length, then its bytes
abbrev pub as_string : List ℕ → List ℕ
as_string t = length t ∷ t

-- the text once more, in its literals
pub txt_spelled : (id : List ℕ) → txt_text id ≡ text "v=STSv1; id=" ++ (id ++ text ";")
unfolding txt_text
txt_spelled id = refl

-- it is 13 bytes longer than the id
pub txt_length : (id : List ℕ) → length (txt_text id) ≡ length id + 13
unfolding txt_text
txt_length id = omega (arith, length-append id (text ";"))

module _ (id : List ℕ) (is : is_id id ≡ true) where
  id_value : is_value id ≡ true
  unfolding is_value
  id_value = rw (lt-ltb 0 (length id) (id_parts id is).0) (all_more letter_or_digit value_byte letter_value id (id_parts id is).2)

  -- the text has at most 45 bytes, so it is one character string
  pub txt_most : length (txt_text id) ≤ 45
  txt_most = omega (arith, txt_length id, (id_parts id is).1)

  -- it is a record with this id
  pub txt_record : Record (txt_text id) id
  unfolding txt_text first_value agree same_byte is_blanks blank all is_field_name name_byte letter_or_digit
  txt_record = record {
    rest = text "; id=" ++ (id ++ text ";");
    fields = record { name = text "id"; value = id } ∷ [];
    whole = refl;
    form = more [] (32 ∷ []) (text "id") id (text ";") [] refl refl refl id_value (last [] [] refl refl);
    first = refl;
    id = is;
  }

  -- as one character string
  abbrev rdata : List ℕ
  rdata = as_string (txt_text id)

  rdata_is : written (txt_text id ∷ []) ≡ rdata
  unfolding written
  rdata_is = rw (append-nil (txt_text id))

  rdata_short : all (up_to 65535) (rdata ∷ []) ≡ true
  unfolding all up_to
  rdata_short = rw (le-leb (length rdata) 65535 (omega (arith, txt_most)))

  rdata_sum : sums_to (lengths_of (rdata ∷ [])) (length rdata) ≡ true
  unfolding flatten
  rdata_sum = rw (append-nil (txt_text id)) at (pieces_sum 65535 (omega arith) (rdata ∷ []) rdata_short)

  rdata_alone : cut rdata (numbers (lengths_of (rdata ∷ []))) ≡ rdata ∷ []
  unfolding flatten
  rdata_alone = rw (append-nil rdata) at (pieces_back 65535 (omega arith) (rdata ∷ []) rdata_short)

  joined_back : joined rdata ≡ txt_text id
  unfolding joined flatten
  joined_back = rw (← rdata_is, strings_written (txt_text id ∷ [])) (append-nil (txt_text id))

  rdata_form : is_rdata rdata ≡ true
  unfolding is_rdata
  rdata_form = rw (lt-ltb 0 (length rdata) (omega arith)) (rw rdata_is at (fit_written (txt_text id ∷ [])))

  wire_form : is_wire_form rdata (lengths_of (rdata ∷ [])) ≡ true
  unfolding is_wire_form all
  wire_form = rw (rdata_sum, rdata_alone, rdata_form)

  tagged : is_candidate (txt_text id) ≡ true
  unfolding is_candidate txt_text begins
  tagged = refl

  only_one : candidates (texts rdata (lengths_of (rdata ∷ []))) ≡ txt_text id ∷ []
  unfolding candidates texts
  only_one = rw (rdata_alone, joined_back, tagged)

  -- and is read back to the same id, whatever output has room for it
  pub txt_back : (out : List ℕ) → length (txt_text id) ≤ length out → ((read_txt rdata (lengths_of (rdata ∷ [])) (length out)).number ≡ 6) × (id_part (wrote_txt rdata (lengths_of (rdata ∷ [])) out) (read_txt rdata (lengths_of (rdata ∷ [])) (length out)) ≡ id)
  txt_back out room = six_read rdata (lengths_of (rdata ∷ [])) out (txt_text id) id wire_form only_one room txt_record
