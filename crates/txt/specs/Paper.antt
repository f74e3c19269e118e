-- Read this first: a TXT record as document 01 ("TXT record"; RFC 8461, 3.1) writes it down, as the set of its texts. A text is the list of its bytes; `s ++ t` is
-- s and then t, `b ∷ s` the byte b and then s. `Record t v` says that t is a record and v its id. `Txt` says which text of an answer is taken (it also begins with
-- `v=STSv1;`) and which numbers are answered; `Grammar` has this grammar once more, as a reader goes through a text. proofs/Paper.antt joins the two (`accepted`,
-- `accepts`), and proofs/Sanity.antt says it of the whole call (`read_six`, `six_read`): 6 is answered exactly where the wire form is right and the one candidate is
-- a record that the output has room for, and the id that is handed back is the record's.
use Prim.Native.Char.{code}
use Rattle.std.specs.Prelude.{ℕ, ◌≡◌, Bool, true, cond, not, ◌&&◌, List, [], ◌∷◌, ◌++◌, eqb, ltb, length}
use Rattle.std.proofs.Math.Option.{Option, none, some}
use Rattle.lists.specs.Bytes.{within, all}
use Rattle.lists.specs.Equal.{same_bytes}
use Rattle.lists.specs.Text.{text}
use Rattle.fields.specs.Blank.{blank}
use Rattle.fields.specs.Name.{letter_or_digit, is_field_name}

-- blanks: any number of spaces or tabs
unfoldable pub is_blanks : List ℕ → Bool
is_blanks b = all blank b

-- a byte of a value: 21 to 7E hex except `=` and `;`
unfoldable pub value_byte : ℕ → Bool
value_byte b = within 0x21 0x7e b && not (eqb b (code "=")) && not (eqb b (code ";"))

-- a value: one or more of these
unfoldable pub is_value : List ℕ → Bool
is_value v = ltb 0 (length v) && all value_byte v

-- a field's name and its value
pub record Pair : Type 0 where
  pub name : List ℕ
  pub value : List ℕ

-- what follows the version, with the fields in it: (delimiter, field) any number of times, then optionally one delimiter.
-- Delimiter: blanks b, `;`, blanks c. Field: name n, `=`, value v
pub data Rest : List ℕ → List Pair → Type 0 where
  nothing : Rest [] []
  last : (b c : List ℕ) → is_blanks b ≡ true → is_blanks c ≡ true → Rest (b ++ (code ";" ∷ c)) []
  more : (b c n v r : List ℕ) (fs : List Pair) → is_blanks b ≡ true → is_blanks c ≡ true → is_field_name n ≡ true → is_value v ≡ true → Rest r fs
      → Rest (b ++ (code ";" ∷ (c ++ (n ++ (code "=" ∷ (v ++ r)))))) (record { name = n; value = v } ∷ fs)

-- an id: 1 to 32 letters or digits
unfoldable pub is_id : List ℕ → Bool
is_id v = within 1 32 (length v) && all letter_or_digit v

-- the value of the first field that has this name
unfoldable pub first_value : List ℕ → List Pair → Option (List ℕ)
first_value name [] = none
first_value name (f ∷ fs) = cond (same_bytes f.name name) (some f.value) (first_value name fs)

-- the text t is a record with the id v: `v=STSv1`, then its fields. At least one field is named `id` (so there is one or more), and the first such has the value v,
-- of 1 to 32 letters or digits
pub record Record (t v : List ℕ) : Type 0 where
  pub rest : List ℕ
  pub fields : List Pair
  pub whole : t ≡ text "v=STSv1" ++ rest
  pub form : Rest rest fields
  pub first : first_value (text "id") fields ≡ some v
  pub id : is_id v ≡ true
