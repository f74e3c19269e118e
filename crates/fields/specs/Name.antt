-- Document 01, "TXT record": the name of a field. One definition for TXT records, where `=` ends a name, and for policies, where `:` does.
use Prim.Native.Char.{code}
use Rattle.std.specs.Prelude.{ℕ, Option, None, Some, ◌+◌, Bool, cond, ◌&&◌, ◌||◌, List, eqb, ltb, length, get_or, take, drop}
use Rattle.lists.specs.Bytes.{within, all}
use Rattle.lists.specs.Split.{index_of}

-- a letter or a digit
unfoldable pub letter_or_digit : ℕ → Bool
letter_or_digit b = within (code "a") (code "z") b || within (code "A") (code "Z") b || within (code "0") (code "9") b

-- a letter, a digit, `_`, `-` or `.`
unfoldable pub name_byte : ℕ → Bool
name_byte b = letter_or_digit b || eqb b (code "_") || eqb b (code "-") || eqb b (code ".")

-- a field's name: a letter or digit, then up to 31 of letter, digit, `_ - .`
unfoldable pub is_field_name : List ℕ → Bool
is_field_name n = within 1 32 (length n) && letter_or_digit (get_or n 0 0) && all name_byte n

-- what stands before the first byte `end` of a text, and what follows it
abbrev pub before : ℕ → List ℕ → List ℕ
before end s = take (index_of end s) s

abbrev pub after : ℕ → List ℕ → List ℕ
after end s = drop (index_of end s + 1) s

-- the text begins with a field's name, and the byte `end` follows it
unfoldable pub has_name : ℕ → List ℕ → Bool
has_name end s = ltb (index_of end s) (length s) && is_field_name (before end s)

-- the place of the byte that ends the field's name that begins at `at`, where there is such a name
unfoldable pub field_at : ℕ → List ℕ → ℕ → Option ℕ
field_at end s at = cond (has_name end (drop at s)) (Some (at + index_of end (drop at s))) None
