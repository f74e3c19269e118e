-- Names of fields and blanks, worked by computing: the definitions say what document 01 says. Assumes nothing.
use Prim.Native.Char.{code}
use mathlib.Core.Path.{◌≡◌, refl}
use mathlib.Core.Bool.{true, false}
use mathlib.Core.List.{[], ◌∷◌, map}
use Rattle.lists.specs.Bytes.{all}
use Rattle.lists.specs.Split.{index_of}
use Rattle.lists.specs.Span.{span_of, trimmed_length}
use Rattle.lists.specs.Text.{text}
use Rattle.fields.specs.Name.{letter_or_digit, name_byte, is_field_name, has_name, before, after}
use Rattle.fields.specs.Blank.{blank, after_blanks, before_blanks}

-- a letter or digit first; then `_ - .` too; 32 bytes and no more
names : map is_field_name (text "id" ∷ text "max_age" ∷ text "0-.x" ∷ text "abcdefghijklmnopqrstuvwxyz-1234_" ∷ []) ≡ true ∷ true ∷ true ∷ true ∷ []
unfolding is_field_name letter_or_digit name_byte all
names = refl

no_names : map is_field_name (text "" ∷ text "_a" ∷ text "-a" ∷ text ".a" ∷ text "a b" ∷ text "a:" ∷ text "abcdefghijklmnopqrstuvwxyz-1234_5" ∷ []) ≡ false ∷ false ∷ false ∷ false ∷ false ∷ false ∷ false ∷ []
unfolding is_field_name letter_or_digit name_byte all
no_names = refl

-- the byte that ends the name must be there; the first one counts
has_names : map (has_name (code "=")) (text "id=a=b" ∷ text "id" ∷ text "=a" ∷ text "id:a" ∷ text "i d=a" ∷ []) ≡ true ∷ false ∷ false ∷ false ∷ false ∷ []
unfolding has_name is_field_name letter_or_digit name_byte all index_of
has_names = refl

first_part : before (code "=") (text "id=a=b") ≡ text "id"
unfolding index_of
first_part = refl

second_part : after (code "=") (text "id=a=b") ≡ text "a=b"
unfolding index_of
second_part = refl

-- blanks are spaces and tabs, and nothing else
front : after_blanks (text " \t a b ") ≡ text "a b "
unfolding blank span_of
front = refl

back : map before_blanks (text " a b\t " ∷ text " \t" ∷ text "a\n" ∷ []) ≡ text " a b" ∷ text "" ∷ text "a\n" ∷ []
unfolding blank trimmed_length all
back = refl
