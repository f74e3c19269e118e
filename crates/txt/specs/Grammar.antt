-- Document 01, "TXT record": the grammar of a record's text, as a reader goes through it. A text is taken apart from its front, so each definition is of a text:
-- it says whether something stands at the front, or what follows that. `Paper` has the same grammar as the set of its texts, and is easier to hold to the paper.
use Prim.Native.Char.{code}
use Rattle.std.specs.Prelude.{ℕ, zero, suc, Bool, cond, ◌&&◌, List, [], ◌∷◌, eqb, ltb, length, take, drop}
use Rattle.std.proofs.Math.Option.{Option, none, some}
use Rattle.lists.specs.Equal.{same_bytes}
use Rattle.lists.specs.Span.{span_of, begins}
use Rattle.lists.specs.Text.{text}
use Rattle.fields.specs.Blank.{after_blanks}
use Rattle.fields.specs.Name.{has_name, before, after}
use Rattle.txt.specs.Paper.{value_byte, is_id}

-- the version, at the front of every record
abbrev pub version : List ℕ
version = text "v=STSv1"

-- nothing more stands there
abbrev pub at_end : List ℕ → Bool
at_end s = eqb (length s) 0

-- a delimiter: blanks, `;`, blanks
unfoldable pub has_delimiter : List ℕ → Bool
has_delimiter s = begins (text ";") (after_blanks s)

-- what follows the delimiter
unfoldable pub after_delimiter : List ℕ → List ℕ
after_delimiter s = after_blanks (drop 1 (after_blanks s))

-- the name of the field at the front, up to its `=`
unfoldable pub name_of : List ℕ → List ℕ
name_of s = before (code "=") s

-- what follows the `=`
unfoldable pub after_name : List ℕ → List ℕ
after_name s = after (code "=") s

-- the value of the field at the front: the bytes of a value that follow the `=`
unfoldable pub value_of : List ℕ → List ℕ
value_of s = take (span_of value_byte (after_name s)) (after_name s)

-- what follows the field
unfoldable pub after_field : List ℕ → List ℕ
after_field s = drop (span_of value_byte (after_name s)) (after_name s)

-- a field: name, `=`, value, which has one byte or more
unfoldable pub has_field : List ℕ → Bool
has_field s = has_name (code "=") s && ltb 0 (length (value_of s))

-- the field f, then the fields of a list; nothing where there is no list
unfoldable pub one_more : List ℕ → Option (List (List ℕ)) → Option (List (List ℕ))
one_more f none = none
one_more f (some fs) = some (f ∷ fs)

-- the fields of what follows the version or a field: nothing more; or a delimiter and nothing more; or a delimiter, a field and so on. `none` where the text is
-- not of this form. Each field is given as the text that begins with it. The first argument bounds how many are read
unfoldable pub fields_in : ℕ → List ℕ → Option (List (List ℕ))
fields_in zero s = none
fields_in (suc k) s =
    cond (at_end s) (some [])
    (cond (has_delimiter s)
    (cond (at_end (after_delimiter s)) (some [])
    (cond (has_field (after_delimiter s)) (one_more (after_delimiter s) (fields_in k (after_field (after_delimiter s)))) none))
    none)

-- all of them: a text has no more fields than bytes
unfoldable pub fields_of : List ℕ → Option (List (List ℕ))
fields_of s = fields_in (suc (length s)) s

-- the first of the fields that has this name
unfoldable pub first_named : List ℕ → List (List ℕ) → Option (List ℕ)
first_named name [] = none
first_named name (f ∷ fs) = cond (same_bytes (name_of f) name) (some f) (first_named name fs)

-- the field, where its value is an id
unfoldable pub with_id : Option (List ℕ) → Option (List ℕ)
with_id none = none
with_id (some f) = cond (is_id (value_of f)) (some f) none

-- the field of the id: the first that is named `id`, where its value is an id. So where there is an id, there is a field
unfoldable pub id_among : Option (List (List ℕ)) → Option (List ℕ)
id_among none = none
id_among (some fs) = with_id (first_named (text "id") fs)

-- the field of the id, where the text is of the grammar: the version, then fields with an id among them. Nothing where it is not: 42
unfoldable pub id_field : List ℕ → Option (List ℕ)
id_field t = cond (begins version t) (id_among (fields_of (drop (length version) t))) none
