-- Worked cases, by computing with the definitions: document 01's cases of TXT records marked P, and some more. Each is a whole call. Assumes nothing.
use Prim.Native.Nat.{ℕ}
use mathlib.Core.Path.{◌≡◌, refl}
use mathlib.Core.List.{List, [], ◌∷◌, ◌++◌, flatten, map}
use lib.ListN.{length}
use Rattle.lists.specs.Bytes.{all}
use Rattle.lists.specs.Equal.{agree, same_byte}
use Rattle.lists.specs.Split.{index_of}
use Rattle.lists.specs.Span.{span_of, begins}
use Rattle.lists.specs.Text.{text}
use Rattle.numbers.specs.Numbers.{numbers, is_whole, sum}
use Rattle.numbers.specs.Numbers.{written as list_of}
use Rattle.numbers.specs.Pieces.{cut, sums_to}
use Rattle.fields.specs.Blank.{blank}
use Rattle.fields.specs.Name.{letter_or_digit, name_byte, is_field_name, has_name}
use Rattle.txt.specs.declared.TxtAnswer.{TxtAnswer}
use Rattle.txt.specs.Paper.{value_byte, is_id}
use Rattle.txt.specs.Rdata.{strings_in, strings, fit_in, strings_fit, is_rdata, is_wire_form, joined, texts}
use Rattle.txt.specs.Grammar.{has_delimiter, after_delimiter, name_of, after_name, value_of, after_field, has_field, one_more, fields_in, fields_of, first_named, with_id, id_among, id_field}
use Rattle.txt.specs.Txt.{is_candidate, candidates, chosen, outcome, refusal, record_answer, txt_answer, output_of, read_txt, wrote_txt, id_part}

-- an RDATA of one character string, and of two
abbrev one : List ℕ → List ℕ
one t = length t ∷ t

abbrev two : List ℕ → List ℕ → List ℕ
two t u = one t ++ one u

accepted : ℕ → ℕ → TxtAnswer
accepted start size = record { number = 6; id_start = start; id_length = size }

-- a line `unfolding computed` opens all that a call computes by
computed : ℕ
unfolding all index_of span_of begins agree same_byte numbers list_of is_whole sum cut sums_to blank letter_or_digit name_byte is_field_name has_name strings_in strings fit_in strings_fit is_rdata is_wire_form joined texts flatten has_delimiter after_delimiter value_byte name_of after_name value_of after_field has_field one_more fields_in fields_of first_named is_id with_id id_among id_field record_answer is_candidate candidates chosen outcome txt_answer read_txt output_of wrote_txt
computed = 0

-- the call with these RDATAs, and an output of `room` bytes
abbrev calls : List (List ℕ) → ℕ → TxtAnswer
calls rs room = read_txt (flatten rs) (list_of (map length rs)) room

-- the call with one record of one string, and an output of 64 bytes
abbrev call : List ℕ → TxtAnswer
call t = calls (one t ∷ []) 64

-- document 01's P: accepted, the id at 12, 15 bytes long; the same without the last `;`; with `; ;` at the end refused
P : map call (text "v=STSv1; id=20160831085700Z;" ∷ text "v=STSv1; id=20160831085700Z" ∷ text "v=STSv1; id=20160831085700Z; ;" ∷ []) ≡ accepted 12 15 ∷ accepted 12 15 ∷ refusal 42 ∷ []
unfolding computed accepted
P = refl

-- ids of 32 and 33 bytes
ids : map call (text "v=STSv1;id=abcdefghijklmnopqrstuvwxyz012345" ∷ text "v=STSv1;id=abcdefghijklmnopqrstuvwxyz0123456" ∷ []) ≡ accepted 11 32 ∷ refusal 42 ∷ []
unfolding computed accepted
ids = refl

-- the first `id` counts, in lower case; none: 42
firsts : map call (text "v=STSv1;id=a;id=-" ∷ text "v=STSv1;id=-;id=a" ∷ text "v=STSv1;ID=a" ∷ text "v=STSv1;ID=a;id=b;" ∷ text "v=STSv1;" ∷ []) ≡ accepted 11 1 ∷ refusal 42 ∷ refusal 42 ∷ accepted 16 1 ∷ refusal 42 ∷ []
unfolding computed accepted
firsts = refl

-- names of 32 and 33 bytes; a value with `=`, and an empty one; no field between two `;`
fields : map call (text "v=STSv1;abcdefghijklmnopqrstuvwxyz0.-_45=!;id=a" ∷ text "v=STSv1;abcdefghijklmnopqrstuvwxyz0.-_456=!;id=a" ∷ text "v=STSv1;id=a=b" ∷ text "v=STSv1;id=" ∷ text "v=STSv1;;id=a" ∷ []) ≡ accepted 46 1 ∷ refusal 42 ∷ refusal 42 ∷ refusal 42 ∷ refusal 42 ∷ []
unfolding computed accepted
fields = refl

-- blanks about a delimiter; a blank after the last field is no delimiter
blanks : map call (text "v=STSv1; \t id=a \t ; " ∷ text "v=STSv1;id=a " ∷ []) ≡ accepted 14 1 ∷ refusal 42 ∷ []
unfolding computed accepted
blanks = refl

-- 43: an empty RDATA; a string that runs past; left-over bytes of the list; lengths that do not sum to the bytes
broken : (calls ([] ∷ []) 64 ∷ calls ((2 ∷ text "a") ∷ []) 64 ∷ read_txt [] (0 ∷ []) 64 ∷ read_txt (one (text "a")) (list_of (1 ∷ [])) 64 ∷ []) ≡ refusal 43 ∷ refusal 43 ∷ refusal 43 ∷ refusal 43 ∷ []
unfolding computed accepted
broken = refl

-- 40: no RDATA; one empty string; a blank before the first `;`. 41: two candidates, before 44. 44: one byte short, before 42
order : (read_txt [] [] 0 ∷ calls (one [] ∷ []) 64 ∷ call (text "v=STSv1 ;id=a") ∷ calls (one (text "v=STSv1;id=a") ∷ one (text "v=STSv1;") ∷ []) 0 ∷ calls (one (text "v=STSv1;") ∷ []) 7 ∷ calls (one (text "v=STSv1;") ∷ []) 8 ∷ []) ≡ refusal 40 ∷ refusal 40 ∷ refusal 40 ∷ refusal 41 ∷ refusal 44 ∷ refusal 42 ∷ []
unfolding computed accepted
order = refl

-- strings are joined; other records are dropped; the output is just as long
joins : (calls (two (text "v=STS") (text "v1;id=a") ∷ []) 12 ∷ calls (one (text "spf") ∷ one (text "v=STSv1;id=a") ∷ one [] ∷ []) 12 ∷ []) ≡ accepted 11 1 ∷ accepted 11 1 ∷ []
unfolding computed accepted
joins = refl

-- the output afterwards: 6, 42, 44, 41
abbrev wrote : List (List ℕ) → List ℕ → List ℕ
wrote rs out = wrote_txt (flatten rs) (list_of (map length rs)) out

outputs : (wrote (two (text "v=STSv1") (text ";id=ab") ∷ []) (text "0123456789abcdef") ∷ wrote (one (text "v=STSv1;") ∷ []) (text "0123456789") ∷ wrote (one (text "v=STSv1;id=a") ∷ []) (text "0123456789")
    ∷ wrote (one (text "v=STSv1;") ∷ one (text "v=STSv1;") ∷ []) (text "0123456789") ∷ [])
    ≡ text "v=STSv1;id=abdef" ∷ text "v=STSv1;89" ∷ text "0123456789" ∷ text "0123456789" ∷ []
unfolding computed
outputs = refl

-- the id in the output
part : id_part (text "v=STSv1;id=abdef") (calls (two (text "v=STSv1") (text ";id=ab") ∷ []) 16) ≡ text "ab"
unfolding computed accepted
part = refl
