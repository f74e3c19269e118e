-- Policy bodies, worked by computing: the definitions say what document 01 and RFC 8461 say. Assumes nothing.
use Prim.Native.Nat.{ℕ}
use mathlib.Core.Path.{◌≡◌, refl}
use mathlib.Core.Bool.{true, false}
use mathlib.Core.List.{[], ◌∷◌, map}
use mathlib.Core.Option.{Option, none, some}
use Rattle.lists.specs.Bytes.{all, any, lower_of}
use Rattle.lists.specs.Equal.{agree, same_byte, same_letter}
use Rattle.lists.specs.Span.{span_of, trimmed_length}
use Rattle.lists.specs.Split.{index_of, split, to_first}
use Rattle.lists.specs.Text.{text}
use Rattle.names.specs.Name.{label_byte, is_label, is_name, is_starred, is_wildcard, is_pattern, matches_name, some_matches}
use Rattle.clock.specs.Clock.{capped_age}
use Rattle.fields.specs.Blank.{blank}
use Rattle.fields.specs.Name.{letter_or_digit, name_byte, is_field_name, has_name}
use Rattle.policies.specs.declared.PolicyAnswer.{PolicyAnswer}
use Rattle.policies.specs.declared.Cause.{Cause}
use Rattle.policies.specs.declared.Fault.{Fault}
use Rattle.policies.specs.Texts.{utf8_tail, utf8_two, utf8_three, utf8_four, printable, is_text, is_value}
use Rattle.policies.specs.Lines.{lines, line_start}
use Rattle.policies.specs.Fields.{name_of, value_of, is_line, is_named, first_named, patterns, is_version, mode_of, is_digit, decimal_after, age_of, is_there, is_first, cause_after}
use Rattle.policies.specs.Policy.{fault_at, or_later, first_fault, body_fault, mode_in, age_in, has_patterns, complete, completed, judged, read_body, mode_number, cause_number, fault_answer, answer_to, policy_answer, patterns_of}

abbrev refused_at : ℕ → ℕ → ℕ → PolicyAnswer
refused_at number line offset = record { number = number; mode = 0; lifetime = 0; mx_count = 0; line = line; offset = offset }

abbrev accepted : ℕ → ℕ → ℕ → PolicyAnswer
accepted mode lifetime count = record { number = 7; mode = mode; lifetime = lifetime; mx_count = count; line = 0; offset = 0 }

-- RFC 8461, 3.2 and appendix A; line ends mixed, the last left out, blanks, unknown fields, a second mode that no rule reads; no mx under none and under testing;
-- a max_age above the longest; capital letters in a name of a field; a required field missing; no bytes
answers : map policy_answer
    (text "version: STSv1\r\nmode: enforce\r\nmx: mail.example.com\r\nmx: *.example.net\r\nmx: backupmx.example.com\r\nmax_age: 604800\r\n"
    ∷ text "version: STSv1\nmode: testing\nmx: mx1.example.com\nmx: mx2.example.com\nmx: mx.backup-example.com\nmax_age: 1296000\n"
    ∷ text "mx:*.a\r\nx.y: z : z\nmode:enforce \t\nmode: never\nversion:\tSTSv1\nmax_age: 007"
    ∷ text "version: STSv1\nmode: none\nmax_age: 31557601\n"
    ∷ text "version: STSv1\nmode: testing\nmax_age: 1\n"
    ∷ text "version: STSv1\nMode: none\nmax_age: 1\n"
    ∷ text "mode: none\nmax_age: 1\n"
    ∷ text "version: STSv2\nmode: none\nmax_age: 1\n"
    ∷ text "version: STSv1\nmode: none\nmax_age: 12345678901\n"
    ∷ text "version: STSv1\nmode: none\nmax_age: 1\nmx: *.*.a\n"
    ∷ text "" ∷ [])
    ≡ accepted 1 604800 3 ∷ accepted 2 1296000 3 ∷ accepted 1 7 1 ∷ accepted 3 31557600 0 ∷ refused_at 52 0 0 ∷ refused_at 52 0 0 ∷ refused_at 52 0 0 ∷ refused_at 54 1 0 ∷ refused_at 56 3 26 ∷ refused_at 57 4 37 ∷ refused_at 53 1 0 ∷ []
unfolding all any agree same_byte span_of index_of split to_first label_byte is_label is_name is_starred is_wildcard is_pattern capped_age blank trimmed_length letter_or_digit name_byte is_field_name has_name utf8_tail utf8_two utf8_three utf8_four printable is_text is_value lines line_start name_of value_of is_line is_named first_named patterns is_version mode_of is_digit decimal_after age_of is_there is_first cause_after fault_at or_later first_fault body_fault mode_in age_in has_patterns complete completed judged read_body mode_number cause_number fault_answer answer_to policy_answer
answers = refl

-- the first fault, its line and where that begins: an empty line, a final CR, a lone CR, a blank before the colon, a tab inside a value, DEL, and contents
abbrev fault : Cause → ℕ → ℕ → Option Fault
fault cause line offset = some (record { cause = cause; line = line; offset = offset })

faults : map body_fault
    (text "mode: none\n\nmode: x\n" ∷ text "a: b\r\nmode: x\r" ∷ text "a: b\nc: d\re\n" ∷ text "a: b\nmode : none" ∷ text "a: b\tc"
    ∷ (97 ∷ 58 ∷ 32 ∷ 0x7F ∷ []) ∷ text "mx: a.b\nversion: STSv1\nmx: -a.b\nmode: x" ∷ text "a: b\nmax_age: 1s\n" ∷ text "version: STSv1\nversion: 2\nmode: Enforce\n" ∷ text "a: b" ∷ [])
    ≡ fault Cause.Form 2 11 ∷ fault Cause.Form 2 6 ∷ fault Cause.Form 2 5 ∷ fault Cause.Form 2 5 ∷ fault Cause.Form 1 0
    ∷ fault Cause.Form 1 0 ∷ fault Cause.Mx 3 23 ∷ fault Cause.MaxAge 2 5 ∷ fault Cause.Mode 3 26 ∷ none ∷ []
unfolding all any agree same_byte span_of index_of split to_first label_byte is_label is_name is_starred is_wildcard is_pattern blank trimmed_length letter_or_digit name_byte is_field_name has_name utf8_tail utf8_two utf8_three utf8_four printable is_text is_value lines line_start name_of value_of is_line is_named is_version mode_of is_digit decimal_after age_of is_there is_first cause_after fault_at or_later first_fault body_fault
faults = refl

-- RFC 3629: a euro sign, e acute and an emoji; the euro sign overlong, a surrogate, a code point past 10FFFF, two bytes for a slash, a sequence cut short, a lone tail
texts : map is_text
    ((0xE2 ∷ 0x82 ∷ 0xAC ∷ 32 ∷ 0xC3 ∷ 0xA9 ∷ 0xF0 ∷ 0x9F ∷ 0x98 ∷ 0x80 ∷ []) ∷ (0xE0 ∷ 0x82 ∷ 0xAC ∷ []) ∷ (0xED ∷ 0xA0 ∷ 0x80 ∷ []) ∷ (0xF4 ∷ 0x90 ∷ 0x80 ∷ 0x80 ∷ [])
    ∷ (0xC0 ∷ 0xAF ∷ []) ∷ (97 ∷ 0xE2 ∷ 0x82 ∷ []) ∷ (0x80 ∷ 97 ∷ []) ∷ [])
    ≡ true ∷ false ∷ false ∷ false ∷ false ∷ false ∷ false ∷ []
unfolding utf8_tail utf8_two utf8_three utf8_four printable is_text
texts = refl

-- hosts against the patterns of a body: a plain name in other letters, a wildcard, not two labels, no name
matched : map (some_matches (patterns_of (text "mx: mail.example.com\r\nmx: *.example.net \nx: *.org")))
    (text "MAIL.example.com" ∷ text "a.example.net" ∷ text "a.b.example.net" ∷ text "example.net" ∷ text "a.org" ∷ text "*.example.net" ∷ [])
    ≡ true ∷ true ∷ false ∷ false ∷ false ∷ false ∷ []
unfolding all any lower_of agree same_byte same_letter span_of index_of split to_first label_byte is_label is_name is_starred is_wildcard matches_name blank trimmed_length lines name_of value_of is_named patterns patterns_of
matched = refl
