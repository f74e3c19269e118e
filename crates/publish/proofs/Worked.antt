-- TXT texts and policy bodies, worked by computing: the definitions write what RFC 8461 prints and document 02, No. 5, says. Assumes nothing.
use Prim.Native.Char.{code}
use Prim.Native.Nat.{ℕ}
use mathlib.Core.Path.{◌≡◌, refl}
use mathlib.Core.List.{List, [], ◌∷◌, ◌++◌, map, flatten}
use lib.ListN.{length, take, replicate}
use Rattle.lists.specs.Bytes.{all, any}
use Rattle.lists.specs.Check.{refusal_of}
use Rattle.lists.specs.Equal.{agree, same_byte}
use Rattle.lists.specs.Span.{span_of, trimmed_length}
use Rattle.lists.specs.Split.{index_of, split, to_first}
use Rattle.lists.specs.Text.{text}
use Rattle.numbers.specs.Numbers.{numbers, is_whole, sum, written}
use Rattle.numbers.specs.Pieces.{cut, sums_to}
use Rattle.numbers.proofs.Written.{lengths_of}
use Rattle.names.specs.Name.{label_byte, is_label, is_name, is_starred, is_wildcard, is_pattern}
use Rattle.clock.specs.Clock.{capped_age}
use Rattle.fields.specs.Blank.{blank}
use Rattle.fields.specs.Name.{letter_or_digit, name_byte, is_field_name, has_name}
use Rattle.policies.specs.Texts.{utf8_tail, utf8_two, utf8_three, utf8_four, printable, is_text, is_value}
use Rattle.policies.specs.Lines.{lines, line_start}
use Rattle.policies.specs.Fields.{name_of, value_of, is_line, is_named, first_named, patterns, is_version, mode_of, is_digit, decimal_after, age_of, is_there, is_first, cause_after}
use Rattle.policies.specs.Policy.{fault_at, or_later, first_fault, body_fault, mode_in, age_in, has_patterns, complete, completed, judged, read_body, mode_number, cause_number, fault_answer, answer_to, policy_answer}
use Rattle.policies.specs.Paper.{mode_text}
use Rattle.txt.specs.Paper.{is_id}
use Rattle.writing.specs.declared.WriteAnswer.{WriteAnswer}
use Rattle.writing.specs.Answer.{success, refusal, answer_unless, unless_refused, write_refusal, write_answer, write_output}
use Rattle.writing.specs.Decimal.{decimal_in, decimal}
use Rattle.publish.specs.Texts.{txt_text, field_line, mx_lines, policy_text}
use Rattle.publish.specs.Calls.{txt_checks, write_txt_answer, write_txt_output, count_fits, patterns_fit, policy_checks, write_policy_answer, write_policy_output, rewrite_checks, text_of, rewrite_answer, rewrite_output}

-- an output of n bytes, each a dot
dots : ℕ → List ℕ
dots n = replicate n (code ".")

-- numbers in decimal
decimals : map decimal (0 ∷ 9 ∷ 10 ∷ 100 ∷ 604800 ∷ 31557600 ∷ []) ≡ text "0" ∷ text "9" ∷ text "10" ∷ text "100" ∷ text "604800" ∷ text "31557600" ∷ []
unfolding decimal decimal_in
decimals = refl

-- RFC 8461, 3.1: the example record; the longest id in 45 bytes, and in 44; an id with a hyphen; none
txt_answers : write_txt_answer (text "20160831085700Z") 40 ∷ write_txt_answer (replicate 32 (code "z")) 45 ∷ write_txt_answer (replicate 32 (code "z")) 44 ∷ write_txt_answer (replicate 33 (code "z")) 44 ∷ write_txt_answer (text "a-b") 0 ∷ write_txt_answer [] 40 ∷ []
    ≡ success 28 ∷ success 45 ∷ refusal 83 ∷ refusal 80 ∷ refusal 80 ∷ refusal 80 ∷ []
unfolding write_txt_answer write_answer answer_unless write_refusal refusal_of txt_checks txt_text is_id all letter_or_digit
txt_answers = refl

txt_outputs : write_txt_output (text "20160831085700Z") (dots 30) ∷ write_txt_output (text "20160831085700Z") (dots 27) ∷ write_txt_output (text "a b") (dots 30) ∷ []
    ≡ text "v=STSv1; id=20160831085700Z;.." ∷ dots 27 ∷ dots 30 ∷ []
unfolding dots write_txt_output write_output unless_refused write_refusal refusal_of txt_checks txt_text is_id all letter_or_digit
txt_outputs = refl

-- RFC 8461, 3.2: the example policy
abbrev example : List ℕ
example = text "version: STSv1\nmode: enforce\nmx: mail.example.com\nmx: *.example.net\nmx: backupmx.example.com\nmax_age: 604800\n"

example_patterns : List (List ℕ)
example_patterns = text "mail.example.com" ∷ text "*.example.net" ∷ text "backupmx.example.com" ∷ []

written_example : write_policy_output 1 604800 (flatten example_patterns) (lengths_of example_patterns) (dots 113) ≡ example ++ dots 4
unfolding dots example_patterns flatten written numbers is_whole sum cut sums_to write_policy_output write_output unless_refused write_refusal refusal_of policy_checks patterns_fit count_fits policy_text field_line mx_lines mode_text decimal decimal_in all split to_first label_byte is_label is_name is_starred is_wildcard is_pattern
written_example = refl

-- each mode by its number, capital letters kept, a pattern twice, no pattern under none
abbrev wrote : ℕ → ℕ → List (List ℕ) → List ℕ
wrote mode lifetime ps = take (write_policy_answer mode lifetime (flatten ps) (lengths_of ps) 90).length (write_policy_output mode lifetime (flatten ps) (lengths_of ps) (dots 90))

modes : wrote 1 0 (text "A.b" ∷ text "A.b" ∷ []) ∷ wrote 2 31557600 (text "*.A-1" ∷ []) ∷ wrote 3 9 [] ∷ []
    ≡ text "version: STSv1\nmode: enforce\nmx: A.b\nmx: A.b\nmax_age: 0\n"
    ∷ text "version: STSv1\nmode: testing\nmx: *.A-1\nmax_age: 31557600\n"
    ∷ text "version: STSv1\nmode: none\nmax_age: 9\n"
    ∷ []
unfolding dots flatten written numbers is_whole sum cut sums_to write_policy_answer write_answer answer_unless write_policy_output write_output unless_refused write_refusal refusal_of policy_checks patterns_fit count_fits policy_text field_line mx_lines mode_text decimal decimal_in all split to_first label_byte is_label is_name is_starred is_wildcard is_pattern
modes = refl

-- refusals: an unknown mode before all else; no pattern under enforce and testing; 17 patterns under none; a final dot; an empty pattern; a left-over byte; lengths that sum to one more, and to one less; a
-- lifetime above the longest; no room
abbrev answer : ℕ → ℕ → List (List ℕ) → ℕ → WriteAnswer
answer mode lifetime ps room = write_policy_answer mode lifetime (flatten ps) (lengths_of ps) room

refusals : answer 0 31557601 [] 0 ∷ answer 4 0 (text "a" ∷ []) 99 ∷ answer 1 31557601 [] 0 ∷ answer 2 0 [] 99 ∷ answer 3 0 (replicate 17 (text "a")) 200 ∷ answer 3 0 (replicate 16 (text "a")) 200
    ∷ answer 1 0 (text "a" ∷ text "b." ∷ []) 99 ∷ answer 1 0 (text "a" ∷ [] ∷ []) 99 ∷ write_policy_answer 1 0 (text "a") (0 ∷ 0 ∷ 0 ∷ 1 ∷ 0 ∷ []) 99 ∷ write_policy_answer 1 0 (text "a") (0 ∷ 0 ∷ 0 ∷ 2 ∷ []) 99 ∷ write_policy_answer 1 0 (text "ab") (0 ∷ 0 ∷ 0 ∷ 1 ∷ []) 99
    ∷ answer 1 31557601 (text "a" ∷ []) 0 ∷ answer 1 0 (text "a" ∷ []) 45 ∷ answer 1 0 (text "a" ∷ []) 46 ∷ []
    ≡ refusal 67 ∷ refusal 67 ∷ refusal 81 ∷ refusal 81 ∷ refusal 81 ∷ success 133
    ∷ refusal 81 ∷ refusal 81 ∷ refusal 81 ∷ refusal 81 ∷ refusal 81
    ∷ refusal 82 ∷ refusal 83 ∷ success 46 ∷ []
unfolding flatten written numbers is_whole sum cut sums_to write_policy_answer write_answer answer_unless write_refusal refusal_of policy_checks patterns_fit count_fits policy_text field_line mx_lines mode_text decimal decimal_in all split to_first label_byte is_label is_name is_starred is_wildcard is_pattern
refusals = refl

-- the largest policy: 16 patterns of 255 bytes, in 4,207 bytes and in 4,206
abbrev label : ℕ → List ℕ
label n = replicate n (code "a")

longest_pattern : List ℕ
longest_pattern = text "*." ++ (label 63 ++ (code "." ∷ (label 63 ++ (code "." ∷ (label 63 ++ (code "." ∷ label 61))))))

largest : length longest_pattern ∷ (answer 1 31557600 (replicate 16 longest_pattern) 4207).number ∷ (answer 1 31557600 (replicate 16 longest_pattern) 4206).number ∷ (answer 1 31557600 (replicate 16 longest_pattern) 4207).length ∷ []
    ≡ 255 ∷ 15 ∷ 83 ∷ 4207 ∷ []
unfolding longest_pattern flatten written numbers is_whole sum cut sums_to write_policy_answer write_answer answer_unless write_refusal refusal_of policy_checks patterns_fit count_fits policy_text field_line mx_lines mode_text decimal decimal_in all split to_first label_byte is_label is_name is_starred is_wildcard is_pattern
largest = refl

-- rewriting: CRLF, blanks, other fields, a second mode, a lifetime that is capped, one with zeros at its front, the last line's end left out
anew : rewrite_output (text "x: y\r\nmode:enforce\t\r\nmx:  A.b\nmode: none\nmx: *.c\nversion: STSv1\nmax_age: 9999999999") (dots 67) ∷ rewrite_output (text "max_age: 007\nmode: none\nversion: STSv1\nversion: 2\n") (dots 44) ∷ rewrite_output example (dots 109) ∷ []
    ≡ text "version: STSv1\nmode: enforce\nmx: A.b\nmx: *.c\nmax_age: 31557600\n...." ∷ text "version: STSv1\nmode: none\nmax_age: 7\n......." ∷ example ∷ []
unfolding dots rewrite_output write_output unless_refused write_refusal refusal_of rewrite_checks text_of policy_text field_line mx_lines mode_text decimal decimal_in all any agree same_byte span_of index_of split to_first label_byte is_label is_name is_starred is_wildcard is_pattern capped_age blank trimmed_length letter_or_digit name_byte is_field_name has_name utf8_tail utf8_two utf8_three utf8_four printable is_text is_value lines line_start name_of value_of is_line is_named first_named patterns is_version mode_of is_digit decimal_after age_of is_there is_first cause_after fault_at or_later first_fault body_fault mode_in age_in has_patterns complete completed judged read_body mode_number cause_number fault_answer answer_to policy_answer
anew = refl

-- refusals: a bad mode, a bad max_age, no version, 17 patterns; 16 patterns, in 132 bytes and in 133
abbrev mx : ℕ → List ℕ
mx n = flatten (replicate n (text "mx: a\n"))

again : rewrite_answer (text "mode: x\n") 99 ∷ rewrite_answer (text "max_age: 1s\n") 99 ∷ rewrite_answer (text "mode: none\nmax_age: 1\n" ++ mx 17) 0 ∷ rewrite_answer (text "version: STSv1\nmode: none\nmax_age: 1\n" ++ mx 17) 0
    ∷ rewrite_answer (text "version: STSv1\nmode: none\nmax_age: 1\n" ++ mx 16) 132 ∷ rewrite_answer (text "version: STSv1\nmode: none\nmax_age: 1\n" ++ mx 16) 133 ∷ []
    ≡ refusal 55 ∷ refusal 56 ∷ refusal 52 ∷ refusal 81 ∷ refusal 83 ∷ success 133 ∷ []
unfolding rewrite_answer write_answer answer_unless write_refusal refusal_of rewrite_checks text_of policy_text field_line mx_lines mode_text decimal decimal_in all any agree same_byte span_of index_of split to_first label_byte is_label is_name is_starred is_wildcard is_pattern capped_age blank trimmed_length letter_or_digit name_byte is_field_name has_name utf8_tail utf8_two utf8_three utf8_four printable is_text is_value lines line_start name_of value_of is_line is_named first_named patterns is_version mode_of is_digit decimal_after age_of is_there is_first cause_after fault_at or_later first_fault body_fault mode_in age_in has_patterns complete completed judged read_body mode_number cause_number fault_answer answer_to policy_answer flatten
again = refl
