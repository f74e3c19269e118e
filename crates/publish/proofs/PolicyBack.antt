-- A policy body that is written is read back: the fields that it has, how long it is, and that the reader takes it for the same mode, lifetime and patterns. Assumes nothing.
use Prim.Native.Nat.{ℕ, ◌+◌, ◌*◌, ◌<◌, ◌≤◌}
use mathlib.Core.Path.{◌≡◌, refl, sym, subst, ◌∙◌}
use mathlib.Core.Bool.{true}
use mathlib.Core.List.{List, [], ◌∷◌, ◌++◌, map, flatten, append-nil, append_assoc}
use native.Mathlib.Omega.{arith}
use lib.ListN.{length, get_or, length-append}
use borrow.Author.Tests.{leb-true, le-leb, lt-ltb, ltb-true}
use Rattle.lists.specs.Bytes.{all}
use Rattle.lists.specs.Equal.{agree, same_byte}
use Rattle.lists.specs.Text.{text}
use Rattle.lists.proofs.Bools.{and_both}
use Rattle.lists.proofs.Laws.{within_true}
use Rattle.lists.proofs.All.{all_at}
use Rattle.names.specs.Name.{is_pattern}
use Rattle.clock.specs.Clock.{longest}
use Rattle.clock.proofs.Laws.{capped_short, capped_most}
use Rattle.fields.specs.Blank.{blank}
use Rattle.fields.specs.Name.{letter_or_digit, name_byte, is_field_name}
use Rattle.policies.specs.declared.Mode.{Mode}
use Rattle.policies.specs.declared.Mode.TheVariants as M
use Rattle.policies.specs.Texts.{printable, is_text, is_value}
use Rattle.policies.specs.Lines.{LF}
use Rattle.policies.specs.Paper.{Pair, line, Body, nothing, lf, Makes, first_value, values, mode_text}
use Rattle.policies.specs.Policy.{Policy, policy, has_patterns, read_body}
use Rattle.policies.proofs.Paper.{accepts, accepted}
use Rattle.policies.specs.Fields.{decimal_after}
use Rattle.writing.specs.Decimal.{decimal}
use Rattle.publish.specs.Texts.{field_line, mx_lines, policy_text}
use Rattle.publish.specs.Calls.{count_fits}
use Rattle.publish.proofs.Digits.{age_most, age_digits, decimal_reads}
use Rattle.publish.proofs.Values.{pattern_short, pattern_value, decimal_value, mode_value}

-- a line before the lines of a body
line_body : (n v s : List ℕ) (fs : List Pair) → is_field_name n ≡ true → is_value v ≡ true → Body s fs → Body (field_line n v ++ s) (record { name = n; value = v } ∷ fs)
unfolding field_line all blank
line_body n v s fs hn hv b =
    let whole : (n ++ (58 ∷ ((32 ∷ []) ++ (v ++ [])))) ++ (LF ∷ s) ≡ field_line n v ++ s = rw (append-nil v, append_assoc n (58 ∷ 32 ∷ v) (LF ∷ s), append_assoc n (58 ∷ 32 ∷ (v ++ (LF ∷ []))) s, append_assoc v (LF ∷ []) s) in
    subst (λ (x : List ℕ). Body x (record { name = n; value = v } ∷ fs)) whole (lf (line n (32 ∷ []) v [] hn refl hv refl) b)

-- the names of the lines are names of fields
names_are : all is_field_name (text "version" ∷ text "mode" ∷ text "mx" ∷ text "max_age" ∷ []) ≡ true
unfolding all is_field_name name_byte letter_or_digit
names_are = refl

name_is : (i : ℕ) → i < 4 → is_field_name (get_or (text "version" ∷ text "mode" ∷ text "mx" ∷ text "max_age" ∷ []) i []) ≡ true
name_is i h = all_at is_field_name [] (text "version" ∷ text "mode" ∷ text "mx" ∷ text "max_age" ∷ []) i h names_are

version_value : is_value (text "STSv1") ≡ true
unfolding is_value is_text printable
version_value = refl

-- the fields of a policy body that is written, in order: these and no others
abbrev field : List ℕ → List ℕ → Pair
field name value = record { name = name; value = value }

abbrev mx_fields : List (List ℕ) → List Pair
mx_fields ps = map (field (text "mx")) ps

abbrev pub fields_of : Mode → ℕ → List (List ℕ) → List Pair
fields_of mode lifetime ps = field (text "version") (text "STSv1") ∷ field (text "mode") (mode_text mode) ∷ (mx_fields ps ++ (field (text "max_age") (decimal lifetime) ∷ []))

mx_body : (ps : List (List ℕ)) (s : List ℕ) (fs : List Pair) → all is_pattern ps ≡ true → Body s fs → Body (mx_lines ps ++ s) (mx_fields ps ++ fs)
unfolding mx_lines all
mx_body [] s fs h b = b
mx_body (p ∷ ps) s fs h b =
    let k = and_both (is_pattern p) (all is_pattern ps) h in
    rw (append_assoc (field_line (text "mx") p) (mx_lines ps) s) (line_body (text "mx") p (mx_lines ps ++ s) (mx_fields ps ++ fs) (name_is 2 (omega arith)) (pattern_value p k.0) (mx_body ps s fs k.1 b))

-- they are the values of name `mx`, and have no other name
mx_values : (ps : List (List ℕ)) (fs : List Pair) → values (text "mx") (mx_fields ps ++ fs) ≡ ps ++ values (text "mx") fs
unfolding values agree same_byte
mx_values [] fs = refl
mx_values (p ∷ ps) fs = rw (mx_values ps fs)

mx_first : (ps : List (List ℕ)) (fs : List Pair) → first_value (text "max_age") (mx_fields ps ++ fs) ≡ first_value (text "max_age") fs
unfolding first_value agree same_byte
mx_first [] fs = refl
mx_first (p ∷ ps) fs = mx_first ps fs

-- the text once more, line by line: one space after the colon, LF after every line
abbrev ended : List ℕ → List ℕ
ended l = l ++ text "\n"

mx_spelled : (ps : List (List ℕ)) → mx_lines ps ≡ flatten (map (λ (p : List ℕ). ended (text "mx: " ++ p)) ps)
unfolding mx_lines field_line flatten
mx_spelled [] = refl
mx_spelled (p ∷ ps) = rw (mx_spelled ps)

pub policy_spelled : (m : Mode) (n : ℕ) (ps : List (List ℕ)) → policy_text m n ps ≡ ended (text "version: STSv1") ++ (ended (text "mode: " ++ mode_text m) ++ (flatten (map (λ (p : List ℕ). ended (text "mx: " ++ p)) ps) ++ ended (text "max_age: " ++ decimal n)))
unfolding policy_text field_line
policy_spelled m n ps = rw (mx_spelled ps)

-- how long a line is, and how long the lines are together
pub line_length : (n v : List ℕ) → length (field_line n v) ≡ length n + length v + 3
unfolding field_line
line_length n v = omega (arith, length-append n (58 ∷ 32 ∷ (v ++ (LF ∷ []))), length-append v (LF ∷ []))

pub mx_most : (ps : List (List ℕ)) → all is_pattern ps ≡ true → length (mx_lines ps) ≤ length ps * 260
unfolding mx_lines all
mx_most [] h = omega arith
mx_most (p ∷ ps) h =
    let k = and_both (is_pattern p) (all is_pattern ps) h in
    omega (arith, length-append (field_line (text "mx") p) (mx_lines ps), line_length (text "mx") p, pattern_short p k.0, mx_most ps k.1)

pub mode_most : (m : Mode) → length (mode_text m) ≤ 7
unfolding mode_text
mode_most M.Enforce = omega arith
mode_most M.Testing = omega arith
mode_most M.None = omega arith

-- a right count of patterns is at most 16, and enough
pub count_few : (m : Mode) (n : ℕ) → count_fits m n ≡ true → n ≤ 16
unfolding count_fits
count_few M.Enforce n h = (within_true 1 16 n h).1
count_few M.Testing n h = (within_true 1 16 n h).1
count_few M.None n h = leb-true n 16 h

count_enough : (m : Mode) (ps : List (List ℕ)) → count_fits m (length ps) ≡ true → has_patterns m ps ≡ true
unfolding count_fits has_patterns
count_enough M.Enforce ps h = lt-ltb 0 (length ps) (within_true 1 16 (length ps) h).0
count_enough M.Testing ps h = lt-ltb 0 (length ps) (within_true 1 16 (length ps) h).0
count_enough M.None ps h = refl

-- and the other way round
count_fits_lem : (m : Mode) (ps : List (List ℕ)) → has_patterns m ps ≡ true → length ps ≤ 16 → count_fits m (length ps) ≡ true
unfolding count_fits has_patterns
count_fits_lem M.Enforce ps h k = rw (le-leb 1 (length ps) (ltb-true 0 (length ps) h), le-leb (length ps) 16 k)
count_fits_lem M.Testing ps h k = rw (le-leb 1 (length ps) (ltb-true 0 (length ps) h), le-leb (length ps) 16 k)
count_fits_lem M.None ps h k = le-leb (length ps) 16 k

-- a policy that may be written
module _ (m : Mode) (n : ℕ) (ps : List (List ℕ)) (short : n ≤ longest) (counted : count_fits m (length ps) ≡ true) (named : all is_pattern ps ≡ true) where
  -- has these fields, in this order
  pub policy_fields : Body (policy_text m n ps) (fields_of m n ps)
  unfolding policy_text
  policy_fields =
      let age : List Pair = field (text "max_age") (decimal n) ∷ [] in
      let z : Body (field_line (text "max_age") (decimal n)) age = rw (append-nil (field_line (text "max_age") (decimal n))) at (line_body (text "max_age") (decimal n) [] [] (name_is 3 (omega arith)) (decimal_value n) nothing) in
      line_body (text "version") (text "STSv1") (field_line (text "mode") (mode_text m) ++ (mx_lines ps ++ field_line (text "max_age") (decimal n))) (field (text "mode") (mode_text m) ∷ (mx_fields ps ++ age)) (name_is 0 (omega arith)) version_value
      (line_body (text "mode") (mode_text m) (mx_lines ps ++ field_line (text "max_age") (decimal n)) (mx_fields ps ++ age) (name_is 1 (omega arith)) (mode_value m)
      (mx_body ps (field_line (text "max_age") (decimal n)) age named z))

  -- and at most 4,207 bytes
  pub policy_most : length (policy_text m n ps) ≤ 4207
  unfolding policy_text
  policy_most =
      let v : List ℕ = field_line (text "version") (text "STSv1") in
      let w : List ℕ = field_line (text "mode") (mode_text m) in
      let z : List ℕ = field_line (text "max_age") (decimal n) in
      omega (arith, length-append v (w ++ (mx_lines ps ++ z)), length-append w (mx_lines ps ++ z), length-append (mx_lines ps) z, line_length (text "version") (text "STSv1"), line_length (text "mode") (mode_text m), line_length (text "max_age") (decimal n), mode_most m, age_most n short, mx_most ps named, count_few m (length ps) counted)

  -- the policy that is meant
  meant : Policy
  meant = record { mode = m; lifetime = record { 0 = n }; patterns = ps }

  makes : Makes (fields_of m n ps) meant
  unfolding meant first_value values agree same_byte
  makes = record {
    version = refl;
    mode = refl;
    age = decimal n;
    max_age = mx_first ps (field (text "max_age") (decimal n) ∷ []);
    digits = age_digits n short;
    lifetime = rw (decimal_reads n, capped_short n short);
    mx = sym (mx_values ps (field (text "max_age") (decimal n) ∷ []) ∙ append-nil ps);
    names = named;
    enough = count_enough m ps counted;
  }

  -- what we write, our reader accepts, and reads back to the same mode, lifetime and patterns
  pub policy_back : read_body (policy_text m n ps) ≡ policy (record { mode = m; lifetime = record { 0 = n }; patterns = ps })
  unfolding meant
  policy_back = accepts (policy_text m n ps) meant (record { fields = fields_of m n ps; body = policy_fields; makes = makes; fits = omega (arith, policy_most) })

-- a policy that a body was read as may be written, where it has no more than 16 patterns
module _ (s : List ℕ) (p : Policy) (read : read_body s ≡ policy p) (few : length p.patterns ≤ 16) where
  wrote : Makes (accepted s p read).fields p
  wrote = (accepted s p read).makes

  short_life : p.lifetime.0 ≤ longest
  short_life = rw wrote.lifetime (capped_most (decimal_after 0 wrote.age))

  may : count_fits p.mode (length p.patterns) ≡ true
  may = count_fits_lem p.mode p.patterns wrote.enough few

  -- and keeps mode, lifetime and patterns in order
  pub policy_kept : read_body (policy_text p.mode p.lifetime.0 p.patterns) ≡ policy p
  policy_kept = policy_back p.mode p.lifetime.0 p.patterns short_life may wrote.names

  pub kept_fields : Body (policy_text p.mode p.lifetime.0 p.patterns) (fields_of p.mode p.lifetime.0 p.patterns)
  kept_fields = policy_fields p.mode p.lifetime.0 p.patterns short_life may wrote.names

  pub kept_most : length (policy_text p.mode p.lifetime.0 p.patterns) ≤ 4207
  kept_most = policy_most p.mode p.lifetime.0 p.patterns short_life may wrote.names
