-- What `write_policy` and the functions below it return and leave: the checks of its arguments, the body piece by piece, and the call. Assumes nothing.
use Prim.Native.Nat.{ℕ, ◌+◌, ◌<◌, ◌≤◌}
use mathlib.Core.Path.{◌≡◌, refl, sym, ap, ◌∙◌}
use mathlib.Core.Bool.{Bool, true, false, cond, ◌&&◌, and-false}
use mathlib.Core.List.{List, [], ◌∷◌, ◌++◌, append_assoc}
use mathlib.Core.Option.{none, some}
use native.Mathlib.Omega.{arith}
use Rattle.std.specs.Prelude.{Result, Ok, Err, IsErr, IsErrAnd}
use lib.Dec.{eqb, leb}
use lib.ListN.{length, length-append}
use borrow.Author.Rules.{rules}
use borrow.Author.Tests.{not-true, not-false, leb-true, leb-false, le-leb, lt-leb, eqb-true, eqb-false}
use Rattle.lists.specs.Bytes.{within, all}
use Rattle.lists.specs.Check.{Check, refusal_of}
use Rattle.lists.specs.Text.{text}
use Rattle.lists.proofs.Bools.{and_both, and_left, never}
use Rattle.numbers.specs.Numbers.{numbers, at_most}
use Rattle.names.specs.Name.{is_pattern}
use Rattle.numbers.specs.Pieces.{cut, sums_to, up_to}
use Rattle.numbers.proofs.Cut.{cut_count, sizes}
use Rattle.clock.specs.Clock.{longest}
use Rattle.policies.specs.declared.Mode.{Mode}
use Rattle.policies.specs.declared.Mode.TheVariants as M
use Rattle.policies.specs.Lines.{LF}
use Rattle.policies.specs.Paper.{mode_text}
use Rattle.writing.specs.Over.{over}
use Rattle.writing.specs.Answer.{refusal, success, write_answer, write_output}
use Rattle.writing.proofs.WriteReturns.{refused_answer, refused_kept, short_answer, short_kept, done_answer, done_written}
use Rattle.writing.specs.Decimal.{decimal}
use Rattle.writing.proofs.Over.{over_nothing, step_is, step_fits, step_length}
use Rattle.publish.specs.Texts.{field_line, mx_lines, policy_text}
use Rattle.publish.specs.Calls.{mode_from, count_fits, patterns_fit, policy_checks, policy_of}
use Rattle.publish.specs.declared.body.Policy.{Policy}
use Rattle.publish.specs.declared.Refusal.{Refusal}
use Rattle.publish.specs.declared.Refusal.TheVariants as R
use Rattle.publish.specs.Steps.{head_text, age_line, number_of, moded, bytes_of, agrees}
use Rattle.publish.proofs.PolicyBack.{line_length, policy_most}
use Rattle.lists.proofs.All.{all_more}
use Rattle.publish.proofs.Values.{pattern_short}

-- `write_mx`: three pieces, one after another
module _ (v out : List ℕ) (at : ℕ) where
  pub mx_line_end : at + 4 + length v + 1 ≡ at + length (field_line (text "mx") v)
  mx_line_end = omega (arith, line_length (text "mx") v)

  pub mx_line_written : at + (length v + 5) ≤ length out → (x y z : List ℕ) → x ≡ over at (text "mx: ") out → y ≡ over (at + 4) v x → z ≡ over (at + 4 + length v) (LF ∷ []) y → z ≡ over at (field_line (text "mx") v) out
  unfolding field_line
  mx_line_written h x y z p q r =
      let room : at + length (text "mx: " ++ (v ++ (LF ∷ []))) ≤ length out = omega (arith, length-append v (LF ∷ [])) in
      let a : at + 4 + length (v ++ (LF ∷ [])) ≤ length x = step_fits at (at + 4) (text "mx: ") (v ++ (LF ∷ [])) out x p refl room in
      sym (step_is at (at + 4) (text "mx: ") (v ++ (LF ∷ [])) out x p refl room
      ∙ (step_is (at + 4) (at + 4 + length v) v (LF ∷ []) x y q refl a ∙ sym r))

pub ruleset mx_line_laws = (mx_line_end, mx_line_written, rules)

-- `patterns_fit`: w, n, c and v are what its calls gave
pattern_upto : (p : List ℕ) → is_pattern p ≡ true → up_to 255 p ≡ true
unfolding up_to
pattern_upto p h = le-leb (length p) 255 (pattern_short p h).1

module _ (m : Mode) (s l : List ℕ) (w : Bool) (sums : w ≡ (sums_to l (length s) && all (at_most 255) (numbers l))) where
  pub sums_bad : w ≡ false → false ≡ patterns_fit m s l
  unfolding patterns_fit
  sums_bad t = go (sums_to l (length s)) refl (all is_pattern (cut s (numbers l))) refl
    where
      go : (a : Bool) → sums_to l (length s) ≡ a → (b : Bool) → all is_pattern (cut s (numbers l)) ≡ b → false ≡ (a && count_fits m (length (numbers l)) && b)
      go false p b q = refl
      go true p false q = sym (and-false (count_fits m (length (numbers l))))
      go true p true q =
          let k : all (at_most 255) (numbers l) ≡ true = sym (sizes 255 s l true (sym p) refl) ∙ all_more is_pattern (up_to 255) pattern_upto (cut s (numbers l)) q in
          never (cc k)

  module _ (t : w ≡ true) where
    sums_is : sums_to l (length s) ≡ true
    sums_is = and_left (sums_to l (length s)) (all (at_most 255) (numbers l)) (sym sums ∙ t)

    module _ (n : ℕ) (counted : n ≡ length (numbers l)) (c : Bool) (fits : c ≡ count_fits m n) where
      pub count_bad : c ≡ false → false ≡ patterns_fit m s l
      unfolding patterns_fit
      count_bad f = cc sums_is

      pub patterns_are : c ≡ true → (v : Bool) → v ≡ all is_pattern (cut s (numbers l)) → v ≡ patterns_fit m s l
      unfolding patterns_fit
      patterns_are f v e = cc sums_is

pub ruleset fit_laws = (sums_bad, count_bad, patterns_are, not-true, not-false, rules)

-- `head_length`, and the words of `write_head`
head_size : (m : Mode) → length (head_text m) ≡ 22 + length (mode_text m)
unfolding head_text field_line mode_text
head_size M.Enforce = refl
head_size M.Testing = refl
head_size M.None = refl

pub head_end : (m : Mode) (w : List ℕ) → w ≡ mode_text m ++ (LF ∷ []) → 21 + length w ≡ length (head_text m)
head_end m w e = omega (arith, ap length e, length-append (mode_text m) (LF ∷ []), head_size m)

-- `write_head`: what all modes share, and then the mode's word and LF
pub head_written : (m : Mode) (w out x y : List ℕ) → w ≡ mode_text m ++ (LF ∷ []) → length (head_text m) ≤ length out → x ≡ over 0 (text "version: STSv1\nmode: ") out → y ≡ over 21 w x → y ≡ over 0 (head_text m) out
unfolding head_text field_line
head_written m w out x y e h p q =
    let fits : 0 + length (head_text m) ≤ length out = omega arith in
    q ∙ (rw e (sym (step_is 0 21 (text "version: STSv1\nmode: ") (mode_text m ++ (LF ∷ [])) out x p refl fits)))

-- ---- the line of the lifetime
age_size : (n : ℕ) → length (age_line n) ≡ 10 + length (decimal n)
unfolding age_line
age_size n = omega (arith, line_length (text "max_age") (decimal n))

-- `write_age`: size is how many digits `put_decimal` wrote
module _ (n at size : ℕ) (is : size ≡ length (decimal n)) where
  pub age_end : at + 9 + size + 1 ≡ at + length (age_line n)
  age_end = omega (arith, age_size n)

  pub age_written : (out x y z : List ℕ) → at + (10 + length (decimal n)) ≤ length out → x ≡ over at (text "max_age: ") out → y ≡ over (at + 9) (decimal n) x → z ≡ over (at + 9 + size) (LF ∷ []) y → z ≡ over at (age_line n) out
  unfolding age_line field_line
  age_written out x y z h p q r =
      let a : at + length (text "max_age: " ++ (decimal n ++ (LF ∷ []))) ≤ length out = omega (arith, length-append (decimal n) (LF ∷ [])) in
      let b : at + 9 + length (decimal n ++ (LF ∷ [])) ≤ length x = step_fits at (at + 9) (text "max_age: ") (decimal n ++ (LF ∷ [])) out x p refl a in
      sym (step_is at (at + 9) (text "max_age: ") (decimal n ++ (LF ∷ [])) out x p refl a ∙ (step_is (at + 9) (at + 9 + size) (decimal n) (LF ∷ []) x y q (omega arith) b ∙ sym r))

pub ruleset write_age_laws = (age_end, age_written, rules)

-- ---- a loop over patterns: a turn at p, which leaves ps of qs, and the end
lines_next : (p : List ℕ) (ps qs : List (List ℕ)) → qs ≡ p ∷ ps → mx_lines qs ≡ field_line (text "mx") p ++ mx_lines ps
unfolding mx_lines
lines_next p ps qs e = rw e

lines_none : (qs : List (List ℕ)) → qs ≡ [] → mx_lines qs ≡ []
unfolding mx_lines
lines_none qs e = rw e

sizes_next : (p : List ℕ) (ps qs : List (List ℕ)) → qs ≡ p ∷ ps → length (mx_lines qs) ≡ 5 + length p + length (mx_lines ps)
sizes_next p ps qs e = omega (arith, ap length (lines_next p ps qs e), length-append (field_line (text "mx") p) (mx_lines ps), line_length (text "mx") p)

-- `mx_length`: the lines have `all` bytes, n of them are counted
module _ (p : List ℕ) (ps qs : List (List ℕ)) (e : qs ≡ p ∷ ps) (n whole : ℕ) (inv : n + length (mx_lines qs) ≡ whole) where
  pub length_next : n + (5 + length p) + length (mx_lines ps) ≡ whole
  length_next = omega (arith, inv, sizes_next p ps qs e)

pub length_end : (qs : List (List ℕ)) (n whole : ℕ) → qs ≡ [] → n + length (mx_lines qs) ≡ whole → n ≡ whole
length_end qs n whole e inv = omega (arith, inv, ap length (lines_none qs e))

-- `write_patterns`: the lines of `all` are written from `at` on over `out`; x is what the output is, and those of qs are to be written from `to` on
module _ (whole qs : List (List ℕ)) (out x : List ℕ) (at to : ℕ) (places : to + length (mx_lines qs) ≡ at + length (mx_lines whole)) (inv : over at (mx_lines whole) out ≡ over to (mx_lines qs) x) where
  module _ (e : qs ≡ []) where
    pub mx_end : to ≡ at + length (mx_lines whole)
    mx_end = omega (arith, places, ap length (lines_none qs e))

    pub mx_written : x ≡ over at (mx_lines whole) out
    mx_written = sym (inv ∙ rw (lines_none qs e) (over_nothing to x))

  module _ (p : List ℕ) (ps : List (List ℕ)) (e : qs ≡ p ∷ ps) (room : at + length (mx_lines whole) ≤ length out) (same : length x ≡ length out) where
    fits : to + length (field_line (text "mx") p ++ mx_lines ps) ≤ length x
    fits = omega (arith, places, room, same, ap length (lines_next p ps qs e))

    pub mx_room : to + (length p + 5) ≤ length x
    mx_room = omega (arith, fits, length-append (field_line (text "mx") p) (mx_lines ps), line_length (text "mx") p)

    module _ (b : ℕ) (line : b ≡ to + length (field_line (text "mx") p)) where
      pub mx_places : b + length (mx_lines ps) ≡ at + length (mx_lines whole)
      mx_places = omega (arith, places, ap length (lines_next p ps qs e), length-append (field_line (text "mx") p) (mx_lines ps))

      module _ (y : List ℕ) (wrote : y ≡ over to (field_line (text "mx") p) x) where
        pub mx_next : over at (mx_lines whole) out ≡ over b (mx_lines ps) y
        mx_next = inv ∙ (ap (λ (t : List ℕ). over to t x) (lines_next p ps qs e) ∙ step_is to b (field_line (text "mx") p) (mx_lines ps) x y wrote line fits)

        pub mx_same : length y ≡ length out
        mx_same = step_length to b (field_line (text "mx") p) (mx_lines ps) x y wrote line fits ∙ same

-- `write_body` and `write_policy`
-- the body in its parts
parts : (m : Mode) (n : ℕ) (ps : List (List ℕ)) → policy_text m n ps ≡ head_text m ++ (mx_lines ps ++ age_line n)
unfolding policy_text head_text age_line
parts m n ps = sym (append_assoc (field_line (text "version") (text "STSv1")) (field_line (text "mode") (mode_text m)) (mx_lines ps ++ field_line (text "max_age") (decimal n)))

pub size_is : (m : Mode) (n : ℕ) (ps : List (List ℕ)) (w : List ℕ) → w ≡ mode_text m ++ (LF ∷ []) → (k size : ℕ) → k ≡ length (mx_lines ps) → size ≡ length (decimal n) → 21 + length w + k + (10 + size) ≡ length (policy_text m n ps)
size_is m n ps w e k size f g = omega (arith, ap length (parts m n ps), length-append (head_text m) (mx_lines ps ++ age_line n), length-append (mx_lines ps) (age_line n), head_end m w e, f, g, age_size n)

-- a policy of at most 4,207 bytes has lines of no more
pub lines_few : (m : Mode) (n : ℕ) (ps : List (List ℕ)) → length (policy_text m n ps) ≤ 4207 → length (mx_lines ps) ≤ 4207
lines_few m n ps h = omega (arith, h, ap length (parts m n ps), length-append (head_text m) (mx_lines ps ++ age_line n), length-append (mx_lines ps) (age_line n))

pub size_few : (m : Mode) (n : ℕ) (ps : List (List ℕ)) → length (policy_text m n ps) ≤ 4207 → (w : List ℕ) → w ≡ mode_text m ++ (LF ∷ []) → (k size : ℕ) → k ≡ length (mx_lines ps) → size ≡ length (decimal n) → 21 + length w + k + (10 + size) ≤ 4207
size_few m n ps h w e k size f g = omega (arith, h, size_is m n ps w e k size f g)

module _ (m : Mode) (n : ℕ) (ps : List (List ℕ)) (out : List ℕ) (room : length (policy_text m n ps) ≤ length out) where
  whole_fits : 0 + length (head_text m ++ (mx_lines ps ++ age_line n)) ≤ length out
  whole_fits = omega (arith, ap length (parts m n ps))

  pub body_head : length (head_text m) ≤ length out
  body_head = omega (arith, whole_fits, length-append (head_text m) (mx_lines ps ++ age_line n))

  module _ (x : List ℕ) (a : ℕ) (ends : a ≡ length (head_text m)) (wrote : x ≡ over 0 (head_text m) out) where
    pub body_patterns : a + length (mx_lines ps) ≤ length x
    body_patterns = omega (arith, step_fits 0 a (head_text m) (mx_lines ps ++ age_line n) out x wrote (omega arith) whole_fits, length-append (mx_lines ps) (age_line n))

    module _ (y : List ℕ) (e : ℕ) (after : e ≡ a + length (mx_lines ps)) (listed : y ≡ over a (mx_lines ps) x) where
      middle_fits : a + length (mx_lines ps ++ age_line n) ≤ length x
      middle_fits = step_fits 0 a (head_text m) (mx_lines ps ++ age_line n) out x wrote (omega arith) whole_fits

      pub body_age : e + (10 + length (decimal n)) ≤ length y
      body_age = omega (arith, step_fits a e (mx_lines ps) (age_line n) x y listed after middle_fits, age_size n)

      pub body_end : (r : ℕ) → r ≡ e + length (age_line n) → r ≡ length (policy_text m n ps)
      body_end r w = omega (arith, ap length (parts m n ps), length-append (head_text m) (mx_lines ps ++ age_line n), length-append (mx_lines ps) (age_line n))

      pub body_written : (z : List ℕ) → z ≡ over e (age_line n) y → z ≡ over 0 (policy_text m n ps) out
      body_written z w = sym (rw (parts m n ps) (step_is 0 a (head_text m) (mx_lines ps ++ age_line n) out x wrote (omega arith) whole_fits ∙ (step_is a e (mx_lines ps) (age_line n) x y listed after middle_fits ∙ sym w)))

module _ (m : Mode) (s l : List ℕ) (fits : patterns_fit m s l ≡ true) where
  pub fit_parts : (sums_to l (length s) ≡ true) × (count_fits m (length (numbers l)) ≡ true) × (all is_pattern (cut s (numbers l)) ≡ true)
  unfolding patterns_fit
  fit_parts =
      let a = and_both (sums_to l (length s) && count_fits m (length (numbers l))) (all is_pattern (cut s (numbers l))) fits in
      let b = and_both (sums_to l (length s)) (count_fits m (length (numbers l))) a.0 in
      (b.0, b.1, a.1)

pub given_most : (mode n : ℕ) (s l : List ℕ) → patterns_fit (mode_from mode) s l ≡ true → n ≤ longest → length (policy_of mode n s l) ≤ 4207
given_most mode n s l fit short =
    let parts_are = fit_parts (mode_from mode) s l fit in
    policy_most (mode_from mode) n (cut s (numbers l)) short (rw (cut_count s (numbers l)) parts_are.1) parts_are.2

-- ---- `given`: a mode's number
outside : (n : ℕ) → (n ≡ 1 → ⊥) → (n ≡ 2 → ⊥) → (n ≡ 3 → ⊥) → within 1 3 n ≡ false
outside n a b c = go (leb 1 n) refl (leb n 3) refl
  where
    go : (x : Bool) → leb 1 n ≡ x → (y : Bool) → leb n 3 ≡ y → (x && y) ≡ false
    go true p true q = absurd (let l : 1 ≤ n = leb-true 1 n p in let m : n ≤ 3 = leb-true n 3 q in omega (arith, a, b, c, l, m))
    go true p false q = refl
    go false p y q = refl

moded_at : (n : ℕ) (a b c : Bool) → eqb n 1 ≡ a → eqb n 2 ≡ b → eqb n 3 ≡ c → moded n ≡ cond a (Ok M.Enforce) (cond b (Ok M.Testing) (cond c (Ok M.None) (Err R.BadMode)))
unfolding moded
moded_at n a b c p q r = rw (p, q, r)

pub moded_is : (n : ℕ) (m : Mode) → Ok m ≡ moded n → (within 1 3 n ≡ true) × (m ≡ mode_from n)
moded_is n m e = go (eqb n 1) refl (eqb n 2) refl (eqb n 3) refl
  where
    go : (a : Bool) → eqb n 1 ≡ a → (b : Bool) → eqb n 2 ≡ b → (c : Bool) → eqb n 3 ≡ c → (within 1 3 n ≡ true) × (m ≡ mode_from n)
    go true p b q c r = let k : n ≡ 1 = eqb-true n 1 p in let f : Ok m ≡ Ok M.Enforce = e ∙ moded_at n true b c p q r in let g : m ≡ M.Enforce = cc in rw k (refl, g)
    go false p true q c r = let k : n ≡ 2 = eqb-true n 2 q in let f : Ok m ≡ Ok M.Testing = e ∙ moded_at n false true c p q r in let g : m ≡ M.Testing = cc in rw k (refl, g)
    go false p false q true r = let k : n ≡ 3 = eqb-true n 3 r in let f : Ok m ≡ Ok M.None = e ∙ moded_at n false false true p q r in let g : m ≡ M.None = cc in rw k (refl, g)
    go false p false q false r = never (let f : Ok m ≡ Err R.BadMode = e ∙ moded_at n false false false p q r in cc)

pub moded_none : (n : ℕ) (r : Refusal) → Err r ≡ moded n → (within 1 3 n ≡ false) × (r ≡ R.BadMode)
moded_none n r e = go (eqb n 1) refl (eqb n 2) refl (eqb n 3) refl
  where
    go : (a : Bool) → eqb n 1 ≡ a → (b : Bool) → eqb n 2 ≡ b → (c : Bool) → eqb n 3 ≡ c → (within 1 3 n ≡ false) × (r ≡ R.BadMode)
    go true p b q c t = never (let f : Err r ≡ Ok M.Enforce = e ∙ moded_at n true b c p q t in cc)
    go false p true q c t = never (let f : Err r ≡ Ok M.Testing = e ∙ moded_at n false true c p q t in cc)
    go false p false q true t = never (let f : Err r ≡ Ok M.None = e ∙ moded_at n false false true p q t in cc)
    go false p false q false t =
        let f : Err r ≡ Err R.BadMode = e ∙ moded_at n false false false p q t in
        (outside n (eqb-false n 1 p) (eqb-false n 2 q) (eqb-false n 3 t), cc)

-- what `?` hands on is the refusal
pub passed_on : (r : Result Policy Refusal) (e : Refusal) → IsErr r × IsErrAnd r (λ f. f ≡ e) → (checks : List Check) (t : List ℕ) → refusal_of checks ≡ some (number_of e) → agrees r checks t
unfolding agrees
passed_on (Ok a) e h checks t g = absurd h.1
passed_on (Err f) e h checks t g = g ∙ ap (λ (x : Refusal). some (number_of x)) (sym h.1)

module _ (mode n : ℕ) (s l : List ℕ) where
  abbrev checks : List Check
  checks = policy_checks mode n s l

  abbrev body : List ℕ
  body = policy_of mode n s l

  pub given_no_mode : (r : Result Policy Refusal) (e : Refusal) → IsErr r × IsErrAnd r (λ f. f ≡ e) → Err e ≡ moded mode → agrees r checks body
  unfolding policy_checks refusal_of
  given_no_mode r e h g = let k = moded_none mode e g in passed_on r e h checks body (rw (k.0, k.1))

  module _ (m : Mode) (named : Ok m ≡ moded mode) (f : Bool) (fits : f ≡ patterns_fit m s l) where
    is : (within 1 3 mode ≡ true) × (m ≡ mode_from mode)
    is = moded_is mode m named

    fitted : (b : Bool) → f ≡ b → patterns_fit (mode_from mode) s l ≡ b
    fitted b e = rw (sym is.1) (sym fits ∙ e)

    pub given_no_patterns : f ≡ false → agrees (Err R.BadPatterns) checks body
    unfolding agrees policy_checks refusal_of
    given_no_patterns e = rw (is.0, fitted false e)

    module _ (e : f ≡ true) where
      pub given_too_long : longest < n → agrees (Err R.BadLifetime) checks body
      unfolding agrees policy_checks refusal_of
      given_too_long h = rw (is.0, fitted true e, lt-leb n longest h)

      module _ (h : n ≤ longest) where
        pub given_short : length (policy_text m n (cut s (numbers l))) ≤ 4207
        given_short = rw is.1 (given_most mode n s l (fitted true e) h)

        pub given_good : (refusal_of checks ≡ none) × (policy_text m n (cut s (numbers l)) ≡ body)
        unfolding policy_checks refusal_of
        given_good = (rw (is.0, fitted true e, le-leb n longest h), ap (λ (x : Mode). policy_text x n (cut s (numbers l))) is.1)

-- what is said of a result is said of what it is
pub as_it_is : (r q : Result Policy Refusal) → r ≡ q → (checks : List Check) (t : List ℕ) → agrees r checks t → agrees q checks t
as_it_is r q e checks t h = rw e at h

-- ---- `written`: a policy that was refused, an output that is too short, and one with room
module _ (checks : List Check) (t out : List ℕ) where
  pub no_policy : (e : Refusal) → agrees (Err e) checks t → (refusal (number_of e) ≡ write_answer checks t (length out)) × (out ≡ write_output checks t out)
  unfolding agrees
  no_policy e h = (refused_answer checks t out (number_of e) h (refusal (number_of e)) refl, refused_kept checks t out (number_of e) h)

  module _ (p : Policy) (h : agrees (Ok p) checks t) where
    good : (refusal_of checks ≡ none) × (bytes_of p ≡ t)
    unfolding agrees
    good = h

    pub no_room : (b : Bool) → b ≡ leb (length (bytes_of p)) (length out) → b ≡ false → (refusal 83 ≡ write_answer checks t (length out)) × (out ≡ write_output checks t out)
    no_room b e f =
        let l : length out < length t = leb-false (length t) (length out) (ap (λ (x : List ℕ). leb (length x) (length out)) (sym good.1) ∙ (sym e ∙ f)) in
        (short_answer checks t out good.0 l (refusal 83) refl, short_kept checks t out good.0 l)

    pub with_room : (b : Bool) → b ≡ leb (length (bytes_of p)) (length out) → b ≡ true → (size : ℕ) → size ≡ length (bytes_of p) → (y : List ℕ) → y ≡ over 0 (bytes_of p) out → (success size ≡ write_answer checks t (length out)) × (y ≡ write_output checks t out)
    with_room b e f size g y w =
        let l : length t ≤ length out = leb-true (length t) (length out) (ap (λ (x : List ℕ). leb (length x) (length out)) (sym good.1) ∙ (sym e ∙ f)) in
        (done_answer checks t out good.0 l (success size) (ap success (g ∙ ap length good.1)), done_written checks t out good.0 l y (w ∙ ap (λ (x : List ℕ). over 0 x out) good.1))
