-- Texts in UTF-8: the returns of the functions of `utf8`, and that printable bytes are a text. Assumes nothing.
use Prim.Native.Nat.{ℕ, suc, ◌+◌, ◌-◌, ◌<◌, ◌≤◌}
use mathlib.Core.Path.{◌≡◌, refl, ◌∙◌}
use mathlib.Core.Bool.{Bool, true, false, cond, ◌&&◌, ◌||◌, and-false, and-true, or-false, or_self}
use mathlib.Core.List.{List, [], ◌∷◌}
use mathlib.Core.Logic.{⊎_elim}
use native.Mathlib.Omega.{arith}
use lib.ListN.{length, get_or, take, drop, length-drop}
use borrow.Author.Rules.{rules}
use borrow.Author.Tests.{lt-leb, le-leb, ne_eqb}
use Rattle.lists.specs.Bytes.{within, all}
use Rattle.lists.specs.Span.{span_of}
use Rattle.lists.proofs.Span.{span_le}
use Rattle.lists.proofs.Laws.{take_rest, tests, above_or_below}
use Rattle.lists.proofs.Bools.{never}
use Rattle.policies.specs.Texts.{utf8_tail, utf8_two, utf8_three, utf8_four, printable, is_text}
use Rattle.policies.specs.Reader.{stripped_value}

-- two ranges of a lead byte with the same tails
ranges : (p q m n : Bool) → ((((false || (p && m && n)) || false)) || (q && m && n)) ≡ ((p || q) && m && n)
ranges true true m n = rw (or-false (m && n)) (or_self (m && n))
ranges true false m n = rw (or-false (m && n)) (or-false (m && n))
ranges false true m n = refl
ranges false false m n = refl

-- a lead byte that is not ED
wide_three : (a : ℕ) → (a ≡ 237 → ⊥) → (within 225 236 a || within 238 239 a) ≡ within 225 239 a
wide_three a n =
    ⊎_elim
    (λ (h : 237 < a). simp (lt-leb a 236 (omega arith), le-leb 238 a (omega arith), le-leb 225 a (omega arith)))
    (λ (h : a < 237). simp (le-leb a 236 (omega arith), le-leb a 239 (omega arith), lt-leb 238 a (omega arith), or-false))
    (above_or_below a 237 n)

-- `is_three` and `is_four`: what each lead byte asks, where the tails are there
module _ (a b c : ℕ) where
  pub three_tail : utf8_tail c ≡ false → utf8_three a b c ≡ false
  unfolding utf8_three
  three_tail k = simp (k, and-false)

  module _ (k : utf8_tail c ≡ true) where
    pub three_low : a ≡ 224 → utf8_three a b c ≡ within 160 191 b
    unfolding utf8_three
    three_low e = simp (e, k, or-false, and-true)

    pub three_surrogate : a ≡ 237 → utf8_three a b c ≡ within 128 159 b
    unfolding utf8_three
    three_surrogate e = simp (e, k, or-false, and-true)

    module _ (n : a ≡ 224 → ⊥) (m : a ≡ 237 → ⊥) where
      pub three_wide : utf8_three a b c ≡ (within 225 239 a && utf8_tail b)
      unfolding utf8_three
      three_wide =
          rw (ne_eqb a 224 n, ne_eqb a 237 m)
          (ranges (within 225 236 a) (within 238 239 a) (utf8_tail b) (utf8_tail c) ∙ rw (wide_three a m, k) (and-true (within 225 239 a && utf8_tail b)))

pub ruleset three_laws = (three_tail, three_low, three_surrogate, three_wide, tests)

module _ (a b c d : ℕ) where
  pub four_third : utf8_tail c ≡ false → utf8_four a b c d ≡ false
  unfolding utf8_four
  four_third k = simp (k, and-false)

  pub four_last : utf8_tail d ≡ false → utf8_four a b c d ≡ false
  unfolding utf8_four
  four_last k = simp (k, and-false)

  module _ (k : utf8_tail c ≡ true) (l : utf8_tail d ≡ true) where
    pub four_low : a ≡ 240 → utf8_four a b c d ≡ within 144 191 b
    unfolding utf8_four
    four_low e = simp (e, k, l, or-false, and-true)

    pub four_high : a ≡ 244 → utf8_four a b c d ≡ within 128 143 b
    unfolding utf8_four
    four_high e = simp (e, k, l, or-false, and-true)

    module _ (n : a ≡ 240 → ⊥) (m : a ≡ 244 → ⊥) where
      pub four_wide : utf8_four a b c d ≡ (within 241 243 a && utf8_tail b)
      unfolding utf8_four
      four_wide = rw (ne_eqb a 240 n, ne_eqb a 244 m, k, l) (simp (or-false, and-true))

pub ruleset four_laws = (four_third, four_last, four_low, four_high, four_wide, tests)

-- a text that begins with a character: what follows is a text exactly where it is
pub text_plain : (x : ℕ) (t : List ℕ) → printable x ≡ true → is_text (x ∷ t) ≡ is_text t
unfolding is_text
text_plain x [] p = p
text_plain x (b ∷ []) p = rw p
text_plain x (b ∷ c ∷ []) p = rw p
text_plain x (b ∷ c ∷ d ∷ s) p = rw p

-- printable bytes at the front
pub text_run : (s : List ℕ) → is_text s ≡ is_text (drop (span_of printable s) s)
unfolding span_of
text_run [] = refl
text_run (x ∷ s) = go (text_run s) (printable x) refl
  where
    go : is_text s ≡ is_text (drop (span_of printable s) s) → (b : Bool) → printable x ≡ b → is_text (x ∷ s) ≡ is_text (drop (cond b (suc (span_of printable s)) 0) (x ∷ s))
    go ih true p = text_plain x s p ∙ ih
    go ih false p = refl

-- `after_printable`: e is where `past` ended
module _ (s : List ℕ) (e : ℕ) (ends : e ≡ 0 + span_of printable (drop 0 s)) where
  pub run_within : e ≤ length s
  run_within = omega (arith, span_le printable s)

  pub run_text : is_text s ≡ is_text (take (length s - e) (drop e s))
  run_text = let z : e ≡ span_of printable s = omega arith in rw (take_rest s e, z) (text_run s)

  pub run_fewer : length (take (length s - e) (drop e s)) ≤ length s
  run_fewer = rw (take_rest s e) (omega (arith, length-drop e s))

pub ruleset run_laws = (run_within, run_text, run_fewer, rules)

pub text_two : (a b : ℕ) (t : List ℕ) → printable a ≡ false → utf8_two a b ≡ true → is_text (a ∷ b ∷ t) ≡ is_text t
unfolding is_text
text_two a b [] p q = rw (p, q)
text_two a b (c ∷ []) p q = rw (p, q)
text_two a b (c ∷ d ∷ t) p q = rw (p, q)

pub text_three : (a b c : ℕ) (t : List ℕ) → printable a ≡ false → utf8_two a b ≡ false → utf8_three a b c ≡ true → is_text (a ∷ b ∷ c ∷ t) ≡ is_text t
unfolding is_text
text_three a b c [] p q r = rw (p, q, r)
text_three a b c (d ∷ t) p q r = rw (p, q, r)

pub text_four : (a b c d : ℕ) (t : List ℕ) → printable a ≡ false → utf8_two a b ≡ false → utf8_three a b c ≡ false → utf8_four a b c d ≡ true → is_text (a ∷ b ∷ c ∷ d ∷ t) ≡ is_text t
unfolding is_text
text_four a b c d t p q r s = rw (p, q, r, s)

-- where none stands there it is no text
pub text_none : (s : List ℕ) → 1 ≤ length s → printable (get_or s 0 0) ≡ false → (2 ≤ length s → utf8_two (get_or s 0 0) (get_or s 1 0) ≡ false) → (3 ≤ length s → utf8_three (get_or s 0 0) (get_or s 1 0) (get_or s 2 0) ≡ false) → (4 ≤ length s → utf8_four (get_or s 0 0) (get_or s 1 0) (get_or s 2 0) (get_or s 3 0) ≡ false) → is_text s ≡ false
unfolding is_text
text_none [] l p q r t = absurd (omega arith)
text_none (a ∷ []) l p q r t = p
text_none (a ∷ b ∷ []) l p q r t = rw (p, q (omega arith)) refl
text_none (a ∷ b ∷ c ∷ []) l p q r t = rw (p, q (omega arith), r (omega arith)) refl
text_none (a ∷ b ∷ c ∷ d ∷ s) l p q r t = rw (p, q (omega arith), r (omega arith), t (omega arith)) refl

-- the same of the front of s, and of what a slice pattern leaves of it
module _ (s : List ℕ) where
  left : (k : ℕ) → k ≤ length s → 1 ≤ k → length (take (length s - k) (drop k s)) < length s
  left k h l = rw (take_rest s k) (omega (arith, length-drop k s))

  pub plain_front : 1 ≤ length s → printable (get_or s 0 0) ≡ true → (is_text s ≡ is_text (take (length s - 1) (drop 1 s))) × (length (take (length s - 1) (drop 1 s)) < length s)
  plain_front l p = (rw (take_rest s 1) (go s l p), left 1 l (omega arith))
    where
      go : (s : List ℕ) → 1 ≤ length s → printable (get_or s 0 0) ≡ true → is_text s ≡ is_text (drop 1 s)
      go [] l p = absurd (omega arith)
      go (a ∷ s) l p = text_plain a s p

  module _ (p : printable (get_or s 0 0) ≡ false) where
    pub two_front : 2 ≤ length s → utf8_two (get_or s 0 0) (get_or s 1 0) ≡ true → (is_text s ≡ is_text (take (length s - 2) (drop 2 s))) × (length (take (length s - 2) (drop 2 s)) < length s)
    two_front l q = (rw (take_rest s 2) (go s l p q), left 2 l (omega arith))
      where
        go : (s : List ℕ) → 2 ≤ length s → printable (get_or s 0 0) ≡ false → utf8_two (get_or s 0 0) (get_or s 1 0) ≡ true → is_text s ≡ is_text (drop 2 s)
        go [] l p q = absurd (omega arith)
        go (a ∷ []) l p q = absurd (omega arith)
        go (a ∷ b ∷ s) l p q = text_two a b s p q

    pub three_front : 3 ≤ length s → utf8_two (get_or s 0 0) (get_or s 1 0) ≡ false → utf8_three (get_or s 0 0) (get_or s 1 0) (get_or s 2 0) ≡ true → (is_text s ≡ is_text (take (length s - 3) (drop 3 s))) × (length (take (length s - 3) (drop 3 s)) < length s)
    three_front l q r = (rw (take_rest s 3) (go s l p q r), left 3 l (omega arith))
      where
        go : (s : List ℕ) → 3 ≤ length s → printable (get_or s 0 0) ≡ false → utf8_two (get_or s 0 0) (get_or s 1 0) ≡ false → utf8_three (get_or s 0 0) (get_or s 1 0) (get_or s 2 0) ≡ true → is_text s ≡ is_text (drop 3 s)
        go [] l p q r = absurd (omega arith)
        go (a ∷ []) l p q r = absurd (omega arith)
        go (a ∷ b ∷ []) l p q r = absurd (omega arith)
        go (a ∷ b ∷ c ∷ s) l p q r = text_three a b c s p q r

    pub four_front : 4 ≤ length s → utf8_two (get_or s 0 0) (get_or s 1 0) ≡ false → utf8_three (get_or s 0 0) (get_or s 1 0) (get_or s 2 0) ≡ false → utf8_four (get_or s 0 0) (get_or s 1 0) (get_or s 2 0) (get_or s 3 0) ≡ true → (is_text s ≡ is_text (take (length s - 4) (drop 4 s))) × (length (take (length s - 4) (drop 4 s)) < length s)
    four_front l q r t = (rw (take_rest s 4) (go s l p q r t), left 4 l (omega arith))
      where
        go : (s : List ℕ) → 4 ≤ length s → printable (get_or s 0 0) ≡ false → utf8_two (get_or s 0 0) (get_or s 1 0) ≡ false → utf8_three (get_or s 0 0) (get_or s 1 0) (get_or s 2 0) ≡ false → utf8_four (get_or s 0 0) (get_or s 1 0) (get_or s 2 0) (get_or s 3 0) ≡ true → is_text s ≡ is_text (drop 4 s)
        go [] l p q r t = absurd (omega arith)
        go (a ∷ []) l p q r t = absurd (omega arith)
        go (a ∷ b ∷ []) l p q r t = absurd (omega arith)
        go (a ∷ b ∷ c ∷ []) l p q r t = absurd (omega arith)
        go (a ∷ b ∷ c ∷ d ∷ s) l p q r t = text_four a b c d s p q r t

pub ruleset character_laws = (plain_front, two_front, three_front, four_front, text_none)

pub text_end : (s : List ℕ) → length s ≤ 0 → is_text s ≡ true
unfolding is_text
text_end [] h = refl
text_end (a ∷ s) h = absurd (omega arith)

pub value_known : (v : List ℕ) (b : Bool) → (b ≡ true → is_text v ≡ true) → b ≡ true → 1 ≤ length v → true ≡ stripped_value v
unfolding stripped_value
value_known v b f e l = rw (le-leb 1 (length v) l, f e)

pub value_is : (v : List ℕ) (r : Bool) → r ≡ is_text v → 1 ≤ length v → r ≡ stripped_value v
unfolding stripped_value
value_is v r e l = rw (le-leb 1 (length v) l) e

pub value_short : (v : List ℕ) → length v < 1 → false ≡ stripped_value v
unfolding stripped_value
value_short v h = rw (lt-leb 1 (length v) h)

pub ruleset value_laws = (value_short, value_is, value_known, rules)

-- printable bytes are a text
pub printable_text : (u : List ℕ) → all printable u ≡ true → is_text u ≡ true
unfolding all is_text
printable_text [] h = refl
printable_text (x ∷ u) h = go (printable_text u) (printable x) refl h
  where
    go : (all printable u ≡ true → is_text u ≡ true) → (t : Bool) → printable x ≡ t → (t && all printable u) ≡ true → is_text (x ∷ u) ≡ true
    go ih true e k = text_plain x u e ∙ ih k
    go ih false e k = never cc
