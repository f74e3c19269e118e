-- Two lists compared element by element with a test p: the laws, and the turn of a loop with its ends. Assumes nothing.
use Prim.Native.Nat.{ℕ, suc, ◌+◌, ◌<◌, ◌≤◌}
use mathlib.Core.Path.{◌≡◌, refl, sym, ap, ◌∙◌}
use mathlib.Core.Bool.{Bool, true, false, cond, and-false}
use mathlib.Core.List.{List, [], ◌∷◌}
use native.Mathlib.Omega.{arith}
use lib.Dec.{eqb}
use lib.ListN.{length, get_or, drop, drop_of_length-le}
use borrow.Author.Rules.{rules}
use borrow.Author.Tests.{not-true, not-false, eq-eqb, ne_eqb, eqb-true}
use Rattle.lists.specs.Bytes.{within, lower_of}
use Rattle.lists.specs.Equal.{agree, same_byte, same_letter, same_bytes, same_text}
use Rattle.lists.proofs.Bools.{apart, never, and_left, and_right}
use Rattle.lists.proofs.Laws.{drop_next, within_true}

agree_apart : (p : ℕ → ℕ → Bool) (a b : List ℕ) → (length a ≡ length b → ⊥) → agree p a b ≡ false
unfolding agree
agree_apart p [] [] h = absurd (h refl)
agree_apart p [] (y ∷ b) h = refl
agree_apart p (x ∷ a) [] h = refl
agree_apart p (x ∷ a) (y ∷ b) h = rw (agree_apart p a b (λ e. h (omega arith))) (and-false (p x y))

-- lists of different lengths do not agree
pub agree_length : (p : ℕ → ℕ → Bool) (a b : List ℕ) → (length a ≡ length b → ⊥) → false ≡ agree p a b
agree_length p a b h = sym (agree_apart p a b h)

-- a turn of the loop from a place on, and its ends: r is what the code's call of p gave
module _ (p : ℕ → ℕ → Bool) (a b : List ℕ) (from i : ℕ) (inv : agree p (drop from a) (drop from b) ≡ agree p (drop i a) (drop i b)) (l : length a ≡ length b) where
  module _ (h : i < length a) (r : Bool) (gave : r ≡ p (get_or a i 0) (get_or b i 0)) where
    pub agree_next_from : r ≡ true → agree p (drop from a) (drop from b) ≡ agree p (drop (i + 1) a) (drop (i + 1) b)
    unfolding agree
    agree_next_from t =
        let k : i < length b = omega arith in
        cc (drop_next a i h, drop_next b i k)

    pub agree_differ_from : r ≡ false → false ≡ agree p (drop from a) (drop from b)
    unfolding agree
    agree_differ_from t =
        let k : i < length b = omega arith in
        cc (drop_next a i h, drop_next b i k)

  pub agree_end_from : length a ≤ i → true ≡ agree p (drop from a) (drop from b)
  unfolding agree
  agree_end_from h =
      let k : length b ≤ i = omega arith in
      cc (drop_of_length-le a h, drop_of_length-le b k)

-- a function whose loop compares two slices: `search agree_laws` at each need
pub ruleset agree_laws = (agree_length, agree_next_from, agree_differ_from, agree_end_from, not-true, not-false, rules)

-- what is the same byte is the same letter
pub letter_same : (x y : ℕ) → x ≡ y → true ≡ same_letter x y
unfolding same_letter
letter_same x y e = sym (eq-eqb (lower_of x) (lower_of y) cc)

-- either way round
letter_swap : (x y : ℕ) → same_letter x y ≡ same_letter y x
unfolding same_letter
letter_swap x y = go (eqb (lower_of x) (lower_of y)) refl
  where
    go : (t : Bool) → eqb (lower_of x) (lower_of y) ≡ t → t ≡ eqb (lower_of y) (lower_of x)
    go true e = sym (eq-eqb (lower_of y) (lower_of x) (sym (eqb-true (lower_of x) (lower_of y) e)))
    go false e = sym (ne_eqb (lower_of y) (lower_of x) (λ k. apart (sym e ∙ eq-eqb (lower_of x) (lower_of y) (sym k))))

-- `is_capital_of`: c is below y; r is what `is_within` gave
module _ (c y : ℕ) (h : c < y) (r : Bool) (gave : r ≡ within 65 90 c) where
  pub capital_not : r ≡ false → false ≡ same_letter c y
  unfolding same_letter lower_of
  capital_not f = sym (rw (sym gave ∙ f) (go (within 65 90 y)))
    where
      go : (t : Bool) → eqb c (cond t (y + 32) y) ≡ false
      go true = ne_eqb c (y + 32) (λ e. omega (arith, h))
      go false = ne_eqb c y (λ e. omega (arith, h))

  pub capital_is : r ≡ true → eqb (c + 32) y ≡ same_letter c y
  unfolding same_letter lower_of
  capital_is t = rw (sym gave ∙ t) (go (within 65 90 y) refl)
    where
      go : (u : Bool) → within 65 90 y ≡ u → eqb (c + 32) y ≡ eqb (c + 32) (cond u (y + 32) y)
      go true e =
          let z : y ≤ 90 = (within_true 65 90 y e).1 in
          let a : 65 ≤ c = (within_true 65 90 c (sym gave ∙ t)).0 in
          ne_eqb (c + 32) y (λ k. omega (arith, z, a)) ∙ sym (ne_eqb (c + 32) (y + 32) (λ k. omega (arith, h)))
      go false e = refl

  pub capital_fits : r ≡ true → c + 32 < 256
  capital_fits t = let w = within_true 65 90 c (sym gave ∙ t) in omega (arith, w.1)

-- `is_same_letter`: r is what `is_capital_of` gave for the lower byte
pub letter_above : (x y : ℕ) (r : Bool) → r ≡ same_letter y x → r ≡ same_letter x y
letter_above x y r g = g ∙ letter_swap y x

pub letter_far : (x y : ℕ) → (x ≡ y → ⊥) → y ≤ x → y < x
letter_far x y d h = omega (arith, d)

pub ruleset letter_laws = (letter_same, capital_not, capital_is, capital_fits, letter_above, letter_far, not-true, not-false, rules)

-- what agrees by a test that each element passes with itself: the list with itself
pub agree_self : (p : ℕ → ℕ → Bool) → ((x : ℕ) → p x x ≡ true) → (a : List ℕ) → agree p a a ≡ true
unfolding agree
agree_self p self [] = refl
agree_self p self (x ∷ a) = rw (self x, agree_self p self a)

-- the same bytes are the same list, and a list has its own bytes
pub same_bytes_lem : (a b : List ℕ) → same_bytes a b ≡ true → a ≡ b
unfolding agree same_byte
same_bytes_lem [] [] h = refl
same_bytes_lem [] (y ∷ b) h = never cc
same_bytes_lem (x ∷ a) [] h = never cc
same_bytes_lem (x ∷ a) (y ∷ b) h = cc (eqb-true x y (and_left (eqb x y) (same_bytes a b) h), same_bytes_lem a b (and_right (eqb x y) (same_bytes a b) h))

pub bytes_self : (a : List ℕ) → same_bytes a a ≡ true
unfolding same_byte
bytes_self a = agree_self same_byte (λ x. eq-eqb x x refl) a

-- a text is the same as itself
pub text_self : (a : List ℕ) → same_text a a ≡ true
unfolding same_letter
text_self a = agree_self same_letter (λ x. eq-eqb (lower_of x) (lower_of x) refl) a

-- the same text has as many bytes
pub agree_lengths : (p : ℕ → ℕ → Bool) (a b : List ℕ) → agree p a b ≡ true → length a ≡ length b
unfolding agree
agree_lengths p [] [] h = refl
agree_lengths p [] (y ∷ b) h = never cc
agree_lengths p (x ∷ a) [] h = never cc
agree_lengths p (x ∷ a) (y ∷ b) h = ap suc (agree_lengths p a b (and_right (p x y) (agree p a b) h))

-- two texts that are the same as each other are the same as the same texts
pub text_like : (h d e : List ℕ) → same_text d e ≡ true → same_text h d ≡ same_text h e
unfolding agree same_letter
text_like [] [] [] s = refl
text_like [] [] (y ∷ e) s = apart s
text_like [] (x ∷ d) [] s = apart s
text_like [] (x ∷ d) (y ∷ e) s = refl
text_like (w ∷ h) [] [] s = refl
text_like (w ∷ h) [] (y ∷ e) s = apart s
text_like (w ∷ h) (x ∷ d) [] s = apart s
text_like (w ∷ h) (x ∷ d) (y ∷ e) s =
    let l : lower_of x ≡ lower_of y = eqb-true (lower_of x) (lower_of y) (and_left (eqb (lower_of x) (lower_of y)) (agree same_letter d e) s) in
    rw (l, text_like h d e (and_right (eqb (lower_of x) (lower_of y)) (agree same_letter d e) s))

pub text_alike : (h d e : List ℕ) → same_text h d ≡ true → same_text h e ≡ same_text d e
unfolding agree same_letter
text_alike [] [] e s = refl
text_alike [] (x ∷ d) e s = apart s
text_alike (w ∷ h) [] e s = apart s
text_alike (w ∷ h) (x ∷ d) [] s = refl
text_alike (w ∷ h) (x ∷ d) (y ∷ e) s =
    let l : lower_of w ≡ lower_of x = eqb-true (lower_of w) (lower_of x) (and_left (eqb (lower_of w) (lower_of x)) (agree same_letter h d) s) in
    rw (l, text_alike h d e (and_right (eqb (lower_of w) (lower_of x)) (agree same_letter h d) s))
