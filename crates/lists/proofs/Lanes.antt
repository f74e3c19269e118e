-- Words: numbers of eight bytes. What the code does to a word by `+`, `&`, `|` and `^` is done to each of its bytes apart, as long as no byte overflows. What
-- becomes of one byte, antt computes at all 256 of them. Assumes nothing.
use Prim.Native.Nat.{ℕ, zero, suc, ◌+◌, ◌*◌, ◌^◌, ◌<◌, ◌≤◌}
use mathlib.Core.Path.{◌≡◌, refl, ap₂, ◌∙◌}
use mathlib.Core.Bool.{Bool, true, cond, ◌&&◌}
use mathlib.Core.List.{List, [], ◌∷◌}
use mathlib.Core.Logic.{⊎_elim}
use native.Mathlib.Nat.{eq-or-lt_of_le}
use native.Mathlib.Omega.{arith}
use lib.Bits.{bit_and, bit_or, bit_xor, and_le_r, and_block, or_block, xor_block}
use lib.Dec.{eqb, leb, ltb}
use lib.ListN.{length}
use borrow.Author.Tests.{eqb-true, leb-true, ltb-true}
use Rattle.lists.specs.Bytes.{all, is_bytes}
use Rattle.lists.specs.Words.{number_of, marks}
use Rattle.lists.proofs.Bools.{and_left, and_right}

-- every number below n passes the test
unfoldable pub below : ℕ → (ℕ → Bool) → Bool
below zero f = true
below (suc n) f = f n && below n f

below_at : (f : ℕ → Bool) (n k : ℕ) → below n f ≡ true → k < n → f k ≡ true
unfolding below
below_at f zero k t h = absurd (omega arith)
below_at f (suc n) k t h =
    let m : k ≤ n = omega arith in
    ⊎_elim (λ (e : k ≡ n). rw e (and_left (f n) (below n f) t)) (λ (l : k < n). below_at f n k (and_right (f n) (below n f) t) l) (eq-or-lt_of_le m)

-- what the code computes of a word: the word itself, one byte in all eight places, or an operation on two of these
pub data Expression : Type 0 where
  given : Expression
  byte : ℕ → Expression
  plus : Expression → Expression → Expression
  and : Expression → Expression → Expression
  or : Expression → Expression → Expression
  xor : Expression → Expression → Expression

-- over the word x; 72340172838076673 has a 1 in each byte
abbrev pub on_word : Expression → ℕ → ℕ
on_word given x = x
on_word (byte n) x = n * 72340172838076673
on_word (plus e f) x = on_word e x + on_word f x
on_word (and e f) x = bit_and (on_word e x) (on_word f x)
on_word (or e f) x = bit_or (on_word e x) (on_word f x)
on_word (xor e f) x = bit_xor (on_word e x) (on_word f x)

-- over one byte b, in the same steps
unfoldable pub on_byte : Expression → ℕ → ℕ
on_byte given b = b
on_byte (byte n) b = n
on_byte (plus e f) b = on_byte e b + on_byte f b
on_byte (and e f) b = bit_and (on_byte e b) (on_byte f b)
on_byte (or e f) b = bit_or (on_byte e b) (on_byte f b)
on_byte (xor e f) b = bit_xor (on_byte e b) (on_byte f b)

-- it makes a byte of each byte
unfoldable pub makes_bytes : Expression → Bool
makes_bytes e = below 256 (λ (b : ℕ). ltb (on_byte e b) 256)

-- so does each operation in it: no byte overflows into the next
unfoldable pub keeps_bytes : Expression → Bool
keeps_bytes given = true
keeps_bytes (byte n) = ltb n 256
keeps_bytes (plus e f) = keeps_bytes e && keeps_bytes f && makes_bytes (plus e f)
keeps_bytes (and e f) = keeps_bytes e && keeps_bytes f && makes_bytes (and e f)
keeps_bytes (or e f) = keeps_bytes e && keeps_bytes f && makes_bytes (or e f)
keeps_bytes (xor e f) = keeps_bytes e && keeps_bytes f && makes_bytes (xor e f)

-- the number whose bytes are f of the list's
unfoldable lanes : (ℕ → ℕ) → List ℕ → ℕ
lanes f [] = 0
lanes f (b ∷ s) = f b + 256 * lanes f s

first_below : (b : ℕ) (s : List ℕ) → is_bytes (b ∷ s) ≡ true → b < 256
unfolding all
first_below b s h = let k : b ≤ 255 = leb-true b 255 (and_left (leb b 255) (is_bytes s) h) in omega arith

rest_bytes : (b : ℕ) (s : List ℕ) → is_bytes (b ∷ s) ≡ true → is_bytes s ≡ true
unfolding all
rest_bytes b s h = and_right (leb b 255) (is_bytes s) h

lanes_number : (l : List ℕ) → number_of l ≡ lanes (λ (b : ℕ). b) l
unfolding lanes number_of
lanes_number [] = refl
lanes_number (b ∷ s) = omega (arith, lanes_number s)

-- one byte, eight times
lanes_same : (n : ℕ) (l : List ℕ) → length l ≡ 8 → n * 72340172838076673 ≡ lanes (λ (b : ℕ). n) l
unfolding lanes
lanes_same n [] h = absurd (omega arith)
lanes_same n (a ∷ []) h = absurd (omega arith)
lanes_same n (a ∷ b ∷ []) h = absurd (omega arith)
lanes_same n (a ∷ b ∷ c ∷ []) h = absurd (omega arith)
lanes_same n (a ∷ b ∷ c ∷ d ∷ []) h = absurd (omega arith)
lanes_same n (a ∷ b ∷ c ∷ d ∷ e ∷ []) h = absurd (omega arith)
lanes_same n (a ∷ b ∷ c ∷ d ∷ e ∷ f ∷ []) h = absurd (omega arith)
lanes_same n (a ∷ b ∷ c ∷ d ∷ e ∷ f ∷ g ∷ []) h = absurd (omega arith)
lanes_same n (a ∷ b ∷ c ∷ d ∷ e ∷ f ∷ g ∷ k ∷ []) h = omega arith
lanes_same n (a ∷ b ∷ c ∷ d ∷ e ∷ f ∷ g ∷ k ∷ m ∷ l) h = absurd (omega arith)

lanes_plus : (f g : ℕ → ℕ) (l : List ℕ) → lanes f l + lanes g l ≡ lanes (λ (b : ℕ). f b + g b) l
unfolding lanes
lanes_plus f g [] = refl
lanes_plus f g (b ∷ s) = omega (arith, lanes_plus f g s)

-- an operation on bits, which works on blocks of bits apart
module _ (op : ℕ → ℕ → ℕ) (none : op 0 0 ≡ 0) (block : (k a b r s : ℕ) → r < 2 ^ k → s < 2 ^ k → op (a * 2 ^ k + r) (b * 2 ^ k + s) ≡ op a b * 2 ^ k + op r s) where
  lanes_bits : (f g : ℕ → ℕ) → ((b : ℕ) → b < 256 → f b < 256) → ((b : ℕ) → b < 256 → g b < 256) → (l : List ℕ) → is_bytes l ≡ true → op (lanes f l) (lanes g l) ≡ lanes (λ (b : ℕ). op (f b) (g b)) l
  unfolding lanes
  lanes_bits f g hf hg [] h = none
  lanes_bits f g hf hg (b ∷ s) h =
      let k : b < 256 = first_below b s h in
      let x : f b + 256 * lanes f s ≡ lanes f s * 256 + f b = omega arith in
      let y : g b + 256 * lanes g s ≡ lanes g s * 256 + g b = omega arith in
      let z : op (lanes f s * 256 + f b) (lanes g s * 256 + g b) ≡ op (lanes f s) (lanes g s) * 256 + op (f b) (g b) = block 8 (lanes f s) (lanes g s) (f b) (g b) (hf b k) (hg b k) in
      let i : op (lanes f s) (lanes g s) ≡ lanes (λ (b : ℕ). op (f b) (g b)) s = lanes_bits f g hf hg s (rest_bytes b s h) in
      ap₂ op x y ∙ (z ∙ omega arith)

makes_at : (e : Expression) → makes_bytes e ≡ true → (b : ℕ) → b < 256 → on_byte e b < 256
unfolding makes_bytes
makes_at e h b l = ltb-true (on_byte e b) 256 (below_at (λ (x : ℕ). ltb (on_byte e x) 256) 256 b h l)

keeps_at : (e : Expression) → keeps_bytes e ≡ true → (b : ℕ) → b < 256 → on_byte e b < 256
unfolding keeps_bytes on_byte
keeps_at given h b l = l
keeps_at (byte n) h b l = ltb-true n 256 h
keeps_at (plus e f) h b l = makes_at (plus e f) (and_right (keeps_bytes e && keeps_bytes f) (makes_bytes (plus e f)) h) b l
keeps_at (and e f) h b l = makes_at (and e f) (and_right (keeps_bytes e && keeps_bytes f) (makes_bytes (and e f)) h) b l
keeps_at (or e f) h b l = makes_at (or e f) (and_right (keeps_bytes e && keeps_bytes f) (makes_bytes (or e f)) h) b l
keeps_at (xor e f) h b l = makes_at (xor e f) (and_right (keeps_bytes e && keeps_bytes f) (makes_bytes (xor e f)) h) b l

-- the first and the second of three facts
first : (a b c : Bool) → (a && b && c) ≡ true → a ≡ true
first a b c h = and_left a b (and_left (a && b) c h)

second : (a b c : Bool) → (a && b && c) ≡ true → b ≡ true
second a b c h = and_right a b (and_left (a && b) c h)

module _ (l : List ℕ) (bytes : is_bytes l ≡ true) (eight : length l ≡ 8) where
  on_bits : (op : ℕ → ℕ → ℕ) → op 0 0 ≡ 0 → ((k a b r s : ℕ) → r < 2 ^ k → s < 2 ^ k → op (a * 2 ^ k + r) (b * 2 ^ k + s) ≡ op a b * 2 ^ k + op r s) → (e f : Expression) → keeps_bytes e ≡ true → keeps_bytes f ≡ true → on_word e (number_of l) ≡ lanes (on_byte e) l → on_word f (number_of l) ≡ lanes (on_byte f) l → op (on_word e (number_of l)) (on_word f (number_of l)) ≡ lanes (λ (b : ℕ). op (on_byte e b) (on_byte f b)) l
  on_bits op none block e f he hf x y = ap₂ op x y ∙ lanes_bits op none block (on_byte e) (on_byte f) (keeps_at e he) (keeps_at f hf) l bytes

  -- what is done to a word is done to each of its bytes
  on_word_lem : (e : Expression) → keeps_bytes e ≡ true → on_word e (number_of l) ≡ lanes (on_byte e) l
  unfolding keeps_bytes on_byte
  on_word_lem given h = lanes_number l
  on_word_lem (byte n) h = lanes_same n l eight
  on_word_lem (plus e f) h =
      let he = first (keeps_bytes e) (keeps_bytes f) (makes_bytes (plus e f)) h in
      let hf = second (keeps_bytes e) (keeps_bytes f) (makes_bytes (plus e f)) h in
      ap₂ ◌+◌ (on_word_lem e he) (on_word_lem f hf) ∙ lanes_plus (on_byte e) (on_byte f) l
  on_word_lem (and e f) h =
      let he = first (keeps_bytes e) (keeps_bytes f) (makes_bytes (and e f)) h in
      let hf = second (keeps_bytes e) (keeps_bytes f) (makes_bytes (and e f)) h in
      on_bits bit_and refl and_block e f he hf (on_word_lem e he) (on_word_lem f hf)
  on_word_lem (or e f) h =
      let he = first (keeps_bytes e) (keeps_bytes f) (makes_bytes (or e f)) h in
      let hf = second (keeps_bytes e) (keeps_bytes f) (makes_bytes (or e f)) h in
      on_bits bit_or refl or_block e f he hf (on_word_lem e he) (on_word_lem f hf)
  on_word_lem (xor e f) h =
      let he = first (keeps_bytes e) (keeps_bytes f) (makes_bytes (xor e f)) h in
      let hf = second (keeps_bytes e) (keeps_bytes f) (makes_bytes (xor e f)) h in
      on_bits bit_xor refl xor_block e f he hf (on_word_lem e he) (on_word_lem f hf)

lanes_marks : (f : ℕ → ℕ) (p : ℕ → Bool) → below 256 (λ (b : ℕ). eqb (f b) (cond (p b) 0 128)) ≡ true → (l : List ℕ) → is_bytes l ≡ true → lanes f l ≡ marks p l
unfolding lanes marks
lanes_marks f p t [] h = refl
lanes_marks f p t (b ∷ s) h =
    let e : f b ≡ cond (p b) 0 128 = eqb-true (f b) (cond (p b) 0 128) (below_at (λ (x : ℕ). eqb (f x) (cond (p x) 0 128)) 256 b t (first_below b s h)) in
    let i : lanes f s ≡ marks p s = lanes_marks f p t s (rest_bytes b s h) in
    rw (e, i) refl

-- it marks the bytes that do not pass a test, where it makes 128 of each of them and 0 of each other: both are for antt to compute, over all 256 bytes
unfoldable pub is_marking : Expression → (ℕ → Bool) → Bool
is_marking e p = keeps_bytes e && below 256 (λ (b : ℕ). eqb (on_byte e b) (cond (p b) 0 128))

marks_are : (e : Expression) (p : ℕ → Bool) → is_marking e p ≡ true → (l : List ℕ) → is_bytes l ≡ true → length l ≡ 8 → on_word e (number_of l) ≡ marks p l
unfolding is_marking
marks_are e p h l bytes eight =
    let marked = below 256 (λ (b : ℕ). eqb (on_byte e b) (cond (p b) 0 128)) in
    on_word_lem l bytes eight e (and_left (keeps_bytes e) marked h) ∙ lanes_marks (on_byte e) p (and_right (keeps_bytes e) marked h) l bytes

-- what a function that marks has to show: x is the number of eight bytes
abbrev pub Marking : Expression → (ℕ → Bool) → Type 0
Marking e p = (l : List ℕ) (x : ℕ) → length l ≡ 8 → is_bytes l ≡ true → number_of l ≡ x → on_word e x ≡ marks p l

pub marking : (e : Expression) (p : ℕ → Bool) → is_marking e p ≡ true → Marking e p
marking e p h l x eight bytes is = let k : on_word e x ≡ on_word e (number_of l) = rw is refl in k ∙ marks_are e p h l bytes eight

-- a word without the high bit of each byte is small, so that a sum with another such word has room
abbrev pub low : Expression
low = and given (byte 127)

pub low_below : (x : ℕ) → on_word low x < 9223372036854775808
low_below x = omega (arith, and_le_r x 9187201950435737471)
