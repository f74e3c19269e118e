-- Sequences of bytes as RFC 3629 means them: each writes a code point of its own range, so no overlong form, no surrogate and nothing above 10FFFF is a sequence;
-- and every other code point from 80 on has one.
-- Assumes nothing.
use Prim.Native.Nat.{ℕ, ◌+◌, ◌*◌, ◌-◌, ◌/◌, ◌%◌, ◌<◌, ◌≤◌}
use mathlib.Core.Path.{◌≡◌, refl, sym, ◌∙◌}
use mathlib.Core.Bool.{Bool, true, false, cond, ◌&&◌, ◌||◌, and_assoc, or-true}
use mathlib.Core.List.{List, [], ◌∷◌}
use mathlib.Core.Logic.{◌⊎◌, inl, inr, ⊎_elim}
use native.Mathlib.Omega.{arith}
use lib.Dec.{eqb, leb, ltb}
use borrow.Author.Tests.{le-leb, eq-eqb, ltb-true, ltb-false, eqb-true}
use Rattle.lists.specs.Bytes.{within, all}
use Rattle.lists.proofs.Bools.{and_both, or_elim}
use Rattle.lists.proofs.Laws.{within_true}
use Rattle.policies.specs.Texts.{utf8_tail, utf8_two, utf8_three, utf8_four, printable, is_text}

-- where one of some tests holds
one_of_three : (x y z : Bool) (P : Type 0) → (x ≡ true → P) → (y ≡ true → P) → (z ≡ true → P) → (x || y || z) ≡ true → P
one_of_three x y z P f g i = or_elim (x || y) z (or_elim x y f g) i

one_of_four : (w x y z : Bool) (P : Type 0) → (w ≡ true → P) → (x ≡ true → P) → (y ≡ true → P) → (z ≡ true → P) → (w || x || y || z) ≡ true → P
one_of_four w x y z P f g i j = or_elim (w || x || y) z (one_of_three w x y P f g i) j

tail_between : (b : ℕ) → utf8_tail b ≡ true → (0x80 ≤ b) × (b ≤ 0xBF)
unfolding utf8_tail
tail_between b h = within_true 0x80 0xBF b h

equal_between : (k b : ℕ) → eqb b k ≡ true → (k ≤ b) × (b ≤ k)
equal_between k b h =
    let e : b ≡ k = eqb-true b k h in
    (omega arith, omega arith)

-- the ranges of a rule's bytes: what is claimed of all numbers in them holds of the bytes
module _ (a b : ℕ) (P : Type 0) where
  two_ways : utf8_two a b ≡ true → (0xC2 ≤ a → a ≤ 0xDF → 0x80 ≤ b → b ≤ 0xBF → P) → P
  unfolding utf8_two
  two_ways h f =
      let k = and_both (within 0xC2 0xDF a) (utf8_tail b) h in
      let x = within_true 0xC2 0xDF a k.0 in
      let y = tail_between b k.1 in
      f x.0 x.1 y.0 y.1

  module _ (c : ℕ) where
    abbrev Three : ℕ → ℕ → ℕ → ℕ → Type 0
    Three la ha lb hb = la ≤ a → a ≤ ha → lb ≤ b → b ≤ hb → 0x80 ≤ c → c ≤ 0xBF → P

    three_way : (x y : Bool) (la ha lb hb : ℕ) → (x ≡ true → (la ≤ a) × (a ≤ ha)) → (y ≡ true → (lb ≤ b) × (b ≤ hb)) → Three la ha lb hb → (x && y && utf8_tail c) ≡ true → P
    three_way x y la ha lb hb p q f h =
        let k = and_both (x && y) (utf8_tail c) h in
        let m = and_both x y k.0 in
        f (p m.0).0 (p m.0).1 (q m.1).0 (q m.1).1 (tail_between c k.1).0 (tail_between c k.1).1

    three_ways : Three 0xE0 0xE0 0xA0 0xBF → Three 0xE1 0xEC 0x80 0xBF → Three 0xED 0xED 0x80 0x9F → Three 0xEE 0xEF 0x80 0xBF → utf8_three a b c ≡ true → P
    unfolding utf8_three
    three_ways f g i j =
        one_of_four
        (eqb a 0xE0 && within 0xA0 0xBF b && utf8_tail c)
        (within 0xE1 0xEC a && utf8_tail b && utf8_tail c)
        (eqb a 0xED && within 0x80 0x9F b && utf8_tail c)
        (within 0xEE 0xEF a && utf8_tail b && utf8_tail c)
        P
        (three_way (eqb a 0xE0) (within 0xA0 0xBF b) 0xE0 0xE0 0xA0 0xBF (equal_between 0xE0 a) (within_true 0xA0 0xBF b) f)
        (three_way (within 0xE1 0xEC a) (utf8_tail b) 0xE1 0xEC 0x80 0xBF (within_true 0xE1 0xEC a) (tail_between b) g)
        (three_way (eqb a 0xED) (within 0x80 0x9F b) 0xED 0xED 0x80 0x9F (equal_between 0xED a) (within_true 0x80 0x9F b) i)
        (three_way (within 0xEE 0xEF a) (utf8_tail b) 0xEE 0xEF 0x80 0xBF (within_true 0xEE 0xEF a) (tail_between b) j)

    module _ (d : ℕ) where
      abbrev Four : ℕ → ℕ → ℕ → ℕ → Type 0
      Four la ha lb hb = la ≤ a → a ≤ ha → lb ≤ b → b ≤ hb → 0x80 ≤ c → c ≤ 0xBF → 0x80 ≤ d → d ≤ 0xBF → P

      four_way : (x y : Bool) (la ha lb hb : ℕ) → (x ≡ true → (la ≤ a) × (a ≤ ha)) → (y ≡ true → (lb ≤ b) × (b ≤ hb)) → Four la ha lb hb → (x && y && utf8_tail c && utf8_tail d) ≡ true → P
      four_way x y la ha lb hb p q f h =
          let k = and_both (x && y && utf8_tail c) (utf8_tail d) h in
          three_way x y la ha lb hb p q (λ s t u v w z. f s t u v w z (tail_between d k.1).0 (tail_between d k.1).1) k.0

      four_ways : Four 0xF0 0xF0 0x90 0xBF → Four 0xF1 0xF3 0x80 0xBF → Four 0xF4 0xF4 0x80 0x8F → utf8_four a b c d ≡ true → P
      unfolding utf8_four
      four_ways f g i =
          one_of_three
          (eqb a 0xF0 && within 0x90 0xBF b && utf8_tail c && utf8_tail d)
          (within 0xF1 0xF3 a && utf8_tail b && utf8_tail c && utf8_tail d)
          (eqb a 0xF4 && within 0x80 0x8F b && utf8_tail c && utf8_tail d)
          P
          (four_way (eqb a 0xF0) (within 0x90 0xBF b) 0xF0 0xF0 0x90 0xBF (equal_between 0xF0 a) (within_true 0x90 0xBF b) f)
          (four_way (within 0xF1 0xF3 a) (utf8_tail b) 0xF1 0xF3 0x80 0xBF (within_true 0xF1 0xF3 a) (tail_between b) g)
          (four_way (eqb a 0xF4) (within 0x80 0x8F b) 0xF4 0xF4 0x80 0x8F (equal_between 0xF4 a) (within_true 0x80 0x8F b) i)

-- the code point that a sequence writes: the low bits of its bytes, six of each but the first
abbrev pub point_of_two : ℕ → ℕ → ℕ
point_of_two a b = (a - 0xC0) * 0x40 + (b - 0x80)

abbrev pub point_of_three : ℕ → ℕ → ℕ → ℕ
point_of_three a b c = (a - 0xE0) * 0x1000 + (b - 0x80) * 0x40 + (c - 0x80)

abbrev pub point_of_four : ℕ → ℕ → ℕ → ℕ → ℕ
point_of_four a b c d = (a - 0xF0) * 0x40000 + (b - 0x80) * 0x1000 + (c - 0x80) * 0x40 + (d - 0x80)

-- two bytes write one that one byte cannot
pub two_points : (a b : ℕ) → utf8_two a b ≡ true → (0x80 ≤ point_of_two a b) × (point_of_two a b ≤ 0x7FF)
two_points a b h = two_ways a b ((0x80 ≤ point_of_two a b) × (point_of_two a b ≤ 0x7FF)) h (λ s t u v. (omega arith, omega arith))

-- three write one that two cannot, and no surrogate
pub three_points : (a b c : ℕ) → utf8_three a b c ≡ true → (0x800 ≤ point_of_three a b c) × (point_of_three a b c ≤ 0xFFFF) × ((point_of_three a b c < 0xD800) ⊎ (0xDFFF < point_of_three a b c))
three_points a b c =
    three_ways a b ((0x800 ≤ point_of_three a b c) × (point_of_three a b c ≤ 0xFFFF) × ((point_of_three a b c < 0xD800) ⊎ (0xDFFF < point_of_three a b c))) c
    (λ s t u v w z. (omega arith, omega arith, inl (omega arith)))
    (λ s t u v w z. (omega arith, omega arith, inl (omega arith)))
    (λ s t u v w z. (omega arith, omega arith, inl (omega arith)))
    (λ s t u v w z. (omega arith, omega arith, inr (omega arith)))

-- four write one that three cannot, up to 10FFFF
pub four_points : (a b c d : ℕ) → utf8_four a b c d ≡ true → (0x10000 ≤ point_of_four a b c d) × (point_of_four a b c d ≤ 0x10FFFF)
four_points a b c d =
    four_ways a b ((0x10000 ≤ point_of_four a b c d) × (point_of_four a b c d ≤ 0x10FFFF)) c d
    (λ s t u v w z x y. (omega arith, omega arith))
    (λ s t u v w z x y. (omega arith, omega arith))
    (λ s t u v w z x y. (omega arith, omega arith))

-- a byte that is no control byte of ASCII: all bytes of a text are such
abbrev pub graphic : ℕ → Bool
graphic b = leb 0x20 b

printable_graphic : (a : ℕ) → printable a ≡ true → graphic a ≡ true
unfolding printable
printable_graphic a h = le-leb 0x20 a (within_true 0x20 0x7E a h).0

two_graphic : (a b : ℕ) → utf8_two a b ≡ true → (graphic a && graphic b) ≡ true
two_graphic a b h = two_ways a b ((graphic a && graphic b) ≡ true) h (λ s t u v. rw (le-leb 0x20 a (omega arith), le-leb 0x20 b (omega arith)))

three_graphic : (a b c : ℕ) → utf8_three a b c ≡ true → (graphic a && graphic b && graphic c) ≡ true
three_graphic a b c = three_ways a b ((graphic a && graphic b && graphic c) ≡ true) c (high 0xE0 0xE0 0xA0 0xBF (omega arith) (omega arith)) (high 0xE1 0xEC 0x80 0xBF (omega arith) (omega arith)) (high 0xED 0xED 0x80 0x9F (omega arith) (omega arith)) (high 0xEE 0xEF 0x80 0xBF (omega arith) (omega arith))
  where
    high : (la ha lb hb : ℕ) → 0x20 ≤ la → 0x20 ≤ lb → la ≤ a → a ≤ ha → lb ≤ b → b ≤ hb → 0x80 ≤ c → c ≤ 0xBF → (graphic a && graphic b && graphic c) ≡ true
    high la ha lb hb i j s t u v w z = rw (le-leb 0x20 a (omega arith), le-leb 0x20 b (omega arith), le-leb 0x20 c (omega arith))

four_graphic : (a b c d : ℕ) → utf8_four a b c d ≡ true → (graphic a && graphic b && graphic c && graphic d) ≡ true
four_graphic a b c d = four_ways a b ((graphic a && graphic b && graphic c && graphic d) ≡ true) c d (high 0xF0 0xF0 0x90 0xBF (omega arith) (omega arith)) (high 0xF1 0xF3 0x80 0xBF (omega arith) (omega arith)) (high 0xF4 0xF4 0x80 0x8F (omega arith) (omega arith))
  where
    high : (la ha lb hb : ℕ) → 0x20 ≤ la → 0x20 ≤ lb → la ≤ a → a ≤ ha → lb ≤ b → b ≤ hb → 0x80 ≤ c → c ≤ 0xBF → 0x80 ≤ d → d ≤ 0xBF → (graphic a && graphic b && graphic c && graphic d) ≡ true
    high la ha lb hb i j s t u v w z x y = rw (le-leb 0x20 a (omega arith), le-leb 0x20 b (omega arith), le-leb 0x20 c (omega arith), le-leb 0x20 d (omega arith))

-- a sequence before a text
front_two : (x y z : Bool) → (x && y) ≡ true → z ≡ true → (x && (y && z)) ≡ true
front_two x y z h k = sym (and_assoc x y z) ∙ rw h k

front_three : (w x y z : Bool) → (w && x && y) ≡ true → z ≡ true → (w && (x && (y && z))) ≡ true
front_three w x y z h k =
    let p = and_both (w && x) y h in
    front_two w x (y && z) p.0 (rw p.1 k)

front_four : (v w x y z : Bool) → (v && w && x && y) ≡ true → z ≡ true → (v && (w && (x && (y && z)))) ≡ true
front_four v w x y z h k =
    let p = and_both (v && w && x) y h in
    front_three v w x (y && z) p.0 (rw p.1 k)

abbrev Graphic : List ℕ → Type 0
Graphic v = is_text v ≡ true → all graphic v ≡ true

pub text_graphic : (v : List ℕ) → Graphic v
unfolding is_text all
text_graphic [] h = refl
text_graphic (a ∷ []) h = rw (printable_graphic a h)
text_graphic (a ∷ b ∷ []) h = go (text_graphic (b ∷ [])) (printable a) refl h
  where
    go : Graphic (b ∷ []) → (p : Bool) → printable a ≡ p → cond p (is_text (b ∷ [])) (utf8_two a b) ≡ true → all graphic (a ∷ b ∷ []) ≡ true
    go ih true e k = rw (printable_graphic a e) (ih k)
    go ih false e k = front_two (graphic a) (graphic b) true (two_graphic a b k) refl
text_graphic (a ∷ b ∷ c ∷ []) h = go (text_graphic (b ∷ c ∷ [])) (text_graphic (c ∷ [])) (printable a) (utf8_two a b) refl refl h
  where
    go : Graphic (b ∷ c ∷ []) → Graphic (c ∷ []) → (p q : Bool) → printable a ≡ p → utf8_two a b ≡ q → cond p (is_text (b ∷ c ∷ [])) (cond q (is_text (c ∷ [])) (utf8_three a b c)) ≡ true → all graphic (a ∷ b ∷ c ∷ []) ≡ true
    go i j true q e f k = rw (printable_graphic a e) (i k)
    go i j false true e f k = front_two (graphic a) (graphic b) (graphic c && true) (two_graphic a b f) (j k)
    go i j false false e f k = front_three (graphic a) (graphic b) (graphic c) true (three_graphic a b c k) refl
text_graphic (a ∷ b ∷ c ∷ d ∷ s) h = go (text_graphic (b ∷ c ∷ d ∷ s)) (text_graphic (c ∷ d ∷ s)) (text_graphic (d ∷ s)) (text_graphic s) (printable a) (utf8_two a b) (utf8_three a b c) refl refl refl h
  where
    go : Graphic (b ∷ c ∷ d ∷ s) → Graphic (c ∷ d ∷ s) → Graphic (d ∷ s) → Graphic s → (p q r : Bool) → printable a ≡ p → utf8_two a b ≡ q → utf8_three a b c ≡ r → cond p (is_text (b ∷ c ∷ d ∷ s)) (cond q (is_text (c ∷ d ∷ s)) (cond r (is_text (d ∷ s)) (utf8_four a b c d && is_text s))) ≡ true → all graphic (a ∷ b ∷ c ∷ d ∷ s) ≡ true
    go i j l m true q r e f g k = rw (printable_graphic a e) (i k)
    go i j l m false true r e f g k = front_two (graphic a) (graphic b) (all graphic (c ∷ d ∷ s)) (two_graphic a b f) (j k)
    go i j l m false false true e f g k = front_three (graphic a) (graphic b) (graphic c) (all graphic (d ∷ s)) (three_graphic a b c g) (l k)
    go i j l m false false false e f g k =
        let x = and_both (utf8_four a b c d) (is_text s) k in
        front_four (graphic a) (graphic b) (graphic c) (graphic d) (all graphic s) (four_graphic a b c d x.0) (m x.1)

-- and each code point from 80 to 10FFFF but the surrogates has a sequence that writes it
pub two_all : (u : ℕ) → 0x80 ≤ u → u ≤ 0x7FF → (utf8_two (0xC0 + u / 0x40) (0x80 + u % 0x40) ≡ true) × (point_of_two (0xC0 + u / 0x40) (0x80 + u % 0x40) ≡ u)
unfolding utf8_two utf8_tail
two_all u h k =
    let a : ℕ = 0xC0 + u / 0x40 in
    let b : ℕ = 0x80 + u % 0x40 in
    (rw (le-leb 0xC2 a (omega arith), le-leb a 0xDF (omega arith), le-leb 0x80 b (omega arith), le-leb b 0xBF (omega arith)), omega arith)

tail_low : (k : ℕ) → utf8_tail (0x80 + k % 0x40) ≡ true
unfolding utf8_tail
tail_low k = rw (le-leb 0x80 (0x80 + k % 0x40) (omega arith), le-leb (0x80 + k % 0x40) 0xBF (omega arith))

module _ (a b c : ℕ) (tc : utf8_tail c ≡ true) where
  three_first : a ≡ 0xE0 → 0xA0 ≤ b → b ≤ 0xBF → utf8_three a b c ≡ true
  unfolding utf8_three
  three_first e h k = simp (eq-eqb a 0xE0 e, le-leb 0xA0 b h, le-leb b 0xBF k, tc)

  three_second : 0xE1 ≤ a → a ≤ 0xEC → utf8_tail b ≡ true → utf8_three a b c ≡ true
  unfolding utf8_three
  three_second h k tb = simp (le-leb 0xE1 a h, le-leb a 0xEC k, tb, tc, or-true)

  three_third : a ≡ 0xED → 0x80 ≤ b → b ≤ 0x9F → utf8_three a b c ≡ true
  unfolding utf8_three
  three_third e h k = simp (eq-eqb a 0xED e, le-leb 0x80 b h, le-leb b 0x9F k, tc, or-true)

  three_fourth : 0xEE ≤ a → a ≤ 0xEF → utf8_tail b ≡ true → utf8_three a b c ≡ true
  unfolding utf8_three
  three_fourth h k tb = simp (le-leb 0xEE a h, le-leb a 0xEF k, tb, tc, or-true)

  module _ (d : ℕ) (td : utf8_tail d ≡ true) where
    four_first : a ≡ 0xF0 → 0x90 ≤ b → b ≤ 0xBF → utf8_four a b c d ≡ true
    unfolding utf8_four
    four_first e h k = simp (eq-eqb a 0xF0 e, le-leb 0x90 b h, le-leb b 0xBF k, tc, td)

    four_second : 0xF1 ≤ a → a ≤ 0xF3 → utf8_tail b ≡ true → utf8_four a b c d ≡ true
    unfolding utf8_four
    four_second h k tb = simp (le-leb 0xF1 a h, le-leb a 0xF3 k, tb, tc, td, or-true)

    four_third : a ≡ 0xF4 → 0x80 ≤ b → b ≤ 0x8F → utf8_four a b c d ≡ true
    unfolding utf8_four
    four_third e h k = simp (eq-eqb a 0xF4 e, le-leb 0x80 b h, le-leb b 0x8F k, tc, td, or-true)

pub three_all : (u : ℕ) → 0x800 ≤ u → u ≤ 0xFFFF → (u < 0xD800) ⊎ (0xDFFF < u) → (utf8_three (0xE0 + u / 0x1000) (0x80 + u / 0x40 % 0x40) (0x80 + u % 0x40) ≡ true) × (point_of_three (0xE0 + u / 0x1000) (0x80 + u / 0x40 % 0x40) (0x80 + u % 0x40) ≡ u)
three_all u h k o = (go (ltb u 0x1000) (ltb u 0xD000) refl refl, omega arith)
  where
    a : ℕ
    a = 0xE0 + u / 0x1000

    b : ℕ
    b = 0x80 + u / 0x40 % 0x40

    c : ℕ
    c = 0x80 + u % 0x40

    go : (x y : Bool) → ltb u 0x1000 ≡ x → ltb u 0xD000 ≡ y → utf8_three a b c ≡ true
    go true y p q =
        let m : u < 0x1000 = ltb-true u 0x1000 p in
        three_first a b c (tail_low u) (omega arith) (omega arith) (omega arith)
    go false true p q =
        let l : 0x1000 ≤ u = ltb-false u 0x1000 p in
        let m : u < 0xD000 = ltb-true u 0xD000 q in
        three_second a b c (tail_low u) (omega arith) (omega arith) (tail_low (u / 0x40))
    go false false p q =
        let l : 0xD000 ≤ u = ltb-false u 0xD000 q in
        ⊎_elim
        (λ (m : u < 0xD800). three_third a b c (tail_low u) (omega arith) (omega arith) (omega arith))
        (λ (m : 0xDFFF < u). three_fourth a b c (tail_low u) (omega arith) (omega arith) (tail_low (u / 0x40)))
        o

pub four_all : (u : ℕ) → 0x10000 ≤ u → u ≤ 0x10FFFF → (utf8_four (0xF0 + u / 0x40000) (0x80 + u / 0x1000 % 0x40) (0x80 + u / 0x40 % 0x40) (0x80 + u % 0x40) ≡ true) × (point_of_four (0xF0 + u / 0x40000) (0x80 + u / 0x1000 % 0x40) (0x80 + u / 0x40 % 0x40) (0x80 + u % 0x40) ≡ u)
four_all u h k = (go (ltb u 0x40000) (ltb u 0x100000) refl refl, back)
  where
    back : point_of_four (0xF0 + u / 0x40000) (0x80 + u / 0x1000 % 0x40) (0x80 + u / 0x40 % 0x40) (0x80 + u % 0x40) ≡ u
    back =
        let e : u / 0x1000 ≡ u / 0x40 / 0x40 = omega arith in
        let f : u / 0x40000 ≡ u / 0x1000 / 0x40 = omega arith in
        omega arith

    a : ℕ
    a = 0xF0 + u / 0x40000

    b : ℕ
    b = 0x80 + u / 0x1000 % 0x40

    go : (x y : Bool) → ltb u 0x40000 ≡ x → ltb u 0x100000 ≡ y → utf8_four a b (0x80 + u / 0x40 % 0x40) (0x80 + u % 0x40) ≡ true
    go true y p q =
        let m : u < 0x40000 = ltb-true u 0x40000 p in
        four_first a b (0x80 + u / 0x40 % 0x40) (tail_low (u / 0x40)) (0x80 + u % 0x40) (tail_low u) (omega arith) (omega arith) (omega arith)
    go false true p q =
        let l : 0x40000 ≤ u = ltb-false u 0x40000 p in
        let m : u < 0x100000 = ltb-true u 0x100000 q in
        four_second a b (0x80 + u / 0x40 % 0x40) (tail_low (u / 0x40)) (0x80 + u % 0x40) (tail_low u) (omega arith) (omega arith) (tail_low (u / 0x1000))
    go false false p q =
        let l : 0x100000 ≤ u = ltb-false u 0x100000 q in
        four_third a b (0x80 + u / 0x40 % 0x40) (tail_low (u / 0x40)) (0x80 + u % 0x40) (tail_low u) (omega arith) (omega arith) (omega arith)
