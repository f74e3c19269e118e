-- Lists of bytes compared as numbers, eight bytes at a time: the laws, and the turn of a loop. Assumes nothing.
use Prim.Native.Nat.{ℕ, zero, suc, ◌+◌, ◌-◌, ◌*◌, ◌<◌, ◌≤◌}
use mathlib.Core.Path.{◌≡◌, refl, sym, ◌∙◌}
use mathlib.Core.Bool.{Bool, true, false, ◌&&◌, and_assoc}
use mathlib.Core.List.{List, [], ◌∷◌}
use native.Mathlib.Nat.{add-zero}
use native.Mathlib.Omega.{arith}
use lib.Dec.{eqb, leb}
use lib.ListN.{length, get_or, take, drop, length-drop}
use lib.Seq.{get_or-drop, drop-drop}
use borrow.Author.Rules.{rules}
use borrow.Author.Tests.{not-true, not-false, eq-eqb, ne_eqb, eqb-true, lt-leb, le-leb, leb-true}
use Rattle.lists.specs.Bytes.{all, is_bytes}
use Rattle.lists.specs.Equal.{agree, same_byte}
use Rattle.lists.specs.Words.{number_of, eight_at}
use Rattle.lists.proofs.Agree.{agree_length}
use Rattle.lists.proofs.Bools.{apart, and_left, and_right}
use Rattle.lists.proofs.Laws.{take_rest}

-- the first eight of a list
front_eight : (u : List ℕ) → 8 ≤ length u → take 8 u ≡ get_or u 0 0 ∷ get_or u 1 0 ∷ get_or u 2 0 ∷ get_or u 3 0 ∷ get_or u 4 0 ∷ get_or u 5 0 ∷ get_or u 6 0 ∷ get_or u 7 0 ∷ []
front_eight [] h = absurd (omega arith)
front_eight (a ∷ []) h = absurd (omega arith)
front_eight (a ∷ b ∷ []) h = absurd (omega arith)
front_eight (a ∷ b ∷ c ∷ []) h = absurd (omega arith)
front_eight (a ∷ b ∷ c ∷ d ∷ []) h = absurd (omega arith)
front_eight (a ∷ b ∷ c ∷ d ∷ e ∷ []) h = absurd (omega arith)
front_eight (a ∷ b ∷ c ∷ d ∷ e ∷ f ∷ []) h = absurd (omega arith)
front_eight (a ∷ b ∷ c ∷ d ∷ e ∷ f ∷ g ∷ []) h = absurd (omega arith)
front_eight (a ∷ b ∷ c ∷ d ∷ e ∷ f ∷ g ∷ k ∷ u) h = refl

pub eight_is : (s : List ℕ) (i : ℕ) → i + 8 ≤ length s → eight_at s i ≡ get_or s i 0 ∷ get_or s (i + 1) 0 ∷ get_or s (i + 2) 0 ∷ get_or s (i + 3) 0 ∷ get_or s (i + 4) 0 ∷ get_or s (i + 5) 0 ∷ get_or s (i + 6) 0 ∷ get_or s (i + 7) 0 ∷ []
eight_is s i h =
    let l : 8 ≤ length (drop i s) = omega (arith, length-drop i s) in
    let e : take 8 (drop i s) ≡ get_or (drop i s) 0 0 ∷ get_or (drop i s) 1 0 ∷ get_or (drop i s) 2 0 ∷ get_or (drop i s) 3 0 ∷ get_or (drop i s) 4 0 ∷ get_or (drop i s) 5 0 ∷ get_or (drop i s) 6 0 ∷ get_or (drop i s) 7 0 ∷ [] = front_eight (drop i s) l in
    simp (get_or-drop, add-zero) at e

byte_is : (b : ℕ) → b < 256 → leb b 255 ≡ true
byte_is b h = le-leb b 255 (omega arith)

byte_below : (b : ℕ) → leb b 255 ≡ true → b < 256
byte_below b h = let k : b ≤ 255 = leb-true b 255 h in omega arith

-- `eight_at`: a to h are the bytes
pub eight_number : (s : List ℕ) (i : ℕ) (a b c d e f g h : ℕ) → i + 8 ≤ length s → a ≡ get_or s i 0 → b ≡ get_or s (i + 1) 0 → c ≡ get_or s (i + 2) 0 → d ≡ get_or s (i + 3) 0 → e ≡ get_or s (i + 4) 0 → f ≡ get_or s (i + 5) 0 → g ≡ get_or s (i + 6) 0 → h ≡ get_or s (i + 7) 0 → a + 256 * (b + 256 * (c + 256 * (d + 256 * (e + 256 * (f + 256 * (g + 256 * h)))))) ≡ number_of (eight_at s i)
unfolding number_of
eight_number s i a b c d e f g h l pa pb pc pd pe pf pg ph = rw (eight_is s i l, sym pa, sym pb, sym pc, sym pd, sym pe, sym pf, sym pg, sym ph) (omega arith)

pub eight_bytes : (s : List ℕ) (i : ℕ) (a b c d e f g h : ℕ) → i + 8 ≤ length s → a ≡ get_or s i 0 → b ≡ get_or s (i + 1) 0 → c ≡ get_or s (i + 2) 0 → d ≡ get_or s (i + 3) 0 → e ≡ get_or s (i + 4) 0 → f ≡ get_or s (i + 5) 0 → g ≡ get_or s (i + 6) 0 → h ≡ get_or s (i + 7) 0 → a < 256 → b < 256 → c < 256 → d < 256 → e < 256 → f < 256 → g < 256 → h < 256 → is_bytes (eight_at s i) ≡ true
unfolding all
eight_bytes s i a b c d e f g h l pa pb pc pd pe pf pg ph la lb lc ld le lf lg lh =
    rw (eight_is s i l, sym pa, sym pb, sym pc, sym pd, sym pe, sym pf, sym pg, sym ph, byte_is a la, byte_is b lb, byte_is c lc, byte_is d ld, byte_is e le, byte_is f lf, byte_is g lg, byte_is h lh) refl

-- two numbers are equal exactly where their lowest bytes and the rest are
two_bytes : (b d m n : ℕ) → b < 256 → d < 256 → eqb (b + 256 * m) (d + 256 * n) ≡ (eqb b d && eqb m n)
two_bytes b d m n hb hd = go (eqb b d) (eqb m n) refl refl
  where
    go : (t u : Bool) → eqb b d ≡ t → eqb m n ≡ u → eqb (b + 256 * m) (d + 256 * n) ≡ (t && u)
    go true true p q =
        let x : b ≡ d = eqb-true b d p in
        let y : m ≡ n = eqb-true m n q in
        eq-eqb (b + 256 * m) (d + 256 * n) (omega arith)
    go true false p q = ne_eqb (b + 256 * m) (d + 256 * n) (λ e. let z : m ≡ n = omega arith in apart (sym q ∙ eq-eqb m n z))
    go false u p q = ne_eqb (b + 256 * m) (d + 256 * n) (λ e. let z : b ≡ d = omega arith in apart (sym p ∙ eq-eqb b d z))

-- lists of bytes of one length are the same exactly where their numbers are
pub numbers_same : (x y : List ℕ) → length x ≡ length y → is_bytes x ≡ true → is_bytes y ≡ true → eqb (number_of x) (number_of y) ≡ agree same_byte x y
unfolding all number_of agree same_byte
numbers_same [] [] l h k = refl
numbers_same [] (d ∷ y) l h k = absurd (omega arith)
numbers_same (b ∷ x) [] l h k = absurd (omega arith)
numbers_same (b ∷ x) (d ∷ y) l h k =
    let hb : b < 256 = byte_below b (and_left (leb b 255) (is_bytes x) h) in
    let hd : d < 256 = byte_below d (and_left (leb d 255) (is_bytes y) k) in
    let ih : eqb (number_of x) (number_of y) ≡ agree same_byte x y = numbers_same x y (omega arith) (and_right (leb b 255) (is_bytes x) h) (and_right (leb d 255) (is_bytes y) k) in
    rw (two_bytes b d (number_of x) (number_of y) hb hd, ih) refl

-- comparing is comparing the first n and then the rest
agree_cut : (p : ℕ → ℕ → Bool) (n : ℕ) (x y : List ℕ) → agree p x y ≡ (agree p (take n x) (take n y) && agree p (drop n x) (drop n y))
unfolding agree
agree_cut p zero x y = refl
agree_cut p (suc n) [] [] = refl
agree_cut p (suc n) [] (b ∷ y) = refl
agree_cut p (suc n) (a ∷ x) [] = refl
agree_cut p (suc n) (a ∷ x) (b ∷ y) = rw (agree_cut p n x y) (sym (and_assoc (p a b) (agree p (take n x) (take n y)) (agree p (drop n x) (drop n y))))

-- `is_same_eight`: x and y are what `eight_at` gave
pub eight_same : (a b : List ℕ) (i x y : ℕ) → i + 8 ≤ length a → i + 8 ≤ length b → x ≡ number_of (eight_at a i) → is_bytes (eight_at a i) ≡ true → y ≡ number_of (eight_at b i) → is_bytes (eight_at b i) ≡ true → eqb x y ≡ agree same_byte (eight_at a i) (eight_at b i)
eight_same a b i x y ka kb px ha py hb =
    let l : length (eight_at a i) ≡ length (eight_at b i) = rw (eight_is a i ka, eight_is b i kb) refl in
    rw (px, py) (numbers_same (eight_at a i) (eight_at b i) l ha hb)

-- a turn of a loop that compares n bytes at once, and its ends: r is what the comparison of the n bytes gave
module _ (n : ℕ) (a b : List ℕ) (i : ℕ) (r : Bool) (gave : r ≡ agree same_byte (take n (drop i a)) (take n (drop i b))) where
  pub same_next : agree same_byte a b ≡ agree same_byte (drop i a) (drop i b) → r ≡ true → agree same_byte a b ≡ agree same_byte (drop (i + n) a) (drop (i + n) b)
  same_next inv t = inv ∙ (agree_cut same_byte n (drop i a) (drop i b) ∙ rw (sym gave ∙ t, drop-drop n i a, drop-drop n i b) refl)

  pub same_differ : agree same_byte a b ≡ agree same_byte (drop i a) (drop i b) → r ≡ false → false ≡ agree same_byte a b
  same_differ inv t = sym (inv ∙ (agree_cut same_byte n (drop i a) (drop i b) ∙ rw (sym gave ∙ t) refl))

-- the rest, by what the comparison of what is left gave
pub agree_rest : (p : ℕ → ℕ → Bool) (a b : List ℕ) (i : ℕ) (r : Bool) → agree p a b ≡ agree p (drop i a) (drop i b) → r ≡ agree p (drop i a) (drop i b) → r ≡ agree p a b
agree_rest p a b i r inv gave = gave ∙ sym inv

pub same_rest : (a b : List ℕ) (i : ℕ) (r : Bool) → agree same_byte a b ≡ agree same_byte (drop i a) (drop i b) → r ≡ agree same_byte (take (length a - i) (drop i a)) (take (length b - i) (drop i b)) → r ≡ agree same_byte a b
same_rest a b i r inv gave = agree_rest same_byte a b i r inv (gave ∙ rw (take_rest a i, take_rest b i) refl)

pub ruleset eight_laws = (agree_length, eight_number, eight_bytes, eight_same, same_next, same_differ, agree_rest, same_rest, not-true, not-false, rules)
