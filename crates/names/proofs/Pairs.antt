-- Comparing by lengths and then by byte pairs from the right: the texts are equal exactly where they are the same text, and which pairs were read. Assumes nothing.
use Prim.Native.Nat.{ℕ, suc, ◌+◌, ◌-◌, ◌<◌, ◌≤◌}
use mathlib.Core.Path.{◌≡◌, refl, sym, ap, ◌∙◌}
use mathlib.Core.Bool.{Bool, true, false, cond, ◌&&◌, and-true, and_comm, and_assoc}
use mathlib.Core.Logic.{◌⊎◌, inl, inr}
use mathlib.Core.List.{List, [], ◌∷◌, ◌++◌, reverse, reverse-cons, reverse-append, append_assoc, append-nil}
use native.Mathlib.Omega.{arith}
use lib.Dec.{eqb}
use lib.ListN.{length, get_or, take, drop, length-reverse, length-drop, take-append-drop, drop_of_length-le}
use borrow.Author.Rules.{rules}
use borrow.Author.Tests.{not-true, not-false, eq-eqb, ne_eqb, eqb-true, eqb-false}
use Rattle.lists.specs.Equal.{agree, same_letter, same_text}
use Rattle.lists.proofs.Agree.{agree_length, agree_lengths}
use Rattle.lists.proofs.Bools.{never, and_left, and_right}
use Rattle.lists.proofs.Laws.{drop_next}
use Rattle.names.specs.declared.Comparison.{Comparison}
use Rattle.names.specs.Pairs.{pairs_read, comparison}

-- texts joined of two parts each, of which the first are of one length, are the same where the parts are
same_joined : (a b c d : List ℕ) → length a ≡ length b → same_text (a ++ c) (b ++ d) ≡ (same_text a b && same_text c d)
unfolding agree
same_joined [] [] c d l = refl
same_joined [] (y ∷ b) c d l = absurd (omega arith)
same_joined (x ∷ a) [] c d l = absurd (omega arith)
same_joined (x ∷ a) (y ∷ b) c d l = rw (same_joined a b c d (omega arith)) (sym (and_assoc (same_letter x y) (same_text a b) (same_text c d)))

reversed_lengths : (a b : List ℕ) → length a ≡ length b → length (reverse a) ≡ length (reverse b)
reversed_lengths a b l = length-reverse a ∙ (l ∙ sym (length-reverse b))

-- texts of one length are the same from the right where they are from the left
same_reversed : (a b : List ℕ) → length a ≡ length b → same_text (reverse a) (reverse b) ≡ same_text a b
unfolding agree
same_reversed [] [] l = refl
same_reversed [] (y ∷ b) l = absurd (omega arith)
same_reversed (x ∷ a) [] l = absurd (omega arith)
same_reversed (x ∷ a) (y ∷ b) l =
    let k : length a ≡ length b = omega arith in
    rw (reverse-cons x a, reverse-cons y b, same_joined (reverse a) (reverse b) (x ∷ []) (y ∷ []) (reversed_lengths a b k), same_reversed a b k, and-true (same_letter x y)) (and_comm (same_text a b) (same_letter x y))

-- pairs that are the same are all read
read_past : (a b c d : List ℕ) → same_text a b ≡ true → pairs_read (a ++ c) (b ++ d) ≡ length a + pairs_read c d
unfolding agree pairs_read
read_past [] [] c d h = omega arith
read_past [] (y ∷ b) c d h = never cc
read_past (x ∷ a) [] c d h = never cc
read_past (x ∷ a) (y ∷ b) c d h =
    rw (and_left (same_letter x y) (same_text a b) h, read_past a b c d (and_right (same_letter x y) (same_text a b) h)) (omega arith)

-- a text reversed: what stands behind a place, the byte there, and what stands before it
reversed_at : (a : List ℕ) (i : ℕ) → i < length a → reverse a ≡ reverse (drop (i + 1) a) ++ (get_or a i 0 ∷ reverse (take i a))
reversed_at a i h =
    let s : a ≡ take i a ++ (get_or a i 0 ∷ drop (i + 1) a) = sym (take-append-drop i a) ∙ ap (λ (r : List ℕ). take i a ++ r) (drop_next a i h) in
    ap reverse s ∙ (reverse-append (take i a) (get_or a i 0 ∷ drop (i + 1) a) ∙ (ap (λ (r : List ℕ). r ++ reverse (take i a)) (reverse-cons (get_or a i 0) (drop (i + 1) a)) ∙ append_assoc (reverse (drop (i + 1) a)) (get_or a i 0 ∷ []) (reverse (take i a))))

-- Texts of unequal lengths are not equal, and no pair is read.
pub unequal_lengths : (a b : List ℕ) → (length a ≡ length b → ⊥) → comparison a b ≡ record { equal = false; pairs = 0 }
unfolding comparison
unequal_lengths a b h = rw (ne_eqb (length a) (length b) h)

-- what the definition says of texts of one length
read_from_the_right : (a b : List ℕ) → length a ≡ length b → comparison a b ≡ record { equal = same_text (reverse a) (reverse b); pairs = pairs_read (reverse a) (reverse b) }
unfolding comparison
read_from_the_right a b l = rw (eq-eqb (length a) (length b) l)

read_all : (a b : List ℕ) → same_text a b ≡ true → pairs_read a b ≡ length a
unfolding pairs_read
read_all a b h =
    let p : pairs_read (a ++ []) (b ++ []) ≡ length a + pairs_read [] [] = read_past a b [] [] h in
    let q : pairs_read a b ≡ length a + 0 = rw (append-nil a, append-nil b) at p in
    omega (arith, q)

-- Of the same texts, all pairs are read.
pub all_pairs : (a b : List ℕ) → same_text a b ≡ true → comparison a b ≡ record { equal = true; pairs = length a }
all_pairs a b h =
    let l : length a ≡ length b = agree_lengths same_letter a b h in
    let r : same_text (reverse a) (reverse b) ≡ true = same_reversed a b l ∙ h in
    read_from_the_right a b l ∙ rw (r, read_all (reverse a) (reverse b) r, length-reverse a)

-- two texts of one length, and the place of the last pair that differs, ignoring ASCII case
pub record LastDifference (a b : List ℕ) : Type 0 where
  pub one_length : length a ≡ length b
  pub place : ℕ
  pub inside : place < length a
  pub differs : same_letter (get_or a place 0) (get_or b place 0) ≡ false
  pub same_after : same_text (drop (place + 1) a) (drop (place + 1) b) ≡ true

module _ (a b : List ℕ) (d : LastDifference a b) where
  abbrev i : ℕ
  i = d.place

  -- from the right: what stands behind the place, and the rest
  abbrev after_a : List ℕ
  after_a = reverse (drop (i + 1) a)

  abbrev after_b : List ℕ
  after_b = reverse (drop (i + 1) b)

  abbrev rest_a : List ℕ
  rest_a = get_or a i 0 ∷ reverse (take i a)

  abbrev rest_b : List ℕ
  rest_b = get_or b i 0 ∷ reverse (take i b)

  inside_b : i < length b
  inside_b = omega (arith, d.one_length, d.inside)

  after_lengths : length (drop (i + 1) a) ≡ length (drop (i + 1) b)
  after_lengths = agree_lengths same_letter (drop (i + 1) a) (drop (i + 1) b) d.same_after

  after_same : same_text after_a after_b ≡ true
  after_same = same_reversed (drop (i + 1) a) (drop (i + 1) b) after_lengths ∙ d.same_after

  not_same : same_text (reverse a) (reverse b) ≡ false
  unfolding agree
  not_same = rw (reversed_at a i d.inside, reversed_at b i inside_b, same_joined after_a after_b rest_a rest_b (reversed_lengths (drop (i + 1) a) (drop (i + 1) b) after_lengths), after_same, d.differs) refl

  read_to : pairs_read (reverse a) (reverse b) ≡ length a - i
  unfolding pairs_read
  read_to =
      let n : length after_a ≡ length a - (i + 1) = length-reverse (drop (i + 1) a) ∙ length-drop (i + 1) a in
      rw (reversed_at a i d.inside, reversed_at b i inside_b, read_past after_a after_b rest_a rest_b after_same, d.differs) (omega (arith, n, d.inside))

  -- Of other texts of one length, the pairs are read from the right up to and with the first that differs.
  pub to_the_difference : comparison a b ≡ record { equal = false; pairs = length a - d.place }
  to_the_difference = read_from_the_right a b d.one_length ∙ rw (not_same, read_to)

-- Any two texts are of one of these three kinds.
pub three_kinds : (a b : List ℕ) → (length a ≡ length b → ⊥) ⊎ ((same_text a b ≡ true) ⊎ LastDifference a b)
unfolding agree
three_kinds [] [] = inr (inl refl)
three_kinds [] (y ∷ b) = inl (λ e. omega arith)
three_kinds (x ∷ a) [] = inl (λ e. omega arith)
three_kinds (x ∷ a) (y ∷ b) = go (three_kinds a b) (same_letter x y) refl
  where
    go : (length a ≡ length b → ⊥) ⊎ ((same_text a b ≡ true) ⊎ LastDifference a b) → (t : Bool) → same_letter x y ≡ t → (suc (length a) ≡ suc (length b) → ⊥) ⊎ (((same_letter x y && same_text a b) ≡ true) ⊎ LastDifference (x ∷ a) (y ∷ b))
    go (inl n) t e = inl (λ l. n (omega arith))
    go (inr (inl s)) true e = inr (inl (rw (e, s)))
    go (inr (inl s)) false e = inr (inr (record { one_length = ap suc (agree_lengths same_letter a b s); place = 0; inside = omega arith; differs = e; same_after = s }))
    go (inr (inr d)) t e =
        let k : suc d.place + 1 ≡ suc (d.place + 1) = omega arith in
        inr (inr (record { one_length = ap suc d.one_length; place = suc d.place; inside = omega (arith, d.inside); differs = d.differs; same_after = rw k d.same_after }))

-- Texts are equal by this comparison exactly where they are the same text.
pub equal_is_same : (a b : List ℕ) → (comparison a b).equal ≡ same_text a b
equal_is_same a b = go (eqb (length a) (length b)) refl
  where
    go : (t : Bool) → eqb (length a) (length b) ≡ t → (comparison a b).equal ≡ same_text a b
    go true e =
        let l : length a ≡ length b = eqb-true (length a) (length b) e in
        ap (λ (c : Comparison). c.equal) (read_from_the_right a b l) ∙ same_reversed a b l
    go false e =
        let n : length a ≡ length b → ⊥ = eqb-false (length a) (length b) e in
        ap (λ (c : Comparison). c.equal) (unequal_lengths a b n) ∙ agree_length same_letter a b n

read_most : (a b : List ℕ) → pairs_read a b ≤ length a
unfolding pairs_read
read_most [] b = omega arith
read_most (x ∷ a) [] = omega arith
read_most (x ∷ a) (y ∷ b) = go (same_letter x y) (read_most a b)
  where
    go : (t : Bool) → pairs_read a b ≤ length a → suc (cond t (pairs_read a b) 0) ≤ suc (length a)
    go true m = omega (arith, m)
    go false m = omega arith

-- No more pairs are read than either text has bytes.
pub at_most_all : (a b : List ℕ) → ((comparison a b).pairs ≤ length a) × ((comparison a b).pairs ≤ length b)
at_most_all a b = go (eqb (length a) (length b)) refl
  where
    go : (t : Bool) → eqb (length a) (length b) ≡ t → ((comparison a b).pairs ≤ length a) × ((comparison a b).pairs ≤ length b)
    go true e =
        let l : length a ≡ length b = eqb-true (length a) (length b) e in
        let m : pairs_read (reverse a) (reverse b) ≤ length a = rw (length-reverse a) at (read_most (reverse a) (reverse b)) in
        rw (read_from_the_right a b l) (m, omega (arith, m, l))
    go false e = rw (unequal_lengths a b (eqb-false (length a) (length b) e)) (omega arith, omega arith)

-- Fewer are read only where the texts differ.
pub fewer_differ : (a b : List ℕ) → (comparison a b).pairs < length a → same_text a b ≡ false
fewer_differ a b h = go (same_text a b) refl
  where
    go : (t : Bool) → same_text a b ≡ t → t ≡ false
    go true e = absurd (let p : (comparison a b).pairs ≡ length a = ap (λ (c : Comparison). c.pairs) (all_pairs a b e) in omega (arith, h, p))
    go false e = refl

-- `compare_pairs`: `unread` bytes of each text are not read yet; r is what `is_same_letter` gave of the last pair of them
module _ (a b : List ℕ) (l : length a ≡ length b) where
  pub unread_all : same_text (drop (length a) a) (drop (length a) b) ≡ true
  unfolding agree
  unread_all =
      let m : length a ≤ length a = omega arith in
      let n : length b ≤ length a = omega arith in
      rw (drop_of_length-le a m, drop_of_length-le b n)

  module _ (unread : ℕ) (inv : same_text (drop unread a) (drop unread b) ≡ true) where
    pub unread_none : unread ≤ 0 → record { equal = true; pairs = length a } ≡ comparison a b
    unread_none h = let z : unread ≡ 0 = omega arith in sym (all_pairs a b (rw z at inv))

    -- the count, raised with each pair that is read
    pub counted_none : unread ≤ 0 → (k : ℕ) → k + unread ≡ length a → record { equal = true; pairs = k } ≡ comparison a b
    counted_none h k e = let n : k ≡ length a = omega arith in rw n (unread_none h)

    module _ (h : 0 < unread) (w : unread ≤ length a) (r : Bool) (gave : r ≡ same_letter (get_or a (unread - 1) 0) (get_or b (unread - 1) 0)) where
      back : (unread - 1) + 1 ≡ unread
      back = omega arith

      pub unread_same : r ≡ true → same_text (drop (unread - 1) a) (drop (unread - 1) b) ≡ true
      unfolding agree
      unread_same t = rw (drop_next a (unread - 1) (omega arith), drop_next b (unread - 1) (omega arith), sym gave ∙ t, back) inv

      pub unread_differ : r ≡ false → record { equal = false; pairs = length a - (unread - 1) } ≡ comparison a b
      unread_differ f = sym (to_the_difference a b (record { one_length = l; place = unread - 1; inside = omega arith; differs = sym gave ∙ f; same_after = rw back inv }))

      pub counted_differ : r ≡ false → (k : ℕ) → k + (unread - 1) ≡ length a → record { equal = false; pairs = k } ≡ comparison a b
      counted_differ f k e = let n : k ≡ length a - (unread - 1) = omega arith in rw n (unread_differ f)

pub ruleset pairs_laws = (unread_all, counted_none, unread_same, counted_differ, not-true, not-false, rules)

-- `compare`
pub lengths_differ : (a b : List ℕ) → (length a ≡ length b → ⊥) → record { equal = false; pairs = 0 } ≡ comparison a b
lengths_differ a b h = sym (unequal_lengths a b h)

pub says_same : (a b : List ℕ) (r : Comparison) → r ≡ comparison a b → r.equal ≡ same_text a b
says_same a b r e = ap (λ (c : Comparison). c.equal) e ∙ equal_is_same a b

pub other_text : (a b : List ℕ) → (length a ≡ length b → ⊥) → false ≡ same_text a b
other_text a b h = agree_length same_letter a b h

pub ruleset compare_laws = (lengths_differ, says_same, other_text, not-true, not-false, rules)
