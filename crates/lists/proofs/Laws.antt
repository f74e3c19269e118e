-- Laws of parts of a list by place, of tests on numbers, and of bounds. Assumes nothing.
use Prim.Native.Nat.{ℕ, zero, suc, ◌+◌, ◌-◌, ◌<◌, ◌≤◌}
use mathlib.Core.Path.{◌≡◌, refl, sym, ◌∙◌}
use mathlib.Core.Bool.{Bool, true, false}
use mathlib.Core.List.{List, [], ◌∷◌}
use mathlib.Core.Logic.{◌⊎◌, inl, inr, ⊎_elim}
use native.Mathlib.Nat.{eq-or-lt_of_le}
use native.Mathlib.Numerals.{add-one}
use native.Mathlib.Omega.{arith}
use borrow.Author.Tests.{lt-leb, le-leb, lt-ltb, le-ltb, eq-eqb, ne_eqb, leb-true, leb-false, ltb-true}
use lib.Dec.{T, leb, ltb, leb→le, ltb→lt}
use lib.ListN.{length, get_or, take, drop, length-drop}
use lib.Seq.{drop-cons, take_all, take-nil, length-take-le}
use Rattle.lists.specs.Bytes.{within}
use Rattle.lists.proofs.Bools.{and_left, and_right}

-- the value of a test from the fact in reach: `search tests`
pub ruleset tests = (lt-leb, le-leb, lt-ltb, le-ltb, eq-eqb, ne_eqb)

-- what is left of s at i begins with the byte at i
pub drop_next : (s : List ℕ) (i : ℕ) → i < length s → drop i s ≡ get_or s i 0 ∷ drop (i + 1) s
drop_next s i h = rw (add-one, drop-cons s i 0)

-- `&s[a..]` is what is left of s at a
pub take_rest : (s : List ℕ) (a : ℕ) → take (length s - a) (drop a s) ≡ drop a s
take_rest s a = take_all (length s - a) (drop a s) (omega (arith, length-drop a s))

-- a part inside a list has the length that is asked for
pub part_length : (s : List ℕ) (a n : ℕ) → a + n ≤ length s → length (take n (drop a s)) ≡ n
part_length s a n h = length-take-le n (drop a s) (omega (arith, length-drop a s))

-- what is left of the front of a list is the front of what is left
pub drop_take : (n m : ℕ) (u : List ℕ) → drop n (take m u) ≡ take (m - n) (drop n u)
drop_take zero m u = let k : m - 0 ≡ m = omega arith in rw k
drop_take (suc n) zero u = let k : 0 - suc n ≡ 0 = omega arith in rw k
drop_take (suc n) (suc m) [] = sym (take-nil (suc m - suc n))
drop_take (suc n) (suc m) (x ∷ u) = let k : suc m - suc n ≡ m - n = omega arith in rw k (drop_take n m u)

-- tests on numbers that hold in the same cases
pub leb_same : (a b x y : ℕ) → (a ≤ b → x ≤ y) → (x ≤ y → a ≤ b) → leb a b ≡ leb x y
leb_same a b x y f g = go (leb a b) (leb x y) refl refl
  where
    go : (t u : Bool) → leb a b ≡ t → leb x y ≡ u → t ≡ u
    go true u e d = sym (le-leb x y (f (leb-true a b e))) ∙ d
    go false true e d = sym e ∙ le-leb a b (g (leb-true x y d))
    go false false e d = refl

pub ltb_same : (a b x y : ℕ) → (a < b → x < y) → (x < y → a < b) → ltb a b ≡ ltb x y
ltb_same a b x y f g = go (ltb a b) (ltb x y) refl refl
  where
    go : (t u : Bool) → ltb a b ≡ t → ltb x y ≡ u → t ≡ u
    go true u e d = sym (lt-ltb x y (f (ltb-true a b e))) ∙ d
    go false true e d = sym e ∙ lt-ltb a b (g (ltb-true x y d))
    go false false e d = refl

pub leb_suc : (a b : ℕ) → leb (suc a) (suc b) ≡ leb a b
leb_suc a b = leb_same (suc a) (suc b) a b (λ h. omega arith) (λ h. omega arith)

pub ltb_suc : (a b : ℕ) → ltb (suc a) (suc b) ≡ ltb a b
ltb_suc a b = ltb_same (suc a) (suc b) a b (λ h. omega arith) (λ h. omega arith)

-- a place inside what is left of a list is inside the list
pub ltb_drop : (s : List ℕ) (at i : ℕ) → ltb (at + i) (length s) ≡ ltb i (length (drop at s))
ltb_drop s at i = ltb_same (at + i) (length s) i (length (drop at s)) (λ h. omega (arith, length-drop at s)) (λ h. omega (arith, length-drop at s))

-- a byte between two bounds
pub within_true : (lo hi b : ℕ) → within lo hi b ≡ true → (lo ≤ b) × (b ≤ hi)
within_true lo hi b h = (leb-true lo b (and_left (leb lo b) (leb b hi) h), leb-true b hi (and_right (leb lo b) (leb b hi) h))

-- a number is above or below another that it is not
pub above_or_below : (a k : ℕ) → (a ≡ k → ⊥) → (k < a) ⊎ (a < k)
above_or_below a k n = go (leb a k) refl
  where
    go : (u : Bool) → leb a k ≡ u → (k < a) ⊎ (a < k)
    go true f =
        let h : a ≤ k = leb-true a k f in
        inr (⊎_elim (λ (z : a ≡ k). absurd (n z)) (λ (z : a < k). z) (eq-or-lt_of_le h))
    go false f = inl (leb-false a k f)

-- bounds by literals: a bound in reach, and a comparison of two literals that computes
pub below_more : (b k m : ℕ) → b < k → T (leb k m) → b < m
below_more b k m h t = omega (arith, leb→le k m t)

pub at_most_more : (b k m : ℕ) → b ≤ k → T (leb k m) → b ≤ m
at_most_more b k m h t = omega (arith, leb→le k m t)

pub at_most_below : (b k m : ℕ) → b ≤ k → T (ltb k m) → b < m
at_most_below b k m h t = omega (arith, ltb→lt k m t)

pub above_more : (b k m : ℕ) → k < b → T (leb m k) → m < b
above_more b k m h t = omega (arith, leb→le m k t)

pub at_least_more : (b k m : ℕ) → k ≤ b → T (leb m k) → m ≤ b
at_least_more b k m h t = omega (arith, leb→le m k t)

pub at_least_above : (b k m : ℕ) → k ≤ b → T (ltb m k) → m < b
at_least_above b k m h t = omega (arith, ltb→lt m k t)

pub equal_at_most : (b k m : ℕ) → b ≡ k → T (leb k m) → b ≤ m
equal_at_most b k m h t = omega (arith, leb→le k m t)

pub equal_at_least : (b k m : ℕ) → b ≡ k → T (leb m k) → m ≤ b
equal_at_least b k m h t = omega (arith, leb→le m k t)

pub equal_below : (b k m : ℕ) → b ≡ k → T (ltb k m) → b < m
equal_below b k m h t = omega (arith, ltb→lt k m t)

pub equal_above : (b k m : ℕ) → b ≡ k → T (ltb m k) → m < b
equal_above b k m h t = omega (arith, ltb→lt m k t)

pub below_at_most : (b k m : ℕ) → b < k → T (leb k (suc m)) → b ≤ m
below_at_most b k m h t = omega (arith, leb→le k (suc m) t)

pub above_at_least : (b k m : ℕ) → k < b → T (leb m (suc k)) → m ≤ b
above_at_least b k m h t = omega (arith, leb→le m (suc k) t)

pub ruleset bounds = (tests, tt, below_at_most, above_at_least, below_more, at_most_more, at_most_below, above_more, at_least_more, at_least_above, equal_at_most, equal_at_least, equal_below, equal_above)
