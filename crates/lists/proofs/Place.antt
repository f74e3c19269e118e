-- Laws of the first place that passes a test. Assumes nothing.
use Prim.Native.Nat.{ℕ, zero, suc, ◌<◌, ◌≤◌}
use mathlib.Core.Path.{◌≡◌, refl, ◌∙◌}
use mathlib.Core.Bool.{Bool, true, false, cond, not, ◌&&◌, ◌||◌}
use mathlib.Core.List.{List, [], ◌∷◌}
use native.Mathlib.Omega.{arith}
use lib.Dec.{ltb}
use lib.ListN.{length, get_or, set}
use borrow.Author.Tests.{lt-ltb}
use Rattle.lists.specs.Bytes.{all, any}
use Rattle.lists.specs.Place.{first_place}
use Rattle.lists.proofs.Bools.{and_left, and_right}
use Rattle.lists.proofs.Laws.{ltb_suc}

module _ {A : Type 0} (p : A → Bool) where
  -- a first place is no further than the list's end
  pub first_most : (xs : List A) → first_place p xs ≤ length xs
  unfolding first_place
  first_most [] = omega arith
  first_most (x ∷ xs) = go (p x) (first_most xs)
    where
      go : (t : Bool) → first_place p xs ≤ length xs → cond t 0 (suc (first_place p xs)) ≤ suc (length xs)
      go true ih = omega arith
      go false ih = omega arith

  -- what stands there passes the test
  pub first_passes : (z : A) (xs : List A) → first_place p xs < length xs → p (get_or xs (first_place p xs) z) ≡ true
  unfolding first_place
  first_passes z [] h = absurd (omega arith)
  first_passes z (x ∷ xs) h = go (p x) refl (first_passes z xs) h
    where
      go : (t : Bool) → p x ≡ t → (first_place p xs < length xs → p (get_or xs (first_place p xs) z) ≡ true) → cond t 0 (suc (first_place p xs)) < suc (length xs) → p (get_or (x ∷ xs) (cond t 0 (suc (first_place p xs))) z) ≡ true
      go true e ih l = e
      go false e ih l = ih (omega arith)

  -- and nothing before it does
  pub first_least : (z : A) (xs : List A) (i : ℕ) → i < length xs → p (get_or xs i z) ≡ true → first_place p xs ≤ i
  unfolding first_place
  first_least z [] i h e = absurd (omega arith)
  first_least z (x ∷ xs) zero h e = rw e (omega arith)
  first_least z (x ∷ xs) (suc i) h e = go (p x) (first_least z xs i (omega arith) e)
    where
      go : (t : Bool) → first_place p xs ≤ i → cond t 0 (suc (first_place p xs)) ≤ suc i
      go true ih = omega arith
      go false ih = omega arith

  -- an element that passes the test where the one before it did, and fails where it failed, moves no first place
  pub first_set : (z : A) (xs : List A) (k : ℕ) (a : A) → p a ≡ p (get_or xs k z) → first_place p (set xs k a) ≡ first_place p xs
  unfolding first_place
  first_set z [] k a e = refl
  first_set z (x ∷ xs) zero a e = rw e
  first_set z (x ∷ xs) (suc k) a e = rw (first_set z xs k a e)

-- two tests that say the same have the same first place
pub first_like : {A : Type 0} (p q : A → Bool) → ((x : A) → p x ≡ q x) → (xs : List A) → first_place p xs ≡ first_place q xs
unfolding first_place
first_like p q f [] = refl
first_like p q f (x ∷ xs) = rw (f x, first_like p q f xs)

-- so have two that say the same of every element of which a third holds
pub first_agree : {A : Type 0} (t p q : A → Bool) → ((x : A) → t x ≡ true → p x ≡ q x) → (xs : List A) → all t xs ≡ true → first_place p xs ≡ first_place q xs
unfolding first_place all
first_agree t p q f [] h = refl
first_agree t p q f (x ∷ xs) h = rw (f x (and_left (t x) (all t xs) h), first_agree t p q f xs (and_right (t x) (all t xs) h))

-- without a first place no element passes
pub first_none : {A : Type 0} (p : A → Bool) (xs : List A) → length xs ≤ first_place p xs → all (λ (x : A). not (p x)) xs ≡ true
unfolding first_place all
first_none p [] h = refl
first_none p (x ∷ xs) h = go (first_none p xs) (p x) h
  where
    go : (length xs ≤ first_place p xs → all (λ (y : _). not (p y)) xs ≡ true) → (t : Bool) → suc (length xs) ≤ cond t 0 (suc (first_place p xs)) → (not t && all (λ (y : _). not (p y)) xs) ≡ true
    go ih true l = absurd (omega arith)
    go ih false l = ih (omega arith)

-- there is a first place exactly where some element passes
pub first_any : {A : Type 0} (p : A → Bool) (xs : List A) → ltb (first_place p xs) (length xs) ≡ any p xs
unfolding first_place any
first_any p [] = refl
first_any p (x ∷ xs) = go (first_any p xs) (p x)
  where
    go : ltb (first_place p xs) (length xs) ≡ any p xs → (t : Bool) → ltb (cond t 0 (suc (first_place p xs))) (suc (length xs)) ≡ (t || any p xs)
    go ih true = lt-ltb 0 (suc (length xs)) (omega arith)
    go ih false = ltb_suc (first_place p xs) (length xs) ∙ ih
