-- Laws of `any`: a test of some element of a list. Assumes nothing.
use mathlib.Core.Path.{◌≡◌, refl}
use mathlib.Core.Bool.{Bool, true, false}
use mathlib.Core.List.{List, [], ◌∷◌, ◌++◌}
use Rattle.lists.specs.Bytes.{all, any}
use Rattle.lists.proofs.Bools.{and_left, and_right, or_left, or_right, or_elim, or_swap, neither_left, neither_right}

module _ {A : Type 0} where
  -- a test that no element passes
  pub any_none : (p : A → Bool) → ((x : A) → p x ≡ false) → (xs : List A) → any p xs ≡ false
  unfolding any
  any_none p h [] = refl
  any_none p h (x ∷ xs) = rw (h x) (any_none p h xs)

  -- a test that holds, or fails, wherever another does
  pub any_more : (p q : A → Bool) → ((x : A) → p x ≡ true → q x ≡ true) → (xs : List A) → any p xs ≡ true → any q xs ≡ true
  unfolding any
  any_more p q f [] h = h
  any_more p q f (x ∷ xs) h = or_elim (p x) (any p xs) (λ e. or_left (q x) (any q xs) (f x e)) (λ e. or_right (q x) (any q xs) (any_more p q f xs e)) h

  pub any_fails : (p q : A → Bool) → ((x : A) → p x ≡ false → q x ≡ false) → (xs : List A) → any p xs ≡ false → any q xs ≡ false
  unfolding any
  any_fails p q f [] h = refl
  any_fails p q f (x ∷ xs) h = rw (f x (neither_left (p x) (any p xs) h)) (any_fails p q f xs (neither_right (p x) (any p xs) h))

  -- two tests that agree on every element of which a third holds
  pub any_agree : (t p q : A → Bool) → ((x : A) → t x ≡ true → p x ≡ q x) → (xs : List A) → all t xs ≡ true → any p xs ≡ any q xs
  unfolding all any
  any_agree t p q f [] h = refl
  any_agree t p q f (x ∷ xs) h = rw (f x (and_left (t x) (all t xs) h), any_agree t p q f xs (and_right (t x) (all t xs) h))

  -- two elements that stand side by side may be exchanged
  pub any_swap : (p : A → Bool) (xs : List A) (a b : A) (ys : List A) → any p (xs ++ (a ∷ b ∷ ys)) ≡ any p (xs ++ (b ∷ a ∷ ys))
  unfolding any
  any_swap p [] a b ys = or_swap (p a) (p b) (any p ys)
  any_swap p (x ∷ xs) a b ys = rw (any_swap p xs a b ys)
