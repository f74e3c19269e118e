-- The first element of a list that passes a test. Assumes nothing.
use mathlib.Core.Path.{◌≡◌, refl}
use mathlib.Core.Bool.{Bool, true, false, cond, ◌||◌}
use mathlib.Core.List.{List, [], ◌∷◌}
use Rattle.lists.specs.Bytes.{all, any}
use Rattle.lists.proofs.Bools.{apart, and_left, and_right, or_left, or_right}

module _ {A : Type 0} where
  -- the first element that passes, or d
  abbrev pub pick : (A → Bool) → A → List A → A
  pick u d [] = d
  pick u d (x ∷ xs) = cond (u x) x (pick u d xs)

  -- where one passes u, and the first that does has p, one has p
  pub pick_any : (u p : A → Bool) (d : A) (l : List A) → any u l ≡ true → p (pick u d l) ≡ true → any p l ≡ true
  unfolding any
  pick_any u p d [] h t = apart h
  pick_any u p d (x ∷ xs) h t = go (u x) h t (pick_any u p d xs)
    where
      go : (b : Bool) → (b || any u xs) ≡ true → p (cond b x (pick u d xs)) ≡ true → (any u xs ≡ true → p (pick u d xs) ≡ true → any p xs ≡ true) → (p x || any p xs) ≡ true
      go true h t ih = or_left (p x) (any p xs) t
      go false h t ih = or_right (p x) (any p xs) (ih h t)

  pub pick_passes : (u : A → Bool) (d : A) (l : List A) → any u l ≡ true → u (pick u d l) ≡ true
  unfolding any
  pick_passes u d [] h = apart h
  pick_passes u d (x ∷ xs) h = go (u x) refl h (pick_passes u d xs)
    where
      go : (b : Bool) → u x ≡ b → (b || any u xs) ≡ true → (any u xs ≡ true → u (pick u d xs) ≡ true) → u (cond b x (pick u d xs)) ≡ true
      go true e h ih = e
      go false e h ih = ih h

  pub pick_all : (u p : A → Bool) (d : A) (l : List A) → p d ≡ true → all p l ≡ true → p (pick u d l) ≡ true
  unfolding all
  pick_all u p d [] h t = h
  pick_all u p d (x ∷ xs) h t = go (u x) (pick_all u p d xs h (and_right (p x) (all p xs) t))
    where
      go : (b : Bool) → p (pick u d xs) ≡ true → p (cond b x (pick u d xs)) ≡ true
      go true ih = and_left (p x) (all p xs) t
      go false ih = ih
