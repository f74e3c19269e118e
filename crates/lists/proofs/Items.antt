-- A `for` over an iterator whose `next_gives` is `YieldsFirst rest` or one of its kin, and its methods `any` and `all`: a test of some element, or of
-- every element, of the list that is left. Assumes nothing.
use Rattle.std.proofs.Common.{◌≡◌, Bool, true, false, List, [], ◌∷◌, Option, ◌∙◌, refl}
use Rattle.std.specs.List.{list_any, list_all, FoldsTo}
use Rattle.std.specs.Fn.{Called}
use Rattle.std.specs.Option.{MatchOption}
use Rattle.std.specs.Iterator.{YieldsFirstBy, YieldsThen}
use Rattle.std.proofs.lemmas.Iterator.Consumers.{YieldsList-from_first}
use Rattle.std.proofs.lemmas.Iterator.Search.{any_from_yields_List, all_from_yields_List}
use denote.Param.Members.{Mut}
use Rattle.lists.specs.Bytes.{all, any}

module _ {A : Type 0} (p : A → Bool) where
  -- a turn at x, which leaves ys of xs, and the end
  module _ (xs ys : List A) (x : A) (e : xs ≡ x ∷ ys) where
    pub any_item_next : p x ≡ false → any p xs ≡ any p ys
    unfolding any
    any_item_next h = rw (e, h)

    pub any_item_hit : p x ≡ true → any p xs ≡ true
    unfolding any
    any_item_hit h = rw (e, h)

    pub all_items_next : p x ≡ true → all p xs ≡ all p ys
    unfolding all
    all_items_next h = rw (e, h)

    pub all_items_fail : p x ≡ false → all p xs ≡ false
    unfolding all
    all_items_fail h = rw (e, h)

  pub any_item_none : (xs : List A) → xs ≡ [] → any p xs ≡ false
  unfolding any
  any_item_none xs e = rw e

  pub all_items_end : (xs : List A) → xs ≡ [] → all p xs ≡ true
  unfolding all
  all_items_end xs e = rw e

  -- std's words for the two
  pub any_is : (xs : List A) → list_any p xs ≡ any p xs
  unfolding any
  any_is [] = refl
  any_is (x ∷ xs) = rw (any_is xs)

  pub all_is : (xs : List A) → list_all p xs ≡ all p xs
  unfolding all
  all_is [] = refl
  all_is (x ∷ xs) = rw (all_is xs)

pub ruleset any_items = (any_item_next, any_item_hit, any_item_none)

pub ruleset all_items = (all_items_next, all_items_fail, all_items_end)

-- `any` and `all` of such an iterator, with a closure that computes the test
module _ {S A B F : Type 0} {v : A → B} {rest : S → List B} {g : Mut F (A × Unit {0}) Bool} {s : S} (test : B → Bool) (u : S) (f : F) (r : Bool) where
  pub any_by_closure : (xs : List A) × (o : Option A) × (j : F) × YieldsThen (YieldsFirstBy v rest) s xs o u × FoldsTo (λ p x q. Called g p (x, tt) false q) f xs j × MatchOption o (r ≡ false) (λ x. (r ≡ true) × ((h : F) × Called g j (x, tt) true h))
      → ((x : A) (b : Bool) (q : F) → Called g f (x, tt) b q → (q ≡ f) × (b ≡ test (v x))) → r ≡ any test (rest s)
  any_by_closure d k = any_from_yields_List test u f r d (YieldsList-from_first v rest {s = s} (rest s) refl) k ∙ any_is test (rest s)

  pub all_by_closure : (xs : List A) × (o : Option A) × (j : F) × YieldsThen (YieldsFirstBy v rest) s xs o u × FoldsTo (λ p x q. Called g p (x, tt) true q) f xs j × MatchOption o (r ≡ true) (λ x. (r ≡ false) × ((h : F) × Called g j (x, tt) false h))
      → ((x : A) (b : Bool) (q : F) → Called g f (x, tt) b q → (q ≡ f) × (b ≡ test (v x))) → r ≡ all test (rest s)
  all_by_closure d k = all_from_yields_List test u f r d (YieldsList-from_first v rest {s = s} (rest s) refl) k ∙ all_is test (rest s)
