-- What a store puts into a table its domain finds there, under any spelling, in whatever table: also where several entries are for one domain, since no entry before the place is. Assumes nothing.
use Prim.Native.Nat.{ℕ, ◌<◌, ◌≤◌}
use mathlib.Core.Path.{◌≡◌, refl, sym, ap, ◌∙◌}
use mathlib.Core.Bool.{Bool, true, false}
use mathlib.Core.List.{List}
use mathlib.Core.Option.{Option, none, some}
use native.Mathlib.Omega.{arith}
use lib.Dec.{eqb}
use lib.ListN.{length, get_or, set, length-set}
use lib.Seq.{get_or-set_same, get_or-set_other}
use borrow.Author.Tests.{eqb-true, eqb-false, lt-ltb}
use Rattle.lists.specs.Equal.{same_text}
use Rattle.lists.proofs.Place.{first_passes, first_least}
use Rattle.cache.specs.Held.{Held}
use Rattle.cache.specs.Store.{is_own, else_place, own_place, store_place}
use Rattle.cache.specs.Lookup.{if_live, live_for}
use Rattle.cache.proofs.Single.{own_like}

module _ (c : List (Option Held)) (clock : ℕ) (d : List ℕ) where
  -- where the domain has an own entry, the first of them is the place
  pub place_own : own_place d c < length c → store_place clock d c ≡ own_place d c
  unfolding store_place else_place
  place_own h = rw (lt-ltb (own_place d c) (length c) h)

  module _ (h : Held) (for_d : h.domain ≡ d) (l : store_place clock d c < length c) (e : List ℕ) (s : same_text d e ≡ true) where
    abbrev k : ℕ
    k = store_place clock d c

    abbrev put : List (Option Held)
    put = set c k (some h)

    own_there : is_own e (get_or put k none) ≡ true
    unfolding is_own
    own_there = ap (is_own e) (get_or-set_same c k (some h) none l) ∙ (ap (λ (t : List ℕ). same_text t e) for_d ∙ s)

    none_below : (j : ℕ) → j < k → is_own e (get_or c j none) ≡ true → ⊥
    none_below j w o =
        let f : own_place d c ≤ j = first_least (is_own d) none c j (omega (arith, w, l)) (own_like d e s (get_or c j none) ∙ o) in
        let q : k ≡ own_place d c = place_own (omega (arith, f, w, l)) in
        omega (arith, f, w, q)

    first_is : own_place e put ≡ k
    first_is = go (eqb (own_place e put) k) refl
      where
        inside : k < length put
        inside = omega (arith, l, length-set c k (some h))

        most : own_place e put ≤ k
        most = first_least (is_own e) none put k inside own_there

        go : (b : Bool) → eqb (own_place e put) k ≡ b → own_place e put ≡ k
        go true g = eqb-true (own_place e put) k g
        go false g =
            let n : (own_place e put ≡ k → ⊥) = eqb-false (own_place e put) k g in
            let w : own_place e put < k = omega (arith, most, n) in
            let o : is_own e (get_or put (own_place e put) none) ≡ true = first_passes (is_own e) none put (omega (arith, w, inside)) in
            absurd (none_below (own_place e put) w (sym (ap (is_own e) (get_or-set_other c k (own_place e put) (some h) none n)) ∙ o))

    pub found_again : (later : ℕ) → live_for later e put ≡ if_live later (some h)
    unfolding live_for
    found_again later = ap (if_live later) (ap (λ (i : ℕ). get_or put i none) first_is ∙ get_or-set_same c k (some h) none l)
