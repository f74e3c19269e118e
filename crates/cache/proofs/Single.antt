-- No two entries are for one domain: a store keeps it so, and where it is so, a store for one domain changes no other domain's lookup. Over what a table holds. Assumes nothing.
use Prim.Native.Nat.{ℕ, ◌<◌, ◌≤◌}
use mathlib.Core.Path.{◌≡◌, refl, sym, ap, ◌∙◌}
use mathlib.Core.Bool.{Bool, true, false, cond}
use mathlib.Core.List.{List}
use mathlib.Core.Logic.{◌⊎◌, inl, inr, ⊎_elim}
use mathlib.Core.Option.{Option, none, some}
use native.Mathlib.Omega.{arith}
use lib.Dec.{eqb, ltb}
use lib.ListN.{length, get_or, set, get_or-eq_default}
use lib.Seq.{get_or-set_same, get_or-set_other}
use borrow.Author.Tests.{eqb-true, eqb-false, ltb-true, ltb-false, not-true}
use Rattle.lists.specs.Equal.{same_text}
use Rattle.lists.specs.Place.{first_place}
use Rattle.lists.proofs.Bools.{apart}
use Rattle.lists.proofs.Agree.{text_like, text_alike}
use Rattle.lists.proofs.Place.{first_passes, first_least, first_set}
use Rattle.clock.specs.Clock.{is_live}
use Rattle.clock.proofs.Laws.{stale_stays}
use Rattle.policies.specs.Policy.{policy_answer}
use Rattle.cache.specs.Held.{Held}
use Rattle.cache.specs.Store.{is_live_at, is_own, is_empty, is_stale, else_place, own_place, store_place}
use Rattle.cache.specs.Lookup.{if_live, live_for, found_at}

-- no two entries are for one domain
abbrev pub Single : List (Option Held) → Type 0
Single c = (d : List ℕ) (i j : ℕ) → is_own d (get_or c i none) ≡ true → is_own d (get_or c j none) ≡ true → i ≡ j

-- an entry that counts as empty is nobody's
pub empty_not_own : (d : List ℕ) (o : Option Held) → is_empty o ≡ true → is_own d o ≡ true → ⊥
unfolding is_empty is_own
empty_not_own d none e h = apart h
empty_not_own d (some k) e h = apart e

-- an entry that is a domain's own is the own one of each spelling of it, and of no other domain
pub own_like : (d e : List ℕ) → same_text d e ≡ true → (o : Option Held) → is_own d o ≡ is_own e o
unfolding is_own
own_like d e s none = refl
own_like d e s (some h) = text_like h.domain d e s

own_alike : (d e : List ℕ) (o : Option Held) → is_own d o ≡ true → is_own e o ≡ true → same_text d e ≡ true
unfolding is_own
own_alike d e none h k = apart h
own_alike d e (some o) h k = sym (text_alike o.domain d e h) ∙ k

-- what is stale stays so
stale_later : (clock later : ℕ) (o : Option Held) → is_stale clock o ≡ true → clock ≤ later → if_live later o ≡ none
unfolding is_stale is_live_at if_live
stale_later clock later none s l = refl
stale_later clock later (some h) s l =
    rw (stale_stays h.fetched (policy_answer h.text).lifetime clock later (not-true (is_live h.fetched (policy_answer h.text).lifetime clock) s) l)

module _ (c : List (Option Held)) where
  -- what is somebody's stands inside the table
  pub own_inside : (d : List ℕ) (i : ℕ) → is_own d (get_or c i none) ≡ true → i < length c
  unfolding is_own
  own_inside d i h = go (ltb i (length c)) refl
    where
      go : (t : Bool) → ltb i (length c) ≡ t → i < length c
      go true e = ltb-true i (length c) e
      go false e = apart (rw (get_or-eq_default c none (ltb-false i (length c) e)) at h)

  -- a domain without an own entry has none anywhere, and finds nothing
  pub none_own : (d : List ℕ) → length c ≤ own_place d c → (i : ℕ) → is_own d (get_or c i none) ≡ true → ⊥
  none_own d n i h =
      let l : i < length c = own_inside d i h in
      let k : own_place d c ≤ i = first_least (is_own d) none c i l h in
      omega arith

  nothing_there : (d : List ℕ) → length c ≤ own_place d c → get_or c (own_place d c) none ≡ none
  nothing_there d n = get_or-eq_default c none n

  -- the one entry of a domain is the first
  own_place_is : Single c → (d : List ℕ) (k : ℕ) → is_own d (get_or c k none) ≡ true → own_place d c ≡ k
  own_place_is single d k h =
      let l : k < length c = own_inside d k h in
      let m : own_place d c ≤ k = first_least (is_own d) none c k l h in
      single d (own_place d c) k (first_passes (is_own d) none c (omega arith)) h

  -- the place for a store: the domain's own entry; or the domain has none, and the place's entry is empty or stale
  module _ (clock : ℕ) (d : List ℕ) where
    abbrev Free : ℕ → Type 0
    Free k = (length c ≤ own_place d c) × ((is_empty (get_or c k none) ≡ true) ⊎ (is_stale clock (get_or c k none) ≡ true))

    pub place_is : store_place clock d c < length c → (is_own d (get_or c (store_place clock d c) none) ≡ true) ⊎ Free (store_place clock d c)
    unfolding store_place else_place
    place_is = go (ltb (own_place d c) (length c)) refl (ltb (first_place is_empty c) (length c)) refl
      where
        go : (t : Bool) → ltb (own_place d c) (length c) ≡ t → (u : Bool) → ltb (first_place is_empty c) (length c) ≡ u
            → cond t (own_place d c) (cond u (first_place is_empty c) (first_place (is_stale clock) c)) < length c
            → (is_own d (get_or c (cond t (own_place d c) (cond u (first_place is_empty c) (first_place (is_stale clock) c))) none) ≡ true) ⊎ Free (cond t (own_place d c) (cond u (first_place is_empty c) (first_place (is_stale clock) c)))
        go true e u f h = inl (first_passes (is_own d) none c h)
        go false e true f h = inr (ltb-false (own_place d c) (length c) e, inl (first_passes is_empty none c h))
        go false e false f h = inr (ltb-false (own_place d c) (length c) e, inr (first_passes (is_stale clock) none c h))

    -- another domain's entry is taken only when it is stale
    taken_stale : (e : List ℕ) → same_text d e ≡ false → store_place clock d c < length c → is_own e (get_or c (store_place clock d c) none) ≡ true → is_stale clock (get_or c (store_place clock d c) none) ≡ true
    taken_stale e other l h =
        ⊎_elim
        (λ (o : is_own d (get_or c (store_place clock d c) none) ≡ true). apart (sym other ∙ own_alike d e (get_or c (store_place clock d c) none) o h))
        (λ (f : Free (store_place clock d c)). ⊎_elim
        (λ (y : is_empty (get_or c (store_place clock d c) none) ≡ true). absurd (empty_not_own e (get_or c (store_place clock d c) none) y h))
        (λ (s : is_stale clock (get_or c (store_place clock d c) none) ≡ true). s)
        f.1)
        (place_is l)

    -- a domain's own entry, where it has one, is the place
    own_taken : Single c → store_place clock d c < length c → (j : ℕ) → is_own d (get_or c j none) ≡ true → j ≡ store_place clock d c
    own_taken single l j h =
        ⊎_elim
        (λ (o : is_own d (get_or c (store_place clock d c) none) ≡ true). single d j (store_place clock d c) h o)
        (λ (f : Free (store_place clock d c)). absurd (none_own d f.0 j h))
        (place_is l)

-- a store for the domain d puts what h says in its place
module _ (c : List (Option Held)) (single : Single c) (clock : ℕ) (d : List ℕ) (h : Held) (for_d : h.domain ≡ d) (l : store_place clock d c < length c) where
  abbrev k : ℕ
  k = store_place clock d c

  abbrev put : List (Option Held)
  put = set c k (some h)

  put_there : get_or put k none ≡ some h
  put_there = get_or-set_same c k (some h) none l

  put_elsewhere : (j : ℕ) → (j ≡ k → ⊥) → get_or put j none ≡ get_or c j none
  put_elsewhere j n = get_or-set_other c k j (some h) none n

  own_there : (e : List ℕ) → is_own e (get_or put k none) ≡ same_text d e
  unfolding is_own
  own_there e = ap (is_own e) put_there ∙ ap (λ (s : List ℕ). same_text s e) for_d

  -- an entry elsewhere is not this domain's
  not_elsewhere : (e : List ℕ) (j : ℕ) → same_text d e ≡ true → (j ≡ k → ⊥) → is_own e (get_or put j none) ≡ true → ⊥
  not_elsewhere e j s n o =
      n (own_taken c clock d single l j (own_like d e s (get_or c j none) ∙ (sym (ap (is_own e) (put_elsewhere j n)) ∙ o)))

  -- still no two entries are for one domain
  pub single_put : Single put
  single_put e i j a b = go (eqb i k) refl (eqb j k) refl
    where
      go : (t : Bool) → eqb i k ≡ t → (u : Bool) → eqb j k ≡ u → i ≡ j
      go true p true q = eqb-true i k p ∙ sym (eqb-true j k q)
      go true p false q =
          let s : same_text d e ≡ true = sym (own_there e) ∙ (rw (eqb-true i k p) at a) in
          absurd (not_elsewhere e j s (eqb-false j k q) b)
      go false p true q =
          let s : same_text d e ≡ true = sym (own_there e) ∙ (rw (eqb-true j k q) at b) in
          absurd (not_elsewhere e i s (eqb-false i k p) a)
      go false p false q =
          single e i j
          (sym (ap (is_own e) (put_elsewhere i (eqb-false i k p))) ∙ a)
          (sym (ap (is_own e) (put_elsewhere j (eqb-false j k q))) ∙ b)

  -- another domain finds what it found, in the same place; or it found nothing and finds nothing
  abbrev Unmoved : List ℕ → Type 0
  Unmoved e = (own_place e put ≡ own_place e c) × (get_or put (own_place e put) none ≡ get_or c (own_place e c) none)

  module _ (e : List ℕ) (other : same_text d e ≡ false) where
    lost : is_own e (get_or c k none) ≡ true → length put ≤ own_place e put
    lost o = go (ltb (own_place e put) (length put)) refl
      where
        go : (t : Bool) → ltb (own_place e put) (length put) ≡ t → length put ≤ own_place e put
        go false f = ltb-false (own_place e put) (length put) f
        go true f =
            let q : is_own e (get_or put (own_place e put) none) ≡ true = first_passes (is_own e) none put (ltb-true (own_place e put) (length put) f) in
            absurd (no_other q)
          where
            no_other : is_own e (get_or put (own_place e put) none) ≡ true → ⊥
            no_other q = by_place (eqb (own_place e put) k) refl
              where
                by_place : (u : Bool) → eqb (own_place e put) k ≡ u → ⊥
                by_place true g = apart (sym other ∙ (sym (own_there e) ∙ (rw (eqb-true (own_place e put) k g) at q)))
                by_place false g =
                    let n = eqb-false (own_place e put) k g in
                    n (single e (own_place e put) k (sym (ap (is_own e) (put_elsewhere (own_place e put) n)) ∙ q) o)

    not_there : is_own e (some h) ≡ false
    unfolding is_own
    not_there = ap (λ (s : List ℕ). same_text s e) for_d ∙ other

    unmoved : is_own e (get_or c k none) ≡ false → Unmoved e
    unmoved o =
        let q : own_place e put ≡ own_place e c = first_set (is_own e) none c k (some h) (not_there ∙ sym o) in
        (q, ap (λ (i : ℕ). get_or put i none) q ∙ put_elsewhere (own_place e c) apart_from)
      where
        apart_from : own_place e c ≡ k → ⊥
        apart_from q =
            let i : own_place e c < length c = omega (arith, l, q) in
            apart (sym o ∙ (rw q at (first_passes (is_own e) none c i)))

    pub other_ways : (later : ℕ) → clock ≤ later → Unmoved e ⊎ ((live_for later e put ≡ none) × (live_for later e c ≡ none))
    unfolding live_for if_live
    other_ways later w = go (is_own e (get_or c k none)) refl
      where
        go : (t : Bool) → is_own e (get_or c k none) ≡ t → Unmoved e ⊎ ((live_for later e put ≡ none) × (live_for later e c ≡ none))
        go false o = inl (unmoved o)
        go true o =
            inr (
              ap (if_live later) (nothing_there put e (lost o)),
              ap (if_live later) (ap (λ (i : ℕ). get_or c i none) (own_place_is c single e k o)) ∙ stale_later clock later (get_or c k none) (taken_stale c clock d e other l o) w,
            )

    -- another domain's live policy is as it was, at the store's clock and every later one
    pub other_live : (later : ℕ) → clock ≤ later → live_for later e put ≡ live_for later e c
    unfolding live_for
    other_live later w =
        ⊎_elim
        (λ (u : Unmoved e). ap (if_live later) u.1)
        (λ (n : (live_for later e put ≡ none) × (live_for later e c ≡ none)). n.0 ∙ sym n.1)
        (other_ways later w)

    -- and it is found in the same place
    pub other_found : (later : ℕ) → clock ≤ later → found_at (own_place e put) (live_for later e put) ≡ found_at (own_place e c) (live_for later e c)
    unfolding live_for found_at
    other_found later w =
        ⊎_elim
        (λ (u : Unmoved e). rw (u.1, u.0))
        (λ (n : (live_for later e put ≡ none) × (live_for later e c ≡ none)). ap (found_at (own_place e put)) n.0 ∙ sym (ap (found_at (own_place e c)) n.1))
        (other_ways later w)
