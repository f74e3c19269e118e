-- The refusals and the answers of the two calls, from what the searches of a table found. Assumes nothing.
use Prim.Native.Nat.{ℕ, ◌*◌, ◌<◌, ◌≤◌}
use mathlib.Core.Path.{◌≡◌, refl, sym, ap, ◌∙◌}
use mathlib.Core.Bool.{Bool, true, false, cond, not}
use mathlib.Core.List.{List, [], ◌∷◌, ◌++◌}
use mathlib.Core.Option.{Option, none, some}
use native.Mathlib.Omega.{arith}
use lib.Dec.{ltb}
use lib.ListN.{length, get_or, set, get_or-eq_default}
use borrow.Author.Tests.{ltb-true, ltb-false}
use Rattle.std.specs.Prelude as P
use Rattle.std.specs.Prelude.{Result, Ok, Err, IsErr, IsErrAnd}
use Rattle.std.specs.Option.{ok_or}
use Rattle.std.proofs.lemmas.List.{get_or_default}
use Rattle.lists.specs.Place.{first_place}
use Rattle.lists.specs.Check.{Check, refusal_of}
use Rattle.lists.proofs.Bools.{never, apart}
use Rattle.lists.proofs.Place.{first_passes}
use Rattle.lists.proofs.Check.{checks_first, checks_last, checks_more, checks_refused}
use Rattle.writing.specs.Answer.{answer_unless, unless_refused, success, refusal}
use Rattle.writing.specs.Over.{over}
use Rattle.cache.specs.declared.CacheEntry.{CacheEntry}
use Rattle.cache.specs.declared.CacheAnswer.{CacheAnswer}
use Rattle.cache.specs.declared.Own.{Own}
use Rattle.cache.specs.declared.Refusal.{Refusal}
use Rattle.cache.specs.declared.Refusal.TheVariants as R
use Rattle.cache.specs.Held.{Held, text_place, unfilled, filled, text_at, written, contents, no_entry}
use Rattle.cache.specs.Store.{is_live_at, is_own, is_empty, is_stale, own_place, else_place, store_place, sizes_fit, sizes_check, clock_and_name, argument_checks, store_checks, store_refusal, entry_for, store_answer, table_after, texts_after}
use Rattle.cache.specs.Lookup.{if_live, live_for, only_number, found_at, refused_or, lookup_refusal, lookup_answer}
use Rattle.cache.specs.Search.{place_in, own_entry, other_place, number_of, agrees, policy_checks, found_refusal, answer_at}
use Rattle.cache.proofs.Stored.{held_length, held_at_lem, sizes_are}
use Rattle.cache.proofs.Search.{held_is_written}
use Rattle.cache.proofs.Steps.{live_held}

-- what `?` hands on is the refusal
pub passed_on : (r : Result ℕ Refusal) (e : Refusal) → IsErr r × IsErrAnd r (λ f. f ≡ e) → (o : Option ℕ) (k : ℕ) → o ≡ some (number_of e) → agrees r o k
unfolding agrees
passed_on (Ok a) e h o k g = absurd h.1
passed_on (Err f) e h o k g = g ∙ ap (λ (x : Refusal). some (number_of x)) (sym h.1)

-- the refusal, or none, that a result agrees with
refused_with : {A : Type 0} (e : Refusal) (o : Option ℕ) (a : A) → agrees (Err e) o a → o ≡ some (number_of e)
unfolding agrees
refused_with e o a h = h

pub passed_with : {A : Type 0} (b : A) (o : Option ℕ) (a : A) → agrees (Ok b) o a → (o ≡ none) × (b ≡ a)
unfolding agrees
passed_with b o a h = h

pub put_there : (k : ℕ) (p x y : List ℕ) → y ≡ over (1024 * k) p x → y ≡ over (text_place k) p x
unfolding text_place
put_there k p x y e = e

-- the answer at a place k, of an entry e whose text and id the code read
module _ (t : List CacheEntry) (x : List ℕ) (k : ℕ) (z : CacheEntry) (l : k < length t) where
  abbrev entry : CacheEntry
  entry = get_or t k z

  pub answer_is : (text : List ℕ) → text ≡ text_at x k entry → (id : List ℕ) → id ≡ unfilled entry.id → (field : List ℕ) → field ≡ filled 32 id
      → ◌≡◌ {A = CacheAnswer} (record { number = 15; length = 0; text_start = 1024 * k; text_length = length text; fetched = entry.fetched; id_length = length id; id = field }) (answer_at k t x)
  unfolding answer_at found_at text_place
  answer_is text a id b field e = rw (e, a, b, get_or_default t k z no_entry l)

module _ (clock : ℕ) (d x : List ℕ) (t : List CacheEntry) where
  abbrev c : List (Option Held)
  c = contents t x

  abbrev k : ℕ
  k = own_place d c

  abbrev first : Option ℕ
  first = lookup_refusal clock d (length t) (length x)

  count : length c ≡ length t
  count = held_length x 0 t

  -- ---- a lookup
  abbrev live : Bool
  live = not (is_empty (live_for clock d c))

  abbrev Looks : Result ℕ Refusal → Type 0
  Looks r = agrees r (found_refusal clock d t x) k

  found_is : first ≡ none → found_refusal clock d t x ≡ cond live none (some 72)
  unfolding lookup_refusal found_refusal refusal_of
  found_is h = checks_more (sizes_check (length t) (length x) ∷ clock_and_name clock d) (record { passes = live; refusal = 72 } ∷ []) h

  found_more : (r : ℕ) → first ≡ some r → found_refusal clock d t x ≡ some r
  unfolding lookup_refusal found_refusal
  found_more r f = checks_refused (sizes_check (length t) (length x) ∷ clock_and_name clock d) (record { passes = live; refusal = 72 } ∷ []) r f

  none_live : live_for clock d c ≡ none → live ≡ false
  unfolding is_empty
  none_live h = rw h

  live_none : live ≡ false → live_for clock d c ≡ none
  unfolding is_empty
  live_none = go (live_for clock d c)
    where
      go : (l : Option Held) → not (is_empty l) ≡ false → l ≡ none
      go none h = refl
      go (some y) h = never cc

  -- an own entry is live exactly where the domain has a live policy
  own_lives : k < length c → not (is_stale clock (get_or c k none)) ≡ live
  unfolding live_for is_own is_stale is_empty if_live
  own_lives l = go (get_or c k none) (first_passes (is_own d) none c l)
    where
      go : (o : Option Held) → is_own d o ≡ true → not (is_stale clock o) ≡ not (is_empty (if_live clock o))
      go none h = apart h
      go (some h) e = by (is_live_at clock h)
        where
          by : (b : Bool) → not (not b) ≡ not (is_empty (cond b (some h) none))
          by true = refl
          by false = refl

  none_lives : length c ≤ k → live ≡ false
  unfolding live_for if_live is_empty
  none_lives l = rw (get_or-eq_default c none l)

  pub looks_refused : (r : Result ℕ Refusal) (e : Refusal) → IsErr r × IsErrAnd r (λ f. f ≡ e) → agrees {A = Unit} (Err e) first tt → Looks r
  unfolding lookup_refusal found_refusal
  looks_refused r e h g = passed_on r e h (found_refusal clock d t x) k (found_more (number_of e) (refused_with e first tt g))

  module _ (u : Unit) (g : agrees {A = Unit} (Ok u) first tt) where
    found_as : (b : Bool) → live ≡ b → found_refusal clock d t x ≡ cond b none (some 72)
    found_as b e = found_is (passed_with u first tt g).0 ∙ rw e

    module _ (o : Own) (h : ◌≡◌ {A = P.Option Own} (P.Some o) (own_entry clock d c)) where
      own_there : (k < length c) × (o.place ≡ k) × (o.live ≡ not (is_stale clock (get_or c k none)))
      unfolding own_entry
      own_there = go (ltb k (length c)) refl h
        where
          go : (b : Bool) → ltb k (length c) ≡ b → ◌≡◌ {A = P.Option Own} (P.Some o) (cond b (P.Some (record { place = k; live = not (is_stale clock (get_or c k none)) })) P.None) → (k < length c) × (o.place ≡ k) × (o.live ≡ not (is_stale clock (get_or c k none)))
          go true e q = (ltb-true k (length c) e, cc, cc)
          go false e q = never cc

      pub looks_live : o.live ≡ true → Looks (Ok o.place)
      unfolding agrees
      looks_live e = (found_as true (sym (own_lives own_there.0) ∙ (sym own_there.2 ∙ e)), own_there.1)

      pub looks_stale : o.live ≡ false → Looks (Err R.NotFound)
      unfolding agrees number_of
      looks_stale e = found_as false (sym (own_lives own_there.0) ∙ (sym own_there.2 ∙ e))

    pub looks_none : ◌≡◌ {A = P.Option Own} P.None (own_entry clock d c) → Looks (Err R.NotFound)
    unfolding agrees number_of own_entry
    looks_none h = found_as false (none_lives (go (ltb k (length c)) refl h))
      where
        go : (b : Bool) → ltb k (length c) ≡ b → ◌≡◌ {A = P.Option Own} P.None (cond b (P.Some (record { place = k; live = not (is_stale clock (get_or c k none)) })) P.None) → length c ≤ k
        go true e q = never cc
        go false e q = ltb-false k (length c) e

  -- its answer
  module _ (place : ℕ) (g : Looks (Ok place)) where
    checked : (found_refusal clock d t x ≡ none) × (place ≡ k)
    checked = passed_with place (found_refusal clock d t x) k g

    lives : live ≡ true
    unfolding found_refusal
    lives = checks_last (sizes_check (length t) (length x) ∷ clock_and_name clock d) (record { passes = live; refusal = 72 }) checked.0

    sized : length t ≡ 64
    unfolding found_refusal refusal_of
    sized = (sizes_are (length t) (length x) (checks_first (sizes_fit (length t) (length x)) 74 (refusal_of (clock_and_name clock d ++ (record { passes = live; refusal = 72 } ∷ []))) checked.0).0).0

    inside : k < length c
    inside = go (ltb k (length c)) refl
      where
        go : (b : Bool) → ltb k (length c) ≡ b → k < length c
        go true e = ltb-true k (length c) e
        go false e = apart (sym (none_lives (ltb-false k (length c) e)) ∙ lives)

    pub look_inside : (place < length t) × (length t ≡ 64)
    look_inside = (omega (arith, checked.1, inside, count), sized)

    pub look_found : answer_at place t x ≡ lookup_answer clock d t x
    unfolding answer_at lookup_answer refused_or live_for
    look_found = rw checked.1 (go first refl (live_for clock d c) refl)
      where
        e : CacheEntry
        e = get_or t k no_entry

        go : (o : Option ℕ) → first ≡ o → (l : Option Held) → live_for clock d c ≡ l → found_at k (some (written e (text_at x k e))) ≡ refused_or o (found_at k l)
        go (some r) f l h = never (let q : none ≡ some r = sym checked.0 ∙ found_more r f in cc)
        go none f none h = never (let q : false ≡ true = sym (none_live h) ∙ lives in cc)
        go none f (some h) q = ap (λ (y : Held). found_at k (some y)) (sym (held_is_written e (text_at x k e) h (sym (held_at_lem t x k (omega (arith, inside, count))) ∙ live_held clock (get_or c k none) h q)))

  pub look_refused : (e : Refusal) → agrees {A = ℕ} (Err e) (found_refusal clock d t x) k → only_number (number_of e) ≡ lookup_answer clock d t x
  unfolding lookup_answer refused_or found_at
  look_refused e g = go first refl live refl
    where
      h : found_refusal clock d t x ≡ some (number_of e)
      h = refused_with e (found_refusal clock d t x) k g

      go : (o : Option ℕ) → first ≡ o → (b : Bool) → live ≡ b → only_number (number_of e) ≡ refused_or o (found_at k (live_for clock d c))
      go (some r) f b l = let q : some r ≡ some (number_of e) = sym (found_more r f) ∙ h in let w : r ≡ number_of e = cc in ap only_number (sym w)
      go none f true l = never (let q : none ≡ some (number_of e) = sym (found_is f ∙ rw l) ∙ h in cc)
      go none f false l = let q : some 72 ≡ some (number_of e) = sym (found_is f ∙ rw l) ∙ h in let w : number_of e ≡ 72 = cc in rw (live_none l, w)

  -- ---- a store
  module _ (i p : List ℕ) where
    abbrev n : ℕ
    n = length t

    abbrev place : ℕ
    place = store_place clock d c

    abbrev full : Check
    full = record { passes = ltb place n; refusal = 70 }

    abbrev Stores : Result ℕ Refusal → Type 0
    Stores r = agrees r (store_refusal clock d i p t x) place

    pub stores_refused : (r : Result ℕ Refusal) (e : Refusal) → IsErr r × IsErrAnd r (λ f. f ≡ e) → agrees {A = Unit} (Err e) first tt → Stores r
    unfolding lookup_refusal store_refusal store_checks argument_checks
    stores_refused r e h g =
        passed_on r e h (store_refusal clock d i p t x) place
        (checks_refused (sizes_check n (length x) ∷ clock_and_name clock d) (policy_checks i p ++ (full ∷ [])) (number_of e) (refused_with e first tt g))

    module _ (u : Unit) (g : agrees {A = Unit} (Ok u) first tt) where
      then_policy : store_refusal clock d i p t x ≡ refusal_of (policy_checks i p ++ (full ∷ []))
      unfolding lookup_refusal store_refusal store_checks argument_checks
      then_policy = checks_more (sizes_check n (length x) ∷ clock_and_name clock d) (policy_checks i p ++ (full ∷ [])) (passed_with u first tt g).0

      pub stores_no_policy : (r : Result ℕ Refusal) (e : Refusal) → IsErr r × IsErrAnd r (λ f. f ≡ e) → agrees {A = Unit} (Err e) (refusal_of (policy_checks i p)) tt → Stores r
      stores_no_policy r e h q =
          passed_on r e h (store_refusal clock d i p t x) place
          (then_policy ∙ checks_refused (policy_checks i p) (full ∷ []) (number_of e) (refused_with e (refusal_of (policy_checks i p)) tt q))

      module _ (v : Unit) (q : agrees {A = Unit} (Ok v) (refusal_of (policy_checks i p)) tt) where
        then_full : store_refusal clock d i p t x ≡ cond (ltb place n) none (some 70)
        unfolding refusal_of
        then_full = then_policy ∙ checks_more (policy_checks i p) (full ∷ []) (passed_with v (refusal_of (policy_checks i p)) tt q).0

        pub stores_at : (o : P.Option ℕ) → o ≡ place_in n place → (r : Result ℕ Refusal) → r ≡ ok_or o R.TableFull → Stores r
        unfolding place_in agrees number_of
        stores_at o h r e = rw (e, h) (go (ltb place n) refl)
          where
            go : (b : Bool) → ltb place n ≡ b → Stores (ok_or (cond b (P.Some place) P.None) R.TableFull)
            go true f = (then_full ∙ rw f, refl)
            go false f = then_full ∙ rw f

    -- the place is the own entry's, else another
    pub own_as_place : (o : Own) → ◌≡◌ {A = P.Option Own} (P.Some o) (own_entry clock d c) → (r : P.Option ℕ) → r ≡ P.Some o.place → r ≡ place_in n place
    unfolding own_entry place_in store_place else_place
    own_as_place o h r q = q ∙ rw (sym count) (go (ltb k (length c)) refl h)
      where
        go : (b : Bool) → ltb k (length c) ≡ b → ◌≡◌ {A = P.Option Own} (P.Some o) (cond b (P.Some (record { place = k; live = not (is_stale clock (get_or c k none)) })) P.None)
            → ◌≡◌ {A = P.Option ℕ} (P.Some o.place) (cond (ltb (cond b k (else_place (length c) (first_place is_empty c) (first_place (is_stale clock) c))) (length c)) (P.Some (cond b k (else_place (length c) (first_place is_empty c) (first_place (is_stale clock) c)))) P.None)
        go true e q = let s : o.place ≡ k = cc in rw (e, s)
        go false e q = never cc

    pub other_as_place : ◌≡◌ {A = P.Option Own} P.None (own_entry clock d c) → (r : P.Option ℕ) → r ≡ other_place clock c → r ≡ place_in n place
    unfolding own_entry other_place store_place else_place
    other_as_place h r q = q ∙ rw (sym count) (go (ltb k (length c)) refl h)
      where
        go : (b : Bool) → ltb k (length c) ≡ b → ◌≡◌ {A = P.Option Own} P.None (cond b (P.Some (record { place = k; live = not (is_stale clock (get_or c k none)) })) P.None)
            → place_in (length c) (else_place (length c) (first_place is_empty c) (first_place (is_stale clock) c)) ≡ place_in (length c) (else_place (length c) k (else_place (length c) (first_place is_empty c) (first_place (is_stale clock) c)))
        go true e w = never cc
        go false e w = rw e

    -- where nothing is refused the sizes fit, and the place is inside the table
    pub store_inside : store_refusal clock d i p t x ≡ none → (sizes_fit n (length x) ≡ true) × (place < n)
    unfolding store_refusal store_checks refusal_of
    store_inside h = (
      (checks_first (sizes_fit n (length x)) 74 (refusal_of (argument_checks clock d i p ++ (full ∷ []))) h).0,
      ltb-true place n (checks_last (record { passes = sizes_fit n (length x); refusal = 74 } ∷ argument_checks clock d i p) full h),
    )

    -- its answer, and what it leaves
    module _ (at : ℕ) (g : Stores (Ok at)) where
      stored_there : (store_refusal clock d i p t x ≡ none) × (at ≡ place)
      stored_there = passed_with at (store_refusal clock d i p t x) place g

      pub at_inside : (at < n) × (n ≡ 64)
      at_inside = let h = store_inside stored_there.0 in (omega (arith, h.1, stored_there.1), (sizes_are n (length x) h.0).0)

      pub store_done : success 0 ≡ store_answer clock d i p t x
      unfolding store_answer answer_unless
      store_done = rw stored_there.0

      pub store_table : set t at (entry_for clock d i p) ≡ table_after clock d i p t x
      unfolding table_after unless_refused
      store_table = rw (stored_there.0, stored_there.1)

      pub store_texts : over (text_place at) p x ≡ texts_after clock d i p t x
      unfolding texts_after unless_refused
      store_texts = rw (stored_there.0, stored_there.1)

    module _ (e : Refusal) (g : agrees {A = ℕ} (Err e) (store_refusal clock d i p t x) place) where
      pub refused_answer : refusal (number_of e) ≡ store_answer clock d i p t x
      unfolding store_answer answer_unless
      refused_answer = rw (refused_with e (store_refusal clock d i p t x) place g)

      pub refused_table : t ≡ table_after clock d i p t x
      unfolding table_after unless_refused
      refused_table = rw (refused_with e (store_refusal clock d i p t x) place g)

      pub refused_texts : x ≡ texts_after clock d i p t x
      unfolding texts_after unless_refused
      refused_texts = rw (refused_with e (store_refusal clock d i p t x) place g)
