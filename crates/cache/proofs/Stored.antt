-- What a table holds after a store: what it held, with the call's policy in the place. Assumes nothing.
use Prim.Native.Nat.{ℕ, zero, suc, ◌+◌, ◌<◌, ◌≤◌}
use mathlib.Core.Path.{◌≡◌, refl, sym, ap, ◌∙◌}
use mathlib.Core.Bool.{Bool, true, false}
use mathlib.Core.List.{List, [], ◌∷◌}
use mathlib.Core.Logic.{⊎_elim}
use mathlib.Core.Option.{Option, none, some}
use native.Mathlib.Omega.{arith}
use lib.Dec.{eqb, leb}
use lib.ListN.{length, get_or, set, take, length-set}
use lib.Seq.{get_or-set_same, get_or-set_other, ext_get_or}
use borrow.Author.Tests.{le-leb, leb-true, eqb-true, eqb-false}
use Rattle.lists.proofs.Bools.{and_left, and_right}
use Rattle.lists.proofs.Laws.{above_or_below}
use Rattle.names.specs.Name.{is_name}
use Rattle.names.proofs.Cover.{name_short}
use Rattle.clock.specs.Clock.{is_reading}
use Rattle.txt.specs.Paper.{is_id}
use Rattle.txt.proofs.Paper.{id_parts}
use Rattle.writing.specs.Over.{over}
use Rattle.writing.proofs.Over.{over_there, over_before, over_after}
use Rattle.cache.specs.declared.CacheEntry.{CacheEntry}
use Rattle.cache.specs.Held.{Held, room, text_place, no_entry, is_policy, text_at, fields_fit, is_accepted, held_in, held_from, contents}
use Rattle.cache.specs.Store.{sizes_fit, entry_for}
use Rattle.cache.proofs.Fill.{filled_back, name_lacks, id_lacks}

-- what a table holds, position by position
pub held_length : (x : List ℕ) (i : ℕ) (t : List CacheEntry) → length (held_from x i t) ≡ length t
unfolding held_from
held_length x i [] = refl
held_length x i (e ∷ t) = ap suc (held_length x (i + 1) t)

held_from_lem : (x : List ℕ) (i : ℕ) (t : List CacheEntry) (j : ℕ) → j < length t → get_or (held_from x i t) j none ≡ held_in (get_or t j no_entry) (text_at x (i + j) (get_or t j no_entry))
unfolding held_from
held_from_lem x i [] j h = absurd (omega arith)
held_from_lem x i (e ∷ t) zero h = let k : i + 0 ≡ i = omega arith in rw k
held_from_lem x i (e ∷ t) (suc j) h = let k : i + 1 + j ≡ i + suc j = omega arith in held_from_lem x (i + 1) t j (omega arith) ∙ ap (λ (m : ℕ). held_in (get_or t j no_entry) (text_at x m (get_or t j no_entry))) k

pub held_at_lem : (t : List CacheEntry) (x : List ℕ) (j : ℕ) → j < length t → get_or (contents t x) j none ≡ held_in (get_or t j no_entry) (text_at x j (get_or t j no_entry))
held_at_lem t x j h = let k : 0 + j ≡ j = omega arith in held_from_lem x 0 t j h ∙ ap (λ (m : ℕ). held_in (get_or t j no_entry) (text_at x m (get_or t j no_entry))) k

-- sizes that fit
pub sizes_are : (n m : ℕ) → sizes_fit n m ≡ true → (n ≡ 64) × (m ≡ 65536)
unfolding sizes_fit
sizes_are n m h = (eqb-true n 64 (and_left (eqb n 64) (eqb m 65536) h), eqb-true m 65536 (and_right (eqb n 64) (eqb m 65536) h))

-- the policy that a store hands over
abbrev pub given : ℕ → (d i p : List ℕ) → Held
given clock d i p = record { domain = d; id = i; fetched = clock; text = p }

-- arguments that are accepted
pub record Good (clock : ℕ) (d i p : List ℕ) : Type 0 where
  pub reading : is_reading clock ≡ true
  pub name : is_name d ≡ true
  pub id_form : is_id i ≡ true
  pub policy : is_policy p ≡ true
  pub short : length p ≤ room

-- a text in the part of one entry ends before the part of a later one
parts_apart : (i j l : ℕ) → l ≤ 1024 → i < j → text_place i + l ≤ text_place j
unfolding text_place
parts_apart i j l h k = omega (arith, h, k)

module _ (clock : ℕ) (d i p : List ℕ) (good : Good clock d i p) where
  -- what the entry that a store writes holds
  pub made_holds : held_in (entry_for clock d i p) p ≡ some (given clock d i p)
  unfolding held_in is_accepted fields_fit entry_for
  made_holds =
      rw (filled_back 253 d (name_short d good.name) (name_lacks d good.name), filled_back 32 i (id_parts i good.id_form).1 (id_lacks i good.id_form), le-leb (length p) 1024 good.short, good.name, good.id_form, good.reading, good.policy)

  module _ (k : ℕ) (x : List ℕ) (k_inside : k < 64) (size : length x ≡ 65536) where
    pub room_there : text_place k + length p ≤ length x
    unfolding text_place
    room_there = let s : length p ≤ 1024 = good.short in omega (arith, s, size, k_inside)

    text_there : text_at (over (text_place k) p x) k (entry_for clock d i p) ≡ p
    unfolding text_at entry_for
    text_there = over_there (text_place k) p x room_there

    -- the text of another entry is as it was
    text_elsewhere : (j : ℕ) (e : CacheEntry) → (j ≡ k → ⊥) → e.length ≤ 1024 → text_at (over (text_place k) p x) j e ≡ text_at x j e
    unfolding text_at
    text_elsewhere j e n h =
        ⊎_elim
        (λ (a : k < j). ap (take e.length) (over_after (text_place k) p x room_there (text_place j) (parts_apart k j (length p) good.short a)))
        (λ (b : j < k). over_before (text_place k) p x room_there (text_place j) e.length (parts_apart j k e.length h b))
        (above_or_below j k n)

    held_elsewhere : (j : ℕ) (e : CacheEntry) → (j ≡ k → ⊥) → held_in e (text_at (over (text_place k) p x) j e) ≡ held_in e (text_at x j e)
    unfolding held_in is_accepted fields_fit
    held_elsewhere j e n = go (leb e.length 1024) refl
      where
        go : (t : Bool) → leb e.length 1024 ≡ t → held_in e (text_at (over (text_place k) p x) j e) ≡ held_in e (text_at x j e)
        go true g = ap (held_in e) (text_elsewhere j e n (leb-true e.length 1024 g))
        go false g = rw g

    -- what the table holds after the store
    pub stored : (t : List CacheEntry) → length t ≡ 64 → contents (set t k (entry_for clock d i p)) (over (text_place k) p x) ≡ set (contents t x) k (some (given clock d i p))
    stored t sized = ext_get_or none after before lengths each
      where
        made : CacheEntry
        made = entry_for clock d i p

        after : List (Option Held)
        after = contents (set t k made) (over (text_place k) p x)

        before : List (Option Held)
        before = set (contents t x) k (some (given clock d i p))

        k_in : k < length t
        k_in = omega (arith, k_inside, sized)

        lengths : length after ≡ length before
        lengths = held_length (over (text_place k) p x) 0 (set t k made) ∙ (length-set t k made ∙ (sym (held_length x 0 t) ∙ sym (length-set (contents t x) k (some (given clock d i p)))))

        each : (j : ℕ) → j < length after → get_or after j none ≡ get_or before j none
        each j l = go (eqb j k) refl
          where
            in_t : j < length t
            in_t = omega (arith, l, held_length (over (text_place k) p x) 0 (set t k made), length-set t k made)

            in_set : j < length (set t k made)
            in_set = omega (arith, in_t, length-set t k made)

            in_c : k < length (contents t x)
            in_c = omega (arith, k_in, held_length x 0 t)

            go : (u : Bool) → eqb j k ≡ u → get_or after j none ≡ get_or before j none
            go true g =
                let q : j ≡ k = eqb-true j k g in
                held_at_lem (set t k made) (over (text_place k) p x) j in_set
                ∙ (ap (λ (m : ℕ). held_in (get_or (set t k made) m no_entry) (text_at (over (text_place k) p x) m (get_or (set t k made) m no_entry))) q
                ∙ (ap (λ (e : CacheEntry). held_in e (text_at (over (text_place k) p x) k e)) (get_or-set_same t k made no_entry k_in)
                ∙ (ap (held_in made) text_there ∙ (made_holds ∙ (sym (get_or-set_same (contents t x) k (some (given clock d i p)) none in_c) ∙ ap (λ (m : ℕ). get_or before m none) (sym q))))))
            go false g =
                let n = eqb-false j k g in
                held_at_lem (set t k made) (over (text_place k) p x) j in_set
                ∙ (ap (λ (e : CacheEntry). held_in e (text_at (over (text_place k) p x) j e)) (get_or-set_other t k j made no_entry n)
                ∙ (held_elsewhere j (get_or t j no_entry) n ∙ (sym (held_at_lem t x j in_t) ∙ sym (get_or-set_other (contents t x) k j (some (given clock d i p)) none n))))
