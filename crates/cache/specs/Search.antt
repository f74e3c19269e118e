-- What the code's functions find in a table, and what they refuse: the paper's places and checks, as an `Option` and a `Result`. A reader of the promises needs none of it.
use Rattle.std.specs.Prelude.{ℕ, Bool, true, false, cond, not, List, [], ◌∷◌, ◌++◌, ◌≡◌, ltb, leb, length, get_or, Result, Ok, Err}
use Rattle.std.specs.Prelude as P
use Rattle.std.proofs.Math.Option.{Option, none, some}
use Rattle.lists.specs.Check.{Check, refusal_of}
use Rattle.policies.specs.Policy.{policy_answer}
use Rattle.txt.specs.Paper.{is_id}
use Rattle.cache.specs.declared.CacheEntry.{CacheEntry}
use Rattle.cache.specs.declared.State.{State}
use Rattle.cache.specs.declared.State.TheVariants as S
use Rattle.cache.specs.declared.Own.{Own}
use Rattle.cache.specs.declared.Refusal.{Refusal}
use Rattle.cache.specs.declared.Refusal.TheVariants as R
use Rattle.cache.specs.declared.CacheAnswer.{CacheAnswer}
use Rattle.cache.specs.Held.{Held, room, is_policy, text_at, written, contents, no_entry}
use Rattle.cache.specs.Store.{is_empty, is_stale, own_place, else_place, sizes_check, clock_and_name}
use Rattle.cache.specs.Lookup.{live_for, found_at}
use Rattle.lists.specs.Place.{first_place}

-- whether an entry is live, where it is not empty
unfoldable pub liveness : State → P.Option Bool
liveness S.Empty = P.None
liveness S.Stale = P.Some false
liveness S.Live = P.Some true

-- the place i where it lies among n entries
unfoldable pub place_in : ℕ → ℕ → P.Option ℕ
place_in n i = cond (ltb i n) (P.Some i) P.None

-- the domain's own entry, of what a table holds, and whether it is live
unfoldable pub own_entry : ℕ → List ℕ → List (Option Held) → P.Option Own
own_entry clock d c = cond (ltb (own_place d c) (length c)) (P.Some (record { place = own_place d c; live = not (is_stale clock (get_or c (own_place d c) none)) })) P.None

-- the place that a domain without an own entry takes
unfoldable pub other_place : ℕ → List (Option Held) → P.Option ℕ
other_place clock c = place_in (length c) (else_place (length c) (first_place is_empty c) (first_place (is_stale clock) c))

-- the number of a refusal
unfoldable pub number_of : Refusal → ℕ
number_of R.BadDomain = 60
number_of R.BadClock = 62
number_of R.TableFull = 70
number_of R.TextLong = 71
number_of R.NotFound = 72
number_of R.WrongSize = 74
number_of R.BadId = 80
number_of (R.BadPolicy number) = number

-- a result is this value where nothing is refused, and else the refusal
unfoldable pub agrees : {A : Type 0} → Result A Refusal → Option ℕ → A → Type 0
agrees (Ok a) refusal value = (refusal ≡ none) × (a ≡ value)
agrees (Err e) refusal value = refusal ≡ some (number_of e)

-- what a store checks of id and policy
abbrev pub policy_checks : (i p : List ℕ) → List Check
policy_checks i p =
    record { passes = is_id i; refusal = 80 }
    ∷ record { passes = is_policy p; refusal = (policy_answer p).number }
    ∷ record { passes = leb (length p) room; refusal = 71 }
    ∷ []

-- the refusal of a lookup, 72 of one that finds no live policy among them
unfoldable pub found_refusal : ℕ → List ℕ → List CacheEntry → List ℕ → Option ℕ
found_refusal clock d t x =
    refusal_of (sizes_check (length t) (length x) ∷ (clock_and_name clock d ++ (record { passes = not (is_empty (live_for clock d (contents t x))); refusal = 72 } ∷ [])))

-- the answer for the live entry at a place
unfoldable pub answer_at : ℕ → List CacheEntry → List ℕ → CacheAnswer
answer_at k t x = found_at k (some (written (get_or t k no_entry) (text_at x k (get_or t k no_entry))))
