-- A table that is gone over in passes, each entry with a rank: not the paper's words, but the same answers (proofs/Scanned.antt joins the two). A pass looks for the
-- domain's own entry, without a look at the text of any other; a store without one makes a second pass, for an empty entry or a stale one. `store` and `lookup` promise
-- these answers too (`by_ranks`); what the functions under them find is said in `Search`.
use Rattle.std.specs.Prelude.{ℕ, ◌+◌, Bool, true, false, cond, not, ◌&&◌, ◌||◌, List, [], ◌∷◌, ◌++◌, ◌≡◌, eqb, ltb, length, take, drop, set}
use Rattle.std.proofs.Math.Option.{Option, none, some}
use Rattle.lists.specs.Equal.{same_text}
use Rattle.lists.specs.Check.{refusal_of}
use Rattle.writing.specs.declared.WriteAnswer.{WriteAnswer}
use Rattle.writing.specs.Over.{over}
use Rattle.cache.specs.declared.CacheEntry.{CacheEntry}
use Rattle.cache.specs.declared.State.{State}
use Rattle.cache.specs.declared.State.TheVariants as S
use Rattle.cache.specs.declared.CacheAnswer.{CacheAnswer}
use Rattle.cache.specs.Held.{Held, entries, text_place, unfilled, filled, text_at, held_in, no_entry}
use Rattle.cache.specs.Store.{is_live_at, sizes_fit, sizes_check, argument_checks, entry_for}
use Rattle.cache.specs.Lookup.{only_number, refused_or, lookup_refusal}

-- what is found so far in a table: the rank of an entry, its position, and what a lookup answers of it
pub record Found : Type 0 where
  pub rank : ℕ
  pub place : ℕ
  pub fetched : ℕ
  pub length : ℕ
  pub id : List ℕ

-- what a store is to do: the answer's number, and which entry goes where; outside the table where nothing is stored
pub record Plan : Type 0 where
  pub number : ℕ
  pub place : ℕ
  pub entry : CacheEntry

-- the state at a clock of what an entry holds
unfoldable pub state_of : ℕ → Option Held → State
state_of clock none = S.Empty
state_of clock (some h) = cond (is_live_at clock h) S.Live S.Stale

-- the rank of an entry in a pass. For the domain's own entry, whose state this is: 0 live, 1 stale. For another: 2 empty, 3 stale. 4 is none of these. Up to 2 the search is over: the first own entry counts, live or stale, and so does the first empty one; a stale one gives way to an empty one
unfoldable pub rank_in : Bool → State → ℕ
rank_in true S.Live = 0
rank_in true S.Stale = 1
rank_in true S.Empty = 4
rank_in false S.Empty = 2
rank_in false S.Stale = 3
rank_in false S.Live = 4

-- an entry of this rank at position i as what was found
unfoldable pub found_of : ℕ → ℕ → CacheEntry → Found
found_of rank i e = record { rank = rank; place = i; fetched = e.fetched; length = e.length; id = e.id }

-- an entry with this domain field has to be looked at: nothing is found yet that ends the pass, and in the pass for the own entry it is the domain's
unfoldable pub is_sought : Bool → ℕ → List ℕ → List ℕ → Bool
is_sought own rank field d = ltb 2 rank && (not own || same_text (unfilled field) d)

-- the entry e at position i, where its rank is lower than that of what is found
unfoldable pub better : Bool → ℕ → List ℕ → Found → CacheEntry → ℕ → Found
better own clock x s e i =
    cond (ltb (rank_in own (state_of clock (held_in e (text_at x i e)))) s.rank)
    (found_of (rank_in own (state_of clock (held_in e (text_at x i e)))) i e)
    s

-- what is found after the entry e at position i
unfoldable pub step : Bool → ℕ → (d x : List ℕ) → Found → CacheEntry → ℕ → Found
step own clock d x s e i = cond (is_sought own s.rank e.domain d) (better own clock x s e i) s

-- what is found in a table from position i on
unfoldable pub found_from : Bool → ℕ → (d x : List ℕ) → ℕ → Found → List CacheEntry → Found
found_from own clock d x i s [] = s
found_from own clock d x i s (e ∷ t) = found_from own clock d x (i + 1) (step own clock d x s e i) t

-- what a pass finds, beginning with what is found already
unfoldable pub scanned : Bool → ℕ → List ℕ → Found → List CacheEntry → List ℕ → Found
scanned own clock d s t x = found_from own clock d x 0 s t

-- what is found before the first pass over a table of n entries with a buffer of m bytes: nothing; where these are not their sizes, a rank that ends the search
unfoldable pub beginning : ℕ → ℕ → Found
beginning n m = found_of (cond (sizes_fit n m) 4 2) n no_entry

-- the pass for the own entry, and both
abbrev pub own_scanned : ℕ → List ℕ → List CacheEntry → List ℕ → Found
own_scanned clock d t x = scanned true clock d (beginning (length t) (length x)) t x

abbrev pub both_scanned : ℕ → List ℕ → List CacheEntry → List ℕ → Found
both_scanned clock d t x = scanned false clock d (own_scanned clock d t x) t x

-- a place outside table and buffer
unfoldable pub beyond : ℕ → ℕ → ℕ
beyond n m = cond (ltb n m) m n

-- the refusal of a store into a table of n entries and a buffer of m bytes, where an entry of this rank was found
unfoldable pub refusal_for : ℕ → (d i p : List ℕ) → ℕ → ℕ → ℕ → Option ℕ
refusal_for clock d i p n m rank =
    refusal_of (sizes_check n m ∷ (argument_checks clock d i p ++ (record { passes = ltb rank 4; refusal = 70 } ∷ [])))

-- a refused store: what is written outside of table and buffer is not written
unfoldable pub refused_plan : ℕ → ℕ → ℕ → Plan
refused_plan number n m = record { number = number; place = beyond n m; entry = no_entry }

-- what a store is to do, by its refusal: the answer's number, and which entry goes where
unfoldable pub plan_by : Option ℕ → ℕ → ℕ → ℕ → CacheEntry → Plan
plan_by none n m place made = record { number = 15; place = place; entry = made }
plan_by (some refusal) n m place made = refused_plan refusal n m

-- what a store is to do
unfoldable pub plan_of : ℕ → (d i p : List ℕ) → ℕ → ℕ → Found → Plan
plan_of clock d i p n m s = plan_by (refusal_for clock d i p n m s.rank) n m s.place (entry_for clock d i p)

-- what a store is to do after both passes
abbrev pub plan_for : ℕ → (d i p : List ℕ) → List CacheEntry → List ℕ → Plan
plan_for clock d i p t x = plan_of clock d i p (length t) (length x) (both_scanned clock d t x)

-- a plan was followed in a store of the policy p: the answer has its number, its entry stands at its place, and p at the text's place
pub record Planned (plan : Plan) (p : List ℕ) (answer : WriteAnswer) (t u : List CacheEntry) (x y : List ℕ) : Type 0 where
  pub answered : answer ≡ record { number = plan.number; length = 0 }
  pub table : u ≡ set t plan.place plan.entry
  pub texts : y ≡ over (text_place plan.place) p x

-- the text of what was found
abbrev pub found_text : List ℕ → Found → List ℕ
found_text x s = take s.length (drop (text_place s.place) x)

-- the answer to a lookup by what was found: a live entry inside the table, or none
unfoldable pub answer_by : List ℕ → Found → CacheAnswer
answer_by x s =
    cond (eqb s.rank 0 && ltb s.place entries)
    (record { number = 15; length = 0; text_start = text_place s.place; text_length = length (found_text x s); fetched = s.fetched; id_length = length (unfilled s.id); id = filled 32 (unfilled s.id) })
    (only_number 72)

-- the answer to a lookup in a table of n entries
unfoldable pub answer_from : ℕ → List ℕ → ℕ → List ℕ → Found → CacheAnswer
answer_from clock d n x s = refused_or (lookup_refusal clock d n (length x)) (answer_by x s)
