-- Document 02, No. 1: storing. "Storing takes the call's clock as fetch reading and replaces the domain's own entry (of several the lowest counts, in lookups too), else
-- takes an empty one, else one that is stale by then, lowest position first. New refusals ..: 70 exactly when no such entry exists, 71 when the text is over 1,024 bytes,
-- 74 when table or buffer has another size, 80 when the id isn't 1 to 32 letters or digits. Order: 74, 62, 60, 80, 50 to 52, 71, 70; a refusal changes nothing, a store
-- only its entry and the text's bytes." Since No. 2 "50 to 52" is 50, then 53 to 57, then 52.
use Rattle.std.specs.Prelude.{ℕ, ◌*◌, Bool, true, false, cond, not, ◌&&◌, List, [], ◌∷◌, ◌++◌, eqb, leb, ltb, length, set}
use Rattle.std.proofs.Math.Option.{Option, none, some}
use Rattle.lists.specs.Equal.{same_text}
use Rattle.lists.specs.Place.{first_place}
use Rattle.lists.specs.Check.{Check, refusal_of}
use Rattle.names.specs.Name.{is_name}
use Rattle.clock.specs.Clock.{is_reading, is_live}
use Rattle.policies.specs.Policy.{policy_answer}
use Rattle.txt.specs.Paper.{is_id}
use Rattle.writing.specs.declared.WriteAnswer.{WriteAnswer}
use Rattle.writing.specs.Answer.{answer_unless, unless_refused}
use Rattle.writing.specs.Over.{over}
use Rattle.cache.specs.declared.CacheEntry.{CacheEntry}
use Rattle.cache.specs.Held.{Held, entries, room, text_place, filled, is_policy, contents}

-- a policy held is live at a clock
unfoldable pub is_live_at : ℕ → Held → Bool
is_live_at clock h = is_live h.fetched (policy_answer h.text).lifetime clock

-- an entry is the domain's own: domains compare as names do, ignoring ASCII case. One that counts as empty is nobody's
unfoldable pub is_own : List ℕ → Option Held → Bool
is_own d none = false
is_own d (some h) = same_text h.domain d

-- an entry counts as empty
unfoldable pub is_empty : Option Held → Bool
is_empty none = true
is_empty (some h) = false

-- an entry is stale by then
unfoldable pub is_stale : ℕ → Option Held → Bool
is_stale clock none = false
is_stale clock (some h) = not (is_live_at clock h)

-- the place of the domain's own entry, of several the lowest; the count of entries where it has none
abbrev pub own_place : List ℕ → List (Option Held) → ℕ
own_place d c = first_place (is_own d) c

-- the place i where it lies among n entries, else the place j
unfoldable pub else_place : ℕ → ℕ → ℕ → ℕ
else_place n i j = cond (ltb i n) i j

-- the place that a store takes: the domain's own entry, else an empty one, else one that is stale by then, lowest position first; past the end where no such entry exists
unfoldable pub store_place : ℕ → List ℕ → List (Option Held) → ℕ
store_place clock d c = else_place (length c) (own_place d c) (else_place (length c) (first_place is_empty c) (first_place (is_stale clock) c))

-- a table of n entries and a buffer of m bytes have their sizes
unfoldable pub sizes_fit : ℕ → ℕ → Bool
sizes_fit n m = eqb n entries && eqb m (entries * room)

-- the checks that both calls begin with: 74 of the sizes, then 62 and 60 of clock and domain
abbrev pub sizes_check : ℕ → ℕ → Check
sizes_check n m = record { passes = sizes_fit n m; refusal = 74 }

abbrev pub clock_and_name : ℕ → List ℕ → List Check
clock_and_name clock d = record { passes = is_reading clock; refusal = 62 } ∷ record { passes = is_name d; refusal = 60 } ∷ []

-- what a store checks of clock, domain, id and policy: 62, 60, 80, 50, 53 to 57, 52, 71
unfoldable pub argument_checks : ℕ → (d i p : List ℕ) → List Check
argument_checks clock d i p =
    clock_and_name clock d
    ++ (record { passes = is_id i; refusal = 80 }
    ∷ record { passes = is_policy p; refusal = (policy_answer p).number }
    ∷ record { passes = leb (length p) room; refusal = 71 }
    ∷ [])

-- all that a store checks: 74 first, 70 last
unfoldable pub store_checks : ℕ → (d i p : List ℕ) → List CacheEntry → List ℕ → List Check
store_checks clock d i p t x =
    sizes_check (length t) (length x)
    ∷ (argument_checks clock d i p ++ (record { passes = ltb (store_place clock d (contents t x)) (length t); refusal = 70 } ∷ []))

-- the refusal of a store, or none
unfoldable pub store_refusal : ℕ → (d i p : List ℕ) → List CacheEntry → List ℕ → Option ℕ
store_refusal clock d i p t x = refusal_of (store_checks clock d i p t x)

-- the entry that a store writes: domain and id filled up with zeros, the call's clock as fetch reading, and the text's length
unfoldable pub entry_for : ℕ → (d i p : List ℕ) → CacheEntry
entry_for clock d i p = record { domain = filled 253 d; id = filled 32 i; fetched = clock; length = length p }

-- the answer to a store: it has no output, so the length is 0
unfoldable pub store_answer : ℕ → (d i p : List ℕ) → List CacheEntry → List ℕ → WriteAnswer
store_answer clock d i p t x = answer_unless (store_refusal clock d i p t x) 0

-- the table after a store: of its entries only the one at the place is written
unfoldable pub table_after : ℕ → (d i p : List ℕ) → List CacheEntry → List ℕ → List CacheEntry
table_after clock d i p t x = unless_refused (store_refusal clock d i p t x) t (set t (store_place clock d (contents t x)) (entry_for clock d i p))

-- the buffer after a store: of its bytes only the text's are written
unfoldable pub texts_after : ℕ → (d i p : List ℕ) → List CacheEntry → List ℕ → List ℕ
texts_after clock d i p t x = unless_refused (store_refusal clock d i p t x) x (over (text_place (store_place clock d (contents t x))) p x)
