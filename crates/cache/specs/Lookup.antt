-- Document 02, No. 1: looking up. "Looking up (74, 62, 60 first) hands back the live policy's text as a part of the lent buffer, with id and fetch reading, or 72."
use Rattle.std.specs.Prelude.{ℕ, cond, List, ◌∷◌, length, get_or, take, drop}
use Rattle.std.proofs.Math.Option.{Option, none, some}
use Rattle.lists.specs.Check.{refusal_of}
use Rattle.cache.specs.declared.CacheEntry.{CacheEntry}
use Rattle.cache.specs.declared.CacheAnswer.{CacheAnswer}
use Rattle.cache.specs.Held.{Held, text_place, zeros, filled, contents}
use Rattle.cache.specs.Store.{is_live_at, own_place, sizes_check, clock_and_name}

-- what is held, where it is live
unfoldable pub if_live : ℕ → Option Held → Option Held
if_live clock none = none
if_live clock (some h) = cond (is_live_at clock h) (some h) none

-- the domain's live policy: what its own entry holds, of several the lowest, where that is live
unfoldable pub live_for : ℕ → List ℕ → List (Option Held) → Option Held
live_for clock d c = if_live clock (get_or c (own_place d c) none)

-- an answer with its number only
unfoldable pub only_number : ℕ → CacheAnswer
only_number number = record { number = number; length = 0; text_start = 0; text_length = 0; fetched = 0; id_length = 0; id = zeros 32 }

-- the answer for a live policy in the entry k: 15, the text's place, the fetch reading and the id filled up with zeros; 72 where there is none
unfoldable pub found_at : ℕ → Option Held → CacheAnswer
found_at k none = only_number 72
found_at k (some h) =
    record { number = 15; length = 0; text_start = text_place k; text_length = length h.text; fetched = h.fetched; id_length = length h.id; id = filled 32 h.id }

-- the refusal of a lookup in a table of n entries and a buffer of m bytes, 74 first; or none
unfoldable pub lookup_refusal : ℕ → List ℕ → ℕ → ℕ → Option ℕ
lookup_refusal clock d n m = refusal_of (sizes_check n m ∷ clock_and_name clock d)

-- a refusal, or the answer
unfoldable pub refused_or : Option ℕ → CacheAnswer → CacheAnswer
refused_or none answer = answer
refused_or (some refusal) answer = only_number refusal

-- the answer to a lookup
unfoldable pub lookup_answer : ℕ → List ℕ → List CacheEntry → List ℕ → CacheAnswer
lookup_answer clock d t x = refused_or (lookup_refusal clock d (length t) (length x)) (found_at (own_place d (contents t x)) (live_for clock d (contents t x)))

-- the text that an answer hands back: a part of the buffer
unfoldable pub handed_back : CacheAnswer → List ℕ → List ℕ
handed_back a x = take a.text_length (drop a.text_start x)
