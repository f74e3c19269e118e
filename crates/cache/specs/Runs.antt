-- Document 02, No. 1, its last sentence: "For tables reached by these calls from an empty one, and while the calls' clocks never go back, storing for one domain changes
-- no other domain's lookup; two such runs with the same calls for a domain in the same order, none of them refused with 70, give it the same answers but for a text's
-- place." Runs of calls, and the answers that a domain gets; proofs/Independence.antt has the two claims.
use Rattle.std.specs.Prelude.{ℕ, Bool, true, cond, not, ◌&&◌, List, [], ◌∷◌, eqb, leb, length}
use Rattle.lists.specs.Bytes.{all}
use Rattle.lists.specs.Equal.{same_text}
use Rattle.writing.specs.declared.WriteAnswer.{WriteAnswer}
use Rattle.cache.specs.declared.CacheEntry.{CacheEntry}
use Rattle.cache.specs.declared.CacheAnswer.{CacheAnswer}
use Rattle.cache.specs.Held.{contents}
use Rattle.cache.specs.Store.{sizes_fit, is_empty, store_answer, table_after, texts_after}
use Rattle.cache.specs.Lookup.{lookup_answer, handed_back}

-- what the relay lends: a table and a buffer
pub record Memory : Type 0 where
  pub table : List CacheEntry
  pub texts : List ℕ

-- an empty table: it and its buffer have their sizes, and each of its entries counts as empty
unfoldable pub is_empty_table : Memory → Bool
is_empty_table m = sizes_fit (length m.table) (length m.texts) && all is_empty (contents m.table m.texts)

-- a call: a store or a lookup, with its arguments
pub data Call : Type 0 where
  store : (clock : ℕ) (domain id policy : List ℕ) → Call
  lookup : (clock : ℕ) (domain : List ℕ) → Call

-- the clock of a call
unfoldable pub clock_of : Call → ℕ
clock_of (store clock d i p) = clock
clock_of (lookup clock d) = clock

-- the domain of a call
unfoldable pub domain_of : Call → List ℕ
domain_of (store clock d i p) = d
domain_of (lookup clock d) = d

-- a call's answer, but for a text's place: for a lookup its number and length, the text itself with its length, the fetch reading, the id and its length
pub data Answer : Type 0 where
  wrote : WriteAnswer → Answer
  found : (number length : ℕ) (text : List ℕ) (text_length fetched id_length : ℕ) (id : List ℕ) → Answer

-- the answer to a lookup, and the text that it hands back
abbrev pub lookup_in : ℕ → List ℕ → Memory → CacheAnswer
lookup_in clock d m = lookup_answer clock d m.table m.texts

abbrev pub text_in : ℕ → List ℕ → Memory → List ℕ
text_in clock d m = handed_back (lookup_in clock d m) m.texts

-- a lookup's answer over the buffer x, but for the text's place
unfoldable pub placeless : CacheAnswer → List ℕ → Answer
placeless a x = found a.number a.length (handed_back a x) a.text_length a.fetched a.id_length a.id

-- what a call answers
unfoldable pub answer_to : Call → Memory → Answer
answer_to (store clock d i p) m = wrote (store_answer clock d i p m.table m.texts)
answer_to (lookup clock d) m = placeless (lookup_in clock d m) m.texts

-- table and buffer after a call: a lookup changes nothing
unfoldable pub after : Call → Memory → Memory
after (store clock d i p) m = record { table = table_after clock d i p m.table m.texts; texts = texts_after clock d i p m.table m.texts }
after (lookup clock d) m = m

-- table and buffer that a run of calls reaches
unfoldable pub reached : List Call → Memory → Memory
reached [] m = m
reached (k ∷ ks) m = reached ks (after k m)

-- the calls' clocks never go back, and none is before `from`
unfoldable pub rises : ℕ → List Call → Bool
rises from [] = true
rises from (k ∷ ks) = leb from (clock_of k) && rises (clock_of k) ks

-- a call is for this domain
unfoldable pub is_for : List ℕ → Call → Bool
is_for d k = same_text (domain_of k) d

-- the calls of a run for this domain, in their order
unfoldable pub calls_for : List ℕ → List Call → List Call
calls_for d [] = []
calls_for d (k ∷ ks) = cond (is_for d k) (k ∷ calls_for d ks) (calls_for d ks)

-- the answers of a run to these calls, in their order
unfoldable pub answers_for : List ℕ → List Call → Memory → List Answer
answers_for d [] m = []
answers_for d (k ∷ ks) m = cond (is_for d k) (answer_to k m ∷ answers_for d ks (after k m)) (answers_for d ks (after k m))

-- the number of an answer
unfoldable pub number_in : Answer → ℕ
number_in (wrote a) = a.number
number_in (found number length text text_length fetched id_length id) = number

-- none of the calls is refused with 70
unfoldable pub none_full : List Answer → Bool
none_full answers = all (λ (a : Answer). not (eqb (number_in a) 70)) answers
