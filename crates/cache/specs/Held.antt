-- Read this first. Document 02, No. 1: what the lent table and buffer hold. "64 entries, each with domain, id, fetch reading and length (domain and id filled up with
-- zeros to 253 and 32 bytes ..), and for each entry 1,024 bytes of policy text in a second lent buffer. .. An entry whose length is over 1,024, or whose domain or id
-- (less its final zeros), fetch reading or text wouldn't be accepted, counts as empty." Which entry a store takes and what a lookup finds (`Store`, `Lookup`) goes by `contents` alone.
use Rattle.std.specs.Prelude.{ℕ, ◌+◌, ◌*◌, Bool, cond, ◌&&◌, List, [], ◌∷◌, eqb, leb, take, drop, replicate}
use Rattle.std.proofs.Math.Option.{Option, none, some}
use Rattle.lists.specs.Span.{trimmed}
use Rattle.lists.specs.Write.{wrote_front}
use Rattle.names.specs.Name.{is_name}
use Rattle.clock.specs.Clock.{is_reading}
use Rattle.policies.specs.Policy.{policy_answer}
use Rattle.txt.specs.Paper.{is_id}
use Rattle.cache.specs.declared.CacheEntry.{CacheEntry}

-- how many entries a table has
abbrev pub entries : ℕ
entries = 64

-- for each entry so many bytes of policy text
abbrev pub room : ℕ
room = 1024

-- where the text of the entry at position i begins in the buffer
unfoldable pub text_place : ℕ → ℕ
text_place i = room * i

-- a zero
unfoldable pub is_zero : ℕ → Bool
is_zero b = eqb b 0

-- a text less its final zeros
abbrev pub unfilled : List ℕ → List ℕ
unfilled s = trimmed is_zero s

-- n zeros
abbrev pub zeros : ℕ → List ℕ
zeros n = replicate n 0

-- a text filled up with zeros to n bytes: over the front of n zeros
unfoldable pub filled : ℕ → List ℕ → List ℕ
filled n s = wrote_front s (zeros n)

-- a policy's text that is accepted
unfoldable pub is_policy : List ℕ → Bool
is_policy p = eqb (policy_answer p).number 7

-- what an entry holds: a domain, an id, the clock of the fetch and the policy's text
pub record Held : Type 0 where
  pub domain : List ℕ
  pub id : List ℕ
  pub fetched : ℕ
  pub text : List ℕ

-- the text of the entry e at position i, in the buffer x
unfoldable pub text_at : List ℕ → ℕ → CacheEntry → List ℕ
text_at x i e = take e.length (drop (text_place i) x)

-- the fields of an entry are accepted: its length, its domain and its id less their final zeros, and its fetch reading
unfoldable pub fields_fit : CacheEntry → Bool
fields_fit e = leb e.length room && is_name (unfilled e.domain) && is_id (unfilled e.id) && is_reading e.fetched

-- an entry with this text is accepted
unfoldable pub is_accepted : CacheEntry → List ℕ → Bool
is_accepted e text = fields_fit e && is_policy text

-- what is written in an entry with this text
abbrev pub written : CacheEntry → List ℕ → Held
written e text = record { domain = unfilled e.domain; id = unfilled e.id; fetched = e.fetched; text = text }

-- what an entry with this text holds; nothing where it counts as empty
unfoldable pub held_in : CacheEntry → List ℕ → Option Held
held_in e text = cond (is_accepted e text) (some (written e text)) none

-- what each entry of a table holds, the first of them at position i
unfoldable pub held_from : List ℕ → ℕ → List CacheEntry → List (Option Held)
held_from x i [] = []
held_from x i (e ∷ t) = held_in e (text_at x i e) ∷ held_from x (i + 1) t

-- what the table t with the buffer x holds, entry by entry
abbrev pub contents : List CacheEntry → List ℕ → List (Option Held)
contents t x = held_from x 0 t

-- an entry of zeros
unfoldable pub no_entry : CacheEntry
no_entry = record { domain = zeros 253; id = zeros 32; fetched = 0; length = 0 }
