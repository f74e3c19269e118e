-- Each number is answered exactly where document 02, No. 1, says, and each field of an answer and of an entry is the one that it says: the numbers and limits stand here once more, as
-- literals. Assumes nothing.
use Prim.Native.Nat.{ℕ, ◌-◌, ◌*◌, ◌<◌}
use mathlib.Core.Path.{◌≡◌, refl, sym, ap, ◌∙◌}
use mathlib.Core.Bool.{Bool, true, false, cond, not, ◌&&◌, ◌||◌, and-false}
use mathlib.Core.List.{List, ◌++◌}
use mathlib.Core.Option.{Option, none, some}
use native.Mathlib.Omega.{arith}
use lib.Dec.{eqb, leb, ltb}
use lib.ListN.{length, get_or}
use borrow.Author.Tests.{ne_eqb, leb-true, leb-false, le-leb, ltb-true, lt-ltb, le-ltb}
use Rattle.lists.specs.Bytes.{any}
use Rattle.lists.specs.Equal.{same_text}
use Rattle.lists.specs.Place.{first_place}
use Rattle.lists.specs.Check.{refusal_of}
use Rattle.lists.proofs.Bools.{apart, and_both}
use Rattle.lists.proofs.Place.{first_any}
use Rattle.names.specs.Name.{is_name}
use Rattle.names.proofs.Cover.{name_short, name_same}
use Rattle.clock.specs.Clock.{is_reading, is_live}
use Rattle.policies.specs.Policy.{policy_answer}
use Rattle.policies.proofs.Sanity.{is_policy_refusal, refusal_range, policy_number_lem}
use Rattle.txt.specs.Paper.{is_id}
use Rattle.txt.proofs.Paper.{id_parts}
use Rattle.writing.specs.Answer.{answer_unless}
use Rattle.cache.specs.declared.CacheEntry.{CacheEntry}
use Rattle.cache.specs.declared.CacheAnswer.{CacheAnswer}
use Rattle.cache.specs.Held.{Held, text_place, zeros, unfilled, filled, is_policy, fields_fit, is_accepted, written, held_in, contents}
use Rattle.cache.specs.Store.{is_live_at, is_own, is_empty, is_stale, else_place, own_place, store_place, sizes_fit, argument_checks, store_checks, store_refusal, entry_for, store_answer}
use Rattle.cache.specs.Lookup.{if_live, live_for, only_number, found_at, lookup_refusal, refused_or, lookup_answer, handed_back}
use Rattle.cache.proofs.Fill.{filled_out}
use Rattle.cache.specs.Runs.{Memory, store, lookup, found, answer_to, after}
use Rattle.cache.proofs.Stored.{held_length, sizes_are, Good}
use Rattle.cache.proofs.StoredFound.{place_own}
use Rattle.cache.proofs.Steps.{Sized, handed_text, live_held, stored_sized, stored_found, lookup_shows}

-- ---- a policy's number is 7, or a refusal 50 or 52 to 57
policy_not : (p : List ℕ) (n : ℕ) → (eqb n 7 || is_policy_refusal n) ≡ false → eqb (policy_answer p).number n ≡ false
policy_not p n h = ne_eqb (policy_answer p).number n (λ e. apart (sym h ∙ (rw e at (policy_number_lem p))))

-- ---- an entry counts as empty exactly where its length is over 1,024, or its domain or id (less its final zeros), its fetch reading or its text wouldn't be accepted
pub empty_exactly : (e : CacheEntry) (text : List ℕ)
    → is_empty (held_in e text) ≡ (ltb 1024 e.length || not (is_name (unfilled e.domain)) || not (is_id (unfilled e.id)) || not (is_reading e.fetched) || not (eqb (policy_answer text).number 7))
unfolding is_empty held_in is_accepted fields_fit is_policy
empty_exactly e text =
    go (leb e.length 1024) (is_name (unfilled e.domain)) (is_id (unfilled e.id)) (is_reading e.fetched) (eqb (policy_answer text).number 7)
    ∙ ap (λ (b : Bool). b || not (is_name (unfilled e.domain)) || not (is_id (unfilled e.id)) || not (is_reading e.fetched) || not (eqb (policy_answer text).number 7)) (over_is (leb e.length 1024) refl)
  where
    go : (a b c f g : Bool) → is_empty (cond ((a && b && c && f) && g) (some (written e text)) none) ≡ (not a || not b || not c || not f || not g)
    go false b c f g = refl
    go true false c f g = refl
    go true true false f g = refl
    go true true true false g = refl
    go true true true true false = refl
    go true true true true true = refl

    over_is : (b : Bool) → leb e.length 1024 ≡ b → not b ≡ ltb 1024 e.length
    over_is true h = sym (le-ltb 1024 e.length (leb-true e.length 1024 h))
    over_is false h = sym (lt-ltb 1024 e.length (leb-false e.length 1024 h))

-- ---- there is a place exactly where an entry is the domain's own, or empty, or stale by then
pub place_exactly : (clock : ℕ) (d : List ℕ) (c : List (Option Held)) → ltb (store_place clock d c) (length c) ≡ (any (is_own d) c || any is_empty c || any (is_stale clock) c)
unfolding store_place else_place
place_exactly clock d c = rw (sym (first_any (is_own d) c), sym (first_any is_empty c), sym (first_any (is_stale clock) c)) (go (ltb (own_place d c) (length c)) refl (ltb (first_place is_empty c) (length c)) refl)
  where
    go : (a : Bool) → ltb (own_place d c) (length c) ≡ a → (b : Bool) → ltb (first_place is_empty c) (length c) ≡ b
        → ltb (cond a (own_place d c) (cond b (first_place is_empty c) (first_place (is_stale clock) c))) (length c) ≡ (a || b || ltb (first_place (is_stale clock) c) (length c))
    go true e b f = e
    go false e true f = f
    go false e false f = refl

-- and it is the domain's own entry, else an empty one, else one that is stale by then: of each kind the first (`IsFirst-passes`, `first_least`)
module _ (clock : ℕ) (d : List ℕ) (c : List (Option Held)) where
  pub takes_own : any (is_own d) c ≡ true → store_place clock d c ≡ first_place (is_own d) c
  takes_own own = place_own c clock d (ltb-true (own_place d c) (length c) (first_any (is_own d) c ∙ own))

  pub takes_empty : any (is_own d) c ≡ false → any is_empty c ≡ true → store_place clock d c ≡ first_place is_empty c
  unfolding store_place else_place
  takes_empty own empty = rw (first_any (is_own d) c, own, first_any is_empty c, empty)

  pub takes_stale : any (is_own d) c ≡ false → any is_empty c ≡ false → store_place clock d c ≡ first_place (is_stale clock) c
  unfolding store_place else_place
  takes_stale own empty = rw (first_any (is_own d) c, own, first_any is_empty c, empty)

-- ---- the order of a store's refusals, and each number in it
abbrev in_order : (a b c e g h k : Bool) → ℕ → ℕ
in_order a b c e g h k q = cond a (cond b (cond c (cond e (cond g (cond h (cond k 15 70) 71) q) 80) 60) 62) 74

at_74 : (a b c e g h k : Bool) (q : ℕ) → eqb q 74 ≡ false → eqb (in_order a b c e g h k q) 74 ≡ not a
at_74 false b c e g h k q z = refl
at_74 true false c e g h k q z = refl
at_74 true true false e g h k q z = refl
at_74 true true true false g h k q z = refl
at_74 true true true true false h k q z = z
at_74 true true true true true false k q z = refl
at_74 true true true true true true false q z = refl
at_74 true true true true true true true q z = refl

at_62 : (a b c e g h k : Bool) (q : ℕ) → eqb q 62 ≡ false → eqb (in_order a b c e g h k q) 62 ≡ (a && not b)
at_62 false b c e g h k q z = refl
at_62 true false c e g h k q z = refl
at_62 true true false e g h k q z = refl
at_62 true true true false g h k q z = refl
at_62 true true true true false h k q z = z
at_62 true true true true true false k q z = refl
at_62 true true true true true true false q z = refl
at_62 true true true true true true true q z = refl

at_60 : (a b c e g h k : Bool) (q : ℕ) → eqb q 60 ≡ false → eqb (in_order a b c e g h k q) 60 ≡ (a && (b && not c))
at_60 false b c e g h k q z = refl
at_60 true false c e g h k q z = refl
at_60 true true false e g h k q z = refl
at_60 true true true false g h k q z = refl
at_60 true true true true false h k q z = z
at_60 true true true true true false k q z = refl
at_60 true true true true true true false q z = refl
at_60 true true true true true true true q z = refl

at_80 : (a b c e g h k : Bool) (q : ℕ) → eqb q 80 ≡ false → eqb (in_order a b c e g h k q) 80 ≡ (a && (b && (c && not e)))
at_80 false b c e g h k q z = refl
at_80 true false c e g h k q z = refl
at_80 true true false e g h k q z = refl
at_80 true true true false g h k q z = refl
at_80 true true true true false h k q z = z
at_80 true true true true true false k q z = refl
at_80 true true true true true true false q z = refl
at_80 true true true true true true true q z = refl

at_71 : (a b c e g h k : Bool) (q : ℕ) → eqb q 71 ≡ false → eqb (in_order a b c e g h k q) 71 ≡ (a && (b && (c && (e && (g && not h)))))
at_71 false b c e g h k q z = refl
at_71 true false c e g h k q z = refl
at_71 true true false e g h k q z = refl
at_71 true true true false g h k q z = refl
at_71 true true true true false h k q z = z
at_71 true true true true true false k q z = refl
at_71 true true true true true true false q z = refl
at_71 true true true true true true true q z = refl

at_70 : (a b c e g h k : Bool) (q : ℕ) → eqb q 70 ≡ false → eqb (in_order a b c e g h k q) 70 ≡ (a && (b && (c && (e && (g && (h && not k))))))
at_70 false b c e g h k q z = refl
at_70 true false c e g h k q z = refl
at_70 true true false e g h k q z = refl
at_70 true true true false g h k q z = refl
at_70 true true true true false h k q z = z
at_70 true true true true true false k q z = refl
at_70 true true true true true true false q z = refl
at_70 true true true true true true true q z = refl

at_15 : (a b c e g h k : Bool) (q : ℕ) → eqb q 15 ≡ false → eqb (in_order a b c e g h k q) 15 ≡ (a && (b && (c && (e && (g && (h && k))))))
at_15 false b c e g h k q z = refl
at_15 true false c e g h k q z = refl
at_15 true true false e g h k q z = refl
at_15 true true true false g h k q z = refl
at_15 true true true true false h k q z = z
at_15 true true true true true false k q z = refl
at_15 true true true true true true false q z = refl
at_15 true true true true true true true q z = refl

at_policy : (n : ℕ) → eqb 74 n ≡ false → eqb 62 n ≡ false → eqb 60 n ≡ false → eqb 80 n ≡ false → eqb 71 n ≡ false → eqb 70 n ≡ false → eqb 15 n ≡ false
    → (a b c e g h k : Bool) (q : ℕ) → eqb (in_order a b c e g h k q) n ≡ (a && (b && (c && (e && (not g && eqb q n)))))
at_policy n o p r s t u v false b c e g h k q = o
at_policy n o p r s t u v true false c e g h k q = p
at_policy n o p r s t u v true true false e g h k q = r
at_policy n o p r s t u v true true true false g h k q = s
at_policy n o p r s t u v true true true true false h k q = refl
at_policy n o p r s t u v true true true true true false k q = t
at_policy n o p r s t u v true true true true true true false q = u
at_policy n o p r s t u v true true true true true true true q = v

-- ---- a store
module _ (clock : ℕ) (d i p : List ℕ) (t : List CacheEntry) (x : List ℕ) where
  abbrev c : List (Option Held)
  c = contents t x

  -- table and buffer have their sizes
  abbrev sizes : Bool
  sizes = eqb (length t) 64 && eqb (length x) 65536

  -- the policy's text has room in an entry
  abbrev short : Bool
  short = leb (length p) 1024

  -- an entry is the domain's own, or empty, or stale by then
  abbrev taken : Bool
  taken = any (is_own d) c || any is_empty c || any (is_stale clock) c

  abbrev number : ℕ
  number = (store_answer clock d i p t x).number

  -- the number, in the order 74, 62, 60, 80, 50, 53 to 57, 52, 71, 70; else 15
  pub store_number : number ≡ in_order sizes (is_reading clock) (is_name d) (is_id i) (is_policy p) short taken (policy_answer p).number
  unfolding store_answer answer_unless store_refusal store_checks argument_checks refusal_of sizes_fit
  store_number =
      go sizes (is_reading clock) (is_name d) (is_id i) (is_policy p) short (ltb (store_place clock d c) (length t))
      ∙ ap (λ (k : Bool). in_order sizes (is_reading clock) (is_name d) (is_id i) (is_policy p) short k (policy_answer p).number) (ap (ltb (store_place clock d c)) (sym (held_length x 0 t)) ∙ place_exactly clock d c)
    where
      go : (a b e f g h k : Bool)
          → (answer_unless (cond a (cond b (cond e (cond f (cond g (cond h (cond k none (some 70)) (some 71)) (some (policy_answer p).number)) (some 80)) (some 60)) (some 62)) (some 74)) 0).number
          ≡ in_order a b e f g h k (policy_answer p).number
      go false b e f g h k = refl
      go true false e f g h k = refl
      go true true false f g h k = refl
      go true true true false g h k = refl
      go true true true true false h k = refl
      go true true true true true false k = refl
      go true true true true true true false = refl
      go true true true true true true true = refl

  pub exactly_74 : eqb number 74 ≡ not sizes
  exactly_74 = ap (λ (k : ℕ). eqb k 74) store_number ∙ at_74 sizes (is_reading clock) (is_name d) (is_id i) (is_policy p) short taken (policy_answer p).number (policy_not p 74 refl)

  pub exactly_62 : eqb number 62 ≡ (sizes && not (is_reading clock))
  exactly_62 = ap (λ (k : ℕ). eqb k 62) store_number ∙ at_62 sizes (is_reading clock) (is_name d) (is_id i) (is_policy p) short taken (policy_answer p).number (policy_not p 62 refl)

  pub exactly_60 : eqb number 60 ≡ (sizes && ((is_reading clock) && not (is_name d)))
  exactly_60 = ap (λ (k : ℕ). eqb k 60) store_number ∙ at_60 sizes (is_reading clock) (is_name d) (is_id i) (is_policy p) short taken (policy_answer p).number (policy_not p 60 refl)

  pub exactly_80 : eqb number 80 ≡ (sizes && ((is_reading clock) && ((is_name d) && not (is_id i))))
  exactly_80 = ap (λ (k : ℕ). eqb k 80) store_number ∙ at_80 sizes (is_reading clock) (is_name d) (is_id i) (is_policy p) short taken (policy_answer p).number (policy_not p 80 refl)

  pub exactly_71 : eqb number 71 ≡ (sizes && ((is_reading clock) && ((is_name d) && ((is_id i) && ((is_policy p) && not short)))))
  exactly_71 = ap (λ (k : ℕ). eqb k 71) store_number ∙ at_71 sizes (is_reading clock) (is_name d) (is_id i) (is_policy p) short taken (policy_answer p).number (policy_not p 71 refl)

  pub exactly_70 : eqb number 70 ≡ (sizes && ((is_reading clock) && ((is_name d) && ((is_id i) && ((is_policy p) && (short && not taken))))))
  exactly_70 = ap (λ (k : ℕ). eqb k 70) store_number ∙ at_70 sizes (is_reading clock) (is_name d) (is_id i) (is_policy p) short taken (policy_answer p).number (policy_not p 70 refl)

  pub exactly_15 : eqb number 15 ≡ (sizes && ((is_reading clock) && ((is_name d) && ((is_id i) && ((is_policy p) && (short && taken))))))
  exactly_15 = ap (λ (k : ℕ). eqb k 15) store_number ∙ at_15 sizes (is_reading clock) (is_name d) (is_id i) (is_policy p) short taken (policy_answer p).number (policy_not p 15 refl)

  -- 50 or 52 to 57: a policy that is not accepted, by its own number
  pub exactly_policy : (n : ℕ) → is_policy_refusal n ≡ true → eqb number n ≡ (sizes && ((is_reading clock) && ((is_name d) && ((is_id i) && (not (is_policy p) && eqb (policy_answer p).number n)))))
  exactly_policy n h =
      let u = (refusal_range n h).1 in
      let l = (refusal_range n h).0 in
      ap (λ (k : ℕ). eqb k n) store_number
      ∙ at_policy n (ne_eqb 74 n (λ e. omega (arith, u))) (ne_eqb 62 n (λ e. omega (arith, u))) (ne_eqb 60 n (λ e. omega (arith, u))) (ne_eqb 80 n (λ e. omega (arith, u))) (ne_eqb 71 n (λ e. omega (arith, u))) (ne_eqb 70 n (λ e. omega (arith, u))) (ne_eqb 15 n (λ e. omega (arith, l))) sizes (is_reading clock) (is_name d) (is_id i) (is_policy p) short taken (policy_answer p).number

  -- and never 51
  pub never_51 : eqb number 51 ≡ false
  never_51 = ap (λ (k : ℕ). eqb k 51) store_number ∙ at_policy 51 refl refl refl refl refl refl refl sizes (is_reading clock) (is_name d) (is_id i) (is_policy p) short taken (policy_answer p).number ∙ rw (policy_not p 51 refl) (simp and-false)

  -- a store has no output
  pub store_length : (store_answer clock d i p t x).length ≡ 0
  unfolding store_answer answer_unless
  store_length = go (store_refusal clock d i p t x)
    where
      go : (o : Option ℕ) → (answer_unless o 0).length ≡ 0
      go none = refl
      go (some r) = refl

-- ---- the entry that a store writes: domain and id filled up with zeros to 253 and 32 bytes
module _ (clock : ℕ) (d i p : List ℕ) where
  pub entry_domain : is_name d ≡ true → (entry_for clock d i p).domain ≡ d ++ zeros (253 - length d)
  unfolding entry_for
  entry_domain h = filled_out 253 d (name_short d h)

  pub entry_id : is_id i ≡ true → (entry_for clock d i p).id ≡ i ++ zeros (32 - length i)
  unfolding entry_for
  entry_id h = filled_out 32 i (id_parts i h).1

  pub entry_numbers : ((entry_for clock d i p).fetched ≡ clock) × ((entry_for clock d i p).length ≡ length p)
  unfolding entry_for
  entry_numbers = (refl, refl)

-- an entry's text stands at 1,024 times its place
pub text_place_lem : (k : ℕ) → text_place k ≡ 1024 * k
unfolding text_place
text_place_lem k = refl

-- ---- a lookup: the number, in the order 74, 62, 60, 72; else 15
unfoldable pub is_some : Option Held → Bool
is_some none = false
is_some (some h) = true

module _ (clock : ℕ) (d : List ℕ) (t : List CacheEntry) (x : List ℕ) where
  abbrev answer : CacheAnswer
  answer = lookup_answer clock d t x

  -- the domain's live policy
  abbrev live : Option Held
  live = live_for clock d (contents t x)

  abbrev has : Bool
  has = is_some live

  abbrev sized : Bool
  sized = eqb (length t) 64 && eqb (length x) 65536

  pub lookup_number : answer.number ≡ cond sized (cond (is_reading clock) (cond (is_name d) (cond has 15 72) 60) 62) 74
  unfolding lookup_answer lookup_refusal refusal_of sizes_fit refused_or only_number found_at is_some
  lookup_number = go sized (is_reading clock) (is_name d) live
    where
      go : (a b c : Bool) (o : Option Held)
          → (refused_or (cond a (cond b (cond c none (some 60)) (some 62)) (some 74)) (found_at (own_place d (contents t x)) o)).number ≡ cond a (cond b (cond c (cond (is_some o) 15 72) 60) 62) 74
      go false b c o = refl
      go true false c o = refl
      go true true false o = refl
      go true true true none = refl
      go true true true (some h) = refl

  pub looks_74 : eqb answer.number 74 ≡ not sized
  looks_74 = ap (λ (k : ℕ). eqb k 74) lookup_number ∙ go sized (is_reading clock) (is_name d) has
    where
      go : (a b c f : Bool) → eqb (cond a (cond b (cond c (cond f 15 72) 60) 62) 74) 74 ≡ not a
      go false b c f = refl
      go true false c f = refl
      go true true false f = refl
      go true true true false = refl
      go true true true true = refl

  pub looks_62 : eqb answer.number 62 ≡ (sized && not (is_reading clock))
  looks_62 = ap (λ (k : ℕ). eqb k 62) lookup_number ∙ go sized (is_reading clock) (is_name d) has
    where
      go : (a b c f : Bool) → eqb (cond a (cond b (cond c (cond f 15 72) 60) 62) 74) 62 ≡ (a && not b)
      go false b c f = refl
      go true false c f = refl
      go true true false f = refl
      go true true true false = refl
      go true true true true = refl

  pub looks_60 : eqb answer.number 60 ≡ (sized && ((is_reading clock) && not (is_name d)))
  looks_60 = ap (λ (k : ℕ). eqb k 60) lookup_number ∙ go sized (is_reading clock) (is_name d) has
    where
      go : (a b c f : Bool) → eqb (cond a (cond b (cond c (cond f 15 72) 60) 62) 74) 60 ≡ (a && (b && not c))
      go false b c f = refl
      go true false c f = refl
      go true true false f = refl
      go true true true false = refl
      go true true true true = refl

  pub looks_72 : eqb answer.number 72 ≡ (sized && ((is_reading clock) && ((is_name d) && not has)))
  looks_72 = ap (λ (k : ℕ). eqb k 72) lookup_number ∙ go sized (is_reading clock) (is_name d) has
    where
      go : (a b c f : Bool) → eqb (cond a (cond b (cond c (cond f 15 72) 60) 62) 74) 72 ≡ (a && (b && (c && not f)))
      go false b c f = refl
      go true false c f = refl
      go true true false f = refl
      go true true true false = refl
      go true true true true = refl

  pub looks_15 : eqb answer.number 15 ≡ (sized && ((is_reading clock) && ((is_name d) && has)))
  looks_15 = ap (λ (k : ℕ). eqb k 15) lookup_number ∙ go sized (is_reading clock) (is_name d) has
    where
      go : (a b c f : Bool) → eqb (cond a (cond b (cond c (cond f 15 72) 60) 62) 74) 15 ≡ (a && (b && (c && f)))
      go false b c f = refl
      go true false c f = refl
      go true true false f = refl
      go true true true false = refl
      go true true true true = refl

  -- every other field is zero where nothing is found
  pub looks_zero : eqb answer.number 15 ≡ false → answer ≡ record { number = answer.number; length = 0; text_start = 0; text_length = 0; fetched = 0; id_length = 0; id = zeros 32 }
  unfolding lookup_answer refused_or only_number found_at
  looks_zero = go (lookup_refusal clock d (length t) (length x)) live
    where
      go : (r : Option ℕ) (o : Option Held) → eqb (refused_or r (found_at (own_place d (contents t x)) o)).number 15 ≡ false
          → refused_or r (found_at (own_place d (contents t x)) o) ≡ record { number = (refused_or r (found_at (own_place d (contents t x)) o)).number; length = 0; text_start = 0; text_length = 0; fetched = 0; id_length = 0; id = zeros 32 }
      go (some r) o h = refl
      go none none h = refl
      go none (some y) h = apart (sym h)

  -- where a policy is found its text is a part of the buffer, and the other fields are the entry's
  pub looks_found : (h : Held) → lookup_refusal clock d (length t) (length x) ≡ none → live ≡ some h
      → (answer ≡ record { number = 15; length = 0; text_start = 1024 * own_place d (contents t x); text_length = length h.text; fetched = h.fetched; id_length = length h.id; id = filled 32 h.id })
      × (handed_back answer x ≡ h.text)
  unfolding lookup_answer refused_or found_at handed_back text_place live_for
  looks_found h r e = (rw (r, e), rw (r, e) (handed_text t x (own_place d (contents t x)) h (live_held clock (get_or (contents t x) (own_place d (contents t x)) none) h (live_is h e))))
    where
      live_is : (h : Held) → live ≡ some h → if_live clock (get_or (contents t x) (own_place d (contents t x)) none) ≡ some h
      live_is h e = e

-- ---- what is stored is found: after a store that answers 15, in whatever table, a lookup for its domain, in any spelling, at a clock at which the policy has time left, hands back this
-- policy, its id, and the store's clock as fetch reading
module _ (m : Memory) (clock : ℕ) (d i p : List ℕ) (done : (store_answer clock d i p m.table m.texts).number ≡ 15) where
  abbrev t : List CacheEntry
  t = m.table

  abbrev x : List ℕ
  x = m.texts

  abbrev place : ℕ
  place = store_place clock d (contents t x)

  -- such a store has no refusal
  record Accepted : Type 0 where
    sized : Sized m
    good : Good clock d i p
    there : place < length t

  accepted : Accepted
  unfolding sizes_fit
  accepted =
      let all : (sizes clock d i p t x && (is_reading clock && (is_name d && (is_id i && (is_policy p && (short clock d i p t x && taken clock d i p t x)))))) ≡ true = sym (exactly_15 clock d i p t x) ∙ ap (λ (k : ℕ). eqb k 15) done in
      let a = and_both _ _ all in
      let b = and_both _ _ a.1 in
      let c = and_both _ _ b.1 in
      let e = and_both _ _ c.1 in
      let f = and_both _ _ e.1 in
      let g = and_both _ _ f.1 in
      let fit : (length t ≡ 64) × (length x ≡ 65536) = sizes_are (length t) (length x) a.0 in
      record {
        sized = record { table_size = fit.0; texts_size = fit.1 };
        good = record { reading = b.0; name = c.0; id_form = e.0; policy = f.0; short = leb-true (length p) 1024 g.0 };
        there = ltb-true place (length t) (ap (ltb place) (sym (held_length x 0 t)) ∙ (place_exactly clock d (contents t x) ∙ g.1));
      }

  no_refusal : (s : Accepted) → store_refusal clock d i p t x ≡ none
  unfolding store_refusal store_checks argument_checks refusal_of sizes_fit
  no_refusal s =
      rw (lt-ltb place (length t) s.there, s.sized.table_size, s.sized.texts_size, s.good.reading, s.good.name, s.good.id_form, s.good.policy, le-leb (length p) 1024 s.good.short)

  pub stored_then_found : (later : ℕ) (e : List ℕ) → same_text d e ≡ true → is_reading later ≡ true → is_live clock (policy_answer p).lifetime later ≡ true
      → answer_to (lookup later e) (after (store clock d i p) m) ≡ found 15 0 p (length p) clock (length i) (filled 32 i)
  unfolding refusal_of if_live is_live_at
  stored_then_found later e same reading live =
      let s : Accepted = accepted in
      let sized : Sized (after (store clock d i p) m) = stored_sized m s.sized clock d i p s.good s.there (no_refusal s) in
      lookup_shows (after (store clock d i p) m) sized later e
      ∙ rw (stored_found m s.sized clock d i p s.good s.there (no_refusal s) e same later, reading, sym (name_same d e same), s.good.name, live)
