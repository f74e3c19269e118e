-- One call on a table of the right size: what it answers, and what its domain finds after it; and where no two entries are for one domain, what each other domain finds. Assumes nothing.
use Prim.Native.Nat.{ℕ, zero, suc, ◌<◌, ◌≤◌}
use mathlib.Core.Path.{◌≡◌, refl, sym, ap, ◌∙◌}
use mathlib.Core.Bool.{Bool, true, false, cond}
use mathlib.Core.List.{List, [], ◌∷◌, ◌++◌}
use mathlib.Core.Option.{Option, none, some}
use native.Mathlib.Omega.{arith}
use lib.Dec.{leb, ltb}
use lib.ListN.{length, get_or, set, take, drop, length-set, get_or-eq_default}
use borrow.Author.Tests.{leb-true, ltb-true, ltb-false}
use Rattle.lists.specs.Bytes.{all}
use Rattle.lists.specs.Equal.{same_text}
use Rattle.lists.proofs.Bools.{never, apart, and_left, and_right}
use Rattle.lists.specs.Check.{Check, refusal_of}
use Rattle.lists.proofs.All.{all_at}
use Rattle.lists.proofs.Place.{first_like}
use Rattle.lists.proofs.Check.{checks_first, checks_more, checks_refused}
use Rattle.names.specs.Name.{is_name}
use Rattle.clock.specs.Clock.{is_reading}
use Rattle.policies.specs.Policy.{policy_answer}
use Rattle.txt.specs.Paper.{is_id}
use Rattle.writing.specs.Over.{over}
use Rattle.writing.proofs.Over.{over_length}
use Rattle.writing.specs.Answer.{unless_refused}
use Rattle.cache.specs.declared.CacheEntry.{CacheEntry}
use Rattle.cache.specs.declared.CacheAnswer.{CacheAnswer}
use Rattle.cache.specs.Held.{Held, text_place, zeros, filled, is_policy, text_at, is_accepted, held_in, contents, no_entry, written}
use Rattle.cache.specs.Store.{sizes_fit, argument_checks, store_checks, store_refusal, entry_for, table_after, texts_after, is_live_at, is_own, is_empty, own_place, store_place, clock_and_name}
use Rattle.cache.specs.Lookup.{if_live, live_for, only_number, found_at, refused_or, lookup_refusal, lookup_answer, handed_back}
use Rattle.cache.specs.Runs.{Memory, is_empty_table, Call, store, lookup, clock_of, domain_of, Answer, found, placeless, answer_to, after, reached}
use Rattle.cache.proofs.Single.{Single, empty_not_own, own_like, own_inside, single_put, other_live, other_found}
use Rattle.cache.proofs.StoredFound.{found_again}
use Rattle.cache.proofs.Stored.{held_length, held_at_lem, sizes_are, given, Good, stored, room_there}

-- ---- the table: its sizes, and no two entries for one domain
pub record Sized (m : Memory) : Type 0 where
  pub table_size : length m.table ≡ 64
  pub texts_size : length m.texts ≡ 65536

pub record Sound (m : Memory) : Type 0 where
  pub sized : Sized m
  pub single : Single (contents m.table m.texts)

sizes_fit_lem : (n m : ℕ) → n ≡ 64 → m ≡ 65536 → sizes_fit n m ≡ true
unfolding sizes_fit
sizes_fit_lem n m p q = rw (p, q)

-- an empty table is such a one
pub sound_empty : (m : Memory) → is_empty_table m ≡ true → Sound m
unfolding is_empty_table
sound_empty m h = record {
  sized = record { table_size = sizes.0; texts_size = sizes.1 };
  single = λ d i j a b. absurd (empty_not_own d (get_or c i none) (all_at is_empty none c i (own_inside c d i a) empty) a);
}
  where
    c : List (Option Held)
    c = contents m.table m.texts

    sizes : (length m.table ≡ 64) × (length m.texts ≡ 65536)
    sizes = sizes_are (length m.table) (length m.texts) (and_left (sizes_fit (length m.table) (length m.texts)) (all is_empty c) h)

    empty : all is_empty c ≡ true
    empty = and_right (sizes_fit (length m.table) (length m.texts)) (all is_empty c) h

empty_at : (c : List (Option Held)) (i : ℕ) → all is_empty c ≡ true → get_or c i none ≡ none
unfolding all is_empty
empty_at [] i h = refl
empty_at (none ∷ c) zero h = refl
empty_at (none ∷ c) (suc i) h = empty_at c i h
empty_at (some k ∷ c) i h = apart h

-- in which nobody finds anything
pub nothing_in_empty : (m : Memory) → is_empty_table m ≡ true → (later : ℕ) (d : List ℕ) → live_for later d (contents m.table m.texts) ≡ none
unfolding is_empty_table live_for if_live
nothing_in_empty m h later d = ap (if_live later) (empty_at c (own_place d c) (and_right (sizes_fit (length m.table) (length m.texts)) (all is_empty c) h))
  where
    c : List (Option Held)
    c = contents m.table m.texts

-- ---- a store
-- accepted arguments, by their checks
pub good_args : (clock : ℕ) (d i p : List ℕ) → refusal_of (argument_checks clock d i p) ≡ none → Good clock d i p
unfolding refusal_of argument_checks
good_args clock d i p h =
    let a = checks_first (is_reading clock) 62 _ h in
    let b = checks_first (is_name d) 60 _ a.1 in
    let c = checks_first (is_id i) 80 _ b.1 in
    let e = checks_first (is_policy p) (policy_answer p).number _ c.1 in
    let f = checks_first (leb (length p) 1024) 71 _ e.1 in
    record { reading = a.0; name = b.0; id_form = c.0; policy = e.0; short = leb-true (length p) 1024 f.0 }

-- what each domain finds
abbrev pub live_in : ℕ → List ℕ → Memory → Option Held
live_in later d m = live_for later d (contents m.table m.texts)

-- and the answer for it
abbrev pub answer_in : ℕ → List ℕ → Memory → CacheAnswer
answer_in later d m = found_at (own_place d (contents m.table m.texts)) (live_in later d m)

-- two spellings of one domain find the same
pub live_like : (later : ℕ) (d e : List ℕ) → same_text d e ≡ true → (m : Memory) → live_in later d m ≡ live_in later e m
unfolding live_for
live_like later d e s m = ap (λ (k : ℕ). if_live later (get_or (contents m.table m.texts) k none)) (first_like (is_own d) (is_own e) (own_like d e s) (contents m.table m.texts))

module _ (m : Memory) (sized : Sized m) (clock : ℕ) (d i p : List ℕ) where
  abbrev t : List CacheEntry
  t = m.table

  abbrev x : List ℕ
  x = m.texts

  abbrev c : List (Option Held)
  c = contents t x

  abbrev call : Call
  call = store clock d i p

  abbrev full : Check
  full = record { passes = ltb (store_place clock d c) (length t); refusal = 70 }

  -- 74 is not the answer
  past_sizes : store_refusal clock d i p t x ≡ refusal_of (argument_checks clock d i p ++ (full ∷ []))
  unfolding store_refusal store_checks refusal_of
  past_sizes = rw (sizes_fit_lem (length t) (length x) sized.table_size sized.texts_size)

  -- refused: nothing changes
  pub refused_kept : (r : ℕ) → store_refusal clock d i p t x ≡ some r → after call m ≡ m
  unfolding after table_after texts_after unless_refused
  refused_kept r h = rw h

  pub refused_args : (r : ℕ) → refusal_of (argument_checks clock d i p) ≡ some r → store_refusal clock d i p t x ≡ some r
  refused_args r h = past_sizes ∙ checks_refused (argument_checks clock d i p) (full ∷ []) r h

  -- accepted arguments: the place decides
  pub by_place : refusal_of (argument_checks clock d i p) ≡ none → store_refusal clock d i p t x ≡ cond (ltb (store_place clock d c) (length t)) none (some 70)
  unfolding refusal_of
  by_place h = past_sizes ∙ checks_more (argument_checks clock d i p) (full ∷ []) h

  -- a store is refused, or its arguments are good and it has a place
  pub store_ways : {C : Type 0} → ((r : ℕ) → store_refusal clock d i p t x ≡ some r → C) → (Good clock d i p → store_place clock d c < length t → store_refusal clock d i p t x ≡ none → C) → C
  store_ways {C} f g = go (refusal_of (argument_checks clock d i p)) refl
    where
      place : (b : Bool) → ltb (store_place clock d c) (length t) ≡ b → Good clock d i p → store_refusal clock d i p t x ≡ cond b none (some 70) → C
      place true e good h = g good (ltb-true (store_place clock d c) (length t) e) h
      place false e good h = f 70 h

      go : (o : Option ℕ) → refusal_of (argument_checks clock d i p) ≡ o → C
      go (some r) e = f r (refused_args r e)
      go none e = place (ltb (store_place clock d c) (length t)) refl (good_args clock d i p e) (by_place e)

  -- an accepted store
  module _ (good : Good clock d i p) (there : store_place clock d c < length t) (accepted : store_refusal clock d i p t x ≡ none) where
    abbrev k : ℕ
    k = store_place clock d c

    in_c : k < length c
    in_c = omega (arith, there, held_length x 0 t)

    in_64 : k < 64
    in_64 = omega (arith, there, sized.table_size)

    after_is : after call m ≡ record { table = set t k (entry_for clock d i p); texts = over (text_place k) p x }
    unfolding after table_after texts_after unless_refused
    after_is = rw accepted

    pub holds : contents (after call m).table (after call m).texts ≡ set c k (some (given clock d i p))
    holds = rw after_is (stored clock d i p good k x in_64 sized.texts_size t sized.table_size)

    pub stored_sized : Sized (after call m)
    stored_sized = record {
      table_size = ap (λ (n : Memory). length n.table) after_is ∙ (length-set t k (entry_for clock d i p) ∙ sized.table_size);
      texts_size = ap (λ (n : Memory). length n.texts) after_is ∙ (over_length (text_place k) p x (room_there clock d i p good k x in_64 sized.texts_size) ∙ sized.texts_size);
    }

    -- the domain finds it
    pub stored_found : (e : List ℕ) → same_text d e ≡ true → (later : ℕ) → live_in later e (after call m) ≡ if_live later (some (given clock d i p))
    stored_found e s later = rw holds (found_again c clock d (given clock d i p) refl in_c e s later)

    module _ (single : Single c) where
      pub stored_sound : Sound (after call m)
      stored_sound = record { sized = stored_sized; single = rw holds (single_put c single clock d (given clock d i p) refl in_c) }

      -- another domain finds what it found
      pub stored_other : (e : List ℕ) → same_text d e ≡ false → (later : ℕ) → clock ≤ later → live_in later e (after call m) ≡ live_in later e m
      stored_other e other later w = rw holds (other_live c single clock d (given clock d i p) refl in_c e other later w)

      pub stored_place : (e : List ℕ) → same_text d e ≡ false → (later : ℕ) → clock ≤ later → answer_in later e (after call m) ≡ answer_in later e m
      stored_place e other later w = rw holds (other_found c single clock d (given clock d i p) refl in_c e other later w)

-- ---- any call
pub sound_after : (m : Memory) → Sound m → (k : Call) → Sound (after k m)
unfolding after
sound_after m s (store clock d i p) =
    store_ways m s.sized clock d i p
    (λ r e. rw (refused_kept m s.sized clock d i p r e) s)
    (λ good there e. stored_sound m s.sized clock d i p good there e s.single)
sound_after m s (lookup clock d) = s

pub sound_reached : (ks : List Call) (m : Memory) → Sound m → Sound (reached ks m)
unfolding reached
sound_reached [] m s = s
sound_reached (k ∷ ks) m s = sound_reached ks (after k m) (sound_after m s k)

pub other_after : (m : Memory) → Sound m → (k : Call) (e : List ℕ) → same_text (domain_of k) e ≡ false → (later : ℕ) → clock_of k ≤ later → live_in later e (after k m) ≡ live_in later e m
unfolding after domain_of clock_of
other_after m s (store clock d i p) e other later w =
    store_ways m s.sized clock d i p
    (λ r h. ap (live_in later e) (refused_kept m s.sized clock d i p r h))
    (λ good there h. stored_other m s.sized clock d i p good there h s.single e other later w)
other_after m s (lookup clock d) e other later w = refl

pub place_after : (m : Memory) → Sound m → (clock : ℕ) (d i p e : List ℕ) → same_text d e ≡ false → (later : ℕ) → clock ≤ later → answer_in later e (after (store clock d i p) m) ≡ answer_in later e m
place_after m s clock d i p e other later w =
    store_ways m s.sized clock d i p
    (λ r h. ap (answer_in later e) (refused_kept m s.sized clock d i p r h))
    (λ good there h. stored_place m s.sized clock d i p good there h s.single e other later w)

-- ---- a lookup
take_own : (n : ℕ) (l : List ℕ) → take (length (take n l)) l ≡ take n l
take_own zero l = refl
take_own (suc n) [] = refl
take_own (suc n) (b ∷ l) = ap (λ (r : List ℕ). b ∷ r) (take_own n l)

-- the text of what an entry holds is the entry's
text_is : (e : CacheEntry) (text : List ℕ) (h : Held) → held_in e text ≡ some h → text ≡ h.text
unfolding held_in
text_is e text h q = go (is_accepted e text) q
  where
    go : (b : Bool) → cond b (some (written e text)) none ≡ some h → text ≡ h.text
    go true g = cc
    go false g = never cc

pub live_held : (clock : ℕ) (o : Option Held) (h : Held) → if_live clock o ≡ some h → o ≡ some h
unfolding if_live
live_held clock none h q = never cc
live_held clock (some k) h q = go (is_live_at clock k) q
  where
    go : (b : Bool) → cond b (some k) none ≡ some h → some k ≡ some h
    go true g = g
    go false g = never cc

-- what a lookup shows of a live policy, or of none, but for the text's place
abbrev pub shown : Option ℕ → Option Held → Answer
shown (some r) o = found r 0 [] 0 0 0 (zeros 32)
shown none none = found 72 0 [] 0 0 0 (zeros 32)
shown none (some h) = found 15 0 h.text (length h.text) h.fetched (length h.id) (filled 32 h.id)

entry_text : (x : List ℕ) (k : ℕ) (e : CacheEntry) (text : List ℕ) → text_at x k e ≡ text → take (length text) (drop (text_place k) x) ≡ text
unfolding text_at
entry_text x k e text g = ap (λ (s : List ℕ). take (length s) (drop (text_place k) x)) (sym g) ∙ (take_own e.length (drop (text_place k) x) ∙ g)

-- the text handed back is the policy's
pub handed_text : (t : List CacheEntry) (x : List ℕ) (k : ℕ) (h : Held) → get_or (contents t x) k none ≡ some h → take (length h.text) (drop (text_place k) x) ≡ h.text
handed_text t x k h q = go (ltb k (length t)) refl
  where
    go : (b : Bool) → ltb k (length t) ≡ b → take (length h.text) (drop (text_place k) x) ≡ h.text
    go true e =
        let i : k < length t = ltb-true k (length t) e in
        entry_text x k (get_or t k no_entry) h.text (text_is (get_or t k no_entry) (text_at x k (get_or t k no_entry)) h (sym (held_at_lem t x k i) ∙ q))
    go false e =
        let o : length (contents t x) ≤ k = omega (arith, ltb-false k (length t) e, held_length x 0 t) in
        never (cc (get_or-eq_default (contents t x) none o))

module _ (m : Memory) (sized : Sized m) (clock : ℕ) (d : List ℕ) where
  pub past_sizes_too : lookup_refusal clock d (length m.table) (length m.texts) ≡ refusal_of (clock_and_name clock d)
  unfolding lookup_refusal refusal_of
  past_sizes_too = rw (sizes_fit_lem (length m.table) (length m.texts) sized.table_size sized.texts_size)

  -- what a lookup answers, but for the text's place
  pub lookup_shows : answer_to (lookup clock d) m ≡ shown (refusal_of (clock_and_name clock d)) (live_in clock d m)
  unfolding answer_to lookup_answer live_for placeless refused_or found_at only_number handed_back
  lookup_shows = ap (λ (o : Option ℕ). placeless (refused_or o (found_at k (live_in clock d m))) x) past_sizes_too ∙ go (refusal_of (clock_and_name clock d)) (live_in clock d m) refl
    where
      t : List CacheEntry
      t = m.table

      x : List ℕ
      x = m.texts

      k : ℕ
      k = own_place d (contents t x)

      go : (r : Option ℕ) (o : Option Held) → live_in clock d m ≡ o → placeless (refused_or r (found_at k o)) x ≡ shown r o
      go (some r) o e = refl
      go none none e = refl
      go none (some h) e = ap (λ (s : List ℕ). found 15 0 s (length h.text) h.fetched (length h.id) (filled 32 h.id)) (handed_text t x k h (live_held clock (get_or (contents t x) k none) h e))
