-- The code's passes over a table find the place for a store, and the entry for a lookup: the answers and the lent memory are those of the paper. Assumes nothing.
use Prim.Native.Nat.{ℕ, suc, ◌+◌, ◌<◌, ◌≤◌}
use mathlib.Core.Path.{◌≡◌, refl, sym, ap, ◌∙◌}
use mathlib.Core.Bool.{Bool, true, false, cond, not, ◌||◌}
use mathlib.Core.List.{List, [], ◌∷◌, ◌++◌}
use mathlib.Core.Option.{Option, none, some}
use native.Mathlib.Omega.{arith}
use lib.Dec.{leb, ltb}
use lib.ListN.{length, get_or, set, get_or-eq_default}
use lib.Seq.{set_out}
use borrow.Author.Tests.{le-ltb, lt-ltb, leb-true, leb-false, ltb-true, ltb-false, not-true}
use Rattle.lists.specs.Bytes.{all}
use Rattle.lists.specs.Equal.{same_text}
use Rattle.lists.specs.Place.{first_place}
use Rattle.lists.specs.Check.{refusal_of}
use Rattle.lists.proofs.Bools.{apart, and_left, and_right}
use Rattle.lists.proofs.All.{all_more}
use Rattle.lists.proofs.Place.{first_passes, first_like, first_agree, first_none}
use Rattle.lists.proofs.Check.{checks_first, checks_last}
use Rattle.writing.specs.declared.WriteAnswer.{WriteAnswer}
use Rattle.writing.specs.Answer.{answer_unless, unless_refused}
use Rattle.writing.specs.Over.{over}
use Rattle.cache.specs.declared.CacheEntry.{CacheEntry}
use Rattle.cache.specs.declared.State.TheVariants as S
use Rattle.cache.specs.Held.{Held, text_place, unfilled, text_at, is_accepted, written, held_in, held_from, contents, no_entry}
use Rattle.cache.specs.Store.{is_live_at, is_own, is_empty, is_stale, else_place, own_place, store_place, sizes_fit, argument_checks, store_checks, store_refusal, entry_for, store_answer, table_after, texts_after, clock_and_name}
use Rattle.cache.specs.Lookup.{if_live, live_for, found_at, refused_or, lookup_refusal, lookup_answer}
use Rattle.cache.specs.Scan.{Found, Plan, state_of, rank_in, found_of, is_sought, better, step, found_from, scanned, beginning, own_scanned, both_scanned, beyond, refusal_for, refused_plan, plan_by, plan_of, answer_by, answer_from}
use Rattle.cache.proofs.Pass.{ended_stays}
use Rattle.cache.proofs.Search.{held_yes, held_no, own_is, outside_kept}
use Rattle.cache.proofs.Stored.{held_length, held_at_lem, sizes_are}

-- what an entry that is somebody's own holds is what is written there
own_accepted : (d : List ℕ) (e : CacheEntry) (text : List ℕ) → is_own d (held_in e text) ≡ true → held_in e text ≡ some (written e text)
unfolding held_in is_own
own_accepted d e text h = go (is_accepted e text) h
  where
    go : (b : Bool) → is_own d (cond b (some (written e text)) none) ≡ true → cond b (some (written e text)) none ≡ some (written e text)
    go true g = refl
    go false g = apart g

-- a place beyond both
beyond_most : (n m : ℕ) → (n ≤ beyond n m) × (m ≤ beyond n m)
unfolding beyond
beyond_most n m = go (ltb n m) refl
  where
    go : (b : Bool) → ltb n m ≡ b → (n ≤ cond b m n) × (m ≤ cond b m n)
    go true e = let l : n < m = ltb-true n m e in (omega arith, omega arith)
    go false e = let l : m ≤ n = ltb-false n m e in (omega arith, omega arith)

beyond_outside : (k m : ℕ) → m ≤ k → m ≤ text_place k
unfolding text_place
beyond_outside k m h = omega (arith, h)

-- ---- ranks, by what an entry holds: in the pass for the own entry 0 or 1 where it is, in the other 2 or 3 where it is empty or stale
abbrev rank_of : Bool → ℕ → List ℕ → Option Held → ℕ
rank_of true clock d o = cond (is_own d o) (cond (is_stale clock o) 1 0) 4
rank_of false clock d o = cond (is_empty o) 2 (cond (is_stale clock o) 3 4)

rank_most : (own : Bool) (clock : ℕ) (d : List ℕ) (o : Option Held) → rank_of own clock d o ≤ 4
rank_most true clock d o = go (is_own d o) (is_stale clock o)
  where
    go : (a b : Bool) → cond a (cond b 1 0) 4 ≤ 4
    go true true = omega arith
    go true false = omega arith
    go false b = omega arith
rank_most false clock d o = go (is_empty o) (is_stale clock o)
  where
    go : (a b : Bool) → cond a 2 (cond b 3 4) ≤ 4
    go true b = omega arith
    go false true = omega arith
    go false false = omega arith

-- the code's rank of an entry that is looked at, and 4 for one that is not
rank_other : (clock : ℕ) (d : List ℕ) (o : Option Held) → rank_in false (state_of clock o) ≡ rank_of false clock d o
unfolding rank_in state_of is_empty is_stale
rank_other clock d none = refl
rank_other clock d (some h) = go (is_live_at clock h)
  where
    go : (b : Bool) → rank_in false (cond b S.Live S.Stale) ≡ cond (not b) 3 4
    go true = refl
    go false = refl

module _ (clock : ℕ) (d : List ℕ) (e : CacheEntry) (text : List ℕ) where
  abbrev same : Bool
  same = same_text (unfilled e.domain) d

  rank_same : (b : Bool) → is_accepted e text ≡ b → same ≡ true → rank_in true (state_of clock (held_in e text)) ≡ rank_of true clock d (held_in e text)
  unfolding rank_in state_of is_stale is_own
  rank_same true h s = rw (held_yes e text h, s) (go (is_live_at clock (written e text)))
    where
      go : (b : Bool) → rank_in true (cond b S.Live S.Stale) ≡ cond (not b) 1 0
      go true = refl
      go false = refl
  rank_same false h s = rw (held_no e text h)

  rank_another : same ≡ false → rank_of true clock d (held_in e text) ≡ 4
  rank_another s = rw (own_is d e text (is_accepted e text) refl, s)

-- ---- one pass
module _ (own : Bool) (clock : ℕ) (d x : List ℕ) where
  abbrev rank : Option Held → ℕ
  rank o = rank_of own clock d o

  abbrev held_at : ℕ → CacheEntry → Option Held
  held_at i e = held_in e (text_at x i e)

  -- what is taken of an entry
  abbrev taken : Found → CacheEntry → ℕ → Found
  taken s e i = cond (ltb (rank (held_at i e)) s.rank) (found_of (rank (held_at i e)) i e) s

  -- while nothing ends the pass, an entry is taken where its rank is better
  step_is : (s : Found) (e : CacheEntry) (i : ℕ) → 2 < s.rank → s.rank ≤ 4 → step own clock d x s e i ≡ taken s e i
  unfolding step is_sought better
  step_is s e i l m = rw (lt-ltb 2 s.rank l) (go own (same_text (unfilled e.domain) d) refl)
    where
      go : (o b : Bool) → same_text (unfilled e.domain) d ≡ b
          → cond (not o || b) (cond (ltb (rank_in o (state_of clock (held_at i e))) s.rank) (found_of (rank_in o (state_of clock (held_at i e))) i e) s) s
          ≡ cond (ltb (rank_of o clock d (held_at i e)) s.rank) (found_of (rank_of o clock d (held_at i e)) i e) s
      go false b h = rw (rank_other clock d (held_at i e))
      go true true h = rw (rank_same clock d e (text_at x i e) (is_accepted e (text_at x i e)) refl h)
      go true false h = rw (rank_another clock d e (text_at x i e) h, le-ltb 4 s.rank m)

  -- an entry above a rank leaves what was found above it, and nothing comes above 4
  taken_above : (k : ℕ) (s : Found) (e : CacheEntry) (i : ℕ) → k < s.rank → k < rank (held_at i e) → k < (taken s e i).rank
  unfolding found_of
  taken_above k s e i a b = go (ltb (rank (held_at i e)) s.rank)
    where
      go : (t : Bool) → k < (cond t (found_of (rank (held_at i e)) i e) s).rank
      go true = b
      go false = a

  taken_most : (s : Found) (e : CacheEntry) (i : ℕ) → s.rank ≤ 4 → (taken s e i).rank ≤ 4
  unfolding found_of
  taken_most s e i a = go (ltb (rank (held_at i e)) s.rank)
    where
      go : (t : Bool) → (cond t (found_of (rank (held_at i e)) i e) s).rank ≤ 4
      go true = rank_most own clock d (held_at i e)
      go false = a

  -- an entry of at most this rank
  abbrev at_most : ℕ → Option Held → Bool
  at_most k o = leb (rank o) k

  -- the entry at the place k of the entries that stand at i and after, as what was found
  abbrev found_in : ℕ → List CacheEntry → ℕ → Found
  found_in i t k = found_of (rank (get_or (held_from x i t) k none)) (i + k) (get_or t k no_entry)

  -- the first entry that ends the pass is found
  finds_end : (t : List CacheEntry) (i : ℕ) (s : Found) → 2 < s.rank → s.rank ≤ 4 → first_place (at_most 2) (held_from x i t) < length t
      → found_from own clock d x i s t ≡ found_in i t (first_place (at_most 2) (held_from x i t))
  unfolding found_from held_from first_place found_of
  finds_end [] i s a m l = absurd (omega arith)
  finds_end (y ∷ t) i s a m l = go (finds_end t (i + 1) (taken s y i)) (leb (rank (held_at i y)) 2) refl l
    where
      k : ℕ
      k = first_place (at_most 2) (held_from x (i + 1) t)

      here : found_from own clock d x (i + 1) (step own clock d x s y i) t ≡ found_from own clock d x (i + 1) (taken s y i) t
      here = ap (λ (f : Found). found_from own clock d x (i + 1) f t) (step_is s y i a m)

      go : (2 < (taken s y i).rank → (taken s y i).rank ≤ 4 → k < length t → found_from own clock d x (i + 1) (taken s y i) t ≡ found_in (i + 1) t k)
          → (b : Bool) → leb (rank (held_at i y)) 2 ≡ b → cond b 0 (suc k) < suc (length t)
          → found_from own clock d x (i + 1) (step own clock d x s y i) t ≡ found_in i (y ∷ t) (cond b 0 (suc k))
      go ih true e w =
          let low : rank (held_at i y) ≤ 2 = leb-true (rank (held_at i y)) 2 e in
          let now_found : taken s y i ≡ found_of (rank (held_at i y)) i y = rw (lt-ltb (rank (held_at i y)) s.rank (omega (arith, low, a))) in
          let z : i ≡ i + 0 = omega arith in
          here ∙ (ap (λ (f : Found). found_from own clock d x (i + 1) f t) now_found ∙ (ended_stays own clock d x (found_of (rank (held_at i y)) i y) low (i + 1) t ∙ ap (λ (j : ℕ). found_of (rank (held_at i y)) j y) z))
      go ih false e w =
          let above : 2 < rank (held_at i y) = leb-false (rank (held_at i y)) 2 e in
          let z : i + 1 + k ≡ i + suc k = omega arith in
          here ∙ (ih (taken_above 2 s y i a above) (taken_most s y i m) (omega arith) ∙ ap (λ (j : ℕ). found_of (rank (get_or (held_from x (i + 1) t) k none)) j (get_or t k no_entry)) z)

  -- where none does, what has the rank 3 stays
  abbrev above : ℕ → Option Held → Bool
  above k o = not (at_most k o)

  third_stays : (t : List CacheEntry) (i : ℕ) (s : Found) → s.rank ≡ 3 → all (above 2) (held_from x i t) ≡ true → found_from own clock d x i s t ≡ s
  unfolding found_from held_from all
  third_stays [] i s e h = refl
  third_stays (y ∷ t) i s e h =
      let high : 2 < rank (held_at i y) = leb-false (rank (held_at i y)) 2 (not-true (at_most 2 (held_at i y)) (and_left (above 2 (held_at i y)) (all (above 2) (held_from x (i + 1) t)) h)) in
      let kept : step own clock d x s y i ≡ s = step_is s y i (omega (arith, e)) (omega (arith, e)) ∙ rw (le-ltb (rank (held_at i y)) s.rank (omega (arith, e, high))) in
      ap (λ (f : Found). found_from own clock d x (i + 1) f t) kept ∙ third_stays t (i + 1) s e (and_right (above 2 (held_at i y)) (all (above 2) (held_from x (i + 1) t)) h)

  -- and the first of that rank is found
  finds_third : (t : List CacheEntry) (i : ℕ) (s : Found) → s.rank ≡ 4 → all (above 2) (held_from x i t) ≡ true → first_place (at_most 3) (held_from x i t) < length t
      → found_from own clock d x i s t ≡ found_in i t (first_place (at_most 3) (held_from x i t))
  unfolding found_from held_from first_place all found_of
  finds_third [] i s e h l = absurd (omega arith)
  finds_third (y ∷ t) i s e h l = go (finds_third t (i + 1) s e rest) (leb (rank (held_at i y)) 3) refl l
    where
      k : ℕ
      k = first_place (at_most 3) (held_from x (i + 1) t)

      rest : all (above 2) (held_from x (i + 1) t) ≡ true
      rest = and_right (above 2 (held_at i y)) (all (above 2) (held_from x (i + 1) t)) h

      high : 2 < rank (held_at i y)
      high = leb-false (rank (held_at i y)) 2 (not-true (at_most 2 (held_at i y)) (and_left (above 2 (held_at i y)) (all (above 2) (held_from x (i + 1) t)) h))

      here : step own clock d x s y i ≡ taken s y i
      here = step_is s y i (omega (arith, e)) (omega (arith, e))

      go : (k < length t → found_from own clock d x (i + 1) s t ≡ found_in (i + 1) t k)
          → (b : Bool) → leb (rank (held_at i y)) 3 ≡ b → cond b 0 (suc k) < suc (length t)
          → found_from own clock d x (i + 1) (step own clock d x s y i) t ≡ found_in i (y ∷ t) (cond b 0 (suc k))
      go ih true g w =
          let third : rank (held_at i y) ≡ 3 = omega (arith, high, leb-true (rank (held_at i y)) 3 g) in
          let now_found : step own clock d x s y i ≡ found_of (rank (held_at i y)) i y = here ∙ rw (lt-ltb (rank (held_at i y)) s.rank (omega (arith, third, e))) in
          let z : i ≡ i + 0 = omega arith in
          ap (λ (f : Found). found_from own clock d x (i + 1) f t) now_found ∙ (third_stays t (i + 1) (found_of (rank (held_at i y)) i y) third rest ∙ ap (λ (j : ℕ). found_of (rank (held_at i y)) j y) z)
      go ih false g w =
          let fourth : 3 < rank (held_at i y) = leb-false (rank (held_at i y)) 3 g in
          let kept : step own clock d x s y i ≡ s = here ∙ rw (le-ltb (rank (held_at i y)) s.rank (omega (arith, fourth, e))) in
          let z : i + 1 + k ≡ i + suc k = omega arith in
          ap (λ (f : Found). found_from own clock d x (i + 1) f t) kept ∙ (ih (omega arith) ∙ ap (λ (j : ℕ). found_of (rank (get_or (held_from x (i + 1) t) k none)) j (get_or t k no_entry)) z)

  -- or nothing is found
  finds_nothing : (t : List CacheEntry) (i : ℕ) (s : Found) → s.rank ≡ 4 → all (above 3) (held_from x i t) ≡ true → found_from own clock d x i s t ≡ s
  unfolding found_from held_from all
  finds_nothing [] i s e h = refl
  finds_nothing (y ∷ t) i s e h =
      let high : 3 < rank (held_at i y) = leb-false (rank (held_at i y)) 3 (not-true (at_most 3 (held_at i y)) (and_left (above 3 (held_at i y)) (all (above 3) (held_from x (i + 1) t)) h)) in
      let kept : step own clock d x s y i ≡ s = step_is s y i (omega (arith, e)) (omega (arith, e)) ∙ rw (le-ltb (rank (held_at i y)) s.rank (omega (arith, e, high))) in
      ap (λ (f : Found). found_from own clock d x (i + 1) f t) kept ∙ finds_nothing t (i + 1) s e (and_right (above 3 (held_at i y)) (all (above 3) (held_from x (i + 1) t)) h)

-- ---- what the ranks say
own_ends : (clock : ℕ) (d : List ℕ) (o : Option Held) → leb (rank_of true clock d o) 2 ≡ is_own d o
own_ends clock d o = go (is_own d o) (is_stale clock o)
  where
    go : (a b : Bool) → leb (cond a (cond b 1 0) 4) 2 ≡ a
    go true true = refl
    go true false = refl
    go false b = refl

own_none : (clock : ℕ) (d : List ℕ) (o : Option Held) → not (is_own d o) ≡ true → not (leb (rank_of true clock d o) 3) ≡ true
own_none clock d o = go (is_own d o) (is_stale clock o)
  where
    go : (a b : Bool) → not a ≡ true → not (leb (cond a (cond b 1 0) 4) 3) ≡ true
    go true b h = apart h
    go false b h = refl

empty_ends : (clock : ℕ) (d : List ℕ) (o : Option Held) → leb (rank_of false clock d o) 2 ≡ is_empty o
empty_ends clock d o = go (is_empty o) (is_stale clock o)
  where
    go : (a b : Bool) → leb (cond a 2 (cond b 3 4)) 2 ≡ a
    go true b = refl
    go false true = refl
    go false false = refl

empty_none : (clock : ℕ) (d : List ℕ) (o : Option Held) → not (is_empty o) ≡ true → not (leb (rank_of false clock d o) 2) ≡ true
empty_none clock d o h = rw (empty_ends clock d o) h

stale_third : (clock : ℕ) (d : List ℕ) (o : Option Held) → not (is_empty o) ≡ true → leb (rank_of false clock d o) 3 ≡ is_stale clock o
stale_third clock d o = go (is_empty o) (is_stale clock o)
  where
    go : (a b : Bool) → not a ≡ true → leb (cond a 2 (cond b 3 4)) 3 ≡ b
    go true b h = apart h
    go false true h = refl
    go false false h = refl

-- ---- the two passes over a table t with the buffer x
module _ (clock : ℕ) (d x : List ℕ) (t : List CacheEntry) where
  abbrev n : ℕ
  n = length t

  abbrev c : List (Option Held)
  c = contents t x

  count : length c ≡ n
  count = held_length x 0 t

  -- nothing is found yet
  abbrev nothing : Found
  nothing = found_of 4 n no_entry

  -- an entry found at its place
  abbrev found_there : Bool → ℕ → Found
  found_there own k = found_of (rank_of own clock d (get_or c k none)) k (get_or t k no_entry)

  from_start : (own : Bool) (k : ℕ) → found_in own clock d x 0 t k ≡ found_there own k
  from_start own k = let z : 0 + k ≡ k = omega arith in ap (λ (j : ℕ). found_of (rank_of own clock d (get_or c k none)) j (get_or t k no_entry)) z

  own_place_lem : first_place (at_most true clock d x 2) c ≡ own_place d c
  own_place_lem = first_like (at_most true clock d x 2) (is_own d) (own_ends clock d) c

  -- the first pass: the domain's own entry, of several the first, or nothing
  scan_own : own_place d c < n → scanned true clock d nothing t x ≡ found_there true (own_place d c)
  unfolding scanned found_of
  scan_own h = rw own_place_lem at (finds_end true clock d x t 0 nothing (omega arith) (omega arith) (rw (sym own_place_lem) at h)) ∙ from_start true (own_place d c)

  scan_none : n ≤ own_place d c → scanned true clock d nothing t x ≡ nothing
  unfolding scanned found_of
  scan_none h = finds_nothing true clock d x t 0 nothing refl (all_more (λ (o : Option Held). not (is_own d o)) (above true clock d x 3) (own_none clock d) c (first_none (is_own d) c (omega (arith, h, count))))

  -- the second: an empty entry, else a stale one, or nothing
  empty_place : first_place (at_most false clock d x 2) c ≡ first_place is_empty c
  empty_place = first_like (at_most false clock d x 2) is_empty (empty_ends clock d) c

  scan_empty : first_place is_empty c < n → scanned false clock d nothing t x ≡ found_there false (first_place is_empty c)
  unfolding scanned found_of
  scan_empty h = rw empty_place at (finds_end false clock d x t 0 nothing (omega arith) (omega arith) (rw (sym empty_place) at h)) ∙ from_start false (first_place is_empty c)

  module _ (no_empty : n ≤ first_place is_empty c) where
    used : all (λ (o : Option Held). not (is_empty o)) c ≡ true
    used = first_none is_empty c (omega (arith, no_empty, count))

    all_above : all (above false clock d x 2) c ≡ true
    all_above = all_more (λ (o : Option Held). not (is_empty o)) (above false clock d x 2) (empty_none clock d) c used

    stale_place : first_place (at_most false clock d x 3) c ≡ first_place (is_stale clock) c
    stale_place = first_agree (λ (o : Option Held). not (is_empty o)) (at_most false clock d x 3) (is_stale clock) (stale_third clock d) c used

    scan_stale : first_place (is_stale clock) c < n → scanned false clock d nothing t x ≡ found_there false (first_place (is_stale clock) c)
    unfolding scanned found_of
    scan_stale h = rw stale_place at (finds_third false clock d x t 0 nothing refl all_above (rw (sym stale_place) at h)) ∙ from_start false (first_place (is_stale clock) c)

    scan_full : n ≤ first_place (is_stale clock) c → scanned false clock d nothing t x ≡ nothing
    unfolding scanned found_of
    scan_full h = finds_nothing false clock d x t 0 nothing refl (first_none (at_most false clock d x 3) c (omega (arith, h, count, stale_place)))

  -- ---- both passes, over a table and a buffer of their sizes
  module _ (fit : sizes_fit n (length x) ≡ true) where
    begins : beginning n (length x) ≡ nothing
    unfolding beginning
    begins = rw fit

    own_is_found : own_place d c < n → own_scanned clock d t x ≡ found_there true (own_place d c)
    own_is_found h = ap (λ (s : Found). scanned true clock d s t x) begins ∙ scan_own h

    none_is_found : n ≤ own_place d c → own_scanned clock d t x ≡ nothing
    none_is_found h = ap (λ (s : Found). scanned true clock d s t x) begins ∙ scan_none h

    -- an entry below the rank 4 is found exactly where there is a place, and there
    abbrev Placed : ℕ → Type 0
    Placed k = (ltb (both_scanned clock d t x).rank 4 ≡ ltb k n) × (k < n → (both_scanned clock d t x).place ≡ k)

    at_place : (own : Bool) (k : ℕ) → k < n → rank_of own clock d (get_or c k none) < 4 → both_scanned clock d t x ≡ found_there own k → Placed k
    unfolding found_of
    at_place own k h l e = (ap (λ (s : Found). ltb s.rank 4) e ∙ (lt-ltb (rank_of own clock d (get_or c k none)) 4 l ∙ sym (lt-ltb k n h)), λ _. ap (λ (s : Found). s.place) e)

    own_rank : own_place d c < n → rank_of true clock d (get_or c (own_place d c) none) ≤ 2
    own_rank h = leb-true (rank_of true clock d (get_or c (own_place d c) none)) 2 (own_ends clock d (get_or c (own_place d c) none) ∙ first_passes (is_own d) none c (omega (arith, h, count)))

    empty_rank : first_place is_empty c < n → rank_of false clock d (get_or c (first_place is_empty c) none) ≤ 2
    empty_rank h = leb-true (rank_of false clock d (get_or c (first_place is_empty c) none)) 2 (empty_ends clock d (get_or c (first_place is_empty c) none) ∙ first_passes is_empty none c (omega (arith, h, count)))

    stale_rank : first_place (is_stale clock) c < n → rank_of false clock d (get_or c (first_place (is_stale clock) c) none) ≤ 3
    stale_rank h = go (get_or c (first_place (is_stale clock) c) none) (first_passes (is_stale clock) none c (omega (arith, h, count)))
      where
        go : (o : Option Held) → is_stale clock o ≡ true → rank_of false clock d o ≤ 3
        go o s = by (is_empty o) (is_stale clock o) s
          where
            by : (a b : Bool) → b ≡ true → cond a 2 (cond b 3 4) ≤ 3
            by true b e = omega arith
            by false true e = omega arith
            by false false e = apart e

    both_own : own_place d c < n → both_scanned clock d t x ≡ found_there true (own_place d c)
    unfolding scanned found_of
    both_own h = ap (λ (s : Found). scanned false clock d s t x) (own_is_found h) ∙ ended_stays false clock d x (found_there true (own_place d c)) (own_rank h) 0 t

    both_other : n ≤ own_place d c → both_scanned clock d t x ≡ scanned false clock d nothing t x
    both_other h = ap (λ (s : Found). scanned false clock d s t x) (none_is_found h)

    pub scan_place : (ltb (both_scanned clock d t x).rank 4 ≡ ltb (store_place clock d c) n) × (store_place clock d c < n → (both_scanned clock d t x).place ≡ store_place clock d c)
    unfolding store_place else_place found_of
    scan_place = rw count (go (ltb (own_place d c) n) refl (ltb (first_place is_empty c) n) refl (ltb (first_place (is_stale clock) c) n) refl)
      where
        go : (a : Bool) → ltb (own_place d c) n ≡ a → (b : Bool) → ltb (first_place is_empty c) n ≡ b → (e : Bool) → ltb (first_place (is_stale clock) c) n ≡ e
            → Placed (cond a (own_place d c) (cond b (first_place is_empty c) (first_place (is_stale clock) c)))
        go true p b q e r =
            let h : own_place d c < n = ltb-true (own_place d c) n p in
            let l : rank_of true clock d (get_or c (own_place d c) none) ≤ 2 = own_rank h in
            at_place true (own_place d c) h (omega (arith, l)) (both_own h)
        go false p true q e r =
            let h : first_place is_empty c < n = ltb-true (first_place is_empty c) n q in
            let l : rank_of false clock d (get_or c (first_place is_empty c) none) ≤ 2 = empty_rank h in
            at_place false (first_place is_empty c) h (omega (arith, l)) (both_other (ltb-false (own_place d c) n p) ∙ scan_empty h)
        go false p false q true r =
            let h : first_place (is_stale clock) c < n = ltb-true (first_place (is_stale clock) c) n r in
            let l : rank_of false clock d (get_or c (first_place (is_stale clock) c) none) ≤ 3 = stale_rank h in
            at_place false (first_place (is_stale clock) c) h (omega (arith, l)) (both_other (ltb-false (own_place d c) n p) ∙ scan_stale (ltb-false (first_place is_empty c) n q) h)
        go false p false q false r =
            let full : both_scanned clock d t x ≡ nothing = both_other (ltb-false (own_place d c) n p) ∙ scan_full (ltb-false (first_place is_empty c) n q) (ltb-false (first_place (is_stale clock) c) n r) in
            (ap (λ (s : Found). ltb s.rank 4) full ∙ sym r, λ h. absurd (let l : n ≤ first_place (is_stale clock) c = ltb-false (first_place (is_stale clock) c) n r in omega (arith, h, l)))

    -- ---- what was found, as the paper's lookup answers
    own_written : own_place d c < n → get_or c (own_place d c) none ≡ some (written (get_or t (own_place d c) no_entry) (text_at x (own_place d c) (get_or t (own_place d c) no_entry)))
    own_written h =
        let e : CacheEntry = get_or t (own_place d c) no_entry in
        let q : get_or c (own_place d c) none ≡ held_in e (text_at x (own_place d c) e) = held_at_lem t x (own_place d c) h in
        q ∙ own_accepted d e (text_at x (own_place d c) e) (sym (ap (is_own d) q) ∙ first_passes (is_own d) none c (omega (arith, h, count)))

    by_rank : (k : ℕ) (e : CacheEntry) (b : Bool) → k < 64 → answer_by x (found_of (cond (not b) 1 0) k e) ≡ found_at k (cond b (some (written e (text_at x k e))) none)
    unfolding answer_by found_of found_at text_at
    by_rank k e true l = rw (lt-ltb k 64 l)
    by_rank k e false l = refl

    nothing_by : answer_by x nothing ≡ found_at (own_place d c) none
    unfolding answer_by found_of found_at
    nothing_by = refl

    same_found : answer_by x (own_scanned clock d t x) ≡ found_at (own_place d c) (live_for clock d c)
    unfolding live_for if_live found_at is_stale
    same_found = go (ltb (own_place d c) n) refl
      where
        size : n ≡ 64
        size = (sizes_are n (length x) fit).0

        go : (b : Bool) → ltb (own_place d c) n ≡ b → answer_by x (own_scanned clock d t x) ≡ found_at (own_place d c) (if_live clock (get_or c (own_place d c) none))
        go true p =
            let h : own_place d c < n = ltb-true (own_place d c) n p in
            let e : CacheEntry = get_or t (own_place d c) no_entry in
            let w : Held = written e (text_at x (own_place d c) e) in
            rw (own_is_found h, first_passes (is_own d) none c (omega (arith, h, count)), own_written h) (by_rank (own_place d c) e (is_live_at clock w) (omega (arith, h, size)))
        go false p =
            let h : length c ≤ own_place d c = omega (arith, ltb-false (own_place d c) n p, count) in
            rw (none_is_found (ltb-false (own_place d c) n p), get_or-eq_default c none h) nothing_by

  -- ---- a lookup answers as the paper says
  pub lookup_answers : answer_from clock d n x (own_scanned clock d t x) ≡ lookup_answer clock d t x
  unfolding answer_from lookup_answer lookup_refusal refusal_of refused_or
  lookup_answers = go (sizes_fit n (length x)) refl
    where
      go : (b : Bool) → sizes_fit n (length x) ≡ b
          → refused_or (cond b (refusal_of (clock_and_name clock d)) (some 74)) (answer_by x (own_scanned clock d t x)) ≡ refused_or (cond b (refusal_of (clock_and_name clock d)) (some 74)) (found_at (own_place d c) (live_for clock d c))
      go true e = rw (same_found e)
      go false e = refl

  -- ---- a store answers and writes as the paper says
  module _ (i p : List ℕ) where
    abbrev plan : Plan
    plan = plan_of clock d i p n (length x) (both_scanned clock d t x)

    same_refusal : refusal_for clock d i p n (length x) (both_scanned clock d t x).rank ≡ store_refusal clock d i p t x
    unfolding refusal_for store_refusal store_checks refusal_of
    same_refusal = go (sizes_fit n (length x)) refl
      where
        go : (b : Bool) → sizes_fit n (length x) ≡ b
            → cond b (refusal_of (argument_checks clock d i p ++ (record { passes = ltb (both_scanned clock d t x).rank 4; refusal = 70 } ∷ []))) (some 74)
            ≡ cond b (refusal_of (argument_checks clock d i p ++ (record { passes = ltb (store_place clock d c) n; refusal = 70 } ∷ []))) (some 74)
        go true e = rw (scan_place e).0
        go false e = refl

    same_plan : plan ≡ plan_by (store_refusal clock d i p t x) n (length x) (both_scanned clock d t x).place (entry_for clock d i p)
    unfolding plan_of
    same_plan = rw same_refusal

    -- where nothing is refused the sizes fit, and the place is inside the table
    place_inside : store_refusal clock d i p t x ≡ none → (sizes_fit n (length x) ≡ true) × (store_place clock d c < n)
    unfolding store_refusal store_checks refusal_of
    place_inside h = (
      (checks_first (sizes_fit n (length x)) 74 (refusal_of (argument_checks clock d i p ++ (record { passes = ltb (store_place clock d c) n; refusal = 70 } ∷ []))) h).0,
      ltb-true (store_place clock d c) n (checks_last (record { passes = sizes_fit n (length x); refusal = 74 } ∷ argument_checks clock d i p) (record { passes = ltb (store_place clock d c) n; refusal = 70 }) h),
    )

    pub plan_answers : ◌≡◌ {A = WriteAnswer} (record { number = plan.number; length = 0 }) (store_answer clock d i p t x)
    unfolding store_answer plan_by refused_plan answer_unless
    plan_answers = rw same_plan (go (store_refusal clock d i p t x))
      where
        go : (o : Option ℕ) → ◌≡◌ {A = WriteAnswer} (record { number = (plan_by o n (length x) (both_scanned clock d t x).place (entry_for clock d i p)).number; length = 0 }) (answer_unless o 0)
        go none = refl
        go (some r) = refl

    pub plan_table : set t plan.place plan.entry ≡ table_after clock d i p t x
    unfolding table_after plan_by refused_plan unless_refused
    plan_table = rw same_plan (go (store_refusal clock d i p t x) refl)
      where
        go : (o : Option ℕ) → store_refusal clock d i p t x ≡ o
            → set t (plan_by o n (length x) (both_scanned clock d t x).place (entry_for clock d i p)).place (plan_by o n (length x) (both_scanned clock d t x).place (entry_for clock d i p)).entry ≡ unless_refused o t (set t (store_place clock d c) (entry_for clock d i p))
        go none e = ap (λ (k : ℕ). set t k (entry_for clock d i p)) ((scan_place (place_inside e).0).1 (place_inside e).1)
        go (some r) e = set_out t (beyond n (length x)) no_entry (beyond_most n (length x)).0

    pub plan_texts : over (text_place plan.place) p x ≡ texts_after clock d i p t x
    unfolding texts_after plan_by refused_plan unless_refused
    plan_texts = rw same_plan (go (store_refusal clock d i p t x) refl)
      where
        go : (o : Option ℕ) → store_refusal clock d i p t x ≡ o
            → over (text_place (plan_by o n (length x) (both_scanned clock d t x).place (entry_for clock d i p)).place) p x ≡ unless_refused o x (over (text_place (store_place clock d c)) p x)
        go none e = ap (λ (k : ℕ). over (text_place k) p x) ((scan_place (place_inside e).0).1 (place_inside e).1)
        go (some r) e = sym (outside_kept (beyond n (length x)) p x (beyond_outside (beyond n (length x)) (length x) (beyond_most n (length x)).1))
