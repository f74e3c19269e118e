-- The front of a list. A loop that goes past the bytes that pass a test p: the turn, and the two ends, where r is what the code's call of p gave; laws of
-- `span_of` and of `begins`. Assumes nothing.
use Prim.Native.Nat.{ℕ, zero, suc, max, ◌+◌, ◌<◌, ◌≤◌}
use mathlib.Core.Path.{◌≡◌, refl, sym, ap, ◌∙◌}
use mathlib.Core.Bool.{Bool, true, false, cond, ◌&&◌}
use mathlib.Core.List.{List, [], ◌∷◌, ◌++◌}
use native.Mathlib.Omega.{arith}
use borrow.Author.Rules.{rules}
use borrow.Author.Tests.{not-true, not-false, eq-eqb, ne_eqb, eqb-true, lt-leb, le-leb}
use lib.Dec.{eqb, leb}
use lib.ListN.{length, get_or, take, drop, length-drop, drop_of_length-le}
use Rattle.lists.specs.Bytes.{all}
use Rattle.lists.specs.Span.{span_of, begins}
use Rattle.lists.specs.Split.{index_of}
use Rattle.lists.proofs.Bools.{never, and_both, and_left, and_right}
use Rattle.lists.proofs.Laws.{drop_next, leb_suc}

module _ (p : ℕ → Bool) (s : List ℕ) (i : ℕ) where
  span_here : i < length s → (r : Bool) → r ≡ p (get_or s i 0) → r ≡ true → span_of p (drop i s) ≡ suc (span_of p (drop (i + 1) s))
  unfolding span_of
  span_here h r e t = cc (drop_next s i h)

  span_stop : i < length s → (r : Bool) → r ≡ p (get_or s i 0) → r ≡ false → span_of p (drop i s) ≡ 0
  unfolding span_of
  span_stop h r e t = cc (drop_next s i h)

  span_none : length s ≤ i → span_of p (drop i s) ≡ 0
  unfolding span_of
  span_none h = cc (drop_of_length-le s h)

  module _ (from : ℕ) (inv : from + span_of p (drop from s) ≡ i + span_of p (drop i s)) where
    pub past_next : i < length s → (r : Bool) → r ≡ p (get_or s i 0) → r ≡ true → from + span_of p (drop from s) ≡ i + 1 + span_of p (drop (i + 1) s)
    past_next h r e t = omega (arith, span_here h r e t)

    pub past_stop : i < length s → (r : Bool) → r ≡ p (get_or s i 0) → r ≡ false → i ≡ from + span_of p (drop from s)
    past_stop h r e t = omega (arith, span_stop h r e t)

    pub past_end : length s ≤ i → i ≡ from + span_of p (drop from s)
    past_end h = omega (arith, span_none h)

-- a function whose loop goes past the bytes that pass a test: `search past_laws` at each need
pub ruleset past_laws = (past_next, past_stop, past_end, not-true, not-false, rules)

pub span_le : (p : ℕ → Bool) (s : List ℕ) → span_of p s ≤ length s
unfolding span_of
span_le p [] = omega arith
span_le p (x ∷ s) = go (span_le p s) (p x)
  where
    go : span_of p s ≤ length s → (t : Bool) → cond t (suc (span_of p s)) 0 ≤ suc (length s)
    go ih true = omega arith
    go ih false = omega arith

-- the loop's end, also where it starts past the end of the list
pub past_last : (p : ℕ → Bool) (s : List ℕ) (i from : ℕ) → from + span_of p (drop from s) ≡ i + span_of p (drop i s) → length s ≤ i → (r : ℕ) → r ≡ max from (length s) → r ≡ from + span_of p (drop from s)
past_last p s i from inv h r e = omega (arith, span_none p s i h, span_le p (drop from s), length-drop from s)

pub span_within : (p : ℕ → Bool) (s : List ℕ) (from e : ℕ) → e ≡ from + span_of p (drop from s) → from ≤ length s → e ≤ length s
span_within p s from e q h = omega (arith, span_le p (drop from s), length-drop from s)

-- the first k elements pass a test exactly where the span reaches so far
pub span_reaches : (p : ℕ → Bool) (u : List ℕ) (k : ℕ) → k ≤ length u → leb k (span_of p u) ≡ all p (take k u)
unfolding span_of all
span_reaches p [] zero h = refl
span_reaches p [] (suc k) h = absurd (omega arith)
span_reaches p (x ∷ u) zero h = le-leb 0 (cond (p x) (suc (span_of p u)) 0) (omega arith)
span_reaches p (x ∷ u) (suc k) h = go (span_reaches p u k (omega arith)) (p x)
  where
    go : leb k (span_of p u) ≡ all p (take k u) → (t : Bool) → leb (suc k) (cond t (suc (span_of p u)) 0) ≡ (t && all p (take k u))
    go ih true = leb_suc k (span_of p u) ∙ ih
    go ih false = lt-leb (suc k) 0 (omega arith)

-- the bytes of the span pass the test
pub span_all : (p : ℕ → Bool) (s : List ℕ) → all p (take (span_of p s) s) ≡ true
span_all p s = sym (span_reaches p s (span_of p s) (span_le p s)) ∙ le-leb (span_of p s) (span_of p s) (omega arith)

-- the byte after the span does not pass it
pub span_stops : (p : ℕ → Bool) (s : List ℕ) → span_of p s < length s → p (get_or s (span_of p s) 0) ≡ false
unfolding span_of
span_stops p [] h = absurd (omega arith)
span_stops p (x ∷ s) h = go (span_stops p s) (p x) refl h
  where
    go : (span_of p s < length s → p (get_or s (span_of p s) 0) ≡ false) → (t : Bool) → p x ≡ t → cond t (suc (span_of p s)) 0 < suc (length s) → p (get_or (x ∷ s) (cond t (suc (span_of p s)) 0) 0) ≡ false
    go ih true e k = ih (omega arith)
    go ih false e k = e

-- what goes further than the span does not pass the test
pub span_short : (p : ℕ → Bool) (s : List ℕ) (n : ℕ) → span_of p s < n → span_of p s < length s → all p (take n s) ≡ false
unfolding span_of all
span_short p [] n g h = absurd (omega arith)
span_short p (x ∷ s) zero g h = absurd (omega arith)
span_short p (x ∷ s) (suc n) g h = go (span_short p s n) (p x) refl g h
  where
    go : (span_of p s < n → span_of p s < length s → all p (take n s) ≡ false) → (t : Bool) → p x ≡ t → cond t (suc (span_of p s)) 0 < suc n → cond t (suc (span_of p s)) 0 < suc (length s) → all p (take (suc n) (x ∷ s)) ≡ false
    go ih true e g h = rw (e, ih (omega arith) (omega arith))
    go ih false e g h = rw e

-- a byte that does not pass the test is found after the span
pub span_index : (p : ℕ → Bool) (b : ℕ) → p b ≡ false → (s : List ℕ) → index_of b s ≡ span_of p s + index_of b (drop (span_of p s) s)
unfolding index_of span_of
span_index p b n [] = refl
span_index p b n (x ∷ s) = go (span_index p b n s) (p x) refl
  where
    go : index_of b s ≡ span_of p s + index_of b (drop (span_of p s) s) → (t : Bool) → p x ≡ t → cond (eqb x b) 0 (suc (index_of b s)) ≡ cond t (suc (span_of p s)) 0 + index_of b (drop (cond t (suc (span_of p s)) 0) (x ∷ s))
    go ih true e = rw (ne_eqb x b (λ z. never cc)) (omega arith)
    go ih false e = omega arith

pub span_before : (p : ℕ → Bool) (b : ℕ) (s : List ℕ) → p b ≡ false → span_of p s ≤ index_of b s
span_before p b s h = omega (arith, span_index p b h s)

-- the span of what passes, and of what follows it
pub span_append : (p : ℕ → Bool) (a b : List ℕ) → all p a ≡ true → span_of p (a ++ b) ≡ length a + span_of p b
unfolding all span_of
span_append p [] b h = omega arith
span_append p (x ∷ a) b h =
    let k = and_both (p x) (all p a) h in
    rw (k.0, span_append p a b k.1) (omega arith)

-- a list that begins with p and q begins with p
pub begins_front : (p q s : List ℕ) → begins (p ++ q) s ≡ true → begins p s ≡ true
unfolding begins
begins_front [] q s h = refl
begins_front (x ∷ p) q [] h = h
begins_front (x ∷ p) q (y ∷ s) h = rw (and_left (eqb y x) (begins (p ++ q) s) h) (begins_front p q s (and_right (eqb y x) (begins (p ++ q) s) h))

-- a list begins with p exactly where it is p and something more
pub begins_whole : (p s : List ℕ) → begins p s ≡ true → s ≡ p ++ drop (length p) s
unfolding begins
begins_whole [] s h = refl
begins_whole (x ∷ p) [] h = never cc
begins_whole (x ∷ p) (y ∷ s) h =
    let e : y ≡ x = omega (arith, eqb-true y x (and_left (eqb y x) (begins p s) h)) in
    let i : s ≡ p ++ drop (length p) s = begins_whole p s (and_right (eqb y x) (begins p s) h) in
    rw e (ap (λ (r : List ℕ). x ∷ r) i)

pub begins_joined : (p s : List ℕ) → begins p (p ++ s) ≡ true
unfolding begins
begins_joined [] s = refl
begins_joined (x ∷ p) s = rw (eq-eqb x x refl) (begins_joined p s)
