-- Laws of `index_of`, `split` and `join`, and the turn of `find`. Assumes nothing.
use Prim.Native.Nat.{ℕ, zero, suc, ◌+◌, ◌<◌, ◌≤◌}
use mathlib.Core.Path.{◌≡◌, refl, sym, ap, ◌∙◌}
use mathlib.Core.Bool.{Bool, true, false, cond, not, ◌&&◌}
use mathlib.Core.List.{List, [], ◌∷◌, ◌++◌}
use native.Mathlib.Omega.{arith}
use borrow.Author.Tests.{eq-eqb, ne_eqb, eqb-true, not-true}
use lib.Dec.{eqb}
use lib.ListN.{length, get_or, drop, take, drop_of_length-le, take-append-drop}
use Rattle.lists.specs.Bytes.{all}
use Rattle.lists.specs.Split.{index_of, split, to_first, lacks, join}
use Rattle.lists.proofs.Bools.{never, and_both, by_cond}
use Rattle.lists.proofs.Laws.{drop_next}

pub index_of_here : (s : List ℕ) (b i : ℕ) → i < length s → get_or s i 0 ≡ b → index_of b (drop i s) ≡ 0
unfolding index_of
index_of_here s b i h e = rw (drop_next s i h, eq-eqb (get_or s i 0) b e)

pub index_of_next : (s : List ℕ) (b i : ℕ) → i < length s → (get_or s i 0 ≡ b → ⊥) → index_of b (drop i s) ≡ suc (index_of b (drop (i + 1) s))
unfolding index_of
index_of_next s b i h e = rw (drop_next s i h, ne_eqb (get_or s i 0) b e)

pub index_of_end : (s : List ℕ) (b i : ℕ) → length s ≤ i → index_of b (drop i s) ≡ 0
unfolding index_of
index_of_end s b i h = rw (drop_of_length-le s h)

-- a turn of `find`'s loop, and its two ends
pub find_next : (s : List ℕ) (b from i : ℕ) → from + index_of b (drop from s) ≡ i + index_of b (drop i s) → i < length s → (get_or s i 0 ≡ b → ⊥) → from + index_of b (drop from s) ≡ i + 1 + index_of b (drop (i + 1) s)
find_next s b from i inv h e = omega (arith, index_of_next s b i h e)

pub find_hit : (s : List ℕ) (b from i : ℕ) → from + index_of b (drop from s) ≡ i + index_of b (drop i s) → i < length s → get_or s i 0 ≡ b → i ≡ from + index_of b (drop from s)
find_hit s b from i inv h e = omega (arith, index_of_here s b i h e)

pub find_end : (s : List ℕ) (b from i : ℕ) → from + index_of b (drop from s) ≡ i + index_of b (drop i s) → length s ≤ i → i ≡ from + index_of b (drop from s)
find_end s b from i inv h = omega (arith, index_of_end s b i h)

pub index_of_le : (b : ℕ) (s : List ℕ) → index_of b s ≤ length s
unfolding index_of
index_of_le b [] = omega arith
index_of_le b (x ∷ s) = go (index_of_le b s) (eqb x b)
  where
    go : index_of b s ≤ length s → (t : Bool) → cond t 0 (suc (index_of b s)) ≤ suc (length s)
    go ih true = omega arith
    go ih false = omega arith

-- a list with no b is its one piece
pub split_last : (b : ℕ) (s : List ℕ) → index_of b s ≡ length s → split b s ≡ s ∷ []
unfolding index_of split to_first
split_last b [] h = refl
split_last b (x ∷ s) h = go (split_last b s) (eqb x b) h
  where
    go : (index_of b s ≡ length s → split b s ≡ s ∷ []) → (t : Bool) → cond t 0 (suc (index_of b s)) ≡ suc (length s) → cond t ([] ∷ split b s) (to_first x (split b s)) ≡ (x ∷ s) ∷ []
    go ih true h = absurd (omega arith)
    go ih false h = rw (ih (omega arith))

-- the first piece goes up to the first b, and the others are the pieces of what follows it
pub split_first : (b : ℕ) (s : List ℕ) → index_of b s < length s → split b s ≡ take (index_of b s) s ∷ split b (drop (suc (index_of b s)) s)
unfolding index_of split to_first
split_first b [] h = absurd (omega arith)
split_first b (x ∷ s) h = go (split_first b s) (eqb x b) h
  where
    go : (index_of b s < length s → split b s ≡ take (index_of b s) s ∷ split b (drop (suc (index_of b s)) s)) → (t : Bool) → cond t 0 (suc (index_of b s)) < suc (length s) → cond t ([] ∷ split b s) (to_first x (split b s)) ≡ take (cond t 0 (suc (index_of b s))) (x ∷ s) ∷ split b (drop (suc (cond t 0 (suc (index_of b s)))) (x ∷ s))
    go ih true h = refl
    go ih false h = rw (ih (omega arith))

-- a list has a piece at least
pub to_first_some : (x : ℕ) (ps : List (List ℕ)) → 0 < length (to_first x ps)
unfolding to_first
to_first_some x [] = omega arith
to_first_some x (p ∷ ps) = omega arith

split_some : (b : ℕ) (s : List ℕ) → 0 < length (split b s)
unfolding split
split_some b [] = omega arith
split_some b (x ∷ s) = by_cond (λ (ps : List (List ℕ)). 0 < length ps) (eqb x b) (λ e. omega arith) (λ e. to_first_some x (split b s))

join_first : (b x : ℕ) (ps : List (List ℕ)) → join b (to_first x ps) ≡ x ∷ join b ps
unfolding join to_first
join_first b x [] = refl
join_first b x (p ∷ []) = refl
join_first b x (p ∷ q ∷ ps) = refl

join_new : (b : ℕ) (ps : List (List ℕ)) → 0 < length ps → join b ([] ∷ ps) ≡ b ∷ join b ps
unfolding join
join_new b [] h = absurd (omega arith)
join_new b (p ∷ ps) h = refl

-- the pieces joined by b are the list
pub join_split : (b : ℕ) (s : List ℕ) → join b (split b s) ≡ s
unfolding join split
join_split b [] = refl
join_split b (x ∷ s) = go (join_split b s) (eqb x b) refl
  where
    go : join b (split b s) ≡ s → (t : Bool) → eqb x b ≡ t → join b (cond t ([] ∷ split b s) (to_first x (split b s))) ≡ x ∷ s
    go ih true e = let k : x ≡ b = omega (arith, eqb-true x b e) in cc (join_new b (split b s) (split_some b s))
    go ih false e = cc (join_first b x (split b s))

-- no piece holds b
pub split_clean : (b : ℕ) (s : List ℕ) → all (lacks b) (split b s) ≡ true
unfolding split all to_first
split_clean b [] = refl
split_clean b (x ∷ s) = go (split b s) (split_clean b s) (eqb x b) refl
  where
    go : (ps : List (List ℕ)) → all (lacks b) ps ≡ true → (t : Bool) → eqb x b ≡ t → all (lacks b) (cond t ([] ∷ ps) (to_first x ps)) ≡ true
    go ps ih true e = ih
    go [] ih false e = rw e
    go (p ∷ ps) ih false e = rw e ih

-- a text with no b, then b: the first piece, and the pieces of what follows
pub split_after : (b : ℕ) (l m : List ℕ) → lacks b l ≡ true → split b (l ++ (b ∷ m)) ≡ l ∷ split b m
unfolding split all to_first
split_after b [] m h = rw (eq-eqb b b refl)
split_after b (x ∷ l) m h = go (split_after b l m) (eqb x b) h
  where
    go : (lacks b l ≡ true → split b (l ++ (b ∷ m)) ≡ l ∷ split b m) → (t : Bool) → (not t && lacks b l) ≡ true → cond t ([] ∷ split b (l ++ (b ∷ m))) (to_first x (split b (l ++ (b ∷ m)))) ≡ (x ∷ l) ∷ split b m
    go ih true k = never cc
    go ih false k = rw (ih k)

pub index_after : (b : ℕ) (l m : List ℕ) → lacks b l ≡ true → index_of b (l ++ (b ∷ m)) ≡ length l
unfolding index_of all
index_after b [] m h = rw (eq-eqb b b refl)
index_after b (x ∷ l) m h = go (index_after b l m) (eqb x b) h
  where
    go : (lacks b l ≡ true → index_of b (l ++ (b ∷ m)) ≡ length l) → (t : Bool) → (not t && lacks b l) ≡ true → cond t 0 (suc (index_of b (l ++ (b ∷ m)))) ≡ suc (length l)
    go ih true k = never cc
    go ih false k = rw (ih k)

-- at its index the byte stands, and not before it
pub index_there : (b : ℕ) (s : List ℕ) → index_of b s < length s → get_or s (index_of b s) 0 ≡ b
unfolding index_of
index_there b [] h = absurd (omega arith)
index_there b (x ∷ s) h = go (index_there b s) (eqb x b) refl h
  where
    go : (index_of b s < length s → get_or s (index_of b s) 0 ≡ b) → (t : Bool) → eqb x b ≡ t → cond t 0 (suc (index_of b s)) < suc (length s) → get_or (x ∷ s) (cond t 0 (suc (index_of b s))) 0 ≡ b
    go ih true e k = eqb-true x b e
    go ih false e k = ih (omega arith)

pub index_most : (b : ℕ) (s : List ℕ) (i : ℕ) → i < length s → get_or s i 0 ≡ b → index_of b s ≤ i
unfolding index_of
index_most b [] i h e = absurd (omega arith)
index_most b (x ∷ s) zero h e = rw (eq-eqb x b e) (omega arith)
index_most b (x ∷ s) (suc i) h e = go (index_most b s i (omega arith) e) (eqb x b)
  where
    go : index_of b s ≤ i → (t : Bool) → cond t 0 (suc (index_of b s)) ≤ suc i
    go ih true = omega arith
    go ih false = omega arith

-- where a byte stands in two lists one after the other: in the first, or else in the second
pub index_append : (b : ℕ) (l e : List ℕ) → index_of b l < length l → index_of b (l ++ e) ≡ index_of b l
unfolding index_of
index_append b [] e h = absurd (omega arith)
index_append b (x ∷ l) e h = go (index_append b l e) (eqb x b) h
  where
    go : (index_of b l < length l → index_of b (l ++ e) ≡ index_of b l) → (t : Bool) → cond t 0 (suc (index_of b l)) < suc (length l) → cond t 0 (suc (index_of b (l ++ e))) ≡ cond t 0 (suc (index_of b l))
    go ih true k = refl
    go ih false k = rw (ih (omega arith))

pub index_beyond : (b : ℕ) (l e : List ℕ) → length l ≤ index_of b l → index_of b (l ++ e) ≡ length l + index_of b e
unfolding index_of
index_beyond b [] e h = omega arith
index_beyond b (x ∷ l) e h = go (index_beyond b l e) (eqb x b) h
  where
    go : (length l ≤ index_of b l → index_of b (l ++ e) ≡ length l + index_of b e) → (t : Bool) → suc (length l) ≤ cond t 0 (suc (index_of b l)) → cond t 0 (suc (index_of b (l ++ e))) ≡ suc (length l) + index_of b e
    go ih true k = absurd (omega arith)
    go ih false k = omega (arith, ih (omega arith))

pub index_lacks : (b : ℕ) (e : List ℕ) → lacks b e ≡ true → index_of b e ≡ length e
unfolding index_of all
index_lacks b [] h = refl
index_lacks b (x ∷ e) h =
    let k = and_both (not (eqb x b)) (lacks b e) h in
    rw (not-true (eqb x b) k.0, index_lacks b e k.1)

pub index_take : (b : ℕ) (k : ℕ) (u : List ℕ) → index_of b (take k u) < length (take k u) → index_of b u ≡ index_of b (take k u)
index_take b k u h = ap (index_of b) (sym (take-append-drop k u)) ∙ index_append b (take k u) (drop k u) h
