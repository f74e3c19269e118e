-- Where the lines of a body begin: `line_start` says it as document 02 does, in both directions, and cuts the lines of the body there. Assumes nothing.
use Prim.Native.Nat.{ℕ, zero, suc, ◌+◌, ◌<◌, ◌≤◌}
use mathlib.Core.Path.{◌≡◌, refl, sym, ap, ◌∙◌, subst}
use mathlib.Core.Bool.{Bool, true, false, cond, ◌&&◌}
use mathlib.Core.List.{List, [], ◌∷◌, ◌++◌}
use native.Mathlib.Omega.{arith}
use lib.Dec.{eqb, ltb}
use lib.ListN.{length, take, drop, length-append, length-drop, take-append-drop, drop_of_length-le}
use lib.Seq.{take-add, length-take-le}
use borrow.Author.Tests.{eqb-true, ltb-true, ltb-false}
use Rattle.lists.specs.Split.{index_of, to_first}
use Rattle.policies.specs.Lines.{LF, CR, lines, line_start}
use Rattle.policies.specs.Diagnosis.{count_lf, whole_lines, Begins}
use Rattle.policies.specs.Reader.{line_end}
use Rattle.policies.proofs.Body.{lines_there, lines_at}

-- one byte at the front of the first of some lines
first_after : (x : ℕ) (ls ms : List (List ℕ)) → 1 ≤ length ls → to_first x (ls ++ ms) ≡ to_first x ls ++ ms
unfolding to_first
first_after x [] ms h = absurd (omega arith)
first_after x (l ∷ ls) ms h = refl

first_count : (x : ℕ) (ls : List (List ℕ)) → 1 ≤ length ls → length (to_first x ls) ≡ length ls
unfolding to_first
first_count x [] h = absurd (omega arith)
first_count x (l ∷ ls) h = refl

-- whole lines, and what follows them: their lines, one after another
lines_cut : (p r : List ℕ) → whole_lines p ≡ true → lines (p ++ r) ≡ lines p ++ lines r
unfolding lines whole_lines
lines_cut [] r h = refl
lines_cut (x ∷ []) r h = let e : x ≡ LF = eqb-true x LF h in rw e
lines_cut (x ∷ y ∷ p) r h = go (lines_cut (y ∷ p) r h) (eqb x LF) (eqb x CR && eqb y LF)
  where
    go : lines (y ∷ (p ++ r)) ≡ lines (y ∷ p) ++ lines r → (t u : Bool) → cond t ([] ∷ lines (y ∷ (p ++ r))) (cond u (lines (y ∷ (p ++ r))) (to_first x (lines (y ∷ (p ++ r))))) ≡ cond t ([] ∷ lines (y ∷ p)) (cond u (lines (y ∷ p)) (to_first x (lines (y ∷ p)))) ++ lines r
    go ih true u = rw ih
    go ih false true = ih
    go ih false false = rw ih (first_after x (lines (y ∷ p)) (lines r) (lines_there y p))

-- whole lines are as many as their LF
lines_count : (p : List ℕ) → whole_lines p ≡ true → length (lines p) ≡ count_lf p
unfolding lines whole_lines count_lf
lines_count [] h = refl
lines_count (x ∷ []) h = let e : x ≡ LF = eqb-true x LF h in rw e
lines_count (x ∷ y ∷ p) h = go (lines_count (y ∷ p) h) (eqb x LF) (eqb x CR && eqb y LF)
  where
    go : length (lines (y ∷ p)) ≡ count_lf (y ∷ p) → (t u : Bool) → length (cond t ([] ∷ lines (y ∷ p)) (cond u (lines (y ∷ p)) (to_first x (lines (y ∷ p))))) ≡ cond t (suc (count_lf (y ∷ p))) (count_lf (y ∷ p))
    go ih true u = ap suc ih
    go ih false true = ih
    go ih false false = first_count x (lines (y ∷ p)) (lines_there y p) ∙ ih

-- one byte more before a body: the later lines begin one byte later; an LF is a line more
lf_shifts : (s : List ℕ) (n : ℕ) → line_start (LF ∷ s) (suc n) ≡ suc (line_start s n)
unfolding line_start index_of
lf_shifts s zero = refl
lf_shifts s (suc n) = rw (lf_shifts s n) (omega arith)

byte_shifts : (x : ℕ) (s : List ℕ) → eqb x LF ≡ false → (n : ℕ) → line_start (x ∷ s) (suc n) ≡ suc (line_start s (suc n))
unfolding line_start index_of
byte_shifts x s h zero = rw h (omega arith)
byte_shifts x s h (suc n) = rw (byte_shifts x s h n) (omega arith)

some_lf : (x : ℕ) (p : List ℕ) → whole_lines (x ∷ p) ≡ true → 1 ≤ count_lf (x ∷ p)
unfolding whole_lines count_lf
some_lf x [] h = rw h (omega arith)
some_lf x (y ∷ p) h = go (some_lf y p h) (eqb x LF)
  where
    go : 1 ≤ count_lf (y ∷ p) → (t : Bool) → 1 ≤ cond t (suc (count_lf (y ∷ p))) (count_lf (y ∷ p))
    go ih true = omega arith
    go ih false = ih

-- after whole lines the next one begins
start_cut : (p r : List ℕ) → whole_lines p ≡ true → line_start (p ++ r) (count_lf p) ≡ length p
unfolding whole_lines count_lf line_start
start_cut [] r h = refl
start_cut (x ∷ []) r h = subst (λ (y : ℕ). line_start (y ∷ r) (count_lf (y ∷ [])) ≡ 1) (sym (eqb-true x LF h)) (lf_shifts r 0)
start_cut (x ∷ y ∷ p) r h = go (start_cut (y ∷ p) r h) (some_lf y p h) (eqb x LF) refl
  where
    other : (c : ℕ) → 1 ≤ c → eqb x LF ≡ false → line_start (y ∷ (p ++ r)) c ≡ length (y ∷ p) → line_start (x ∷ y ∷ (p ++ r)) c ≡ suc (length (y ∷ p))
    other zero o e ih = absurd (omega arith)
    other (suc c) o e ih = byte_shifts x (y ∷ (p ++ r)) e c ∙ ap suc ih

    go : line_start (y ∷ (p ++ r)) (count_lf (y ∷ p)) ≡ length (y ∷ p) → 1 ≤ count_lf (y ∷ p) → (t : Bool) → eqb x LF ≡ t → line_start (x ∷ y ∷ (p ++ r)) (cond t (suc (count_lf (y ∷ p))) (count_lf (y ∷ p))) ≡ suc (length (y ∷ p))
    go ih o true e =
        subst (λ (z : ℕ). line_start (z ∷ y ∷ (p ++ r)) (suc (count_lf (y ∷ p))) ≡ suc (length (y ∷ p))) (sym (eqb-true x LF e)) (lf_shifts (y ∷ (p ++ r)) (count_lf (y ∷ p)) ∙ ap suc ih)
    go ih o false e = other (count_lf (y ∷ p)) o e ih

-- where a line begins, the lines of the body are cut: those before it, and it with those after it
module _ (s : List ℕ) (n k : ℕ) (b : Begins s n k) where
  pub begins_cut : lines s ≡ lines (take k s) ++ lines (drop k s)
  begins_cut = ap lines (sym (take-append-drop k s)) ∙ lines_cut (take k s) (drop k s) b.after

  pub begins_count : n ≡ length (lines (take k s)) + 1
  begins_count = b.counted ∙ rw (lines_count (take k s) b.after)

  -- the offset is what `line_start` says
  pub begins_start : line_start s (length (lines (take k s))) ≡ k
  begins_start =
      rw (lines_count (take k s) b.after) (ap (λ (t : List ℕ). line_start t (count_lf (take k s))) (sym (take-append-drop k s)) ∙ start_cut (take k s) (drop k s) b.after)
      ∙ length-take-le k s (omega (arith, b.inside))

-- a line up to its LF is a whole line
line_whole : (u : List ℕ) → index_of LF u < length u → whole_lines (take (suc (index_of LF u)) u) ≡ true
unfolding index_of whole_lines
line_whole [] h = absurd (omega arith)
line_whole (x ∷ u) h = go (eqb x LF) refl (line_whole u) h
  where
    front : (m : ℕ) (v : List ℕ) → m < length v → whole_lines (take (suc m) v) ≡ true → whole_lines (x ∷ take (suc m) v) ≡ true
    front m [] o e = absurd (omega arith)
    front m (y ∷ v) o e = e

    go : (t : Bool) → eqb x LF ≡ t → (index_of LF u < length u → whole_lines (take (suc (index_of LF u)) u) ≡ true) → cond t 0 (suc (index_of LF u)) < suc (length u) → whole_lines (take (suc (cond t 0 (suc (index_of LF u)))) (x ∷ u)) ≡ true
    go true e ih o = e
    go false e ih o = front (index_of LF u) u (omega arith) (ih (omega arith))

line_lf : (u : List ℕ) → index_of LF u < length u → count_lf (take (suc (index_of LF u)) u) ≡ 1
unfolding index_of count_lf
line_lf [] h = absurd (omega arith)
line_lf (x ∷ u) h = go (eqb x LF) refl (line_lf u) h
  where
    go : (t : Bool) → eqb x LF ≡ t → (index_of LF u < length u → count_lf (take (suc (index_of LF u)) u) ≡ 1) → cond t 0 (suc (index_of LF u)) < suc (length u) → count_lf (take (suc (cond t 0 (suc (index_of LF u)))) (x ∷ u)) ≡ 1
    go true e ih o = rw e
    go false e ih o = rw e (ih (omega arith))

whole_append : (a b : List ℕ) → 1 ≤ length b → whole_lines b ≡ true → whole_lines (a ++ b) ≡ true
unfolding whole_lines
whole_append [] b o h = h
whole_append (x ∷ a) b o h = go (a ++ b) (omega (arith, length-append a b)) (whole_append a b o h)
  where
    go : (c : List ℕ) → 1 ≤ length c → whole_lines c ≡ true → whole_lines (x ∷ c) ≡ true
    go [] o e = absurd (omega arith)
    go (y ∷ c) o e = e

lf_append : (a b : List ℕ) → count_lf (a ++ b) ≡ count_lf a + count_lf b
unfolding count_lf
lf_append [] b = omega arith
lf_append (x ∷ a) b = go (eqb x LF) (lf_append a b)
  where
    go : (t : Bool) → count_lf (a ++ b) ≡ count_lf a + count_lf b → cond t (suc (count_lf (a ++ b))) (count_lf (a ++ b)) ≡ cond t (suc (count_lf a)) (count_lf a) + count_lf b
    go true ih = omega arith
    go false ih = ih

-- each line of a body begins where `line_start` says
first_begins : (s : List ℕ) → 0 < length (lines s) → Begins s 1 0
unfolding lines whole_lines count_lf
first_begins [] h = absurd (omega arith)
first_begins (x ∷ s) h = record { inside = omega arith; after = refl; counted = refl }

module _ (s : List ℕ) (n k : ℕ) (b : Begins s (n + 1) k) (h : suc n < length (lines s)) where
  i : ℕ
  i = index_of LF (drop k s)

  -- this line, and the later ones
  left : length (lines s) ≡ suc n + length (lines (drop (k + i + 1) s))
  unfolding i line_end
  left =
      ap length (begins_cut s (n + 1) k b)
      ∙ length-append (lines (take k s)) (lines (drop k s))
      ∙ rw (lines_at s k b.inside) (omega (arith, begins_count s (n + 1) k b))

  more_bytes : k + i + 1 < length s
  unfolding lines
  more_bytes = go (ltb (k + i + 1) (length s)) refl
    where
      go : (t : Bool) → ltb (k + i + 1) (length s) ≡ t → k + i + 1 < length s
      go true e = ltb-true (k + i + 1) (length s) e
      go false e =
          let z : drop (k + i + 1) s ≡ [] = drop_of_length-le s (ltb-false (k + i + 1) (length s) e) in
          let none : length (lines (drop (k + i + 1) s)) ≡ 0 = rw z in
          absurd (omega (arith, left, none))

  ended : index_of LF (drop k s) < length (drop k s)
  unfolding i
  ended = omega (arith, more_bytes, length-drop k s)

  parts : take (k + i + 1) s ≡ take k s ++ take (suc (index_of LF (drop k s))) (drop k s)
  unfolding i
  parts =
      let e : k + index_of LF (drop k s) + 1 ≡ k + suc (index_of LF (drop k s)) = omega arith in
      rw e (take-add k (suc (index_of LF (drop k s))) s)

  later_begins : Begins s (suc n + 1) (k + i + 1)
  later_begins =
      record {
        inside = more_bytes;
        after = rw parts (whole_append (take k s) (take (suc (index_of LF (drop k s))) (drop k s)) (omega (arith, length-take-le (suc (index_of LF (drop k s))) (drop k s) (omega (arith, ended)))) (line_whole (drop k s) ended));
        counted = rw (parts, lf_append (take k s) (take (suc (index_of LF (drop k s))) (drop k s)), line_lf (drop k s) ended) (omega (arith, b.counted));
      }

pub line_begins : (s : List ℕ) (n : ℕ) → n < length (lines s) → Begins s (n + 1) (line_start s n)
unfolding line_start i
line_begins s zero h = first_begins s h
line_begins s (suc n) h = later_begins s n (line_start s n) (line_begins s n (omega arith)) h
