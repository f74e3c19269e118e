-- Laws of `numbers` by place, and the turns of the loops over a list's numbers. Assumes nothing.
use Prim.Native.Nat.{ℕ, zero, suc, max, ◌+◌, ◌*◌, ◌-◌, ◌/◌, ◌<◌, ◌≤◌}
use mathlib.Core.Path.{◌≡◌, refl, sym, ◌∙◌}
use mathlib.Core.Bool.{Bool, true, false, ◌&&◌, and-false, and-true, and_assoc, and_comm}
use mathlib.Core.List.{List, [], ◌∷◌}
use native.Mathlib.Omega.{arith}
use lib.Dec.{eqb, leb}
use lib.ListN.{length, get_or, drop, drop_of_length-le}
use lib.Seq.{get_or-drop}
use borrow.Author.Rules.{rules}
use borrow.Author.Tests.{not-true, not-false, le-leb, lt-leb, lt-ltb, le-ltb, leb-true, leb-false, ltb-true, ltb-false, eq-eqb, ne_eqb}
use Rattle.lists.specs.Bytes.{all}
use Rattle.lists.proofs.Laws.{drop_next}
use Rattle.numbers.specs.Numbers.{numbers, is_whole, sum, at_most}
use Rattle.numbers.specs.Pieces.{sums_to}

-- a list of n bytes has n / 4 numbers
pub count_is : (s : List ℕ) → length s / 4 ≡ length (numbers s)
unfolding numbers
count_is [] = refl
count_is (a ∷ []) = refl
count_is (a ∷ b ∷ []) = refl
count_is (a ∷ b ∷ c ∷ []) = refl
count_is (a ∷ b ∷ c ∷ d ∷ s) = omega (arith, count_is s)

-- the numbers after the first k are those of the bytes after the first 4k
pub numbers_drop : (k : ℕ) (s : List ℕ) → numbers (drop (k * 4) s) ≡ drop k (numbers s)
unfolding numbers
numbers_drop zero s = refl
numbers_drop (suc k) s = let four : suc k * 4 ≡ suc (suc (suc (suc (k * 4)))) = omega arith in rw four (go (numbers_drop k) s)
  where
    go : ((s : List ℕ) → numbers (drop (k * 4) s) ≡ drop k (numbers s)) → (s : List ℕ) → numbers (drop (suc (suc (suc (suc (k * 4))))) s) ≡ drop (suc k) (numbers s)
    go ih [] = refl
    go ih (a ∷ []) = refl
    go ih (a ∷ b ∷ []) = refl
    go ih (a ∷ b ∷ c ∷ []) = refl
    go ih (a ∷ b ∷ c ∷ d ∷ s) = ih s

pub number_shift : (m : ℕ) (s : List ℕ) (i j : ℕ) → j ≡ m + i → get_or (numbers s) j 0 ≡ get_or (numbers (drop (m * 4) s)) i 0
number_shift m s i j e = rw (numbers_drop m s, get_or-drop m (numbers s) i 0, e)

-- a loop that tests every number of a list: v is what `number` gave, r what the test p gave of it, n what `count` gave
module _ (p : ℕ → Bool) (ns : List ℕ) (k n : ℕ) (inv : all p ns ≡ all p (drop k ns)) (counted : n ≡ length ns) where
  pub each_end : n ≤ k → true ≡ all p ns
  unfolding all
  each_end h = let g : length ns ≤ k = omega arith in cc (drop_of_length-le ns g)

  module _ (h : k < n) (v : ℕ) (given : v ≡ get_or ns k 0) (r : Bool) (gave : r ≡ p v) where
    pub each_next : r ≡ true → all p ns ≡ all p (drop (k + 1) ns)
    unfolding all
    each_next t = let g : k < length ns = omega arith in cc (drop_next ns k g)

    pub each_fail : r ≡ false → false ≡ all p ns
    unfolding all
    each_fail t = let g : k < length ns = omega arith in cc (drop_next ns k g)

pub ruleset each_laws = (each_next, each_fail, each_end, not-true, not-false, rules)

nothing_left : (left a b : ℕ) → left + a ≡ b → eqb left 0 ≡ eqb a b
nothing_left zero a b h = sym (eq-eqb a b (omega arith))
nothing_left (suc k) a b h = ne_eqb (suc k) 0 (λ z. omega arith) ∙ sym (ne_eqb a b (λ z. omega arith))

-- the larger of two numbers is at most a bound where both are
larger_most : (x y b : ℕ) → leb (max x y) b ≡ (leb x b && leb y b)
larger_most x y b = go (leb x b) refl (leb y b) refl
  where
    go : (u : Bool) → leb x b ≡ u → (v : Bool) → leb y b ≡ v → leb (max x y) b ≡ (u && v)
    go true q true r = le-leb (max x y) b (omega (arith, leb-true x b q, leb-true y b r))
    go true q false r = lt-leb (max x y) b (omega (arith, leb-false y b r))
    go false q v r = lt-leb (max x y) b (omega (arith, leb-false x b q))

-- `fits`: ns are the numbers of the list, of which ms are left and n is the next
module _ (list : List ℕ) (total bound : ℕ) where
  pub fits_left_over : is_whole list ≡ false → false ≡ (sums_to list total && all (at_most bound) (numbers list))
  unfolding sums_to
  fits_left_over f = rw f

  module _ (rest : ℕ) (ms : List ℕ) (sums : rest + sum (numbers list) ≡ total + sum ms) where
    pub fits_sums : (n : ℕ) (left : List ℕ) → ms ≡ n ∷ left → n ≤ rest → rest - n + sum (numbers list) ≡ total + sum left
    unfolding sum
    fits_sums n left e le = let k : sum ms ≡ n + sum left = rw e in omega arith

    pub fits_over : (n : ℕ) (left : List ℕ) → ms ≡ n ∷ left → rest < n → false ≡ (sums_to list total && all (at_most bound) (numbers list))
    unfolding sums_to sum
    fits_over n left e lt =
        let k : sum ms ≡ n + sum left = rw e in
        rw (ne_eqb (sum (numbers list)) total (λ z. omega arith), and-false (is_whole list))

    pub fits_end : ms ≡ [] → (most : ℕ) → all (at_most bound) (numbers list) ≡ (leb most bound && all (at_most bound) ms) → is_whole list ≡ true → (leb most bound && eqb rest 0) ≡ (sums_to list total && all (at_most bound) (numbers list))
    unfolding sums_to sum all
    fits_end e most small w =
        let k : sum ms ≡ 0 = rw e in
        let z : eqb rest 0 ≡ eqb (sum (numbers list)) total = nothing_left rest (sum (numbers list)) total (omega arith) in
        let m : all (at_most bound) (numbers list) ≡ leb most bound = small ∙ rw e (and-true (leb most bound)) in
        rw (w, m, z) (and_comm (leb most bound) (eqb (sum (numbers list)) total))

-- the largest so far, after one more
pub fits_most : (bound : ℕ) (ns ms left : List ℕ) (most n : ℕ) → all (at_most bound) ns ≡ (leb most bound && all (at_most bound) ms) → ms ≡ n ∷ left → all (at_most bound) ns ≡ (leb (max most n) bound && all (at_most bound) left)
unfolding all at_most
fits_most bound ns ms left most n small e = small ∙ rw (e, larger_most most n bound) (sym (and_assoc (leb most bound) (leb n bound) (all (at_most bound) left)))

pub ruleset fits_laws = (fits_left_over, fits_sums, fits_most, fits_over, fits_end)
