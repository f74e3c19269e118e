-- Laws of `end_of`, `cut`, `pieces` and `numbered`. s is cut by the numbers ns; a loop stands at the byte `at` of s and at the place k of ns. Assumes nothing.
use Prim.Native.Nat.{ℕ, suc, min, ◌+◌, ◌-◌, ◌<◌, ◌≤◌}
use mathlib.Core.Path.{◌≡◌, refl, sym, ap, ◌∙◌}
use mathlib.Core.Bool.{Bool, true, false, cond}
use mathlib.Core.List.{List, [], ◌∷◌, flatten}
use mathlib.Core.Option.{none, some}
use native.Mathlib.Omega.{arith}
use lib.Dec.{eqb, leb}
use lib.ListN.{length, get_or, take, drop, length-drop, take-append-drop, drop_of_length-le}
use Rattle.std.proofs.lemmas.List.{drop_min}
use lib.Seq.{drop-drop, take_all, length-take-le}
use borrow.Author.Tests.{le-leb, leb-true, leb-false, eqb-true}
use Rattle.lists.specs.Bytes.{all}
use Rattle.lists.proofs.All.{all_take, all_drop}
use Rattle.lists.proofs.Bools.{never, and_left, and_right, and_intro}
use Rattle.lists.proofs.Laws.{drop_next}
use Rattle.numbers.specs.Numbers.{numbers, is_whole, sum, at_most}
use Rattle.numbers.proofs.Numbers.{count_is}
use Rattle.numbers.specs.Pieces.{cut, sums_to, pieces, up_to, numbered, end_of}

pub end_inside : (total at n : ℕ) → at ≤ total → n ≤ total - at → at + n ≡ end_of total at n
unfolding end_of
end_inside total at n w h = rw (le-leb (at + n) total (omega arith))

-- `end_of`
pub end_is : (total at n : ℕ) → total < 18446744073709551616 → end_of total at n ≡ min (min (at + n) 18446744073709551615) total
unfolding end_of
end_is total at n h = go (leb (at + n) total) refl
  where
    go : (t : Bool) → leb (at + n) total ≡ t → cond t (at + n) total ≡ min (min (at + n) 18446744073709551615) total
    go true q = omega (arith, leb-true (at + n) total q)
    go false q = omega (arith, leb-false (at + n) total q)

pub end_most : (total at n : ℕ) → end_of total at n ≤ total
unfolding end_of
end_most total at n = go (leb (at + n) total) refl
  where
    go : (t : Bool) → leb (at + n) total ≡ t → cond t (at + n) total ≤ total
    go true q = leb-true (at + n) total q
    go false q = omega arith

-- the piece of n bytes that starts at `at`, where `end_of` gave e as its end
module _ (s : List ℕ) (at n e : ℕ) (ends : e ≡ end_of (length s) at n) (w : at ≤ length s) where
  by_end : (t : Bool) → leb (at + n) (length s) ≡ t → e ≡ cond t (at + n) (length s) → (take (e - at) (drop at s) ≡ take n (drop at s)) × (drop e s ≡ drop n (drop at s)) × (at ≤ e) × (e ≤ length s)
  by_end true q p =
      let b : at + n ≤ length s = omega (arith, leb-true (at + n) (length s) q) in
      let k : e - at ≡ n = omega arith in
      (rw k, rw (drop-drop n at s, p), omega arith, omega arith)
  by_end false q p =
      let b : length s < at + n = omega (arith, leb-false (at + n) (length s) q) in
      let k : length (drop at s) ≤ e - at = omega (arith, length-drop at s) in
      let m : length (drop at s) ≤ n = omega (arith, length-drop at s) in
      let f : length s ≤ e = omega arith in
      (take_all (e - at) (drop at s) k ∙ sym (take_all n (drop at s) m), drop_of_length-le s f ∙ sym (drop_of_length-le (drop at s) m), omega arith, omega arith)

  facts : (take (e - at) (drop at s) ≡ take n (drop at s)) × (drop e s ≡ drop n (drop at s)) × (at ≤ e) × (e ≤ length s)
  unfolding end_of
  facts = by_end (leb (at + n) (length s)) refl ends

  pub end_take : take (e - at) (drop at s) ≡ take n (drop at s)
  end_take = facts.0

  pub end_drop : drop e s ≡ drop n (drop at s)
  end_drop = facts.1

  pub end_after : at ≤ e
  end_after = facts.2

  pub end_within : e ≤ length s
  end_within = facts.3

-- `part`: m is where it starts, at the end of s at most, and e where it ends
module _ (s : List ℕ) (a n m e : ℕ) (start : m ≡ min a (length s)) (ends : e ≡ end_of (length s) m n) where
  part_start : m ≤ length s
  part_start = omega arith

  pub part_after : m ≤ e
  part_after = end_after s m n e ends part_start

  pub part_within : e ≤ length s
  part_within = end_within s m n e ends part_start

  pub part_is : take (e - m) (drop m s) ≡ take n (drop a s)
  part_is = end_take s m n e ends part_start ∙ ap (take n) (ap (λ (i : ℕ). drop i s) start ∙ drop_min a s)

pub ruleset part_laws = (part_after, part_within, part_is)

-- what is left of the pieces begins with the slice at hand
pub cut_next : (s ns : List ℕ) (at k e : ℕ) → e ≡ end_of (length s) at (get_or ns k 0) → at ≤ length s → k < length ns → cut (drop at s) (drop k ns) ≡ take (e - at) (drop at s) ∷ cut (drop e s) (drop (k + 1) ns)
unfolding cut
cut_next s ns at k e ends w h = cc (drop_next ns k h, end_take s at (get_or ns k 0) e ends w, end_drop s at (get_or ns k 0) e ends w)

pub cut_end : (s ns : List ℕ) (at k : ℕ) → length ns ≤ k → cut (drop at s) (drop k ns) ≡ []
unfolding cut
cut_end s ns at k h = rw (drop_of_length-le ns h)

-- there are as many pieces as lengths
pub cut_count : (s ns : List ℕ) → length (cut s ns) ≡ length ns
unfolding cut
cut_count s [] = refl
cut_count s (n ∷ ns) = ap suc (cut_count (drop n s) ns)

-- the pieces joined are the whole, where the lengths sum to it
pub cut_joined : (s ns : List ℕ) → sum ns ≡ length s → flatten (cut s ns) ≡ s
unfolding cut sum flatten
cut_joined [] [] h = refl
cut_joined (x ∷ s) [] h = absurd (omega arith)
cut_joined s (n ∷ ns) h =
    let k : sum ns ≡ length (drop n s) = omega (arith, length-drop n s) in
    rw (cut_joined (drop n s) ns k) (take-append-drop n s)

-- what `sums_to` says of the sum
pub sums_true : (l : List ℕ) (n : ℕ) → sums_to l n ≡ true → sum (numbers l) ≡ n
unfolding sums_to
sums_true l n h = eqb-true (sum (numbers l)) n (and_right (is_whole l) (eqb (sum (numbers l)) n) h)

-- what `pieces` gives where `sums_to` said yes, and where it said no
module _ (s l : List ℕ) (r : Bool) (gave : r ≡ sums_to l (length s)) where
  pub pieces_some : r ≡ true → pieces s l ≡ some (cut s (numbers l))
  unfolding pieces
  pieces_some t = cc

  pub pieces_none : r ≡ false → pieces s l ≡ none
  unfolding pieces
  pieces_none t = cc

-- the pieces joined are the whole
pub pieces_joined : (s l : List ℕ) (ps : List (List ℕ)) → pieces s l ≡ some ps → flatten ps ≡ s
unfolding pieces
pieces_joined s l ps e = go (sums_to l (length s)) refl e
  where
    go : (t : Bool) → sums_to l (length s) ≡ t → cond t (some (cut s (numbers l))) none ≡ some ps → flatten ps ≡ s
    go true q e = let c : cut s (numbers l) ≡ ps = cc in rw (← c) (cut_joined s (numbers l) (sums_true l (length s) q))
    go false q e = never cc

-- the pieces have the sizes that the list of lengths says, where these sum to the bytes
sized : (b : ℕ) (s ns : List ℕ) → sum ns ≡ length s → all (up_to b) (cut s ns) ≡ all (at_most b) ns
unfolding cut sum all up_to at_most
sized b s [] h = refl
sized b s (n ∷ ns) h =
    let k : sum ns ≡ length (drop n s) = omega (arith, length-drop n s) in
    let l : length (take n s) ≡ n = length-take-le n s (omega arith) in
    rw (sized b (drop n s) ns k, l)

pub sizes : (b : ℕ) (s l : List ℕ) (w : Bool) → w ≡ sums_to l (length s) → w ≡ true → all (up_to b) (cut s (numbers l)) ≡ all (at_most b) (numbers l)
sizes b s l w we wt = sized b s (numbers l) (sums_true l (length s) (sym we ∙ wt))

-- what a test says of every element of s it says of every element of each piece
pub cut_all : (p : ℕ → Bool) (s ns : List ℕ) → all p s ≡ true → all (all p) (cut s ns) ≡ true
unfolding cut all
cut_all p s [] h = refl
cut_all p s (n ∷ ns) h = and_intro (all p (take n s)) (all (all p) (cut (drop n s) ns)) (all_take p n s h) (cut_all p (drop n s) ns (all_drop p n s h))

-- what f makes of each piece and the place after its own, g makes of its own
pub numbered_shift : {A : Type 0} (f g : ℕ → List ℕ → A) → ((k : ℕ) (x : List ℕ) → f (k + 1) x ≡ g k x) → (k : ℕ) (xs : List (List ℕ)) → numbered f (k + 1) xs ≡ numbered g k xs
unfolding numbered
numbered_shift f g h k [] = refl
numbered_shift f g h k (x ∷ xs) = rw (h k x, numbered_shift f g h (k + 1) xs)

-- what f makes of each piece of n passes a test, where it does so of each that passes another
pub numbered_all : {A : Type 0} (p : A → Bool) (q : List ℕ → Bool) (f : ℕ → List ℕ → A) (n : ℕ) → ((j : ℕ) (x : List ℕ) → j < n → q x ≡ true → p (f j x) ≡ true)
    → (k : ℕ) (xs : List (List ℕ)) → k + length xs ≤ n → all q xs ≡ true → all p (numbered f k xs) ≡ true
unfolding numbered all
numbered_all p q f n h k [] l b = refl
numbered_all p q f n h k (x ∷ xs) l b =
    and_intro (p (f k x)) (all p (numbered f (k + 1) xs)) (h k x (omega arith) (and_left (q x) (all q xs) b))
    (numbered_all p q f n h (k + 1) xs (omega arith) (and_right (q x) (all q xs) b))

-- a piece of at most n bytes
pub up_to_true : (n : ℕ) (x : List ℕ) → up_to n x ≡ true → length x ≤ n
unfolding up_to
up_to_true n x h = leb-true (length x) n h

-- and no more than bytes of their list, so that `enumerate` can count them
pub cut_few : (s ns : List ℕ) → length (cut s (numbers ns)) ≤ length ns
cut_few s ns = omega (arith, cut_count s (numbers ns), count_is ns)
