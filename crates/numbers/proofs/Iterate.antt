-- The turns of `Pieces` and of `Words`, and what loops over them find. Assumes nothing.
use Rattle.std.proofs.Common.{◌≡◌, ℕ, ◌+◌, ◌-◌, ◌*◌, ◌/◌, ◌<◌, ◌≤◌, List, [], ◌∷◌, length, get_or, take, drop, refl, sym, ap, ◌∙◌, min, arith}
use Rattle.std.proofs.lemmas.List.{length-drop, take_min, drop_min}
use lib.Seq.{take_all}
use Rattle.std.specs.Int.{w32, from_be_bytes}
use Rattle.numbers.specs.Numbers.{numbers, sum}
use Rattle.numbers.specs.Pieces.{cut, end_of}
use lib.ListN.{get_or-eq_default}
use Rattle.std.specs.Simd.{first_chunks}
use Rattle.lists.proofs.Chunks.{chunk_is}
use Rattle.numbers.proofs.Numbers.{count_is, number_shift}
use Rattle.numbers.proofs.Cut.{end_take, end_drop}

pub numbers_none : (ns : List ℕ) → length ns < 4 → numbers ns ≡ []
unfolding numbers
numbers_none [] h = refl
numbers_none (a ∷ []) h = refl
numbers_none (a ∷ b ∷ []) h = refl
numbers_none (a ∷ b ∷ c ∷ []) h = refl
numbers_none (a ∷ b ∷ c ∷ d ∷ ns) h = absurd (omega arith)

pub cut_none : (s ns : List ℕ) → length ns < 4 → cut s (numbers ns) ≡ []
unfolding cut
cut_none s ns h = rw (numbers_none ns h)

pub numbers_next : (ns : List ℕ) → 4 ≤ length ns → numbers ns ≡ from_be_bytes w32 (take 4 ns) ∷ numbers (drop 4 ns)
unfolding numbers
numbers_next [] h = absurd (omega arith)
numbers_next (a ∷ []) h = absurd (omega arith)
numbers_next (a ∷ b ∷ []) h = absurd (omega arith)
numbers_next (a ∷ b ∷ c ∷ []) h = absurd (omega arith)
numbers_next (a ∷ b ∷ c ∷ d ∷ ns) h = ap (λ (n : ℕ). n ∷ numbers ns) (omega arith)

-- one turn of `Words`, at n, the number of the first four bytes
pub next_word : (ns first left : List ℕ) (n : ℕ) → first ≡ take 4 ns → left ≡ drop 4 ns → length left + 4 ≡ length ns → n ≡ from_be_bytes w32 first → numbers ns ≡ n ∷ numbers left
next_word ns first left n p q k e =
    let h : 4 ≤ length ns = omega arith in
    rw (q, numbers_next ns h, e, p)

-- the first of some pieces, at n, the number of the first four of the lengths: the piece ends at m, and the lengths after the first are left
pub next_piece : (s ns first left : List ℕ) (n m : ℕ) → first ≡ take 4 ns → left ≡ drop 4 ns → length left + 4 ≡ length ns → n ≡ from_be_bytes w32 first → m ≡ min n (length s) → cut s (numbers ns) ≡ take m s ∷ cut (take (length s - m) (drop m s)) (numbers left)
unfolding cut
next_piece s ns first left n m p q k e f =
    let h : 4 ≤ length ns = omega arith in
    let r : take (length s - m) (drop m s) ≡ drop m s = take_all (length s - m) (drop m s) (omega (arith, length-drop m s)) in
    rw (r, f, take_min n s, drop_min n s, q, numbers_next ns h, e, p)

-- one turn of `Pieces`: the piece of the first length ends at m, as `end_at` says, and the bytes after it and the lengths after the first are left
pub next_part : (s ns left piece rest : List ℕ) (m : ℕ) → left ≡ drop 4 ns → length left + 4 ≡ length ns → m ≡ end_of (length s) 0 (get_or (numbers ns) 0 0) → piece ≡ take m s → rest ≡ drop m s → cut s (numbers ns) ≡ piece ∷ cut rest (numbers left)
unfolding cut
next_part s ns left piece rest m q k e f g =
    let h : 4 ≤ length ns = omega arith in
    let n : numbers ns ≡ get_or (numbers ns) 0 0 ∷ numbers (drop 4 ns) = rw (numbers_next ns h) in
    let z : m - 0 ≡ m = omega arith in
    let t : take m s ≡ take (get_or (numbers ns) 0 0) s = rw z at (end_take s 0 (get_or (numbers ns) 0 0) m e (omega arith)) in
    let d : drop m s ≡ drop (get_or (numbers ns) 0 0) s = end_drop s 0 (get_or (numbers ns) 0 0) m e (omega arith) in
    ap (cut s) n ∙ rw (f, g, t, d, q)

-- an item leaves fewer
pub fewer : {A : Type 0} (xs ys : List A) (x : A) → xs ≡ x ∷ ys → length ys < length xs
fewer xs ys x e = omega (arith, ap length e)

-- a `for` over numbers that sums them: a turn at x, which leaves ys of xs, and the end
pub sum_item_next : (xs ys : List ℕ) (x : ℕ) → xs ≡ x ∷ ys → sum xs ≡ x + sum ys
unfolding sum
sum_item_next xs ys x e = rw e

pub sum_item_none : (xs : List ℕ) → xs ≡ [] → sum xs ≡ 0
unfolding sum
sum_item_none xs e = rw e

pub ruleset sum_items = (sum_item_next, sum_item_none)

-- `number`: the number at place k by chunk k of the list, and what stands where there is none
module _ (s : List ℕ) (ws : List (List ℕ)) (k : ℕ) (front : ws ≡ first_chunks 4 (length s / 4) s) where
  pub number_is : k < length s / 4 → (n : ℕ) → n ≡ from_be_bytes w32 (get_or ws k []) → n ≡ get_or (numbers s) k 0
  number_is h n e =
      let i : 4 * k ≡ k * 4 = omega arith in
      let c : get_or ws k [] ≡ take 4 (drop (k * 4) s) = rw (← i) (rw front (chunk_is 4 (length s / 4) k s h)) in
      let l : 4 ≤ length (drop (k * 4) s) = omega (arith, length-drop (k * 4) s) in
      let d : get_or (numbers s) k 0 ≡ get_or (numbers (drop (k * 4) s)) 0 0 = number_shift k s 0 k (omega arith) in
      e ∙ (ap (from_be_bytes w32) c ∙ sym (d ∙ ap (λ (ns : List ℕ). get_or ns 0 0) (numbers_next (drop (k * 4) s) l)))

pub number_none : (s : List ℕ) (k : ℕ) → length s / 4 ≤ k → 0 ≡ get_or (numbers s) k 0
number_none s k h = sym (get_or-eq_default (numbers s) 0 (omega (arith, count_is s)))
