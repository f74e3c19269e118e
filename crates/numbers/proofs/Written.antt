-- What is written is read back: numbers as a list of bytes, and pieces one after another with the list of their lengths. Assumes nothing.
use Prim.Native.Nat.{ℕ, ◌+◌, ◌*◌, ◌/◌, ◌%◌, ◌^◌, ◌<◌, ◌≤◌}
use mathlib.Core.Path.{◌≡◌, refl}
use mathlib.Core.Bool.{true}
use mathlib.Core.List.{List, [], ◌∷◌, map, flatten}
use native.Mathlib.Omega.{arith}
use lib.Dec.{leb}
use lib.ListN.{length, length-append}
use lib.Seq.{take-append_seam, drop-append_seam}
use borrow.Author.Rules.{rules}
use borrow.Author.Tests.{le-leb, leb-true, eq-eqb}
use Rattle.lists.specs.Bytes.{all, is_bytes}
use Rattle.lists.specs.Numerals.{value_of}
use Rattle.lists.proofs.Bools.{and_left, and_right}
use Rattle.lists.proofs.All.{all_map, all_more}
use Rattle.numbers.specs.Numbers.{word, numbers, is_whole, sum, at_most, written, eight}
use Rattle.numbers.specs.Pieces.{cut, sums_to, up_to}
use Rattle.numbers.proofs.Cut.{up_to_true}

four_is : (n : ℕ) → n < 4294967296 → word (n / 16777216) (n / 65536 % 256) (n / 256 % 256) (n % 256) ≡ n
four_is n h = omega arith

-- numbers written as a list are read back
pub numbers_written : (ns : List ℕ) → all (at_most 4294967295) ns ≡ true → numbers (written ns) ≡ ns
unfolding numbers written all at_most
numbers_written [] h = refl
numbers_written (n ∷ ns) h =
    rw (
      numbers_written ns (and_right (leb n 4294967295) (all (at_most 4294967295) ns) h),
      four_is n (omega (arith, leb-true n 4294967295 (and_left (leb n 4294967295) (all (at_most 4294967295) ns) h))),
    )

-- a list written has four bytes for each number, so that none are left over
pub written_length : (ns : List ℕ) → length (written ns) ≡ length ns * 4
unfolding written
written_length [] = refl
written_length (n ∷ ns) = omega (arith, written_length ns)

pub written_whole : (ns : List ℕ) → is_whole (written ns) ≡ true
unfolding is_whole
written_whole ns = eq-eqb (length (written ns) % 4) 0 (omega (arith, written_length ns))

-- and they are bytes
byte_is : (n : ℕ) → n < 256 → leb n 255 ≡ true
byte_is n h = le-leb n 255 (omega arith)

pub written_bytes : (ns : List ℕ) → all (at_most 4294967295) ns ≡ true → is_bytes (written ns) ≡ true
unfolding written all at_most
written_bytes [] h = refl
written_bytes (n ∷ ns) h =
    let s : n ≤ 4294967295 = leb-true n 4294967295 (and_left (leb n 4294967295) (all (at_most 4294967295) ns) h) in
    rw (byte_is (n / 16777216) (omega arith), byte_is (n / 65536 % 256) (omega arith), byte_is (n / 256 % 256) (omega arith), byte_is (n % 256) (omega arith))
    (written_bytes ns (and_right (leb n 4294967295) (all (at_most 4294967295) ns) h))

-- the eight bytes of a number, high first, are the number
top_is : (n : ℕ) → n < 2 ^ 64 → 0 * 256 + n / 72057594037927936 % 256 ≡ n / 72057594037927936
top_is n h = omega arith

next_is : (a b : ℕ) → a ≡ b / 256 → a * 256 + b % 256 ≡ b
next_is a b e = omega (arith, e)

pub eight_value : (n : ℕ) → n < 2 ^ 64 → value_of 0 (eight n) ≡ n
unfolding value_of eight
eight_value n h =
    rw (
      top_is n h,
      next_is (n / 72057594037927936) (n / 281474976710656) (omega arith),
      next_is (n / 281474976710656) (n / 1099511627776) (omega arith),
      next_is (n / 1099511627776) (n / 4294967296) (omega arith),
      next_is (n / 4294967296) (n / 16777216) (omega arith),
      next_is (n / 16777216) (n / 65536) (omega arith),
      next_is (n / 65536) (n / 256) (omega arith),
      next_is (n / 256) n refl,
    )

-- `eight_bytes`: the bytes one by one
pub eight_bytes_are : (n a b c d e f g h : ℕ) → a ≡ n / 72057594037927936 % 256 → b ≡ n / 281474976710656 % 256 → c ≡ n / 1099511627776 % 256 → d ≡ n / 4294967296 % 256 → e ≡ n / 16777216 % 256 → f ≡ n / 65536 % 256 → g ≡ n / 256 % 256 → h ≡ n % 256 → a ∷ b ∷ c ∷ d ∷ e ∷ f ∷ g ∷ h ∷ [] ≡ eight n
unfolding eight
eight_bytes_are n a b c d e f g h pa pb pc pd pe pf pg ph = rw (pa, pb, pc, pd, pe, pf, pg, ph)

pub ruleset eight_laws = (eight_bytes_are, rules)

-- whatever is written one after another, with its lengths, is read back
pub cut_written : (xs : List (List ℕ)) → cut (flatten xs) (map length xs) ≡ xs
unfolding cut flatten
cut_written [] = refl
cut_written (x ∷ xs) = rw (take-append_seam x (flatten xs), drop-append_seam x (flatten xs), cut_written xs)

pub written_sum : (xs : List (List ℕ)) → sum (map length xs) ≡ length (flatten xs)
unfolding sum flatten
written_sum [] = refl
written_sum (x ∷ xs) = rw (written_sum xs, length-append x (flatten xs))

-- the lengths of some pieces, as a list
abbrev pub lengths_of : List (List ℕ) → List ℕ
lengths_of xs = written (map length xs)

-- pieces of at most b bytes, for a bound b below 2 ^ 32
module _ (b : ℕ) (small : b ≤ 4294967295) where
  pub lengths_small : (xs : List (List ℕ)) → all (up_to b) xs ≡ true → all (at_most 4294967295) (map length xs) ≡ true
  unfolding at_most
  lengths_small xs h = rw (all_map length (at_most 4294967295) xs) (all_more (up_to b) (λ (x : List ℕ). leb (length x) 4294967295) (λ x e. le-leb (length x) 4294967295 (omega (arith, up_to_true b x e))) xs h)

  pub lengths_bytes : (xs : List (List ℕ)) → all (up_to b) xs ≡ true → is_bytes (lengths_of xs) ≡ true
  lengths_bytes xs h = written_bytes (map length xs) (lengths_small xs h)

  pub pieces_back : (xs : List (List ℕ)) → all (up_to b) xs ≡ true → cut (flatten xs) (numbers (lengths_of xs)) ≡ xs
  pieces_back xs h = rw (numbers_written (map length xs) (lengths_small xs h)) (cut_written xs)

  pub pieces_sum : (xs : List (List ℕ)) → all (up_to b) xs ≡ true → sums_to (lengths_of xs) (length (flatten xs)) ≡ true
  unfolding sums_to
  pieces_sum xs h = rw (written_whole (map length xs), numbers_written (map length xs) (lengths_small xs h)) (eq-eqb (sum (map length xs)) (length (flatten xs)) (written_sum xs))
