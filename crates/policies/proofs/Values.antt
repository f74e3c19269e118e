-- The returns of the functions that read a name or a value. Assumes nothing.
use Prim.Native.Nat.{ℕ, ◌+◌, ◌*◌, ◌-◌, ◌^◌, ◌<◌, ◌≤◌}
use mathlib.Core.Path.{◌≡◌, refl, sym, ap, ◌∙◌}
use mathlib.Core.Bool.{true, false, and-false}
use mathlib.Core.List.{List}
use native.Mathlib.Nat.{pow-suc, pow-le-pow_right}
use native.Mathlib.Numerals.{add-one}
use native.Mathlib.Omega.{arith}
use lib.ListN.{length, get_or, drop, drop_of_length-le}
use borrow.Author.Rules.{rules}
use borrow.Author.Tests.{lt-leb, le-leb}
use Rattle.lists.specs.Bytes.{all}
use Rattle.lists.proofs.All.{all_next, all_fail, all_end}
use Rattle.lists.proofs.Laws.{drop_next}
use Rattle.std.specs.Prelude.{Some, None}
use Rattle.policies.specs.Fields.{is_digit, decimal_after, age_of}
use Rattle.policies.specs.Reader.{held}

-- `age_of`: its returns, and a turn of its loop, where d is the digit at i
pub age_short : (v : List ℕ) → length v < 1 → None ≡ held (age_of v)
unfolding held age_of
age_short v h = rw (lt-leb 1 (length v) h)

pub age_long : (v : List ℕ) → 10 < length v → None ≡ held (age_of v)
unfolding held age_of
age_long v h =
    let k : 1 ≤ length v = omega arith in
    rw (le-leb 1 (length v) k, lt-leb (length v) 10 h)

pub below_next : (n b i : ℕ) → n < 10 ^ i → b ≤ 57 → n * 10 + (b - 48) < 10 ^ (i + 1)
below_next n b i h k =
    let e : 10 ^ (i + 1) ≡ 10 ^ i * 10 = ap (λ (k : ℕ). 10 ^ k) (add-one i) ∙ pow-suc 10 i in
    omega arith

pub below_most : (i k : ℕ) → i < k → k ≤ 10 → 10 ^ (i + 1) ≤ 10000000000
below_most i k h l = pow-le-pow_right {n = 10} (omega arith) {i = i + 1} {j = 10} (omega arith)

module _ (v : List ℕ) (i : ℕ) (h : i < length v) where
  pub age_low : all is_digit v ≡ all is_digit (drop i v) → get_or v i 0 < 48 → None ≡ held (age_of v)
  unfolding held age_of is_digit
  age_low inv k =
      let no : is_digit (get_or v i 0) ≡ false = rw (lt-leb 48 (get_or v i 0) k) in
      simp (all_fail is_digit v i inv h false (sym no) refl, and-false)

  module _ (low : 48 ≤ get_or v i 0) where
    pub age_high : all is_digit v ≡ all is_digit (drop i v) → 57 < get_or v i 0 → None ≡ held (age_of v)
    unfolding held age_of is_digit
    age_high inv k =
        let no : is_digit (get_or v i 0) ≡ false = rw (le-leb 48 (get_or v i 0) low, lt-leb (get_or v i 0) 57 k) in
        simp (all_fail is_digit v i inv h false (sym no) refl, and-false)

    pub age_digits : all is_digit v ≡ all is_digit (drop i v) → get_or v i 0 ≤ 57 → all is_digit v ≡ all is_digit (drop (i + 1) v)
    unfolding is_digit
    age_digits inv k =
        let yes : is_digit (get_or v i 0) ≡ true = rw (le-leb 48 (get_or v i 0) low, le-leb (get_or v i 0) 57 k) in
        all_next is_digit v i inv h true (sym yes) refl

  pub age_next : (n : ℕ) → decimal_after 0 v ≡ decimal_after n (drop i v) → decimal_after 0 v ≡ decimal_after (n * 10 + (get_or v i 0 - 48)) (drop (i + 1) v)
  unfolding decimal_after
  age_next n inv = inv ∙ rw (drop_next v i h)

pub age_good : (v : List ℕ) (i n : ℕ) → all is_digit v ≡ all is_digit (drop i v) → decimal_after 0 v ≡ decimal_after n (drop i v) → length v ≤ i → 1 ≤ length v → length v ≤ 10 → Some n ≡ held (age_of v)
unfolding held age_of decimal_after
age_good v i n a inv h l m =
    let k : decimal_after 0 v ≡ n = inv ∙ rw (drop_of_length-le v h) in
    rw (k, all_end is_digit v i a h, le-leb 1 (length v) l, le-leb (length v) 10 m)

pub ruleset age_laws = (age_short, age_long, below_next, below_most, age_low, age_high, age_digits, age_next, age_good, rules)
