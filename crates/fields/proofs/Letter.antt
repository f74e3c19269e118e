-- The returns of `is_letter_or_digit`: small letters first. Assumes nothing.
use Prim.Native.Nat.{ℕ, ◌<◌, ◌≤◌}
use mathlib.Core.Path.{◌≡◌}
use mathlib.Core.Bool.{false, and-false, or-false}
use native.Mathlib.Omega.{arith}
use lib.Dec.{leb}
use borrow.Author.Rules.{rules}
use borrow.Author.Tests.{le-leb, lt-leb}
use Rattle.fields.specs.Name.{letter_or_digit}

module _ (b : ℕ) where
  pub letter_small : 97 ≤ b → leb b 122 ≡ letter_or_digit b
  unfolding letter_or_digit
  letter_small h = simp (le-leb 97 b h, lt-leb b 90 (omega arith), lt-leb b 57 (omega arith), and-false, or-false)

  module _ (s : b < 97) where
    pub letter_capital : 65 ≤ b → leb b 90 ≡ letter_or_digit b
    unfolding letter_or_digit
    letter_capital h = simp (lt-leb 97 b s, le-leb 65 b h, lt-leb b 57 (omega arith), and-false, or-false)

    module _ (c : b < 65) where
      pub letter_digit : 48 ≤ b → leb b 57 ≡ letter_or_digit b
      unfolding letter_or_digit
      letter_digit h = simp (lt-leb 97 b s, lt-leb 65 b c, le-leb 48 b h)

      pub letter_none : b < 48 → false ≡ letter_or_digit b
      unfolding letter_or_digit
      letter_none h = simp (lt-leb 97 b s, lt-leb 65 b c, lt-leb 48 b h)

pub ruleset letter_laws = (letter_small, letter_capital, letter_digit, letter_none, rules)
