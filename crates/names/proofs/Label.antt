-- The returns of `is_label_byte`: small letters first, then the dot. Assumes nothing.
use Prim.Native.Nat.{ℕ, ◌<◌, ◌≤◌}
use mathlib.Core.Path.{◌≡◌, refl}
use mathlib.Core.Bool.{false, and-false, or-false}
use native.Mathlib.Omega.{arith}
use lib.Dec.{eqb, leb}
use borrow.Author.Rules.{rules}
use borrow.Author.Tests.{le-leb, lt-leb, ne_eqb}
use Rattle.names.specs.Name.{label_byte}

module _ (b : ℕ) where
  pub byte_small : 97 ≤ b → leb b 122 ≡ label_byte b
  unfolding label_byte
  byte_small h = simp (le-leb 97 b h, lt-leb b 90 (omega arith), lt-leb b 57 (omega arith), ne_eqb b 45 (λ z. absurd (omega arith)), and-false, or-false)

  module _ (s : b < 97) where
    pub byte_capital : 65 ≤ b → leb b 90 ≡ label_byte b
    unfolding label_byte
    byte_capital h = simp (lt-leb 97 b s, le-leb 65 b h, lt-leb b 57 (omega arith), ne_eqb b 45 (λ z. absurd (omega arith)), and-false, or-false)

    module _ (c : b < 65) where
      pub byte_digit : 48 ≤ b → leb b 57 ≡ label_byte b
      unfolding label_byte
      byte_digit h = simp (lt-leb 97 b s, lt-leb 65 b c, le-leb 48 b h, ne_eqb b 45 (λ z. absurd (omega arith)), or-false)

      pub byte_hyphen : b < 48 → eqb b 45 ≡ label_byte b
      unfolding label_byte
      byte_hyphen h = simp (lt-leb 97 b s, lt-leb 65 b c, lt-leb 48 b h)

pub byte_dot : (b : ℕ) → b ≡ 46 → false ≡ label_byte b
unfolding label_byte
byte_dot b e = rw e refl

pub ruleset byte_laws = (byte_small, byte_dot, byte_capital, byte_digit, byte_hyphen, rules)
