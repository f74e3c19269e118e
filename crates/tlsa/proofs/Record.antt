-- The returns of the functions on one record. Assumes nothing.
use Prim.Native.Nat.{ℕ, ◌-◌, ◌<◌, ◌≤◌}
use mathlib.Core.Path.{◌≡◌}
use mathlib.Core.Bool.{Bool, true, false, or-false}
use mathlib.Core.List.{List}
use lib.Dec.{eqb, leb}
use lib.ListN.{length, get_or, length-drop}
use borrow.Author.Rules.{rules}
use borrow.Author.Tests.{not-true, not-false, lt-ltb, le-ltb, ne_eqb}
use Rattle.tlsa.specs.Record.{short, is_usage, is_selector, data_fits, usable}

-- `data_fits`: t is the matching type
module _ (t n : ℕ) where
  pub data_whole : t ≡ 0 → leb 1 n ≡ data_fits t n
  unfolding data_fits
  data_whole h = simp (h, or-false)

  pub data_sha256 : t ≡ 1 → eqb n 32 ≡ data_fits t n
  unfolding data_fits
  data_sha256 h = simp (h, or-false)

  pub data_sha512 : t ≡ 2 → eqb n 64 ≡ data_fits t n
  unfolding data_fits
  data_sha512 h = simp h

  pub data_other : (t ≡ 0 → ⊥) → (t ≡ 1 → ⊥) → (t ≡ 2 → ⊥) → false ≡ data_fits t n
  unfolding data_fits
  data_other a b c = simp (ne_eqb t 0 a, ne_eqb t 1 b, ne_eqb t 2 c)

pub ruleset data_laws = (data_whole, data_sha256, data_sha512, data_other, rules)

-- `is_usable`: u, s, d are what its calls gave
module _ (r : List ℕ) where
  pub usable_short : length r < 3 → false ≡ usable r
  unfolding usable short
  usable_short h = cc (lt-ltb (length r) 3 h)

  module _ (long : 3 ≤ length r) (u : Bool) (ue : u ≡ is_usage (get_or r 0 0)) where
    pub usable_usage : u ≡ false → false ≡ usable r
    unfolding usable short
    usable_usage t = cc (le-ltb (length r) 3 long)

    module _ (ut : u ≡ true) (s : Bool) (se : s ≡ is_selector (get_or r 1 0)) where
      pub usable_selector : s ≡ false → false ≡ usable r
      unfolding usable short
      usable_selector t = cc (le-ltb (length r) 3 long)

      pub usable_data : s ≡ true → (d : Bool) → d ≡ data_fits (get_or r 2 0) (length r - 3) → d ≡ usable r
      unfolding usable short
      usable_data t d de = cc (le-ltb (length r) 3 long, length-drop 3 r)

pub ruleset usable_laws = (usable_short, usable_usage, usable_selector, usable_data, not-true, not-false, rules)
