-- A pass over a table is over once something is found that ends it. Assumes nothing.
use Prim.Native.Nat.{ℕ, ◌+◌, ◌≤◌}
use mathlib.Core.Path.{◌≡◌, refl, sym}
use mathlib.Core.Bool.{Bool, false}
use mathlib.Core.List.{List, [], ◌∷◌}
use borrow.Author.Tests.{le-ltb}
use Rattle.cache.specs.declared.CacheEntry.{CacheEntry}
use Rattle.cache.specs.Scan.{Found, is_sought, step, found_from}

module _ (own : Bool) (clock : ℕ) (d x : List ℕ) where
  -- an entry that is not sought changes nothing
  step_kept : (s : Found) (e : CacheEntry) (i : ℕ) → is_sought own s.rank e.domain d ≡ false → s ≡ step own clock d x s e i
  unfolding step
  step_kept s e i h = rw h

  -- what ends the pass stays
  ended_kept : (s : Found) (e : CacheEntry) (i : ℕ) → s.rank ≤ 2 → step own clock d x s e i ≡ s
  unfolding is_sought
  ended_kept s e i h = sym (step_kept s e i (rw (le-ltb 2 s.rank h)))

  pub ended_stays : (s : Found) → s.rank ≤ 2 → (i : ℕ) (t : List CacheEntry) → found_from own clock d x i s t ≡ s
  unfolding found_from
  ended_stays s h i [] = refl
  ended_stays s h i (e ∷ t) = rw (ended_kept s e i h) (ended_stays s h (i + 1) t)
