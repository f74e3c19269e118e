-- `place_of`: what a verdict is counted as, test by test. Assumes nothing.
use Prim.Native.Nat.{ℕ, ◌<◌, ◌≤◌}
use mathlib.Core.Path.{◌≡◌, refl}
use mathlib.Core.Bool.{Bool, true, false, ◌||◌, or-true, and-false}
use mathlib.Core.Option.{Option, none, some}
use native.Mathlib.Omega.{arith}
use lib.Dec.{eqb, leb}
use borrow.Author.Tests.{le-leb, lt-leb, eq-eqb, ne_eqb, leb-false}
use Rattle.lists.specs.Bytes.{within}
use Rattle.reports.specs.Counts.{Result, success, dnssec_invalid, starttls_not_supported, validation_failure, result_of, place_of}
use Rattle.std.specs.Prelude.{Some, None}
use Rattle.reports.specs.Steps.{place_in}

-- a verdict that isn't counted: each test fails
module _ (v : ℕ) where
  pub none_low : v < 3 → result_of v ≡ none
  unfolding result_of
  none_low h = rw (lt-leb 3 v h, ne_eqb v 22 (λ e. omega arith), ne_eqb v 24 (λ e. omega arith), ne_eqb v 23 (λ e. omega arith), lt-leb 25 v (omega arith))

  pub success_is : 3 ≤ v → v ≤ 5 → result_of v ≡ some success
  unfolding result_of
  success_is l h = rw (le-leb 3 v l, le-leb v 5 h)

  pub none_between : 5 < v → v < 22 → result_of v ≡ none
  unfolding result_of
  none_between l h = rw (le-leb 3 v (omega arith), lt-leb v 5 l, ne_eqb v 22 (λ e. omega arith), ne_eqb v 24 (λ e. omega arith), ne_eqb v 23 (λ e. omega arith), lt-leb 25 v (omega arith))

  pub none_high : 28 < v → result_of v ≡ none
  unfolding result_of
  none_high h = rw (le-leb 3 v (omega arith), lt-leb v 5 (omega arith), ne_eqb v 22 (λ e. omega arith), ne_eqb v 24 (λ e. omega arith), ne_eqb v 23 (λ e. omega arith), lt-leb v 28 h) (simp and-false)

  pub dnssec_is : v ≡ 22 → result_of v ≡ some dnssec_invalid
  unfolding result_of
  dnssec_is e = rw e

  pub starttls_is : v ≡ 24 → result_of v ≡ some starttls_not_supported
  unfolding result_of
  starttls_is e = rw e

  pub validation_is : 22 ≤ v → v ≤ 28 → (v ≡ 22 → ⊥) → (v ≡ 24 → ⊥) → result_of v ≡ some validation_failure
  unfolding result_of
  validation_is l h not22 not24 = rw (le-leb 3 v (omega arith), lt-leb v 5 (omega arith), ne_eqb v 22 not22, ne_eqb v 24 not24, tested (leb 25 v) refl)
    where
      tested : (t : Bool) → leb 25 v ≡ t → (eqb v 23 || within 25 28 v) ≡ true
      tested true e = rw (e, le-leb v 28 h) (or-true (eqb v 23))
      tested false e = rw (eq-eqb v 23 (omega (arith, leb-false 25 v e, l, not22, not24)))

  -- and the place
  pub place_success : 3 ≤ v → v ≤ 5 → Some 0 ≡ place_in (result_of v)
  unfolding place_in place_of
  place_success l h = rw (success_is l h)

  pub place_dnssec : v ≡ 22 → Some 1 ≡ place_in (result_of v)
  unfolding place_in place_of
  place_dnssec e = rw (dnssec_is e)

  pub place_starttls : v ≡ 24 → Some 2 ≡ place_in (result_of v)
  unfolding place_in place_of
  place_starttls e = rw (starttls_is e)

  pub place_validation : 22 ≤ v → v ≤ 28 → (v ≡ 22 → ⊥) → (v ≡ 24 → ⊥) → Some 3 ≡ place_in (result_of v)
  unfolding place_in place_of
  place_validation l h not22 not24 = rw (validation_is l h not22 not24)

  pub place_low : v < 3 → None ≡ place_in (result_of v)
  unfolding place_in
  place_low h = rw (none_low h)

  pub place_between : 5 < v → v < 22 → None ≡ place_in (result_of v)
  unfolding place_in
  place_between l h = rw (none_between l h)

  pub place_high : 28 < v → None ≡ place_in (result_of v)
  unfolding place_in
  place_high h = rw (none_high h)

pub ruleset place_laws = (place_low, place_success, place_between, place_high, place_dnssec, place_starttls, place_validation)

-- every place is below 4
pub place_most : (r : Result) → place_of r ≤ 3
unfolding place_of
place_most success = omega arith
place_most dnssec_invalid = omega arith
place_most starttls_not_supported = omega arith
place_most validation_failure = omega arith

-- what a place, or none, says of the verdict
pub is_uncounted : (o : Option Result) → None ≡ place_in o → o ≡ none
unfolding place_in
is_uncounted none e = refl
is_uncounted (some r) e = cc

module _ (o : Option Result) (k : ℕ) (placed : Some k ≡ place_in o) where
  pub is_counted : (P : Option Result → Type 0) → ((r : Result) → place_of r ≡ k → P (some r)) → P o
  unfolding place_in
  is_counted P f = go o placed
    where
      go : (p : Option Result) → Some k ≡ place_in p → P p
      go none e = cc
      go (some r) e = f r (cc)

  pub place_few : k ≤ 3
  place_few = is_counted (λ (p : Option Result). k ≤ 3) (λ r e. omega (arith, e, place_most r))
