-- What a verdict is counted as, number by number. Assumes nothing.
use Prim.Native.Nat.{ℕ, ◌+◌, ◌<◌, ◌≤◌}
use mathlib.Core.Path.{◌≡◌, refl, sym, ap, ◌∙◌}
use mathlib.Core.Bool.{Bool, true, false, cond, ◌&&◌, ◌||◌, or-true, or-false}
use mathlib.Core.List.{List, [], ◌∷◌}
use mathlib.Core.Option.{Option, none, some}
use native.Mathlib.Omega.{arith}
use lib.Dec.{eqb, leb}
use borrow.Author.Tests.{le-leb, lt-leb, ne_eqb, eqb-true, eqb-false, leb-true, leb-false}
use Rattle.lists.specs.Bytes.{within, any}
use Rattle.lists.proofs.Bools.{never}
use Rattle.lists.proofs.Laws.{within_true}
use Rattle.verdicts.specs.Verdicts.{is_delivery, is_next_host, is_verdict}
use Rattle.reports.specs.Counts.{Result, success, dnssec_invalid, starttls_not_supported, validation_failure, result_of, place_of}
use Rattle.reports.specs.Day.{is_one_of}

-- ---- ranges, number by number

within_one : (n v : ℕ) → within n n v ≡ (eqb v n || false)
within_one n v = go (eqb v n) refl
  where
    go : (t : Bool) → eqb v n ≡ t → within n n v ≡ (t || false)
    go true e = let i : v ≡ n = eqb-true v n e in rw (le-leb n v (omega arith), le-leb v n (omega arith))
    go false e = low (leb n v) refl
      where
        low : (t : Bool) → leb n v ≡ t → (t && leb v n) ≡ false
        low false l = refl
        low true l = let k : n ≤ v = leb-true n v l in let o : v ≡ n → ⊥ = eqb-false v n e in lt-leb v n (omega (arith, k, o))

within_next : (lo hi v : ℕ) → lo < hi → within lo hi v ≡ (eqb v lo || within (lo + 1) hi v)
within_next lo hi v h = go (eqb v lo) refl
  where
    go : (t : Bool) → eqb v lo ≡ t → within lo hi v ≡ (t || within (lo + 1) hi v)
    go true e = let i : v ≡ lo = eqb-true v lo e in rw (le-leb lo v (omega arith), le-leb v hi (omega arith))
    go false e = low (leb (lo + 1) v) refl
      where
        low : (t : Bool) → leb (lo + 1) v ≡ t → within lo hi v ≡ (t && leb v hi)
        low true l = let k : lo + 1 ≤ v = leb-true (lo + 1) v l in rw (le-leb lo v (omega (arith, k)))
        low false l = let k : v < lo + 1 = leb-false (lo + 1) v l in let o : v ≡ lo → ⊥ = eqb-false v lo e in rw (lt-leb lo v (omega (arith, k, o)))

module _ (v : ℕ) where
  success_numbers : within 3 5 v ≡ is_one_of (3 ∷ 4 ∷ 5 ∷ []) v
  unfolding is_one_of any
  success_numbers = rw (within_next 3 5 v (omega arith), within_next 4 5 v (omega arith), within_one 5 v)

  high_numbers : within 25 28 v ≡ is_one_of (25 ∷ 26 ∷ 27 ∷ 28 ∷ []) v
  unfolding is_one_of any
  high_numbers = rw (within_next 25 28 v (omega arith), within_next 26 28 v (omega arith), within_next 27 28 v (omega arith), within_one 28 v)

  -- the verdicts
  pub verdict_numbers : is_verdict v ≡ is_one_of (1 ∷ 2 ∷ 3 ∷ 4 ∷ 5 ∷ 20 ∷ 21 ∷ 22 ∷ 23 ∷ 24 ∷ 25 ∷ 26 ∷ 27 ∷ 28 ∷ []) v
  unfolding is_delivery is_next_host is_one_of any
  verdict_numbers =
      rw (
        within_next 1 5 v (omega arith),
        within_next 2 5 v (omega arith),
        success_numbers,
        within_next 20 28 v (omega arith),
        within_next 21 28 v (omega arith),
        within_next 22 28 v (omega arith),
        within_next 23 28 v (omega arith),
        within_next 24 28 v (omega arith),
        high_numbers,
      )
      (five (eqb v 1) (eqb v 2) (eqb v 3) (eqb v 4) (eqb v 5) (eqb v 20 || (eqb v 21 || (eqb v 22 || (eqb v 23 || (eqb v 24 || (eqb v 25 || (eqb v 26 || (eqb v 27 || (eqb v 28 || false))))))))))
    where
      five : (a b c d e r : Bool) → ((a || (b || (c || (d || (e || false))))) || r) ≡ (a || (b || (c || (d || (e || r)))))
      five true b c d e r = refl
      five false true c d e r = refl
      five false false true d e r = refl
      five false false false true e r = refl
      five false false false false true r = refl
      five false false false false false r = refl

-- ---- what is counted where

first_of : (n : ℕ) (ns : List ℕ) (v : ℕ) → is_one_of (n ∷ ns) v ≡ (eqb v n || is_one_of ns v)
unfolding is_one_of any
first_of n ns v = refl

-- one at the place of a result, and zero at every other
unfoldable pub here : ℕ → Option Result → ℕ
here k none = 0
here k (some r) = cond (eqb (place_of r) k) 1 0

-- one for a result
unfoldable pub counts : Option Result → ℕ
counts none = 0
counts (some r) = 1

pub here_sum : (o : Option Result) → here 0 o + here 1 o + here 2 o + here 3 o ≡ counts o
unfolding here counts place_of
here_sum none = refl
here_sum (some success) = refl
here_sum (some dnssec_invalid) = refl
here_sum (some starttls_not_supported) = refl
here_sum (some validation_failure) = refl

-- the result by four tests, of which no two hold
abbrev by_tests : Bool → Bool → Bool → Bool → Option Result
by_tests a b c d = cond a (some success) (cond b (some dnssec_invalid) (cond c (some starttls_not_supported) (cond d (some validation_failure) none)))

module _ (a b c d : Bool) where
  at_first : cond a 1 0 ≡ here 0 (by_tests a b c d)
  unfolding here place_of
  at_first = go a b c d
    where
      go : (a b c d : Bool) → cond a 1 0 ≡ here 0 (by_tests a b c d)
      go true b c d = refl
      go false true c d = refl
      go false false true d = refl
      go false false false true = refl
      go false false false false = refl

  module _ (ab : a ≡ true → b ≡ false) where
    at_second : cond b 1 0 ≡ here 1 (by_tests a b c d)
    unfolding here place_of
    at_second = go a b c d ab
      where
        go : (a b c d : Bool) → (a ≡ true → b ≡ false) → cond b 1 0 ≡ here 1 (by_tests a b c d)
        go true b c d ab = rw (ab refl)
        go false true c d ab = refl
        go false false true d ab = refl
        go false false false true ab = refl
        go false false false false ab = refl

    module _ (ac : a ≡ true → c ≡ false) (bc : b ≡ true → c ≡ false) where
      at_third : cond c 1 0 ≡ here 2 (by_tests a b c d)
      unfolding here place_of
      at_third = go a b c d ac bc
        where
          go : (a b c d : Bool) → (a ≡ true → c ≡ false) → (b ≡ true → c ≡ false) → cond c 1 0 ≡ here 2 (by_tests a b c d)
          go true b c d ac bc = rw (ac refl)
          go false true c d ac bc = rw (bc refl)
          go false false true d ac bc = refl
          go false false false true ac bc = refl
          go false false false false ac bc = refl

      at_fourth : (a ≡ true → d ≡ false) → (b ≡ true → d ≡ false) → (c ≡ true → d ≡ false) → cond d 1 0 ≡ here 3 (by_tests a b c d)
      unfolding here place_of
      at_fourth = go a b c d
        where
          go : (a b c d : Bool) → (a ≡ true → d ≡ false) → (b ≡ true → d ≡ false) → (c ≡ true → d ≡ false) → cond d 1 0 ≡ here 3 (by_tests a b c d)
          go true b c d ad bd cd = rw (ad refl)
          go false true c d ad bd cd = rw (bd refl)
          go false false true d ad bd cd = rw (cd refl)
          go false false false true ad bd cd = refl
          go false false false false ad bd cd = refl

  any_of : cond (a || (b || (c || d))) 1 0 ≡ counts (by_tests a b c d)
  unfolding counts
  any_of = go a b c d
    where
      go : (a b c d : Bool) → cond (a || (b || (c || d))) 1 0 ≡ counts (by_tests a b c d)
      go true b c d = refl
      go false true c d = refl
      go false false true d = refl
      go false false false true = refl
      go false false false false = refl

module _ (v : ℕ) where
  abbrev is_low : Bool
  is_low = within 3 5 v

  abbrev is_dnssec : Bool
  is_dnssec = eqb v 22

  abbrev is_starttls : Bool
  is_starttls = eqb v 24

  abbrev is_other : Bool
  is_other = eqb v 23 || within 25 28 v

  low_dnssec : is_low ≡ true → is_dnssec ≡ false
  low_dnssec h = let w = within_true 3 5 v h in ne_eqb v 22 (λ e. omega (arith, w.1, e))

  low_starttls : is_low ≡ true → is_starttls ≡ false
  low_starttls h = let w = within_true 3 5 v h in ne_eqb v 24 (λ e. omega (arith, w.1, e))

  low_other : is_low ≡ true → is_other ≡ false
  low_other h = let w = within_true 3 5 v h in rw (ne_eqb v 23 (λ e. omega (arith, w.1, e)), lt-leb 25 v (omega (arith, w.1)))

  dnssec_starttls : is_dnssec ≡ true → is_starttls ≡ false
  dnssec_starttls h = rw (eqb-true v 22 h)

  dnssec_other : is_dnssec ≡ true → is_other ≡ false
  dnssec_other h = rw (eqb-true v 22 h)

  starttls_other : is_starttls ≡ true → is_other ≡ false
  starttls_other h = rw (eqb-true v 24 h)

  -- success: 3, 4, 5
  pub here_success : cond (is_one_of (3 ∷ 4 ∷ 5 ∷ []) v) 1 0 ≡ here 0 (result_of v)
  unfolding result_of
  here_success = rw (← success_numbers v) (at_first is_low is_dnssec is_starttls is_other)

  -- dnssec-invalid: 22
  pub here_dnssec : cond (is_one_of (22 ∷ []) v) 1 0 ≡ here 1 (result_of v)
  unfolding result_of is_one_of any
  here_dnssec = ap (λ (t : Bool). cond t 1 0) (or-false (eqb v 22)) ∙ at_second is_low is_dnssec is_starttls is_other low_dnssec

  -- starttls-not-supported: 24
  pub here_starttls : cond (is_one_of (24 ∷ []) v) 1 0 ≡ here 2 (result_of v)
  unfolding result_of is_one_of any
  here_starttls = ap (λ (t : Bool). cond t 1 0) (or-false (eqb v 24)) ∙ at_third is_low is_dnssec is_starttls is_other low_dnssec low_starttls dnssec_starttls

  -- validation-failure: 23, 25 to 28
  pub here_validation : cond (is_one_of (23 ∷ 25 ∷ 26 ∷ 27 ∷ 28 ∷ []) v) 1 0 ≡ here 3 (result_of v)
  unfolding result_of
  here_validation = ap (λ (t : Bool). cond t 1 0) other_numbers ∙ at_fourth is_low is_dnssec is_starttls is_other low_dnssec low_starttls dnssec_starttls low_other dnssec_other starttls_other
    where
      other_numbers : is_one_of (23 ∷ 25 ∷ 26 ∷ 27 ∷ 28 ∷ []) v ≡ is_other
      other_numbers = rw (high_numbers v) (first_of 23 (25 ∷ 26 ∷ 27 ∷ 28 ∷ []) v)

  -- all that are counted
  pub here_counted : cond (is_one_of (3 ∷ 4 ∷ 5 ∷ 22 ∷ 23 ∷ 24 ∷ 25 ∷ 26 ∷ 27 ∷ 28 ∷ []) v) 1 0 ≡ counts (result_of v)
  unfolding result_of is_one_of any
  here_counted =
      let high : Bool = eqb v 25 || (eqb v 26 || (eqb v 27 || (eqb v 28 || false))) in
      let e : (is_low || (is_dnssec || (is_starttls || is_other))) ≡ ((eqb v 3 || (eqb v 4 || (eqb v 5 || false))) || (eqb v 22 || (eqb v 24 || (eqb v 23 || high)))) = rw (success_numbers v, high_numbers v) in
      ap (λ (t : Bool). cond t 1 0) (sorted (eqb v 3) (eqb v 4) (eqb v 5) (eqb v 22) (eqb v 23) (eqb v 24) high ∙ sym e) ∙ any_of is_low is_dnssec is_starttls is_other
    where
      sorted : (a b c d e f r : Bool) → (a || (b || (c || (d || (e || (f || r)))))) ≡ ((a || (b || (c || false))) || (d || (f || (e || r))))
      sorted true b c d e f r = refl
      sorted false true c d e f r = refl
      sorted false false true d e f r = refl
      sorted false false false true e f r = refl
      sorted false false false false true true r = refl
      sorted false false false false true false r = refl
      sorted false false false false false f r = refl

-- what is counted is a verdict
pub verdict_counted : (v : ℕ) (r : Result) → result_of v ≡ some r → is_verdict v ≡ true
unfolding result_of is_delivery is_next_host
verdict_counted v r h = go (is_low v) refl (is_dnssec v) refl (is_starttls v) refl (eqb v 23) refl (leb 25 v) refl (leb v 28) refl h
  where
    delivered : 3 ≤ v → v ≤ 5 → (within 1 5 v || within 20 28 v) ≡ true
    delivered l u = rw (le-leb 1 v (omega (arith, l)), le-leb v 5 u)

    skipped : 20 ≤ v → v ≤ 28 → (within 1 5 v || within 20 28 v) ≡ true
    skipped l u = rw (le-leb 20 v l, le-leb v 28 u) (or-true (within 1 5 v))

    go : (a : Bool) → is_low v ≡ a → (b : Bool) → is_dnssec v ≡ b → (c : Bool) → is_starttls v ≡ c → (d : Bool) → eqb v 23 ≡ d → (e : Bool) → leb 25 v ≡ e → (f : Bool) → leb v 28 ≡ f → by_tests a b c (d || (e && f)) ≡ some r → (within 1 5 v || within 20 28 v) ≡ true
    go true p b q c t d w e x f y k = delivered (within_true 3 5 v p).0 (within_true 3 5 v p).1
    go false p true q c t d w e x f y k = rw (eqb-true v 22 q)
    go false p false q true t d w e x f y k = rw (eqb-true v 24 t)
    go false p false q false t true w e x f y k = rw (eqb-true v 23 w)
    go false p false q false t false w true x true y k = skipped (omega (arith, leb-true 25 v x)) (leb-true v 28 y)
    go false p false q false t false w true x false y k = never cc
    go false p false q false t false w false x f y k = never cc
