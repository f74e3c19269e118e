-- Strongest digest only: what it changes in what matches, for every set, every reference and all certificate facts. Assumes nothing.
use Prim.Native.Nat.{ℕ}
use mathlib.Core.Path.{◌≡◌, refl, sym, ◌∙◌}
use mathlib.Core.Bool.{Bool, true, false, not, ◌&&◌, ◌||◌, and-true}
use mathlib.Core.List.{List, [], ◌∷◌, ◌++◌}
use lib.Dec.{eqb}
use Rattle.lists.specs.Bytes.{all, any}
use Rattle.lists.proofs.Any.{any_more}
use Rattle.lists.proofs.Bools.{apart, and_left, and_right, and_intro, neither_left, neither_right}
use Rattle.tlsa.specs.Record.{usage_of, selector_of, matching_type_of, usable, is_sha512, ignored, counts}
use Rattle.tlsa.proofs.Ignored.{usable_sha512, without_sha512, any_one_more, one_more, without, any_without, ignored_unchanged}
use Rattle.certificates.specs.Facts.{Presented}
use Rattle.certificates.specs.Checks.{record_matches, names_reference, dane_passes}

-- every element of a list has t, where no element has q and what has not q has t
each_has : (q t : List ℕ → Bool) → ((x : List ℕ) → q x ≡ false → t x ≡ true) → (xs : List (List ℕ)) → any q xs ≡ false → all t xs ≡ true
unfolding any all
each_has q t f [] h = refl
each_has q t f (x ∷ xs) h = and_intro (t x) (all t xs) (f x (neither_left (q x) (any q xs) h)) (each_has q t f xs (neither_right (q x) (any q xs) h))

module _ (refs : List (List ℕ)) (p : Presented) where
  -- a record matches; the test that DANE makes of each record of a set
  abbrev matching : List ℕ → Bool
  matching r = record_matches (names_reference refs p) p.certificates r

  abbrev pub passing : List (List ℕ) → List ℕ → Bool
  passing set r = counts set r && matching r

  -- the rule of document 01: one usable record matches
  abbrev pub usable_matches : List (List ℕ) → Bool
  usable_matches set = any (λ (r : List ℕ). usable r && matching r) set

  -- A set without a usable record of type 2 matches as before.
  pub without_type_2 : (set : List (List ℕ)) → any usable_sha512 set ≡ false → dane_passes refs set p ≡ usable_matches set
  unfolding dane_passes
  without_type_2 set h = λ i. any (λ (r : List ℕ). all_count r i) set
    where
      all_count : (r : List ℕ) → passing set r ≡ (usable r && matching r)
      all_count r = rw (without_sha512 set h r, and-true (usable r))

  -- A set matches exactly where what is left of it without the ignored records matches as before.
  pub ignored_left_out : (set : List (List ℕ)) → dane_passes refs set p ≡ usable_matches (without (ignored set) set)
  unfolding dane_passes
  ignored_left_out set = (λ i. any (λ (r : List ℕ). apart_ignored r i) set) ∙ sym (any_without (ignored set) (λ (r : List ℕ). usable r && matching r) set)
    where
      apart_ignored : (r : List ℕ) → passing set r ≡ (not (ignored set r) && (usable r && matching r))
      apart_ignored r = go (usable r) (ignored set r) (matching r)
        where
          go : (u i m : Bool) → (u && not i && m) ≡ (not i && (u && m))
          go true true m = refl
          go true false m = refl
          go false true m = refl
          go false false m = refl

  -- The ignored records change nothing: without them the set matches exactly where it does with them.
  pub ignored_unread : (set : List (List ℕ)) → dane_passes refs (without (ignored set) set) p ≡ dane_passes refs set p
  unfolding dane_passes
  ignored_unread set =
      (λ i. any (λ (r : List ℕ). usable r && not (ignored_unchanged set r i) && matching r) (without (ignored set) set))
      ∙ (any_without (ignored set) (passing set) set ∙ (λ i. any (λ (r : List ℕ). once r i) set))
    where
      once : (r : List ℕ) → (not (ignored set r) && passing set r) ≡ passing set r
      once r = go (usable r) (ignored set r) (matching r)
        where
          go : (u i m : Bool) → (not i && (u && not i && m)) ≡ (u && not i && m)
          go true true m = refl
          go true false m = refl
          go false true m = refl
          go false false m = refl

  -- Nothing matches that did not match before.
  pub nothing_more : (set : List (List ℕ)) → dane_passes refs set p ≡ true → usable_matches set ≡ true
  unfolding dane_passes
  nothing_more set = any_more (passing set) (λ (r : List ℕ). usable r && matching r) (λ r e. and_intro (usable r) (matching r) (and_left (usable r) (not (ignored set r)) (and_left (counts set r) (matching r) e)) (and_right (counts set r) (matching r) e)) set

  -- One record more in a set, s, turns a match into a mismatch only where each record that counted and matched is of type 1, and s is a usable record of type 2 of its usage
  -- and selector. (Where none counted and matched, nothing is said of s.)
  pub turned : (xs : List (List ℕ)) (s : List ℕ) (ys : List (List ℕ)) → dane_passes refs (xs ++ (s ∷ ys)) p ≡ false → all (λ (r : List ℕ). not (passing (xs ++ ys) r) || eqb (matching_type_of r) 1 && is_sha512 (usage_of r) (selector_of r) s) (xs ++ ys) ≡ true
  unfolding dane_passes
  turned xs s ys after =
      each_has (passing (xs ++ (s ∷ ys))) (λ (r : List ℕ). not (passing (xs ++ ys) r) || eqb (matching_type_of r) 1 && is_sha512 (usage_of r) (selector_of r) s) for_each (xs ++ ys)
      (neither_left (any (passing (xs ++ (s ∷ ys))) (xs ++ ys)) (passing (xs ++ (s ∷ ys)) s) (sym (any_one_more (passing (xs ++ (s ∷ ys))) xs s ys) ∙ after))
    where
      for_each : (r : List ℕ) → passing (xs ++ (s ∷ ys)) r ≡ false → (not (passing (xs ++ ys) r) || eqb (matching_type_of r) 1 && is_sha512 (usage_of r) (selector_of r) s) ≡ true
      for_each r h = go (usable r) (ignored (xs ++ ys) r) (eqb (matching_type_of r) 1 && is_sha512 (usage_of r) (selector_of r) s) (matching r) (rw (one_more xs s ys r) at h)
        where
          go : (u i n m : Bool) → (u && not (i || n) && m) ≡ false → (not (u && not i && m) || n) ≡ true
          go true true n m h = refl
          go true false true true h = refl
          go true false true false h = refl
          go true false false true h = apart (sym h)
          go true false false false h = refl
          go false i n m h = refl
