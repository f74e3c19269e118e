-- Strongest digest only: which records of a set are ignored, for every set. Assumes nothing.
use Prim.Native.Nat.{ℕ, suc, ◌≤◌}
use mathlib.Core.Path.{◌≡◌, refl, sym, ap, ◌∙◌}
use mathlib.Core.Bool.{Bool, true, false, not, cond, ◌&&◌, ◌||◌, and-true, and-false, and_comm, and-or_distrib_left, or-true, or_comm, or_assoc}
use mathlib.Core.List.{List, [], ◌∷◌, ◌++◌}
use mathlib.Core.Logic.{◌⊎◌, inl, inr}
use native.Mathlib.Omega.{arith}
use lib.Dec.{eqb, leb}
use lib.ListN.{length}
use borrow.Author.Tests.{not-true, eqb-true, ne_eqb, eq-eqb, le-leb, leb-true, ltb-true}
use Rattle.lists.specs.Bytes.{all, any}
use Rattle.lists.proofs.Bools.{apart, and_left, and_right, and_intro, and_swap, or_left, or_right}
use Rattle.lists.proofs.Any.{any_more, any_fails, any_swap}
use Rattle.numbers.specs.Pieces.{up_to}
use Rattle.tlsa.specs.Record.{usage_of, selector_of, matching_type_of, short, usable, is_sha512, ignored, counts}
use Rattle.tlsa.specs.Answer.{set_fits, needs_of}
use Rattle.tlsa.specs.declared.Needs.{Needs}

-- a usable record of matching type 2
abbrev pub usable_sha512 : List ℕ → Bool
usable_sha512 r = usable r && eqb (matching_type_of r) 2

-- of a usage and selector: one that has them
pub sha512_apart : (usage selector : ℕ) (r : List ℕ) → is_sha512 usage selector r ≡ (usable_sha512 r && (eqb (usage_of r) usage && eqb (selector_of r) selector))
unfolding is_sha512
sha512_apart usage selector r = go (usable r) (eqb (usage_of r) usage) (eqb (selector_of r) selector) (eqb (matching_type_of r) 2)
  where
    go : (a b c d : Bool) → (a && b && c && d) ≡ (a && d && (b && c))
    go true true true d = sym (and-true d)
    go true true false d = sym (and-false d)
    go true false c d = sym (and-false d)
    go false b c d = refl

-- What counts, said apart from the definition's own words: `none_stronger`, `other_types_count` and, further on, `beside_sha512`.

-- a usable record of type 2 with the usage and selector of r
abbrev pub stronger_than : List ℕ → List ℕ → Bool
stronger_than r s = usable_sha512 s && (eqb (usage_of s) (usage_of r) && eqb (selector_of s) (selector_of r))

-- Without one in the set, a usable record counts.
pub none_stronger : (set : List (List ℕ)) (r : List ℕ) → any (stronger_than r) set ≡ false → usable r ≡ true → counts set r ≡ true
unfolding ignored
none_stronger set r h u =
    let none : any (is_sha512 (usage_of r) (selector_of r)) set ≡ false = (λ i. any (λ (s : List ℕ). sha512_apart (usage_of r) (selector_of r) s i) set) ∙ h in
    rw (u, none, and-false (eqb (matching_type_of r) 1))

-- A usable record that is not of matching type 1 counts: type 0 and type 2 always do.
pub other_types_count : (set : List (List ℕ)) (r : List ℕ) → usable r ≡ true → (matching_type_of r ≡ 1 → ⊥) → counts set r ≡ true
unfolding ignored
other_types_count set r h z = rw (h, ne_eqb (matching_type_of r) 1 z)

sha512_is : (usage selector : ℕ) (r : List ℕ) → is_sha512 usage selector r ≡ true → usable_sha512 r ≡ true
sha512_is usage selector r h = and_left (usable_sha512 r) (eqb (usage_of r) usage && eqb (selector_of r) selector) (sym (sha512_apart usage selector r) ∙ h)

sha512_counts : (set : List (List ℕ)) (r : List ℕ) → usable_sha512 r ≡ true → counts set r ≡ true
sha512_counts set r h =
    other_types_count set r (and_left (usable r) (eqb (matching_type_of r) 2) h) (λ z. omega (arith, eqb-true (matching_type_of r) 2 (and_right (usable r) (eqb (matching_type_of r) 2) h)))

-- Without a usable record of type 2 no record is ignored.
pub without_sha512 : (set : List (List ℕ)) → any usable_sha512 set ≡ false → (r : List ℕ) → ignored set r ≡ false
unfolding ignored
without_sha512 set h r = rw (any_fails usable_sha512 (is_sha512 (usage_of r) (selector_of r)) only set h) (and-false (eqb (matching_type_of r) 1))
  where
    only : (x : List ℕ) → usable_sha512 x ≡ false → is_sha512 (usage_of r) (selector_of r) x ≡ false
    only x e = go (is_sha512 (usage_of r) (selector_of r) x) refl
      where
        go : (b : Bool) → is_sha512 (usage_of r) (selector_of r) x ≡ b → b ≡ false
        go true i = apart (sym e ∙ sha512_is (usage_of r) (selector_of r) x i)
        go false i = refl

-- Where a record is usable, one counts.
pub some_counts : (set : List (List ℕ)) → any usable set ≡ true → any (counts set) set ≡ true
unfolding ignored any
some_counts set h = either (among set h)
  where
    either : any (counts set) set ≡ true ⊎ any (counts set) set ≡ true → any (counts set) set ≡ true
    either (inl w) = w
    either (inr w) = w

    among : (xs : List (List ℕ)) → any usable xs ≡ true → any (counts set) xs ≡ true ⊎ any (counts set) set ≡ true
    among [] h = apart h
    among (r ∷ xs) h = go (usable r) refl (ignored set r) refl h (among xs)
      where
        rest : any (counts set) xs ≡ true ⊎ any (counts set) set ≡ true → any (counts set) (r ∷ xs) ≡ true ⊎ any (counts set) set ≡ true
        rest (inl w) = inl (or_right (counts set r) (any (counts set) xs) w)
        rest (inr w) = inr w

        go : (u : Bool) → usable r ≡ u → (i : Bool) → ignored set r ≡ i → (u || any usable xs) ≡ true → (any usable xs ≡ true → any (counts set) xs ≡ true ⊎ any (counts set) set ≡ true) → any (counts set) (r ∷ xs) ≡ true ⊎ any (counts set) set ≡ true
        go true u false i h ih = inl (or_left (counts set r) (any (counts set) xs) (rw (u, i)))
        go true u true i h ih =
            inr (any_more (is_sha512 (usage_of r) (selector_of r)) (counts set) (λ x e. sha512_counts set x (sha512_is (usage_of r) (selector_of r) x e)) set (and_right (eqb (matching_type_of r) 1) (any (is_sha512 (usage_of r) (selector_of r)) set) i))
        go false u i ie h ih = rest (ih h)

-- one element more in a list, at whatever place
pub any_one_more : (p : List ℕ → Bool) (xs : List (List ℕ)) (s : List ℕ) (ys : List (List ℕ)) → any p (xs ++ (s ∷ ys)) ≡ (any p (xs ++ ys) || p s)
unfolding any
any_one_more p [] s ys = or_comm (p s) (any p ys)
any_one_more p (x ∷ xs) s ys = rw (any_one_more p xs s ys) (sym (or_assoc (p x) (any p (xs ++ ys)) (p s)))

-- One record more in a set, at whatever place: where it is a usable SHA-512 record, the SHA-256 records of its usage and selector are ignored, and nothing else
-- changes.
pub one_more : (xs : List (List ℕ)) (s : List ℕ) (ys : List (List ℕ)) (r : List ℕ) → ignored (xs ++ (s ∷ ys)) r ≡ (ignored (xs ++ ys) r || eqb (matching_type_of r) 1 && is_sha512 (usage_of r) (selector_of r) s)
unfolding ignored
one_more xs s ys r = rw (any_one_more (is_sha512 (usage_of r) (selector_of r)) xs s ys) (and-or_distrib_left (eqb (matching_type_of r) 1) (any (is_sha512 (usage_of r) (selector_of r)) (xs ++ ys)) (is_sha512 (usage_of r) (selector_of r) s))

-- The order of a set's records does not matter: any two that stand side by side may be exchanged.
pub order : (xs : List (List ℕ)) (r s : List ℕ) (ys : List (List ℕ)) (x : List ℕ) → ignored (xs ++ (r ∷ s ∷ ys)) x ≡ ignored (xs ++ (s ∷ r ∷ ys)) x
unfolding ignored
order xs r s ys x = ap (λ (b : Bool). eqb (matching_type_of x) 1 && b) (any_swap (is_sha512 (usage_of x) (selector_of x)) xs r s ys)

-- the elements of a list that do not pass a test, in their order
abbrev pub without : (List ℕ → Bool) → List (List ℕ) → List (List ℕ)
without p [] = []
without p (x ∷ xs) = cond (p x) (without p xs) (x ∷ without p xs)

pub any_without : (p q : List ℕ → Bool) (xs : List (List ℕ)) → any q (without p xs) ≡ any (λ (x : List ℕ). not (p x) && q x) xs
unfolding any
any_without p q [] = refl
any_without p q (x ∷ xs) = go (p x) (any_without p q xs)
  where
    go : (b : Bool) → any q (without p xs) ≡ any (λ (x : List ℕ). not (p x) && q x) xs → any q (cond b (without p xs) (x ∷ without p xs)) ≡ (not b && q x || any (λ (x : List ℕ). not (p x) && q x) xs)
    go true h = h
    go false h = ap (λ (b : Bool). q x || b) h

without_none : (p : List ℕ → Bool) → ((x : List ℕ) → p x ≡ false) → (xs : List (List ℕ)) → without p xs ≡ xs
without_none p h [] = refl
without_none p h (x ∷ xs) = rw (h x, without_none p h xs)

needs_by_usable : (set : List (List ℕ)) → any usable set ≡ true → needs_of set ≡ Needs.Authentication
unfolding needs_of any
needs_by_usable [] h = apart h
needs_by_usable (r ∷ set) h = rw h

-- What a set needs is what those of its records need that are not ignored.
pub needs_unchanged : (set : List (List ℕ)) → needs_of (without (ignored set) set) ≡ needs_of set
needs_unchanged set = go (any usable set) refl
  where
    kept_usable : any usable set ≡ true → any usable (without (ignored set) set) ≡ true
    kept_usable h = any_without (ignored set) usable set ∙ any_more (counts set) (λ (r : List ℕ). not (ignored set r) && usable r) (λ r e. rw (and_comm (not (ignored set r)) (usable r)) e) set (some_counts set h)

    none_ignored : any usable set ≡ false → (r : List ℕ) → ignored set r ≡ false
    none_ignored h = without_sha512 set (any_fails usable usable_sha512 (λ r e. rw e) set h)

    go : (b : Bool) → any usable set ≡ b → needs_of (without (ignored set) set) ≡ needs_of set
    go true h = needs_by_usable (without (ignored set) set) (kept_usable h) ∙ sym (needs_by_usable set h)
    go false h = ap needs_of (without_none (ignored set) (none_ignored h) set)

-- Nor does its order matter to what it needs.
pub needs_order : (xs : List (List ℕ)) (r s : List ℕ) (ys : List (List ℕ)) → needs_of (xs ++ (r ∷ s ∷ ys)) ≡ needs_of (xs ++ (s ∷ r ∷ ys))
unfolding needs_of
needs_order [] r s ys = rw (any_swap usable [] r s ys)
needs_order (x ∷ xs) r s ys = rw (any_swap usable (x ∷ xs) r s ys)

-- what passes a test none of whose records is ignored passes it without the ignored records too
kept_same : (set : List (List ℕ)) (p : List ℕ → Bool) → ((r : List ℕ) → p r ≡ true → ignored set r ≡ false) → any p (without (ignored set) set) ≡ any p set
kept_same set p f = any_without (ignored set) p set ∙ (λ i. any (λ (r : List ℕ). each r i) set)
  where
    each : (r : List ℕ) → (not (ignored set r) && p r) ≡ p r
    each r = go (p r) refl
      where
        go : (b : Bool) → p r ≡ b → (not (ignored set r) && b) ≡ b
        go true e = rw (f r e)
        go false e = and-false (not (ignored set r))

-- A record under 3 bytes is not ignored: the lookup counts as failed with the ignored records or without them.
pub short_unchanged : (set : List (List ℕ)) → any short (without (ignored set) set) ≡ any short set
unfolding ignored short
short_unchanged set = kept_same set short no_type
  where
    no_type : (r : List ℕ) → short r ≡ true → ignored set r ≡ false
    no_type [] h = refl
    no_type (a ∷ []) h = refl
    no_type (a ∷ b ∷ []) h = refl
    no_type (a ∷ b ∷ c ∷ r) h = absurd (omega (arith, ltb-true (length (a ∷ b ∷ c ∷ r)) 3 h))

-- Without the ignored records the same are ignored: none that is left.
pub ignored_unchanged : (set : List (List ℕ)) (r : List ℕ) → ignored (without (ignored set) set) r ≡ ignored set r
unfolding ignored
ignored_unchanged set r = ap (λ (b : Bool). eqb (matching_type_of r) 1 && b) (kept_same set (is_sha512 (usage_of r) (selector_of r)) (λ x e. not-true (ignored set x) (and_right (usable x) (not (ignored set x)) (sha512_counts set x (sha512_is (usage_of r) (selector_of r) x e)))))

-- Beside a usable record of type 2 with its usage and selector, at whatever place, a record of type 1 does not count.
pub beside_sha512 : (xs : List (List ℕ)) (s : List ℕ) (ys : List (List ℕ)) (r : List ℕ) → usable s ≡ true → matching_type_of s ≡ 2 → usage_of s ≡ usage_of r → selector_of s ≡ selector_of r → matching_type_of r ≡ 1 → counts (xs ++ (s ∷ ys)) r ≡ false
beside_sha512 xs s ys r u t e f z = rw (one_more xs s ys r, sha512_apart (usage_of r) (selector_of r) s, u, t, e, f, z, eq-eqb (usage_of r) (usage_of r) refl, eq-eqb (selector_of r) (selector_of r) refl, or-true (ignored (xs ++ ys) r)) (and-false (usable r))

-- The limits of a set hold without its ignored records, and in another order.
all_without : (p q : List ℕ → Bool) (xs : List (List ℕ)) → all q xs ≡ true → all q (without p xs) ≡ true
unfolding all
all_without p q [] h = refl
all_without p q (x ∷ xs) h = go (p x) (all_without p q xs (and_right (q x) (all q xs) h))
  where
    go : (b : Bool) → all q (without p xs) ≡ true → all q (cond b (without p xs) (x ∷ without p xs)) ≡ true
    go true k = k
    go false k = and_intro (q x) (all q (without p xs)) (and_left (q x) (all q xs) h) k

length_without : (p : List ℕ → Bool) (xs : List (List ℕ)) → length (without p xs) ≤ length xs
length_without p [] = omega arith
length_without p (x ∷ xs) = go (p x) (length_without p xs)
  where
    go : (b : Bool) → length (without p xs) ≤ length xs → length (cond b (without p xs) (x ∷ without p xs)) ≤ length (x ∷ xs)
    go true k = omega arith
    go false k = omega arith

pub fits_without : (p : List ℕ → Bool) (set : List (List ℕ)) → set_fits set ≡ true → set_fits (without p set) ≡ true
unfolding set_fits
fits_without p set h =
    and_intro (leb (length (without p set)) 32) (all (up_to 4096) (without p set))
    (le-leb (length (without p set)) 32 (omega (arith, length_without p set, leb-true (length set) 32 (and_left (leb (length set) 32) (all (up_to 4096) set) h))))
    (all_without p (up_to 4096) set (and_right (leb (length set) 32) (all (up_to 4096) set) h))

pub fits_exchanged : (xs : List (List ℕ)) (r s : List ℕ) (ys : List (List ℕ)) → set_fits (xs ++ (r ∷ s ∷ ys)) ≡ set_fits (xs ++ (s ∷ r ∷ ys))
unfolding set_fits all
fits_exchanged xs r s ys = rw (size xs, each xs)
  where
    size : (xs : List (List ℕ)) → length (xs ++ (r ∷ s ∷ ys)) ≡ length (xs ++ (s ∷ r ∷ ys))
    size [] = refl
    size (x ∷ xs) = ap suc (size xs)

    each : (xs : List (List ℕ)) → all (up_to 4096) (xs ++ (r ∷ s ∷ ys)) ≡ all (up_to 4096) (xs ++ (s ∷ r ∷ ys))
    each [] = and_swap (up_to 4096 r) (up_to 4096 s) (all (up_to 4096) ys)
    each (x ∷ xs) = ap (λ (b : Bool). up_to 4096 x && b) (each xs)
