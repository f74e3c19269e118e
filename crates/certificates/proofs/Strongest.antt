-- Strongest digest only: what a set has of SHA-512, and which records are ignored beside it. Assumes nothing.
use Prim.Native.Nat.{ℕ, ◌<◌, ◌≤◌}
use mathlib.Core.Path.{◌≡◌, refl, sym, ap, ◌∙◌}
use mathlib.Core.Bool.{Bool, true, false, not, cond, ◌&&◌, ◌||◌, or-true, or-false, or_assoc}
use mathlib.Core.List.{List, [], ◌∷◌}
use native.Mathlib.Omega.{arith}
use lib.Dec.{eqb}
use lib.ListN.{get_or-eq_default, length, get_or}
use borrow.Author.Rules.{rules}
use borrow.Author.Tests.{not-true, not-false, eqb-true, eqb-false, ne_eqb}
use Rattle.lists.specs.Bytes.{any}
use Rattle.lists.proofs.Bools.{and_left}
use Rattle.tlsa.specs.Record.{usage_of, selector_of, matching_type_of, usable, is_sha512, ignored, counts}
use Rattle.tlsa.proofs.Ignored.{sha512_apart}
use Rattle.certificates.specs.Facts.{Certificate}
use Rattle.certificates.specs.Checks.{record_matches, one_matches}
use Rattle.certificates.specs.Steps.{sha512_of, with_record, ignored_beside, passes}
use Rattle.certificates.specs.declared.Sha512Pairs.{Sha512Pairs}
use Rattle.certificates.proofs.Passing.{usable_3_bytes, sha512_length, usable_third, usable_second, usable_usage_3, usable_selector_1}

-- what a set has of SHA-512 says of each of its usable records whether it is ignored
module _ (set : List (List ℕ)) (r : List ℕ) where
  found_at : (u s : ℕ) → (eqb u 2 ≡ false → u ≡ 3) → (eqb s 0 ≡ false → s ≡ 1) → cond (eqb u 2) (cond (eqb s 0) (any (is_sha512 2 0) set) (any (is_sha512 2 1) set)) (cond (eqb s 0) (any (is_sha512 3 0) set) (any (is_sha512 3 1) set)) ≡ any (is_sha512 u s) set
  found_at u s uf sf = go (eqb u 2) refl (eqb s 0) refl
    where
      go : (a : Bool) → eqb u 2 ≡ a → (b : Bool) → eqb s 0 ≡ b → cond a (cond b (any (is_sha512 2 0) set) (any (is_sha512 2 1) set)) (cond b (any (is_sha512 3 0) set) (any (is_sha512 3 1) set)) ≡ any (is_sha512 u s) set
      go true a true b = rw (eqb-true u 2 a, eqb-true s 0 b)
      go true a false b = rw (eqb-true u 2 a, sf b)
      go false a true b = rw (uf a, eqb-true s 0 b)
      go false a false b = rw (uf a, sf b)

  ignored_is : usable r ≡ true → ignored_beside (sha512_of set) r ≡ ignored set r
  unfolding ignored_beside sha512_of ignored
  ignored_is h =
      ap (λ (x : Bool). eqb (matching_type_of r) 1 && x)
      (found_at (usage_of r) (selector_of r) (λ e. usable_usage_3 r h (eqb-false (usage_of r) 2 e)) (λ e. usable_selector_1 r h (eqb-false (selector_of r) 0 e)))

  pub passes_is : (named : Bool) (certs : List Certificate) → passes (sha512_of set) named certs r ≡ (counts set r && record_matches named certs r)
  unfolding passes
  passes_is named certs = go (usable r) refl
    where
      go : (x : Bool) → usable r ≡ x → (x && not (ignored_beside (sha512_of set) r) && record_matches named certs r) ≡ (x && not (ignored set r) && record_matches named certs r)
      go true e = rw (ignored_is e)
      go false e = refl

pub one_passes : (set : List (List ℕ)) (named : Bool) (certs : List Certificate) → any (passes (sha512_of set) named certs) set ≡ one_matches named set certs
one_passes set named certs = λ i. any (λ (r : List ℕ). passes_is set r named certs i) set

-- `is_sha512`: u is what `is_usable` gave
pub sha512_other_length : (r : List ℕ) → (length r ≡ 67 → ⊥) → false ≡ (usable r && eqb (matching_type_of r) 2)
sha512_other_length r h = go (usable r) refl (eqb (matching_type_of r) 2) refl
  where
    go : (u : Bool) → usable r ≡ u → (t : Bool) → eqb (matching_type_of r) 2 ≡ t → false ≡ (u && t)
    go true u true t = absurd (h (sha512_length r u (eqb-true (matching_type_of r) 2 t)))
    go true u false t = refl
    go false u t e = refl

module _ (r : List ℕ) (u : Bool) (ue : u ≡ usable r) where
  pub sha512_unusable : u ≡ false → false ≡ (usable r && eqb (matching_type_of r) 2)
  sha512_unusable f = rw (← ue, f)

  module _ (t : u ≡ true) where
    pub sha512_third : 2 < length r
    sha512_third = usable_third r (sym ue ∙ t)

    pub sha512_type : eqb (get_or r 2 0) 2 ≡ (usable r && eqb (matching_type_of r) 2)
    sha512_type = rw (← ue, t)

pub ruleset kind_laws = (sha512_other_length, sha512_unusable, sha512_third, sha512_type, not-true, not-false, rules)

-- `with`: u is what `is_sha512` gave
module _ (r : List ℕ) (u : Bool) (ue : u ≡ (usable r && eqb (matching_type_of r) 2)) (t : u ≡ true) where
  with_usable : usable r ≡ true
  with_usable = and_left (usable r) (eqb (matching_type_of r) 2) (sym ue ∙ t)

  pub with_first : 0 < length r
  with_first = omega (arith, usable_3_bytes r with_usable)

  pub with_second : 1 < length r
  with_second = usable_second r with_usable

module _ (found : Sha512Pairs) (r : List ℕ) (u : Bool) (ue : u ≡ (usable r && eqb (matching_type_of r) 2)) where
  pub with_other : u ≡ false → found ≡ with_record found r
  unfolding with_record
  with_other f =
      rw (none 2 0, none 2 1, none 3 0, none 3 1, or-false found.ta_certificate, or-false found.ta_key, or-false found.ee_certificate, or-false found.ee_key)
    where
      none : (usage selector : ℕ) → is_sha512 usage selector r ≡ false
      none usage selector = sha512_apart usage selector r ∙ rw (← ue, f)

  module _ (t : u ≡ true) where
    is_usable : usable r ≡ true
    is_usable = with_usable r u ue t

    at_pair : (usage selector : ℕ) → is_sha512 usage selector r ≡ (eqb (usage_of r) usage && eqb (selector_of r) selector)
    at_pair usage selector = sha512_apart usage selector r ∙ rw (← ue, t)

    by_pair : (usage selector : ℕ) → usage_of r ≡ usage → selector_of r ≡ selector → with_record found r ≡ record {
      ta_certificate = found.ta_certificate || (eqb usage 2 && eqb selector 0);
      ta_key = found.ta_key || (eqb usage 2 && eqb selector 1);
      ee_certificate = found.ee_certificate || (eqb usage 3 && eqb selector 0);
      ee_key = found.ee_key || (eqb usage 3 && eqb selector 1);
    }
    unfolding with_record
    by_pair usage selector p q = rw (at_pair 2 0, at_pair 2 1, at_pair 3 0, at_pair 3 1, p, q)

    pub with_ta_certificate : get_or r 0 0 ≡ 2 → get_or r 1 0 ≡ 0 → record { ta_certificate = true; ta_key = found.ta_key; ee_certificate = found.ee_certificate; ee_key = found.ee_key } ≡ with_record found r
    with_ta_certificate p q = sym (by_pair 2 0 p q ∙ simp (or-true, or-false))

    pub with_ta_key : get_or r 0 0 ≡ 2 → (get_or r 1 0 ≡ 0 → ⊥) → record { ta_certificate = found.ta_certificate; ta_key = true; ee_certificate = found.ee_certificate; ee_key = found.ee_key } ≡ with_record found r
    with_ta_key p q = sym (by_pair 2 1 p (usable_selector_1 r is_usable q) ∙ simp (or-true, or-false))

    pub with_ee_certificate : (get_or r 0 0 ≡ 2 → ⊥) → get_or r 1 0 ≡ 0 → record { ta_certificate = found.ta_certificate; ta_key = found.ta_key; ee_certificate = true; ee_key = found.ee_key } ≡ with_record found r
    with_ee_certificate p q = sym (by_pair 3 0 (usable_usage_3 r is_usable p) q ∙ simp (or-true, or-false))

    pub with_ee_key : (get_or r 0 0 ≡ 2 → ⊥) → (get_or r 1 0 ≡ 0 → ⊥) → record { ta_certificate = found.ta_certificate; ta_key = found.ta_key; ee_certificate = found.ee_certificate; ee_key = true } ≡ with_record found r
    with_ee_key p q = sym (by_pair 3 1 (usable_usage_3 r is_usable p) (usable_selector_1 r is_usable q) ∙ simp (or-true, or-false))

pub ruleset with_laws = (with_other, with_ta_certificate, with_ta_key, with_ee_certificate, with_ee_key, with_first, with_second, not-true, not-false, rules)

-- `of`: what is found before a place of the set, with what the records from there on have
unfoldable pub joined : Sha512Pairs → List (List ℕ) → Sha512Pairs
joined found set = record {
  ta_certificate = found.ta_certificate || any (is_sha512 2 0) set;
  ta_key = found.ta_key || any (is_sha512 2 1) set;
  ee_certificate = found.ee_certificate || any (is_sha512 3 0) set;
  ee_key = found.ee_key || any (is_sha512 3 1) set;
}

pub joined_start : (set : List (List ℕ)) → sha512_of set ≡ joined (record { ta_certificate = false; ta_key = false; ee_certificate = false; ee_key = false }) set
unfolding sha512_of joined
joined_start set = refl

joined_next : (found : Sha512Pairs) (r : List ℕ) (set : List (List ℕ)) → joined found (r ∷ set) ≡ joined (with_record found r) set
unfolding joined with_record any
joined_next found r set = simp or_assoc

joined_end : (found : Sha512Pairs) → joined found [] ≡ found
unfolding joined any
joined_end found = simp or-false

-- a turn at r, which leaves ys of xs, and the end
module _ (set xs : List (List ℕ)) (found : Sha512Pairs) (inv : sha512_of set ≡ joined found xs) where
  pub all_found : xs ≡ [] → found ≡ sha512_of set
  all_found e = sym (inv ∙ (rw e (joined_end found)))

  pub found_next : (r : List ℕ) (ys : List (List ℕ)) → xs ≡ r ∷ ys → (f : Sha512Pairs) → f ≡ with_record found r → sha512_of set ≡ joined f ys
  found_next r ys e f fe = inv ∙ (rw (e, fe) (joined_next found r ys))

pub ruleset sha512_laws = (joined_start, all_found, found_next, rules)

-- `ignores`
module _ (r : List ℕ) (found : Sha512Pairs) where
  pub ignored_short : length r < 3 → false ≡ ignored_beside found r
  unfolding ignored_beside
  ignored_short h = let g : length r ≤ 2 = omega arith in rw (get_or-eq_default r 0 g)

  pub ignored_not : (get_or r 2 0 ≡ 1 → ⊥) → false ≡ ignored_beside found r
  unfolding ignored_beside
  ignored_not z = rw (ne_eqb (get_or r 2 0) 1 z)

  module _ (z : get_or r 2 0 ≡ 1) where
    pub ignored_ta_certificate : get_or r 0 0 ≡ 2 → get_or r 1 0 ≡ 0 → found.ta_certificate ≡ ignored_beside found r
    unfolding ignored_beside
    ignored_ta_certificate p q = rw (z, p, q)

    pub ignored_ta_key : get_or r 0 0 ≡ 2 → (get_or r 1 0 ≡ 0 → ⊥) → found.ta_key ≡ ignored_beside found r
    unfolding ignored_beside
    ignored_ta_key p q = rw (z, p, ne_eqb (get_or r 1 0) 0 q)

    pub ignored_ee_certificate : (get_or r 0 0 ≡ 2 → ⊥) → get_or r 1 0 ≡ 0 → found.ee_certificate ≡ ignored_beside found r
    unfolding ignored_beside
    ignored_ee_certificate p q = rw (z, ne_eqb (get_or r 0 0) 2 p, q)

    pub ignored_ee_key : (get_or r 0 0 ≡ 2 → ⊥) → (get_or r 1 0 ≡ 0 → ⊥) → found.ee_key ≡ ignored_beside found r
    unfolding ignored_beside
    ignored_ee_key p q = rw (z, ne_eqb (get_or r 0 0) 2 p, ne_eqb (get_or r 1 0) 0 q)

pub ruleset ignored_laws = (ignored_short, ignored_not, ignored_ta_certificate, ignored_ta_key, ignored_ee_certificate, ignored_ee_key, rules)
