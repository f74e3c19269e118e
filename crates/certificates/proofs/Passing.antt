-- The returns of `matches_leaf`, `whole_after_leaf`, `matches_after_leaf` and `record_match`. C, L, P, D and Q are the certificates, their lengths, the key
-- places, the digests and the paths. Assumes nothing.
use Prim.Native.Nat.{ℕ, ◌+◌, ◌-◌, ◌<◌, ◌≤◌}
use mathlib.Core.Path.{◌≡◌, refl, sym, ap, ◌∙◌}
use mathlib.Core.Bool.{Bool, true, false, not, cond, ◌&&◌, ◌||◌, or-false}
use mathlib.Core.List.{List, [], ◌∷◌}
use mathlib.Core.Logic.{◌⊎◌, inl, inr}
use native.Mathlib.Omega.{arith}
use lib.Dec.{eqb}
use lib.ListN.{length, get_or, take, drop, length-drop}
use borrow.Author.Rules.{rules}
use borrow.Author.Tests.{not-true, not-false, eqb-true, ne_eqb, ltb-false}
use Rattle.lists.specs.Bytes.{any}
use Rattle.lists.specs.Equal.{same_bytes}
use Rattle.lists.proofs.Bools.{apart, and_left, and_right}
use Rattle.lists.proofs.Laws.{take_rest}
use Rattle.numbers.specs.Numbers.{numbers}
use Rattle.numbers.specs.Pieces.{cut, numbered}
use Rattle.numbers.proofs.Cut.{cut_count}
use Rattle.numbers.proofs.Numbers.{count_is}
use Rattle.tlsa.specs.Record.{usage_of, selector_of, matching_type_of, data_of, short, is_usage, is_selector, data_fits, usable}
use Rattle.certificates.specs.Facts.{Certificate, digest_at, certificate_at, certificates_of}
use Rattle.certificates.specs.Checks.{by_type, compared, matches_certificate, matches_on_path, leaf_of, after_leaf, record_matches}
use Rattle.certificates.specs.Steps.{digest_start, digest_on_path, any_place, ignored_beside, passes, match_of}
use Rattle.certificates.specs.declared.Match.{Match}
use Rattle.certificates.specs.declared.Sha512Pairs.{Sha512Pairs}
use Rattle.certificates.proofs.Matching.{any_digests, on_path_digests}

-- what a usable record has: three bytes, usage 2 or 3, selector 0 or 1, and data that fit the matching type
module _ (r : List ℕ) (h : usable r ≡ true) where
  head_fits : (not (short r) && is_usage (usage_of r) && is_selector (selector_of r)) ≡ true
  unfolding usable
  head_fits = and_left (not (short r) && is_usage (usage_of r) && is_selector (selector_of r)) (data_fits (matching_type_of r) (length (data_of r))) h

  parts : (not (short r) && is_usage (usage_of r)) ≡ true
  parts = and_left (not (short r) && is_usage (usage_of r)) (is_selector (selector_of r)) head_fits

  pub usable_3_bytes : 3 ≤ length r
  unfolding short
  usable_3_bytes = ltb-false (length r) 3 (not-true (short r) (and_left (not (short r)) (is_usage (usage_of r)) parts))

  pub usable_second : 1 < length r
  usable_second = omega (arith, usable_3_bytes)

  pub usable_third : 2 < length r
  usable_third = omega (arith, usable_3_bytes)

  pub usable_usage_2 : (usage_of r ≡ 3 → ⊥) → usage_of r ≡ 2
  unfolding is_usage
  usable_usage_2 other = go (eqb (usage_of r) 2) refl (and_right (not (short r)) (is_usage (usage_of r)) parts)
    where
      go : (t : Bool) → eqb (usage_of r) 2 ≡ t → (t || eqb (usage_of r) 3) ≡ true → usage_of r ≡ 2
      go true e k = eqb-true (usage_of r) 2 e
      go false e k = apart (sym (ne_eqb (usage_of r) 3 other) ∙ k)

  pub usable_usage_3 : (usage_of r ≡ 2 → ⊥) → usage_of r ≡ 3
  unfolding is_usage
  usable_usage_3 other = eqb-true (usage_of r) 3 (rw (ne_eqb (usage_of r) 2 other) at (and_right (not (short r)) (is_usage (usage_of r)) parts))

  pub usable_selector_1 : (selector_of r ≡ 0 → ⊥) → selector_of r ≡ 1
  unfolding is_selector
  usable_selector_1 other = eqb-true (selector_of r) 1 (rw (ne_eqb (selector_of r) 0 other) at (and_right (not (short r) && is_usage (usage_of r)) (is_selector (selector_of r)) head_fits))

  pub usable_data : data_fits (matching_type_of r) (length (data_of r)) ≡ true
  unfolding usable
  usable_data = and_right (not (short r) && is_usage (usage_of r) && is_selector (selector_of r)) (data_fits (matching_type_of r) (length (data_of r))) h

-- the data of matching type 1 have 32 bytes, those of type 2 64
digest_sizes : (t n : ℕ) → (t ≡ 0 → ⊥) → data_fits t n ≡ true → ((t ≡ 1) × (n ≡ 32)) ⊎ ((t ≡ 2) × (n ≡ 64))
unfolding data_fits
digest_sizes t n z h = go (eqb t 1) refl (eqb t 2) refl (rw (ne_eqb t 0 z) at h)
  where
    go : (a : Bool) → eqb t 1 ≡ a → (b : Bool) → eqb t 2 ≡ b → (a && eqb n 32 || b && eqb n 64) ≡ true → ((t ≡ 1) × (n ≡ 32)) ⊎ ((t ≡ 2) × (n ≡ 64))
    go true p true q k = absurd (omega (arith, eqb-true t 1 p, eqb-true t 2 q))
    go true p false q k = inl (eqb-true t 1 p, eqb-true n 32 (sym (or-false (eqb n 32)) ∙ k))
    go false p true q k = inr (eqb-true t 2 q, eqb-true n 64 k)
    go false p false q k = apart k

-- a usable record of matching type 2 has 67 bytes
pub sha512_length : (r : List ℕ) → usable r ≡ true → matching_type_of r ≡ 2 → length r ≡ 67
sha512_length r h t = go (digest_sizes (matching_type_of r) (length (data_of r)) (λ z. omega arith) (usable_data r h))
  where
    go : ((matching_type_of r ≡ 1) × (length (data_of r) ≡ 32)) ⊎ ((matching_type_of r ≡ 2) × (length (data_of r) ≡ 64)) → length r ≡ 67
    go (inl w) = absurd (omega arith)
    go (inr w) = omega (arith, length-drop 3 r, usable_3_bytes r h)

-- a usable record of matching type 1 or 2 is compared with a digest
module _ (r : List ℕ) (h : usable r ≡ true) (z : matching_type_of r ≡ 0 → ⊥) where
  kinds : ((matching_type_of r ≡ 1) × (length (data_of r) ≡ 32)) ⊎ ((matching_type_of r ≡ 2) × (length (data_of r) ≡ 64))
  kinds = digest_sizes (matching_type_of r) (length (data_of r)) z (usable_data r h)

  pub held_some : 1 ≤ length (take (length r - 3) (drop 3 r))
  held_some = rw (take_rest r 3) (go kinds)
    where
      go : ((matching_type_of r ≡ 1) × (length (data_of r) ≡ 32)) ⊎ ((matching_type_of r ≡ 2) × (length (data_of r) ≡ 64)) → 1 ≤ length (data_of r)
      go (inl w) = omega arith
      go (inr w) = omega arith

  pub held_most : length (take (length r - 3) (drop 3 r)) ≤ 64
  held_most = rw (take_rest r 3) (go kinds)
    where
      go : ((matching_type_of r ≡ 1) × (length (data_of r) ≡ 32)) ⊎ ((matching_type_of r ≡ 2) × (length (data_of r) ≡ 64)) → length (data_of r) ≤ 64
      go (inl w) = omega arith
      go (inr w) = omega arith

  module _ (P D Q : List ℕ) where
    by_selector : (k m a b : ℕ) (t : Bool) → cond t (digest_at D k a m) (digest_at D k b m) ≡ digest_at D k (cond t a b) m
    by_selector k m a b true = refl
    by_selector k m a b false = refl

    compared_digest : (k : ℕ) (x : List ℕ) → compared (selector_of r) (matching_type_of r) (certificate_at P D Q k x) ≡ digest_at D k (digest_start (selector_of r) (matching_type_of r)) (length (data_of r))
    unfolding compared by_type certificate_at digest_start
    compared_digest k x = go kinds
      where
        go : ((matching_type_of r ≡ 1) × (length (data_of r) ≡ 32)) ⊎ ((matching_type_of r ≡ 2) × (length (data_of r) ≡ 64)) → compared (selector_of r) (matching_type_of r) (certificate_at P D Q k x) ≡ digest_at D k (digest_start (selector_of r) (matching_type_of r)) (length (data_of r))
        go (inl w) = rw (w.0, w.1) (by_selector k 32 0 96 (eqb (selector_of r) 0))
        go (inr w) = rw (w.0, w.1) (by_selector k 64 32 128 (eqb (selector_of r) 0))

    matches_digest : (k : ℕ) (x : List ℕ) → matches_certificate r (certificate_at P D Q k x) ≡ same_bytes (data_of r) (digest_at D k (digest_start (selector_of r) (matching_type_of r)) (length (data_of r)))
    unfolding matches_certificate
    matches_digest k x = ap (λ (d : List ℕ). same_bytes (data_of r) d) (compared_digest k x)

    on_path_digest : (k : ℕ) (x : List ℕ) → matches_on_path r (certificate_at P D Q k x) ≡ digest_on_path (data_of r) (digest_start (selector_of r) (matching_type_of r)) D Q k
    unfolding matches_on_path digest_on_path certificate_at
    on_path_digest k x = ap (λ (b : Bool). eqb (get_or (numbers Q) k 0) 1 && b) (matches_digest k x)

    by_places : (k : ℕ) (xs : List (List ℕ)) → any (matches_on_path r) (numbered (certificate_at P D Q) k xs) ≡ any_place (digest_on_path (data_of r) (digest_start (selector_of r) (matching_type_of r)) D Q) k (length xs)
    unfolding any numbered any_place
    by_places k [] = refl
    by_places k (x ∷ xs) = rw (on_path_digest k x, by_places (k + 1) xs)

    after_places : (xs : List (List ℕ)) → any (matches_on_path r) (drop 1 (numbered (certificate_at P D Q) 0 xs)) ≡ any_place (digest_on_path (data_of r) (digest_start (selector_of r) (matching_type_of r)) D Q) 1 (length xs - 1)
    unfolding any numbered any_place
    after_places [] = refl
    after_places (x ∷ xs) = let l : length (x ∷ xs) - 1 ≡ length xs = omega arith in rw l (by_places 1 xs)

-- a record of matching type 0 is compared with no digest
module _ (r : List ℕ) (z : matching_type_of r ≡ 0) (P D Q : List ℕ) where
  any_whole : (k : ℕ) (xs : List (List ℕ)) → any (matches_on_path r) (numbered (certificate_at P [] Q) k xs) ≡ any (matches_on_path r) (numbered (certificate_at P D Q) k xs)
  unfolding any numbered
  any_whole k [] = refl
  any_whole k (x ∷ xs) = rw (on_path_digests r P D Q x k z, any_whole (k + 1) xs)

  after_any : (xs : List (List ℕ)) → any (matches_on_path r) (drop 1 (numbered (certificate_at P [] Q) 0 xs)) ≡ any (matches_on_path r) (drop 1 (numbered (certificate_at P D Q) 0 xs))
  unfolding numbered
  after_any [] = refl
  after_any (x ∷ xs) = any_whole 1 xs

-- a loop over pieces with their places, from place k on: a turn at x, which leaves ys of xs, and the end
module _ {A : Type 0} (p : A → Bool) (f : ℕ → List ℕ → A) (k : ℕ) (xs : List (List ℕ)) where
  pub placed_none : xs ≡ [] → any p (numbered f k xs) ≡ false
  unfolding any numbered
  placed_none e = rw e

  module _ (x : List ℕ) (ys : List (List ℕ)) (e : xs ≡ x ∷ ys) (i : ℕ) (ie : i ≡ k) (r : Bool) (gave : r ≡ p (f i x)) where
    pub placed_hit : r ≡ true → any p (numbered f k xs) ≡ true
    unfolding any numbered
    placed_hit t = rw (e, ← ie, ← gave, t)

    pub placed_next : r ≡ false → (j : ℕ) → j ≡ k + 1 → any p (numbered f k xs) ≡ any p (numbered f j ys)
    unfolding any numbered
    placed_next t j je = rw (e, je) (rw (sym ie ∙ refl) (rw (← gave, t)))

-- there are as many pieces as lengths, fewer than a machine word can count
pub few_pieces : (C L : List ℕ) (ps : List (List ℕ)) (n : ℕ) → ps ≡ cut C (numbers L) → length L < 18446744073709551616 → n ≡ 0 → n + length ps < 18446744073709551616
few_pieces C L ps n e h z = omega (arith, ap length e, cut_count C (numbers L), count_is L)

-- ps are the certificates' bytes, one after another
module _ (C L P D Q : List ℕ) (ps : List (List ℕ)) (cuts : ps ≡ cut C (numbers L)) where
  none_listed : ps ≡ [] → certificates_of C L P D Q ≡ []
  unfolding certificates_of numbered
  none_listed e = rw (← cuts, e)

  leaf_first : (x : List ℕ) (xs : List (List ℕ)) → ps ≡ x ∷ xs → certificates_of C L P D Q ≡ certificate_at P D Q 0 x ∷ numbered (certificate_at P D Q) 1 xs
  unfolding certificates_of numbered
  leaf_first x xs e = rw (← cuts, e)

  module _ (entry : List ℕ) where
    pub leaf_none : ps ≡ [] → false ≡ any (matches_certificate entry) (leaf_of (certificates_of C L P D Q))
    unfolding any
    leaf_none e = rw (none_listed e)

    pub after_none : ps ≡ [] → any (matches_on_path entry) (after_leaf (certificates_of C L P D Q)) ≡ false
    unfolding any
    after_none e = rw (none_listed e)

    module _ (x : List ℕ) (xs : List (List ℕ)) (e : ps ≡ x ∷ xs) where
      pub leaf_whole : matching_type_of entry ≡ 0 → (r : Bool) → r ≡ matches_certificate entry (certificate_at P [] [] 0 x) → r ≡ any (matches_certificate entry) (leaf_of (certificates_of C L P D Q))
      unfolding any
      leaf_whole w r gave = rw (leaf_first x xs e) (gave ∙ (any_digests entry P D Q x 0 w ∙ sym (or-false (matches_certificate entry (certificate_at P D Q 0 x)))))

      pub leaf_digest : usable entry ≡ true → (matching_type_of entry ≡ 0 → ⊥) → (from : ℕ) → from ≡ digest_start (get_or entry 1 0) (get_or entry 2 0) → (r : Bool) → r ≡ same_bytes (take (length entry - 3) (drop 3 entry)) (digest_at D 0 from (length (take (length entry - 3) (drop 3 entry)))) → r ≡ any (matches_certificate entry) (leaf_of (certificates_of C L P D Q))
      unfolding any
      leaf_digest u w from f r gave = rw (leaf_first x xs e) ((rw (take_rest entry 3, f) at gave) ∙ (sym (matches_digest entry u w P D Q 0 x) ∙ sym (or-false (matches_certificate entry (certificate_at P D Q 0 x)))))

      pub after_start : any (matches_on_path entry) (after_leaf (certificates_of C L P D Q)) ≡ any (matches_on_path entry) (numbered (certificate_at P D Q) 1 xs)
      after_start = rw (leaf_first x xs e)

-- `matches_after_leaf`: r is what its last call gave
pub after_digest : (C L P D Q entry : List ℕ) → usable entry ≡ true → (matching_type_of entry ≡ 0 → ⊥) → (from : ℕ) → from ≡ digest_start (get_or entry 1 0) (get_or entry 2 0) → (r : Bool) → r ≡ any_place (digest_on_path (take (length entry - 3) (drop 3 entry)) from D Q) 1 (length (numbers L) - 1) → r ≡ any (matches_on_path entry) (after_leaf (certificates_of C L P D Q))
unfolding certificates_of
after_digest C L P D Q entry u w from f r gave =
    (rw (take_rest entry 3, f) at gave) ∙ sym (rw (cut_count C (numbers L)) at (after_places entry u w P D Q (cut C (numbers L))))

pub after_whole : (C L P D Q entry : List ℕ) → matching_type_of entry ≡ 0 → (r : Bool) → r ≡ any (matches_on_path entry) (after_leaf (certificates_of C L P [] Q)) → r ≡ any (matches_on_path entry) (after_leaf (certificates_of C L P D Q))
unfolding certificates_of
after_whole C L P D Q entry z r gave = gave ∙ after_any entry z P D Q (cut C (numbers L))

pub ruleset leaf_laws = (leaf_none, leaf_whole, leaf_digest, usable_3_bytes, usable_second, usable_third, rules)

pub ruleset after_laws = (after_whole, after_digest, usable_3_bytes, usable_second, usable_third, rules)

pub ruleset held_laws = (held_some, held_most, rules)

-- by usage
pub matches_3 : (named : Bool) (certs : List Certificate) (r : List ℕ) → usage_of r ≡ 3 → record_matches named certs r ≡ any (matches_certificate r) (leaf_of certs)
unfolding record_matches
matches_3 named certs r h = rw h (or-false (any (matches_certificate r) (leaf_of certs)))

pub matches_2 : (named : Bool) (certs : List Certificate) (r : List ℕ) → usage_of r ≡ 2 → record_matches named certs r ≡ (named && any (matches_on_path r) (after_leaf certs))
unfolding record_matches
matches_2 named certs r h = rw h

-- `record_match`: u and i are what `is_usable` and `is_ignored` gave, r what the last call gave
module _ (entry : List ℕ) (u : Bool) (ue : u ≡ usable entry) where
  pub pass_usable : u ≡ true → usable entry ≡ true
  pass_usable t = sym ue ∙ t

  pub pass_first : u ≡ true → 0 < length entry
  pass_first t = omega (arith, usable_3_bytes entry (pass_usable t))

  module _ (found : Sha512Pairs) (wanted : Bool) (certs : List Certificate) where
    pub match_unusable : u ≡ false → Match.Nothing ≡ match_of (passes found false certs entry) (passes found wanted certs entry)
    unfolding passes match_of
    match_unusable f = rw (← ue, f)

    pub match_ignored : u ≡ true → (i : Bool) → i ≡ ignored_beside found entry → i ≡ true → Match.Nothing ≡ match_of (passes found false certs entry) (passes found wanted certs entry)
    unfolding passes match_of
    match_ignored t i ie y = rw (pass_usable t, ← ie, y)

    module _ (t : u ≡ true) (i : Bool) (ie : i ≡ ignored_beside found entry) (kept : i ≡ false) where
      module _ (h : get_or entry 0 0 ≡ 3) (r : Bool) (e : r ≡ any (matches_certificate entry) (leaf_of certs)) where
        pub match_leaf : r ≡ true → Match.Unnamed ≡ match_of (passes found false certs entry) (passes found wanted certs entry)
        unfolding passes match_of
        match_leaf y = rw (pass_usable t, ← ie, kept, matches_3 false certs entry h, ← e, y)

        pub match_no_leaf : r ≡ false → Match.Nothing ≡ match_of (passes found false certs entry) (passes found wanted certs entry)
        unfolding passes match_of
        match_no_leaf f = rw (pass_usable t, ← ie, kept, matches_3 false certs entry h, matches_3 wanted certs entry h, ← e, f)

      module _ (h : get_or entry 0 0 ≡ 3 → ⊥) where
        usage_2 : (named : Bool) → record_matches named certs entry ≡ (named && any (matches_on_path entry) (after_leaf certs))
        usage_2 named = matches_2 named certs entry (usable_usage_2 entry (pass_usable t) h)

        pub match_shut : wanted ≡ false → Match.Nothing ≡ match_of (passes found false certs entry) (passes found wanted certs entry)
        unfolding passes match_of
        match_shut o = rw (pass_usable t, ← ie, kept, usage_2 false, usage_2 wanted, o)

        module _ (o : wanted ≡ true) (r : Bool) (e : r ≡ any (matches_on_path entry) (after_leaf certs)) where
          pub match_after : r ≡ true → Match.Named ≡ match_of (passes found false certs entry) (passes found wanted certs entry)
          unfolding passes match_of
          match_after y = rw (pass_usable t, ← ie, kept, usage_2 false, usage_2 wanted, o, ← e, y)

          pub match_no_after : r ≡ false → Match.Nothing ≡ match_of (passes found false certs entry) (passes found wanted certs entry)
          unfolding passes match_of
          match_no_after f = rw (pass_usable t, ← ie, kept, usage_2 false, usage_2 wanted, o, ← e, f)

pub ruleset match_laws = (match_unusable, match_ignored, match_leaf, match_no_leaf, match_shut, match_after, match_no_after, pass_first, pass_usable, not-true, not-false, rules)
