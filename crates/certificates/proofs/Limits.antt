-- The returns of the functions on limits. C, L, P, D and Q are the certificates, their lengths, the key places, the digests and the paths. Assumes nothing.
use Prim.Native.Nat.{ℕ, ◌+◌, ◌*◌, ◌<◌, ◌≤◌}
use mathlib.Core.Path.{◌≡◌, refl, sym, ap, ◌∙◌}
use mathlib.Core.Bool.{Bool, true, false, ◌&&◌, and-false, and-true}
use mathlib.Core.List.{List, [], ◌∷◌, flatten}
use native.Mathlib.Omega.{arith}
use lib.Dec.{eqb, leb}
use lib.ListN.{length, get_or, take, drop, length-append, length-drop, drop_of_length-le}
use lib.Seq.{length-take-le}
use borrow.Author.Rules.{rules}
use borrow.Author.Tests.{not-true, not-false, eq-eqb, ne_eqb, le-leb, lt-leb}
use Rattle.lists.specs.Bytes.{all}
use Rattle.lists.proofs.Laws.{drop_next}
use Rattle.numbers.specs.Numbers.{numbers, sum, at_most}
use Rattle.std.specs.Borrow.{Bor}
use Rattle.std.specs.Prelude as S
use Rattle.numbers.specs.Pieces.{cut, numbered, sums_to, up_to, pieces_in}
use Rattle.numbers.proofs.Cut.{cut_count, cut_joined, sums_true, sizes}
use Rattle.numbers.proofs.Loop.{placed_count}
use Rattle.certificates.specs.Facts.{certificate_at, certificates_of, text_in}
use Rattle.certificates.specs.Limits.{certificate_fits, total_of, chain_keeps_limits, common_name_fits, names_keep_limits, one_for_each, chain_fits, chain_keeps, names_keep, facts_keep}
use Rattle.certificates.specs.declared.CertificateFacts.{CertificateFacts}
use Rattle.certificates.specs.Steps.{places_fit}

-- `places_fit`: ps are the numbers of the key places, ns the lengths; b and r are what `number` and `is_inside` gave at place k
module _ (ps ns : List ℕ) (k n : ℕ) (inv : places_fit ps 0 ns ≡ places_fit ps k (drop k ns)) (counted : n ≡ length ns) where
  pub places_end : n ≤ k → true ≡ places_fit ps 0 ns
  unfolding places_fit
  places_end h = let g : length ns ≤ k = omega arith in sym (rw (drop_of_length-le ns g) at inv)

  module _ (h : k < n) (b : ℕ) (given : b ≡ get_or ns k 0) (r : Bool) (gave : r ≡ leb (get_or ps (k * 2) 0 + get_or ps (k * 2 + 1) 0) b) where
    place_here : places_fit ps 0 ns ≡ (r && places_fit ps (k + 1) (drop (k + 1) ns))
    unfolding places_fit
    place_here = let g : k < length ns = omega arith in inv ∙ rw (drop_next ns k g, ← given, ← gave)

    pub places_next : r ≡ true → places_fit ps 0 ns ≡ places_fit ps (k + 1) (drop (k + 1) ns)
    places_next t = rw t at place_here

    pub places_fail : r ≡ false → false ≡ places_fit ps 0 ns
    places_fail t = sym (rw t at place_here)

pub ruleset places_laws = (places_end, places_next, places_fail, not-true, not-false, rules)

-- `is_inside`: start and size are what `number` gave
pub inside_is : (start size a b n : ℕ) → start ≡ a → size ≡ b → leb (start + size) n ≡ leb (a + b) n
inside_is start size a b n p q = rw (p, q)

pub ruleset inside_laws = (inside_is, rules)

-- certificates that the lengths cut keep their limits where the lengths do, and the places lie inside
and_cross : (a b c d : Bool) → ((a && b) && (c && d)) ≡ ((a && c) && (b && d))
and_cross true true c d = refl
and_cross true false true d = refl
and_cross true false false d = refl
and_cross false b c d = refl

by_places : (P D Q : List ℕ) (k : ℕ) (s ns : List ℕ) → sum ns ≡ length s → all certificate_fits (numbered (certificate_at P D Q) k (cut s ns)) ≡ (all (at_most 16384) ns && places_fit (numbers P) k ns)
unfolding all numbered cut sum certificate_fits certificate_at up_to at_most places_fit
by_places P D Q k s [] h = refl
by_places P D Q k s (n ∷ ns) h =
    let g : sum ns ≡ length (drop n s) = omega (arith, length-drop n s) in
    let l : length (take n s) ≡ n = length-take-le n s (omega arith) in
    rw (by_places P D Q (k + 1) (drop n s) ns g, l) (and_cross (leb n 16384) (leb (get_or (numbers P) (k * 2) 0 + get_or (numbers P) (k * 2 + 1) 0) n) (all (at_most 16384) ns) (places_fit (numbers P) (k + 1) ns))

-- as many certificates as lengths
pub certificates_count : (C L P D Q : List ℕ) → length (certificates_of C L P D Q) ≡ length (numbers L)
unfolding certificates_of
certificates_count C L P D Q = placed_count (certificate_at P D Q) 0 (cut C (numbers L)) ∙ cut_count C (numbers L)

-- the certificates have as many bytes in all as the list of them, where the lengths sum
total_placed : (P D Q : List ℕ) (k : ℕ) (xs : List (List ℕ)) → total_of (numbered (certificate_at P D Q) k xs) ≡ length (flatten xs)
unfolding total_of numbered certificate_at flatten
total_placed P D Q k [] = refl
total_placed P D Q k (x ∷ xs) = rw (total_placed P D Q (k + 1) xs, length-append x (flatten xs))

pub total_is : (C L P D Q : List ℕ) (w : Bool) → w ≡ sums_to L (length C) → w ≡ true → total_of (certificates_of C L P D Q) ≡ length C
unfolding certificates_of
total_is C L P D Q w we wt = total_placed P D Q 0 (cut C (numbers L)) ∙ ap length (cut_joined C (numbers L) (sums_true L (length C) (sym we ∙ wt)))

listed : (C L P D Q : List ℕ) → sums_to L (length C) ≡ true → all certificate_fits (certificates_of C L P D Q) ≡ (all (at_most 16384) (numbers L) && places_fit (numbers P) 0 (numbers L))
unfolding certificates_of
listed C L P D Q h = by_places P D Q 0 C (numbers L) (sums_true L (length C) h)

-- `chain_fits`: n, f and l are what its calls gave
module _ (C L P D Q : List ℕ) (n : ℕ) (ne : n ≡ length (numbers L)) where
  pub chain_count : 8 < n → false ≡ chain_fits C L P D Q
  unfolding chain_fits chain_keeps_limits
  chain_count h = rw (certificates_count C L P D Q, ← ne, lt-leb n 8 h) (sym (ap (λ (b : Bool). b && one_for_each n P D Q) (and-false (sums_to L (length C)))))

  module _ (few : n ≤ 8) (f : Bool) (fe : f ≡ (sums_to L (length C) && all (at_most 16384) (numbers L))) where
    each_fits : (w : Bool) → sums_to L (length C) ≡ w → (w && chain_keeps_limits (certificates_of C L P D Q)) ≡ ((w && all (at_most 16384) (numbers L)) && places_fit (numbers P) 0 (numbers L) && leb (length C) 65536)
    unfolding chain_keeps_limits
    each_fits true q = rw (certificates_count C L P D Q, ← ne, le-leb n 8 few, listed C L P D Q q, total_is C L P D Q true (sym q) refl)
    each_fits false q = refl

    parts : chain_fits C L P D Q ≡ (f && places_fit (numbers P) 0 (numbers L) && leb (length C) 65536 && one_for_each n P D Q)
    unfolding chain_fits
    parts = rw (each_fits (sums_to L (length C)) refl, ← fe, ← ne)

    pub chain_unfit : f ≡ false → false ≡ chain_fits C L P D Q
    chain_unfit t = sym (rw t at parts)

    module _ (ft : f ≡ true) where
      pub chain_total : 65536 < length C → false ≡ chain_fits C L P D Q
      chain_total h = sym (parts ∙ rw (ft, lt-leb (length C) 65536 h, and-false (places_fit (numbers P) 0 (numbers L))))

      module _ (low : length C ≤ 65536) (l : Bool) (le : l ≡ one_for_each n P D Q) where
        pub chain_unlisted : l ≡ false → false ≡ chain_fits C L P D Q
        chain_unlisted t = sym (parts ∙ rw (← le, t) (and-false (f && places_fit (numbers P) 0 (numbers L) && leb (length C) 65536)))

        pub chain_places : l ≡ true → (r : Bool) → r ≡ places_fit (numbers P) 0 (numbers L) → r ≡ chain_fits C L P D Q
        chain_places t r e = sym (parts ∙ rw (ft, ← le, t, le-leb (length C) 65536 low, ← e) (and-true (r && true) ∙ and-true r))

pub ruleset chain_laws = (chain_count, chain_unfit, chain_total, chain_unlisted, chain_places, not-true, not-false, rules)

-- `one_for_each`
module _ (n : ℕ) (P D Q : List ℕ) where
  pub each_places : (length P ≡ n * 8 → ⊥) → false ≡ one_for_each n P D Q
  unfolding one_for_each
  each_places h = rw (ne_eqb (length P) (n * 8) h)

  module _ (lp : length P ≡ n * 8) where
    pub each_digests : (length D ≡ n * 192 → ⊥) → false ≡ one_for_each n P D Q
    unfolding one_for_each
    each_digests h = rw (eq-eqb (length P) (n * 8) lp, ne_eqb (length D) (n * 192) h)

    pub each_paths : length D ≡ n * 192 → eqb (length Q) (n * 4) ≡ one_for_each n P D Q
    unfolding one_for_each
    each_paths h = rw (eq-eqb (length P) (n * 8) lp, eq-eqb (length D) (n * 192) h)

pub ruleset one_for_each_laws = (each_places, each_digests, each_paths, rules)

-- `names_fit`: n and k are what its calls gave
module _ (f : CertificateFacts) (n : ℕ) (ne : n ≡ length (numbers f.dns_ids.lengths.now)) where
  pub names_count : 64 < n → false ≡ names_keep f
  unfolding names_keep names_keep_limits
  names_count h = rw (cut_count f.dns_ids.bytes.now (numbers f.dns_ids.lengths.now), ← ne, lt-leb n 64 h) (sym (and-false (sums_to f.dns_ids.lengths.now (length f.dns_ids.bytes.now))))

  module _ (few : n ≤ 64) (k : Bool) (ke : k ≡ (sums_to f.dns_ids.lengths.now (length f.dns_ids.bytes.now) && all (at_most 255) (numbers f.dns_ids.lengths.now))) where
    ids_fit : (w : Bool) → w ≡ sums_to f.dns_ids.lengths.now (length f.dns_ids.bytes.now) → (w && names_keep_limits (pieces_in f.dns_ids) (text_in f.common_name)) ≡ ((w && all (at_most 255) (numbers f.dns_ids.lengths.now)) && common_name_fits (text_in f.common_name))
    unfolding names_keep_limits
    ids_fit true e = rw (cut_count f.dns_ids.bytes.now (numbers f.dns_ids.lengths.now), ← ne, le-leb n 64 few, sizes 255 f.dns_ids.bytes.now f.dns_ids.lengths.now true e refl)
    ids_fit false e = refl

    parts_named : names_keep f ≡ (k && common_name_fits (text_in f.common_name))
    unfolding names_keep
    parts_named = rw (ids_fit (sums_to f.dns_ids.lengths.now (length f.dns_ids.bytes.now)) refl, ← ke)

    pub names_unfit : k ≡ false → false ≡ names_keep f
    names_unfit t = sym (rw t at parts_named)

    pub names_none : k ≡ true → f.common_name ≡ S.None → true ≡ names_keep f
    unfolding common_name_fits
    names_none t h = sym (parts_named ∙ rw (t, h))

    pub names_common : k ≡ true → (name : Bor (List ℕ)) → f.common_name ≡ S.Some name → leb (length name.now) 255 ≡ names_keep f
    unfolding common_name_fits up_to
    names_common t name h = sym (parts_named ∙ rw (t, h))

pub ruleset names_fit_laws = (names_count, names_unfit, names_none, names_common, not-true, not-false, rules)

-- `CertificateFacts::fits`: c and r are what its calls gave
module _ (f : CertificateFacts) (c : Bool) (ce : c ≡ chain_keeps f.chain) where
  pub facts_chain : c ≡ false → false ≡ facts_keep f
  unfolding facts_keep
  facts_chain t = cc

  pub facts_names : c ≡ true → (r : Bool) → r ≡ names_keep f → r ≡ facts_keep f
  unfolding facts_keep
  facts_names t r e = cc

pub ruleset facts_laws = (facts_chain, facts_names, not-true, not-false, rules)
