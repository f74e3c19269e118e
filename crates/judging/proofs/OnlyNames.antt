-- Where the certificates keep the limits and the leaf is read, 65 is for names: a DNS-ID or the common name has over 255 bytes. Assumes nothing.
use Rattle.std.specs.Prelude.{Ok}
use Prim.Native.Nat.{ℕ, suc, ◌+◌, ◌-◌, ◌*◌, ◌<◌, ◌≤◌}
use mathlib.Core.Path.{◌≡◌, refl, sym, ◌∙◌}
use mathlib.Core.Bool.{Bool, true, false, ◌&&◌, and-false}
use mathlib.Core.List.{List, [], ◌∷◌, ◌++◌}
use native.Mathlib.Omega.{arith}
use borrow.Author.Tests.{le-leb}
use lib.Dec.{leb, eqb}
use lib.ListN.{length, get_or, take, drop, length-append, length-map}
use Rattle.lists.specs.Bytes.{all}
use Rattle.lists.proofs.Bools.{apart, and_left, and_right}
use Rattle.numbers.specs.Numbers.{numbers, written}
use Rattle.numbers.specs.Pieces.{cut, numbered, up_to}
use Rattle.certificates.specs.Facts.{certificate_at, certificates_of}
use Rattle.certificates.specs.Limits.{yes_no, certificate_fits, chain_keeps_limits, common_name_fits, names_keep_limits, one_for_each, chain_fits, names_fit, facts_fit}
use Rattle.certificates.proofs.Limits.{certificates_count, total_is}
use Rattle.hosts.specs.Arguments.{Arguments}
use Rattle.hosts.specs.Call.{codes_fit, clocks_fit, next_hops_fit, host_names_fit, policy_fits, answers_fit, certificates_fit, checks}
use Rattle.x509.specs.declared.Found.{Found}
use Rattle.leaf.specs.Names.{dns_ids_of}
use Rattle.leaf.specs.Read.{read_leaf}
use Rattle.leaf.proofs.Sound.{read_sound}
use Rattle.judging.specs.Texts.{part_of, place_of, names_text, lengths_text, given_of, common_name_in}
use Rattle.judging.specs.Judging.{has_leaf, leaf_of, on_read, chain_keeps, certificate_answer}
use Rattle.judging.proofs.Texts.{pair_length}
use Rattle.judging.proofs.Read.{key_order, key_inside}
use Rattle.judging.proofs.Chain.{chain_few, chain_leaf, chain_fit, chain_one, chain_sums, chain_low}
use Rattle.judging.proofs.Order.{leaf_given, leaf_counts}
use Rattle.judging.proofs.Agree.{in_full}
use Rattle.judging.proofs.Handed.{names_of, common_name_read, names_back, names_sum, name_back, place_back}

-- two lists of key places that differ in the first pair alone, in numbers
module _ (P R D Q : List ℕ) (a b c d : ℕ) (ms : List ℕ) (is_p : numbers P ≡ a ∷ b ∷ ms) (is_r : numbers R ≡ c ∷ d ∷ ms) where
  start_same : (k : ℕ) → get_or (numbers P) ((k + 1) * 2) 0 ≡ get_or (numbers R) ((k + 1) * 2) 0
  start_same k = let z : (k + 1) * 2 ≡ suc (suc (k * 2)) = omega arith in rw (is_p, is_r, z)

  size_same : (k : ℕ) → get_or (numbers P) ((k + 1) * 2 + 1) 0 ≡ get_or (numbers R) ((k + 1) * 2 + 1) 0
  size_same k = let z : (k + 1) * 2 + 1 ≡ suc (suc (k * 2 + 1)) = omega arith in rw (is_p, is_r, z)

  rest_same : (k : ℕ) (xs : List (List ℕ)) → all certificate_fits (numbered (certificate_at P D Q) (k + 1) xs) ≡ all certificate_fits (numbered (certificate_at R D Q) (k + 1) xs)
  unfolding all numbered certificate_fits certificate_at
  rest_same k [] = refl
  rest_same k (x ∷ xs) = rw (start_same k, size_same k, rest_same (k + 1) xs)

  -- the others fit as before, and the leaf where its key lies inside
  first_place : (C ns : List ℕ) → 0 < length ns → a + b ≤ length (take (get_or ns 0 0) C) → all certificate_fits (numbered (certificate_at R D Q) 0 (cut C ns)) ≡ true
      → all certificate_fits (numbered (certificate_at P D Q) 0 (cut C ns)) ≡ true
  unfolding all numbered cut certificate_fits certificate_at
  first_place C [] l h e = absurd (omega arith)
  first_place C (n ∷ ns) l h e =
      let u = up_to 16384 (take n C) in
      let v = leb (get_or (numbers R) 0 0 + get_or (numbers R) 1 0) (length (take n C)) in
      let w = all certificate_fits (numbered (certificate_at R D Q) 1 (cut (drop n C) ns)) in
      rw (and_left u v (and_left (u && v) w e), is_p, le-leb (a + b) (length (take n C)) h) (rest_same 0 (cut (drop n C) ns) ∙ and_right (u && v) w e)

-- as many bytes of key places, and each certificate fits with its own
other_places : (C L P R D Q : List ℕ) → chain_fits C L R D Q ≡ true → length P ≡ length R → all certificate_fits (certificates_of C L P D Q) ≡ true → chain_fits C L P D Q ≡ true
unfolding chain_fits chain_keeps_limits one_for_each
other_places C L P R D Q e same fits =
    rw (
      chain_sums C L R D Q e,
      certificates_count C L P D Q,
      le-leb (length (numbers L)) 8 (chain_few C L R D Q e),
      fits,
      total_is C L P D Q true (sym (chain_sums C L R D Q e)) refl,
      le-leb (length C) 65536 (chain_low C L R D Q e),
      same,
    )
    (chain_one C L R D Q e)

-- where the codes are choices, common_name_given is one
choice_given : (a : Arguments) → has_leaf a ≡ true → codes_fit a ≡ true → yes_no a.numbers.common_name_given ≡ true
unfolding codes_fit
choice_given a leaf e = go (yes_no a.numbers.common_name_given) refl
  where
    unfit : yes_no a.numbers.common_name_given ≡ false → codes_fit a ≡ false
    unfit q = simp (leaf_given a leaf, q, and-false)

    go : (b : Bool) → yes_no a.numbers.common_name_given ≡ b → b ≡ true
    go true q = refl
    go false q = apart (sym (unfit q) ∙ e)

module _ (a : Arguments) (leaf : has_leaf a ≡ true) (chain : chain_keeps a ≡ true) (f : Found) (is_read : read_leaf (leaf_of a) ≡ Ok f) where
  pub leaf_short : length (leaf_of a) ≤ 16384
  unfolding chain_keeps leaf_of
  leaf_short = chain_leaf a.certificates a.certificate_lengths (written (0 ∷ 0 ∷ []) ++ a.key_places) a.digests a.paths (leaf_counts a leaf) chain

  -- with the key place read, the lists for the certificates keep the limits as they did with an empty one
  pub chain_kept : chain_fits a.certificates a.certificate_lengths (place_of f.key ++ a.key_places) a.digests a.paths ≡ true
  unfolding chain_keeps leaf_of certificates_of
  chain_kept =
      let C = a.certificates in
      let L = a.certificate_lengths in
      let D = a.digests in
      let Q = a.paths in
      let P = place_of f.key ++ a.key_places in
      let R = written (0 ∷ 0 ∷ []) ++ a.key_places in
      let start = f.key.start in
      let size = f.key.end - f.key.start in
      let o = key_order (leaf_of a) f is_read in
      let i = key_inside (leaf_of a) f is_read in
      let p = place_back start size a.key_places (omega (arith, o, i, leaf_short)) (omega (arith, i, leaf_short)) in
      let r = place_back 0 0 a.key_places (omega arith) (omega arith) in
      let same : length P ≡ length R = omega (arith, length-append (place_of f.key) a.key_places, length-append (written (0 ∷ 0 ∷ [])) a.key_places, pair_length start size, pair_length 0 0) in
      other_places C L P R D Q chain same
      (first_place P R D Q start size 0 0 (numbers a.key_places) p r C (numbers L) (leaf_counts a leaf) (omega (arith, o, i)) (chain_fit C L R D Q chain))

  -- the names read keep the limits where each has at most 255 bytes
  names_fit_lem : names_fit (names_text (leaf_of a) f) (lengths_text (leaf_of a) f) (eqb (given_of f.name) 1) (common_name_in (leaf_of a) f.name)
      ≡ (all (up_to 255) (names_of (leaf_of a) f) && common_name_fits (common_name_read (leaf_of a) f.name))
  unfolding names_fit names_keep_limits
  names_fit_lem =
      let c : length (names_of (leaf_of a) f) ≤ 64 = omega (arith, length-map (dns_ids_of (leaf_of a) f) (part_of (leaf_of a)), (read_sound (leaf_of a) f is_read).count) in
      rw (names_sum (leaf_of a) f is_read leaf_short, names_back (leaf_of a) f is_read leaf_short, name_back (leaf_of a) f.name, le-leb (length (names_of (leaf_of a) f)) 64 c)

  -- so that the plain call's last check, 65, is of the names alone
  pub only_names : certificates_fit (on_read a (leaf_of a) f) ≡ (all (up_to 255) (names_of (leaf_of a) f) && common_name_fits (common_name_read (leaf_of a) f.name))
  unfolding certificates_fit facts_fit on_read
  only_names = rw (leaf_given a leaf, chain_kept) names_fit_lem

  -- the last of the order: 65 for names
  pub refused_names : codes_fit a ≡ true → clocks_fit a ≡ true → next_hops_fit a ≡ true → host_names_fit a ≡ true → policy_fits a ≡ true → answers_fit a ≡ true
      → (all (up_to 255) (names_of (leaf_of a) f) && common_name_fits (common_name_read (leaf_of a) f.name)) ≡ false → certificate_answer a ≡ record { number = 65; tlsa_questions = 0 }
  unfolding checks
  refused_names e1 e2 e3 e4 e5 e6 h = in_full a leaf chain f is_read (choice_given a leaf e1) ∙ rw (e1, e2, e3, e4, e5, e6, only_names, h)
