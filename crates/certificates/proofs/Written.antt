-- Certificate facts within the limits, with digests of their sizes, are given by the lists of some call, which keep the limits and are read back. Assumes nothing.
use Prim.Native.Nat.{ℕ, ◌+◌, ◌*◌, ◌≤◌}
use mathlib.Core.Path.{◌≡◌, refl, ap, ◌∙◌}
use mathlib.Core.Bool.{Bool, true, false, cond, ◌&&◌}
use mathlib.Core.List.{List, [], ◌∷◌, ◌++◌, map, flatten}
use mathlib.Core.Option.{Option, none, some}
use native.Mathlib.Omega.{arith}
use lib.Dec.{eqb, leb}
use lib.ListN.{length, take, drop, length-append, length-drop, length-map}
use lib.Seq.{take_at, drop-append-add}
use borrow.Author.Tests.{le-leb, leb-true, eq-eqb, eqb-true}
use Rattle.lists.specs.Bytes.{all, is_bytes}
use Rattle.lists.proofs.All.{all_true, all_map, all_more}
use Rattle.lists.proofs.Bools.{and_left, and_right}
use Rattle.lists.proofs.Laws.{part_length}
use Rattle.numbers.specs.Numbers.{numbers, at_most, written}
use Rattle.numbers.specs.Pieces.{cut, numbered, sums_to, up_to}
use Rattle.numbers.proofs.Cut.{cut_count}
use Rattle.numbers.proofs.Written.{numbers_written, written_length, written_bytes, lengths_of, lengths_small, lengths_bytes, pieces_back, pieces_sum}
use Rattle.certificates.specs.Facts.{Certificate, Presented, certificate_at, certificates_of, dns_ids_of, common_name_of, presented_of}
use Rattle.certificates.specs.Limits.{certificate_fits, total_of, chain_keeps_limits, common_name_fits, names_keep_limits, keeps_limits, one_for_each, chain_fits, names_fit, facts_fit, yes_no}
use Rattle.certificates.proofs.Shift.{certificates_rest}

-- SHA-256 has 32 bytes, SHA-512 has 64
abbrev pub digests_sized : Certificate → Bool
digests_sized c = eqb (length c.sha256) 32 && eqb (length c.sha512) 64 && eqb (length c.key_sha256) 32 && eqb (length c.key_sha512) 64

-- what is listed for some certificates
abbrev pub bodies_of : List Certificate → List (List ℕ)
bodies_of certs = map (λ (c : Certificate). c.bytes) certs

abbrev pub places_of : List Certificate → List ℕ
places_of [] = []
places_of (c ∷ certs) = c.key_start ∷ c.key_length ∷ places_of certs

abbrev pub digests_of : List Certificate → List ℕ
digests_of [] = []
digests_of (c ∷ certs) = c.sha256 ++ (c.sha512 ++ (c.key_sha256 ++ (c.key_sha512 ++ digests_of certs)))

-- yes or no as a number
abbrev pub yes_no_of : Bool → ℕ
yes_no_of t = cond t 1 2

abbrev pub flags_of : List Certificate → List ℕ
flags_of certs = map (λ (c : Certificate). yes_no_of c.path) certs

-- past a part of n bytes
past : (p q : List ℕ) (n m : ℕ) → length p ≡ n → drop (n + m) (p ++ q) ≡ drop m q
past p q n m e = rw (← e) (drop-append-add p q m)

-- the four digests of a certificate, and what follows them
module _ (a b c d rest : List ℕ) (la : length a ≡ 32) (lb : length b ≡ 64) (lc : length c ≡ 32) (ld : length d ≡ 64) where
  first_digest : take 32 (drop 0 (a ++ (b ++ (c ++ (d ++ rest))))) ≡ a
  first_digest = take_at a (b ++ (c ++ (d ++ rest))) 32 la

  past_first : drop 32 (a ++ (b ++ (c ++ (d ++ rest)))) ≡ b ++ (c ++ (d ++ rest))
  past_first = past a (b ++ (c ++ (d ++ rest))) 32 0 la

  second_digest : take 64 (drop 32 (a ++ (b ++ (c ++ (d ++ rest))))) ≡ b
  second_digest = rw past_first (take_at b (c ++ (d ++ rest)) 64 lb)

  past_second : drop 96 (a ++ (b ++ (c ++ (d ++ rest)))) ≡ c ++ (d ++ rest)
  past_second = past a (b ++ (c ++ (d ++ rest))) 32 64 la ∙ past b (c ++ (d ++ rest)) 64 0 lb

  third_digest : take 32 (drop 96 (a ++ (b ++ (c ++ (d ++ rest))))) ≡ c
  third_digest = rw past_second (take_at c (d ++ rest) 32 lc)

  past_third : drop 128 (a ++ (b ++ (c ++ (d ++ rest)))) ≡ d ++ rest
  past_third = past a (b ++ (c ++ (d ++ rest))) 32 96 la ∙ past b (c ++ (d ++ rest)) 64 32 lb ∙ past c (d ++ rest) 32 0 lc

  fourth_digest : take 64 (drop 128 (a ++ (b ++ (c ++ (d ++ rest))))) ≡ d
  fourth_digest = rw past_third (take_at d rest 64 ld)

  past_digests : drop 192 (a ++ (b ++ (c ++ (d ++ rest)))) ≡ rest
  past_digests = past a (b ++ (c ++ (d ++ rest))) 32 160 la ∙ past b (c ++ (d ++ rest)) 64 96 lb ∙ past c (d ++ rest) 32 64 lc ∙ past d rest 64 0 ld

-- the key places and the flags of certificates within the limits are numbers of four bytes
places_small : (certs : List Certificate) → all certificate_fits certs ≡ true → all (at_most 4294967295) (places_of certs) ≡ true
unfolding all certificate_fits up_to at_most
places_small [] h = refl
places_small (c ∷ certs) h =
    let fits = and_left (certificate_fits c) (all certificate_fits certs) h in
    let large : length c.bytes ≤ 16384 = leb-true (length c.bytes) 16384 (and_left (leb (length c.bytes) 16384) (leb (c.key_start + c.key_length) (length c.bytes)) fits) in
    let inside : c.key_start + c.key_length ≤ length c.bytes = leb-true (c.key_start + c.key_length) (length c.bytes) (and_right (leb (length c.bytes) 16384) (leb (c.key_start + c.key_length) (length c.bytes)) fits) in
    rw (le-leb c.key_start 4294967295 (omega arith), le-leb c.key_length 4294967295 (omega arith)) (places_small certs (and_right (certificate_fits c) (all certificate_fits certs) h))

-- yes and no are read back, keep their limit and are numbers of four bytes
pub yes_no_back : (t : Bool) → eqb (yes_no_of t) 1 ≡ t
yes_no_back true = refl
yes_no_back false = refl

pub yes_no_fits : (t : Bool) → yes_no (yes_no_of t) ≡ true
unfolding yes_no
yes_no_fits true = refl
yes_no_fits false = refl

yes_no_small : (t : Bool) → leb (yes_no_of t) 4294967295 ≡ true
yes_no_small true = refl
yes_no_small false = refl

flags_small : (certs : List Certificate) → all (at_most 4294967295) (flags_of certs) ≡ true
unfolding at_most
flags_small certs = rw (all_map (λ (c : Certificate). yes_no_of c.path) (at_most 4294967295) certs) (all_true (λ (c : Certificate). leb (yes_no_of c.path) 4294967295) (λ c. yes_no_small c.path) certs)

pub flags_fit : (certs : List Certificate) → all yes_no (numbers (written (flags_of certs))) ≡ true
flags_fit certs = rw (numbers_written (flags_of certs) (flags_small certs), all_map (λ (c : Certificate). yes_no_of c.path) yes_no certs) (all_true (λ (c : Certificate). yes_no (yes_no_of c.path)) (λ c. yes_no_fits c.path) certs)

-- certificates with the same fields
same_fields : (x y : Certificate) → x.bytes ≡ y.bytes → x.key_start ≡ y.key_start → x.key_length ≡ y.key_length → x.sha256 ≡ y.sha256 → x.sha512 ≡ y.sha512 → x.key_sha256 ≡ y.key_sha256 → x.key_sha512 ≡ y.key_sha512 → x.path ≡ y.path → x ≡ y
same_fields x y a b c d e f g h = λ i. record { bytes = a i; key_start = b i; key_length = c i; sha256 = d i; sha512 = e i; key_sha256 = f i; key_sha512 = g i; path = h i }

-- the first certificate is read back
module _ (c : Certificate) (ps ds fs : List ℕ) (sized : digests_sized c ≡ true) where
  sizes : (length c.sha256 ≡ 32) × (length c.sha512 ≡ 64) × (length c.key_sha256 ≡ 32) × (length c.key_sha512 ≡ 64)
  sizes =
      let one = eqb (length c.sha256) 32 in
      let two = eqb (length c.sha512) 64 in
      let three = eqb (length c.key_sha256) 32 in
      let four = eqb (length c.key_sha512) 64 in (
        eqb-true (length c.sha256) 32 (and_left one two (and_left (one && two) three (and_left (one && two && three) four sized))),
        eqb-true (length c.sha512) 64 (and_right one two (and_left (one && two) three (and_left (one && two && three) four sized))),
        eqb-true (length c.key_sha256) 32 (and_right (one && two) three (and_left (one && two && three) four sized)),
        eqb-true (length c.key_sha512) 64 (and_right (one && two && three) four sized),
      )

  rest_of_digests : drop 192 (c.sha256 ++ (c.sha512 ++ (c.key_sha256 ++ (c.key_sha512 ++ ds)))) ≡ ds
  rest_of_digests = past_digests c.sha256 c.sha512 c.key_sha256 c.key_sha512 ds sizes.0 sizes.1 sizes.2 sizes.3

  first_back : (P Q : List ℕ) → numbers P ≡ c.key_start ∷ c.key_length ∷ ps → numbers Q ≡ yes_no_of c.path ∷ fs → certificate_at P (c.sha256 ++ (c.sha512 ++ (c.key_sha256 ++ (c.key_sha512 ++ ds)))) Q 0 c.bytes ≡ c
  unfolding certificate_at
  first_back P Q p q =
      same_fields (certificate_at P (c.sha256 ++ (c.sha512 ++ (c.key_sha256 ++ (c.key_sha512 ++ ds)))) Q 0 c.bytes) c
      refl (rw p) (rw p)
      (first_digest c.sha256 c.sha512 c.key_sha256 c.key_sha512 ds sizes.0 sizes.1 sizes.2 sizes.3)
      (second_digest c.sha256 c.sha512 c.key_sha256 c.key_sha512 ds sizes.0 sizes.1 sizes.2 sizes.3)
      (third_digest c.sha256 c.sha512 c.key_sha256 c.key_sha512 ds sizes.0 sizes.1 sizes.2 sizes.3)
      (fourth_digest c.sha256 c.sha512 c.key_sha256 c.key_sha512 ds sizes.0 sizes.1 sizes.2 sizes.3)
      (rw q (yes_no_back c.path))

-- so are all of them
placed_back : (certs : List Certificate) → all certificate_fits certs ≡ true → all digests_sized certs ≡ true → numbered (certificate_at (written (places_of certs)) (digests_of certs) (written (flags_of certs))) 0 (bodies_of certs) ≡ certs
unfolding numbered all written
placed_back [] h s = refl
placed_back (c ∷ certs) h s = rw (first, rest, placed_back certs (and_right (certificate_fits c) (all certificate_fits certs) h) (and_right (digests_sized c) (all digests_sized certs) s))
  where
    sized : digests_sized c ≡ true
    sized = and_left (digests_sized c) (all digests_sized certs) s

    first : certificate_at (written (places_of (c ∷ certs))) (digests_of (c ∷ certs)) (written (flags_of (c ∷ certs))) 0 c.bytes ≡ c
    first = first_back c (places_of certs) (digests_of certs) (flags_of certs) sized (written (places_of (c ∷ certs))) (written (flags_of (c ∷ certs))) (numbers_written (places_of (c ∷ certs)) (places_small (c ∷ certs) h)) (numbers_written (flags_of (c ∷ certs)) (flags_small (c ∷ certs)))

    rest : numbered (certificate_at (written (places_of (c ∷ certs))) (digests_of (c ∷ certs)) (written (flags_of (c ∷ certs)))) (0 + 1) (bodies_of certs) ≡ numbered (certificate_at (written (places_of certs)) (digests_of certs) (written (flags_of certs))) 0 (bodies_of certs)
    rest = certificates_rest (written (places_of (c ∷ certs))) (digests_of (c ∷ certs)) (written (flags_of (c ∷ certs))) 0 (bodies_of certs) ∙ ap (λ (d : List ℕ). numbered (certificate_at (written (places_of certs)) d (written (flags_of certs))) 0 (bodies_of certs)) (rest_of_digests c (places_of certs) (digests_of certs) (flags_of certs) sized)

bodies_fit : (certs : List Certificate) → all certificate_fits certs ≡ true → all (up_to 16384) (bodies_of certs) ≡ true
unfolding certificate_fits
bodies_fit certs h = rw (all_map (λ (c : Certificate). c.bytes) (up_to 16384) certs) (all_more certificate_fits (λ (c : Certificate). up_to 16384 c.bytes) (λ c e. and_left (up_to 16384 c.bytes) (leb (c.key_start + c.key_length) (length c.bytes)) e) certs h)

-- how long the lists are
count_places : (certs : List Certificate) → length (places_of certs) ≡ length certs * 2
count_places [] = refl
count_places (c ∷ certs) = omega (arith, count_places certs)

count_digests : (certs : List Certificate) → all digests_sized certs ≡ true → length (digests_of certs) ≡ length certs * 192
unfolding all
count_digests [] s = refl
count_digests (c ∷ certs) s =
    let ls = sizes c [] [] [] (and_left (digests_sized c) (all digests_sized certs) s) in
    omega (
      arith,
      ls.0,
      ls.1,
      ls.2,
      ls.3,
      count_digests certs (and_right (digests_sized c) (all digests_sized certs) s),
      length-append c.sha256 (c.sha512 ++ (c.key_sha256 ++ (c.key_sha512 ++ digests_of certs))),
      length-append c.sha512 (c.key_sha256 ++ (c.key_sha512 ++ digests_of certs)),
      length-append c.key_sha256 (c.key_sha512 ++ digests_of certs),
      length-append c.key_sha512 (digests_of certs),
    )

-- Certificates within the limits are read back, and their lists keep the limits.
module _ (certs : List Certificate) (h : chain_keeps_limits certs ≡ true) (s : all digests_sized certs ≡ true) where
  each_fits : all certificate_fits certs ≡ true
  unfolding chain_keeps_limits
  each_fits = and_right (leb (length certs) 8) (all certificate_fits certs) (and_left (leb (length certs) 8 && all certificate_fits certs) (leb (total_of certs) 65536) h)

  pub chain_back : certificates_of (flatten (bodies_of certs)) (lengths_of (bodies_of certs)) (written (places_of certs)) (digests_of certs) (written (flags_of certs)) ≡ certs
  unfolding certificates_of
  chain_back = rw (pieces_back 16384 (omega arith) (bodies_of certs) (bodies_fit certs each_fits)) (placed_back certs each_fits s)

  counted : length (numbers (lengths_of (bodies_of certs))) ≡ length certs
  counted = rw (numbers_written (map length (bodies_of certs)) (lengths_small 16384 (omega arith) (bodies_of certs) (bodies_fit certs each_fits))) (length-map (bodies_of certs) length ∙ length-map certs _)

  all_listed : one_for_each (length certs) (written (places_of certs)) (digests_of certs) (written (flags_of certs)) ≡ true
  unfolding one_for_each
  all_listed =
      rw (
        eq-eqb (length (written (places_of certs))) (length certs * 8) (omega (arith, written_length (places_of certs), count_places certs)),
        eq-eqb (length (digests_of certs)) (length certs * 192) (count_digests certs s),
        eq-eqb (length (written (flags_of certs))) (length certs * 4) (omega (arith, written_length (flags_of certs), length-map certs (λ (c : Certificate). yes_no_of c.path))),
      )

  pub chain_accepted : chain_fits (flatten (bodies_of certs)) (lengths_of (bodies_of certs)) (written (places_of certs)) (digests_of certs) (written (flags_of certs)) ≡ true
  unfolding chain_fits
  chain_accepted = rw (pieces_sum 16384 (omega arith) (bodies_of certs) (bodies_fit certs each_fits), chain_back, h, counted) all_listed

-- a common name, or none, as a call gives it
abbrev pub is_given : Option (List ℕ) → Bool
is_given none = false
is_given (some name) = true

abbrev pub name_of : Option (List ℕ) → List ℕ
name_of none = []
name_of (some name) = name

common_back : (name : Option (List ℕ)) → common_name_of (is_given name) (name_of name) ≡ name
common_back none = refl
common_back (some name) = refl

-- Names within the limits are read back, and their lists keep the limits.
module _ (ids : List (List ℕ)) (name : Option (List ℕ)) (h : names_keep_limits ids name ≡ true) where
  ids_fit : all (up_to 255) ids ≡ true
  unfolding names_keep_limits
  ids_fit = and_right (leb (length ids) 64) (all (up_to 255) ids) (and_left (leb (length ids) 64 && all (up_to 255) ids) (common_name_fits name) h)

  pub ids_back : dns_ids_of (flatten ids) (lengths_of ids) ≡ ids
  ids_back = pieces_back 255 (omega arith) ids ids_fit

  pub names_accepted : names_fit (flatten ids) (lengths_of ids) (is_given name) (name_of name) ≡ true
  unfolding names_fit
  names_accepted = rw (pieces_sum 255 (omega arith) ids ids_fit, ids_back, common_back name) h

-- Certificate facts within the limits are given by the lists of some call, which keep the limits.
module _ (p : Presented) (h : keeps_limits p ≡ true) (s : all digests_sized p.certificates ≡ true) where
  chain : chain_keeps_limits p.certificates ≡ true
  unfolding keeps_limits
  chain = and_left (chain_keeps_limits p.certificates) (names_keep_limits p.dns_ids p.common_name) h

  names : names_keep_limits p.dns_ids p.common_name ≡ true
  unfolding keeps_limits
  names = and_right (chain_keeps_limits p.certificates) (names_keep_limits p.dns_ids p.common_name) h

  pub facts_back : presented_of (flatten (bodies_of p.certificates)) (lengths_of (bodies_of p.certificates)) (written (places_of p.certificates)) (digests_of p.certificates) (written (flags_of p.certificates)) p.trusted_root (flatten p.dns_ids) (lengths_of p.dns_ids) (is_given p.common_name) (name_of p.common_name) ≡ p
  unfolding presented_of
  facts_back = λ i. record { certificates = chain_back p.certificates chain s i; dns_ids = ids_back p.dns_ids p.common_name names i; common_name = common_back p.common_name i; trusted_root = p.trusted_root }

  pub facts_accepted : facts_fit (flatten (bodies_of p.certificates)) (lengths_of (bodies_of p.certificates)) (written (places_of p.certificates)) (digests_of p.certificates) (written (flags_of p.certificates)) (flatten p.dns_ids) (lengths_of p.dns_ids) (is_given p.common_name) (name_of p.common_name) ≡ true
  unfolding facts_fit
  facts_accepted = rw (chain_accepted p.certificates chain s) (names_accepted p.dns_ids p.common_name names)

  -- the lists of numbers are bytes
  pub certificate_lengths_bytes : is_bytes (lengths_of (bodies_of p.certificates)) ≡ true
  certificate_lengths_bytes = lengths_bytes 16384 (omega arith) (bodies_of p.certificates) (bodies_fit p.certificates (each_fits p.certificates chain s))

  pub places_bytes : is_bytes (written (places_of p.certificates)) ≡ true
  places_bytes = written_bytes (places_of p.certificates) (places_small p.certificates (each_fits p.certificates chain s))

  pub flags_bytes : is_bytes (written (flags_of p.certificates)) ≡ true
  flags_bytes = written_bytes (flags_of p.certificates) (flags_small p.certificates)

  pub id_lengths_bytes : is_bytes (lengths_of p.dns_ids) ≡ true
  id_lengths_bytes = lengths_bytes 255 (omega arith) p.dns_ids (ids_fit p.dns_ids p.common_name names)

-- The other way: what a call gives and is accepted is within the limits, with digests of their sizes.
sized_first : (P D Q x : List ℕ) → 192 ≤ length D → digests_sized (certificate_at P D Q 0 x) ≡ true
unfolding certificate_at
sized_first P D Q x l = rw (part_length D 0 32 (omega arith), part_length D 32 64 (omega arith), part_length D 96 32 (omega arith), part_length D 128 64 (omega arith))

sized_placed : (xs : List (List ℕ)) (P D Q : List ℕ) → length D ≡ length xs * 192 → all digests_sized (numbered (certificate_at P D Q) 0 xs) ≡ true
unfolding numbered all
sized_placed [] P D Q h = refl
sized_placed (x ∷ xs) P D Q h = rw (sized_first P D Q x (omega arith), certificates_rest P D Q 0 xs) (sized_placed xs (drop 8 P) (drop 192 D) (drop 4 Q) (omega (arith, length-drop 192 D)))

module _ (C L P D Q : List ℕ) (h : chain_fits C L P D Q ≡ true) where
  pub chain_limits : chain_keeps_limits (certificates_of C L P D Q) ≡ true
  unfolding chain_fits
  chain_limits = and_right (sums_to L (length C)) (chain_keeps_limits (certificates_of C L P D Q)) (and_left (sums_to L (length C) && chain_keeps_limits (certificates_of C L P D Q)) (one_for_each (length (numbers L)) P D Q) h)

  enough : length D ≡ length (numbers L) * 192
  unfolding chain_fits one_for_each
  enough = eqb-true (length D) (length (numbers L) * 192) (and_right (eqb (length P) (length (numbers L) * 8)) (eqb (length D) (length (numbers L) * 192)) (and_left (eqb (length P) (length (numbers L) * 8) && eqb (length D) (length (numbers L) * 192)) (eqb (length Q) (length (numbers L) * 4)) (and_right (sums_to L (length C) && chain_keeps_limits (certificates_of C L P D Q)) (one_for_each (length (numbers L)) P D Q) h)))

  pub chain_sized : all digests_sized (certificates_of C L P D Q) ≡ true
  unfolding certificates_of
  chain_sized = sized_placed (cut C (numbers L)) P D Q (rw (cut_count C (numbers L)) enough)

pub facts_limits : (C L P D Q : List ℕ) (root : Bool) (I X : List ℕ) (given : Bool) (N : List ℕ) → facts_fit C L P D Q I X given N ≡ true → keeps_limits (presented_of C L P D Q root I X given N) ≡ true
unfolding facts_fit keeps_limits presented_of names_fit
facts_limits C L P D Q root I X given N h =
    rw (chain_limits C L P D Q (and_left (chain_fits C L P D Q) (names_fit I X given N) h))
    (and_right (sums_to X (length I)) (names_keep_limits (dns_ids_of I X) (common_name_of given N)) (and_right (chain_fits C L P D Q) (names_fit I X given N) h))
