-- What the limits of the certificates say of the leaf and of the key places. Assumes nothing.
use Prim.Native.Nat.{ℕ, ◌+◌, ◌*◌, ◌<◌, ◌≤◌}
use mathlib.Core.Path.{◌≡◌, refl, sym, ap}
use mathlib.Core.Bool.{Bool, true, false, ◌&&◌}
use mathlib.Core.List.{List, [], ◌∷◌, ◌++◌}
use native.Mathlib.Omega.{arith}
use borrow.Author.Tests.{leb-true, eqb-true}
use lib.Dec.{leb, eqb}
use lib.ListN.{length, get_or, take, drop, length-append}
use Rattle.lists.specs.Bytes.{all}
use Rattle.lists.proofs.Bools.{and_left, and_right}
use Rattle.numbers.specs.Numbers.{numbers, written}
use Rattle.numbers.specs.Pieces.{cut, numbered, sums_to, up_to}
use Rattle.certificates.specs.Facts.{Certificate, certificate_at, certificates_of}
use Rattle.certificates.specs.Limits.{certificate_fits, total_of, chain_keeps_limits, one_for_each, chain_fits}
use Rattle.certificates.proofs.Limits.{certificates_count, total_is}
use Rattle.judging.proofs.Texts.{pair_length}

module _ (C L P D Q : List ℕ) where
  abbrev certs : List Certificate
  certs = certificates_of C L P D Q

  abbrev one : Bool
  one = sums_to L (length C)

  abbrev few : Bool
  few = leb (length certs) 8

  abbrev fit : Bool
  fit = all certificate_fits certs

  keeps_all : chain_fits C L P D Q ≡ true → chain_keeps_limits certs ≡ true
  unfolding chain_fits
  keeps_all e = and_right one (chain_keeps_limits certs) (and_left (one && chain_keeps_limits certs) (one_for_each (length (numbers L)) P D Q) e)

  pub chain_sums : chain_fits C L P D Q ≡ true → sums_to L (length C) ≡ true
  unfolding chain_fits
  chain_sums e = and_left one (chain_keeps_limits certs) (and_left (one && chain_keeps_limits certs) (one_for_each (length (numbers L)) P D Q) e)

  pub chain_one : chain_fits C L P D Q ≡ true → one_for_each (length (numbers L)) P D Q ≡ true
  unfolding chain_fits
  chain_one e = and_right (one && chain_keeps_limits certs) (one_for_each (length (numbers L)) P D Q) e

  pub chain_low : chain_fits C L P D Q ≡ true → length C ≤ 65536
  unfolding chain_keeps_limits
  chain_low e =
      omega (arith, leb-true (total_of certs) 65536 (and_right (few && fit) (leb (total_of certs) 65536) (keeps_all e)), total_is C L P D Q true (sym (chain_sums e)) refl)

  pub chain_few : chain_fits C L P D Q ≡ true → length (numbers L) ≤ 8
  unfolding chain_keeps_limits
  chain_few e =
      let k = keeps_all e in
      omega (arith, leb-true (length certs) 8 (and_left few fit (and_left (few && fit) (leb (total_of certs) 65536) k)), certificates_count C L P D Q)

  pub chain_fit : chain_fits C L P D Q ≡ true → all certificate_fits certs ≡ true
  unfolding chain_keeps_limits
  chain_fit e = and_right few fit (and_left (few && fit) (leb (total_of certs) 65536) (keeps_all e))

  pub chain_listed : chain_fits C L P D Q ≡ true → length P ≡ length (numbers L) * 8
  unfolding one_for_each
  chain_listed e =
      let n = length (numbers L) in
      let o : (eqb (length P) (n * 8) && eqb (length D) (n * 192) && eqb (length Q) (n * 4)) ≡ true = chain_one e in
      eqb-true (length P) (n * 8) (and_left (eqb (length P) (n * 8)) (eqb (length D) (n * 192)) (and_left (eqb (length P) (n * 8) && eqb (length D) (n * 192)) (eqb (length Q) (n * 4)) o))

-- the key places after the leaf have at most 56 bytes
pub chain_short : (C L K D Q : List ℕ) → chain_fits C L (written (0 ∷ 0 ∷ []) ++ K) D Q ≡ true → length K ≤ 56
chain_short C L K D Q e =
    let P = written (0 ∷ 0 ∷ []) ++ K in
    omega (arith, chain_few C L P D Q e, chain_listed C L P D Q e, length-append (written (0 ∷ 0 ∷ [])) K, pair_length 0 0)

-- the leaf has at most 16,384 bytes
first_fits : (f : ℕ → List ℕ → Certificate) → ((k : ℕ) (x : List ℕ) → (f k x).bytes ≡ x) → (C ns : List ℕ) → 0 < length ns → all certificate_fits (numbered f 0 (cut C ns)) ≡ true → length (take (get_or ns 0 0) C) ≤ 16384
unfolding all numbered cut certificate_fits up_to
first_fits f h C [] l e = absurd (omega arith)
first_fits f h C (n ∷ ns) l e =
    let x = f 0 (take n C) in
    let u = leb (length x.bytes) 16384 in
    let k = and_left (u && leb (x.key_start + x.key_length) (length x.bytes)) (all certificate_fits (numbered f 1 (cut (drop n C) ns))) e in
    omega (arith, leb-true (length x.bytes) 16384 (and_left u (leb (x.key_start + x.key_length) (length x.bytes)) k), ap length (h 0 (take n C)))

pub chain_leaf : (C L P D Q : List ℕ) → 0 < length (numbers L) → chain_fits C L P D Q ≡ true → length (take (get_or (numbers L) 0 0) C) ≤ 16384
unfolding certificates_of certificate_at
chain_leaf C L P D Q l e = first_fits (certificate_at P D Q) (λ k x. refl) C (numbers L) l (chain_fit C L P D Q e)

-- certificates with no key place are outside the limits
pub no_place : (C L D Q : List ℕ) → 0 < length (numbers L) → chain_fits C L [] D Q ≡ false
no_place C L D Q l = go (chain_fits C L [] D Q) refl
  where
    go : (b : Bool) → chain_fits C L [] D Q ≡ b → b ≡ false
    go true e = absurd (omega (arith, chain_listed C L [] D Q e))
    go false e = refl
