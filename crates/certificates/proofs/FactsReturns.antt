-- The returns of the functions that read digests, path flags and key places. k is the place of the certificate. Assumes nothing.
use Prim.Native.Nat.{ℕ, suc, ◌+◌, ◌*◌, ◌-◌, ◌/◌, ◌<◌, ◌≤◌}
use mathlib.Core.Path.{◌≡◌, sym, ◌∙◌}
use mathlib.Core.Bool.{Bool, true, false, ◌&&◌, ◌||◌}
use mathlib.Core.List.{List}
use native.Mathlib.Omega.{arith}
use lib.Dec.{eqb}
use lib.ListN.{length, get_or, take, drop, length-take, length-drop, get_or-eq_default}
use borrow.Author.Rules.{rules}
use borrow.Author.Tests.{not-true, not-false, eq-eqb, ne_eqb}
use Rattle.lists.specs.Equal.{same_byte, same_bytes}
use Rattle.lists.proofs.Agree.{agree_length}
use Rattle.numbers.specs.Numbers.{numbers}
use Rattle.numbers.proofs.Numbers.{count_is}
use Rattle.certificates.specs.Facts.{digest_at}
use Rattle.certificates.specs.Steps.{digest_start, digest_on_path, any_place}

-- `digest_start`
module _ (s t : ℕ) where
  module _ (sel : s ≡ 0) where
    pub start_sha256 : t ≡ 1 → 0 ≡ digest_start s t
    unfolding digest_start
    start_sha256 h = rw (eq-eqb s 0 sel, eq-eqb t 1 h)

    pub start_sha512 : (t ≡ 1 → ⊥) → 32 ≡ digest_start s t
    unfolding digest_start
    start_sha512 h = rw (eq-eqb s 0 sel, ne_eqb t 1 h)

  module _ (sel : s ≡ 0 → ⊥) where
    pub start_key_sha256 : t ≡ 1 → 96 ≡ digest_start s t
    unfolding digest_start
    start_key_sha256 h = rw (ne_eqb s 0 sel, eq-eqb t 1 h)

    pub start_key_sha512 : (t ≡ 1 → ⊥) → 128 ≡ digest_start s t
    unfolding digest_start
    start_key_sha512 h = rw (ne_eqb s 0 sel, ne_eqb t 1 h)

pub ruleset digest_start_laws = (start_sha256, start_sha512, start_key_sha256, start_key_sha512, rules)

-- `is_digest`: r is what `equal` gave
module _ (held D : List ℕ) (k from : ℕ) (some : 1 ≤ length held) where
  too_few : length D < k * 192 + from + length held → false ≡ same_bytes held (digest_at D k from (length held))
  too_few h = agree_length same_byte held (take (length held) (drop (k * 192 + from) D)) (λ e. omega (arith, length-take (length held) (drop (k * 192 + from) D), length-drop (k * 192 + from) D))

  pub digest_outside : length D / 192 < k → false ≡ same_bytes held (digest_at D k from (length held))
  digest_outside h = too_few (omega arith)

  pub digest_cut : length D < k * 192 + from + length held → false ≡ same_bytes held (digest_at D k from (length held))
  digest_cut h = too_few h

  pub digest_whole : (r : Bool) → r ≡ same_bytes held (take (k * 192 + from + length held - (k * 192 + from)) (drop (k * 192 + from) D)) → r ≡ same_bytes held (digest_at D k from (length held))
  digest_whole r e = let l : k * 192 + from + length held - (k * 192 + from) ≡ length held = omega arith in rw l at e

pub ruleset digest_laws = (digest_outside, digest_cut, digest_whole, rules)

-- `is_on_path`: q is the number of the path flag
pub on_path_is : (Q : List ℕ) (k q : ℕ) → q ≡ get_or (numbers Q) k 0 → eqb q 1 ≡ eqb (get_or (numbers Q) k 0) 1
on_path_is Q k q e = rw e

pub ruleset on_path_laws = (on_path_is, rules)

-- `is_digest_after_leaf`, at place k of n: b and r are what `is_on_path` and `is_digest` gave
module _ (held D Q : List ℕ) (from n k : ℕ) (inv : any_place (digest_on_path held from D Q) 1 (n - 1) ≡ any_place (digest_on_path held from D Q) k (n - k)) where
  pub place_none : n ≤ k → false ≡ any_place (digest_on_path held from D Q) 1 (n - 1)
  unfolding any_place
  place_none h = let z : n - k ≡ 0 = omega arith in sym (rw z at inv)

  module _ (h : k < n) (b : Bool) (given : b ≡ eqb (get_or (numbers Q) k 0) 1) where
    here : any_place (digest_on_path held from D Q) 1 (n - 1) ≡ ((b && same_bytes held (digest_at D k from (length held))) || any_place (digest_on_path held from D Q) (k + 1) (n - (k + 1)))
    unfolding any_place digest_on_path
    here = let z : n - k ≡ suc (n - (k + 1)) = omega arith in rw given (rw z at inv)

    pub place_off : b ≡ false → any_place (digest_on_path held from D Q) 1 (n - 1) ≡ any_place (digest_on_path held from D Q) (k + 1) (n - (k + 1))
    place_off f = rw f at here

    module _ (on : b ≡ true) (r : Bool) (gave : r ≡ same_bytes held (digest_at D k from (length held))) where
      pub place_next : r ≡ false → any_place (digest_on_path held from D Q) 1 (n - 1) ≡ any_place (digest_on_path held from D Q) (k + 1) (n - (k + 1))
      place_next f = here ∙ rw (on, ← gave, f)

      pub place_hit : r ≡ true → true ≡ any_place (digest_on_path held from D Q) 1 (n - 1)
      place_hit t = sym (here ∙ rw (on, ← gave, t))

pub ruleset place_test_laws = (place_none, place_off, place_next, place_hit, not-true, not-false, rules)

-- `key_start` and `key_length`: s is the list of places
pub start_outside : (s : List ℕ) (k : ℕ) → length s / 8 < k → 0 ≡ get_or (numbers s) (k * 2) 0
start_outside s k h = let g : length (numbers s) ≤ k * 2 = omega (arith, count_is s) in sym (get_or-eq_default (numbers s) 0 g)

pub length_outside : (s : List ℕ) (k : ℕ) → length s / 8 < k → 0 ≡ get_or (numbers s) (k * 2 + 1) 0
length_outside s k h = let g : length (numbers s) ≤ k * 2 + 1 = omega (arith, count_is s) in sym (get_or-eq_default (numbers s) 0 g)

pub ruleset place_laws = (start_outside, length_outside, rules)

-- `key_info_at`: start and size are what the two gave, r is what `part` gave of the certificate x
pub key_info_is : (x ns r : List ℕ) (k start size : ℕ) → start ≡ get_or ns (k * 2) 0 → size ≡ get_or ns (k * 2 + 1) 0 → r ≡ take size (drop start x) → r ≡ take (get_or ns (k * 2 + 1) 0) (drop (get_or ns (k * 2) 0) x)
key_info_is x ns r k start size p q e = rw (← p, ← q) e

pub ruleset key_info_laws = (key_info_is, rules)
