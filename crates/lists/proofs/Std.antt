-- What std's methods promise, in this library's words: equal bytes, letters of either case, numbers of eight bytes, and the first place of a byte. Assumes
-- nothing.
use Rattle.std.proofs.Common.{◌≡◌, ℕ, zero, suc, ◌+◌, ◌*◌, ◌-◌, ◌<◌, ◌≤◌, Bool, true, false, cond, not, ◌&&◌, List, [], ◌∷◌, ◌++◌, nat_eq, nat_lt, leb, length, get_or, take, drop, map, Fits, refl, sym, ap, ◌∙◌, arith}
use Rattle.std.specs.Char.{to_ascii_lowercase, eq_ignore_ascii_case}
use Rattle.std.specs.Cmp.Lexicographic.{pointwise}
use Rattle.std.specs.List.{zip, list_all}
use Rattle.std.specs.Int.{w8, w64, from_le_bytes}
use Rattle.std.proofs.lemmas.List.{length-take-le}
use lib.Count.{count_trailing_zeros, trailing_le}
use borrow.Author.Rules.{rules}
use borrow.Author.Tests.{lt-leb, le-leb, eq-eqb}
use Rattle.lists.specs.Bytes.{all, is_bytes, lower_of}
use Rattle.lists.specs.Equal.{agree, same_byte, same_letter, same_bytes}
use Rattle.lists.specs.Span.{span_of}
use Rattle.lists.specs.Split.{index_of}
use Rattle.lists.specs.Words.{number_of, first_eight}
use Rattle.lists.specs.Write.{wrote_front}

-- `a == b`
pub same_bytes_is : (a b : List ℕ) → pointwise nat_eq a b ≡ same_bytes a b
unfolding agree same_byte
same_bytes_is [] [] = refl
same_bytes_is [] (y ∷ b) = refl
same_bytes_is (x ∷ a) [] = refl
same_bytes_is (x ∷ a) (y ∷ b) = rw (same_bytes_is a b) refl

-- each two of a `zip`
pub zip_same : (a b : List ℕ) → length a ≡ length b → list_all (λ (p : ℕ × ℕ). nat_eq p.0 p.1) (zip a b) ≡ same_bytes a b
unfolding agree same_byte
zip_same [] [] h = refl
zip_same [] (y ∷ b) h = absurd (omega arith)
zip_same (x ∷ a) [] h = absurd (omega arith)
zip_same (x ∷ a) (y ∷ b) h = rw (zip_same a b (omega arith)) refl

-- `x.eq_ignore_ascii_case(&y)`
pub lower_is : (b : ℕ) → to_ascii_lowercase b ≡ lower_of b
unfolding lower_of
lower_is b = grind arith

pub same_letter_is : (x y : ℕ) → eq_ignore_ascii_case x y ≡ same_letter x y
unfolding same_letter
same_letter_is x y = rw (lower_is x, lower_is y) refl

pub same_byte_is : (x y : ℕ) → x ≡ y → same_letter x y ≡ true
unfolding same_letter
same_byte_is x y e = eq-eqb (lower_of x) (lower_of y) (ap lower_of e)

pub ruleset letter_laws = (same_letter_is, same_byte_is)

-- `u64::from_le_bytes`
pub eight_is_number : (s : List ℕ) → length s ≡ 8 → from_le_bytes w64 s ≡ number_of s
unfolding number_of
eight_is_number (a ∷ b ∷ c ∷ d ∷ e ∷ f ∷ g ∷ h ∷ []) l = omega arith
eight_is_number s l = omega arith

-- the bytes before the first b are those that are not b
pub index_is_span : (b : ℕ) (s : List ℕ) → index_of b s ≡ span_of (λ x. not (nat_eq x b)) s
unfolding index_of span_of
index_is_span b [] = refl
index_is_span b (x ∷ s) = go (index_is_span b s) (nat_eq x b)
  where
    go : index_of b s ≡ span_of (λ y. not (nat_eq y b)) s → (t : Bool) → cond t 0 (suc (index_of b s)) ≡ cond (not t) (suc (span_of (λ y. not (nat_eq y b)) s)) 0
    go ih true = refl
    go ih false = ap suc ih

-- `copy_from_slice` into the front
pub front_short : (t d : List ℕ) → length d < length t → d ≡ wrote_front t d
unfolding wrote_front
front_short t d h = rw (lt-leb (length t) (length d) h) refl

pub front_written : (t d : List ℕ) → length t ≤ length d → t ++ drop (length t) d ≡ wrote_front t d
unfolding wrote_front
front_written t d h = rw (le-leb (length t) (length d) h) refl

pub ruleset front_laws = (front_short, front_written, lt-leb, le-leb)

-- the first n numbers of s are bytes where those of s are
pub bytes_front : (n : ℕ) (s : List ℕ) → ((k : ℕ) → get_or s k 0 < 256) → is_bytes (take n s) ≡ true
unfolding all
bytes_front zero s f = refl
bytes_front (suc n) [] f = refl
bytes_front (suc n) (x ∷ s) f = rw (le-leb x 255 (omega (arith, f 0))) (bytes_front n s (λ k. f (suc k)))

-- `first_chunk::<8>` as a number
pub first_is : (s e : List ℕ) (r : ℕ) → 8 ≤ length s → e ≡ take 8 s → r ≡ from_le_bytes w64 e → ((k : ℕ) → Fits w8 (get_or s k 0)) → (r ≡ number_of (first_eight s)) × (is_bytes (first_eight s) ≡ true)
unfolding first_eight
first_is s e r h p q f =
    let l : length (take 8 s) ≡ 8 = length-take-le 8 s h in
    rw (le-leb 8 (length s) h) (rw (q, p) (eight_is_number (take 8 s) l), bytes_front 8 s (λ k. (f k).fits))

pub first_none : (s : List ℕ) → length s < 8 → (0 ≡ number_of (first_eight s)) × (is_bytes (first_eight s) ≡ true)
unfolding first_eight number_of all
first_none s h = rw (lt-leb 8 (length s) h) (refl, refl)

-- `trailing_zeros` of 64 bits
pub zeros_most : (m : ℕ) → count_trailing_zeros 64 m ≤ 64
zeros_most m = trailing_le 64 m

pub ruleset below_laws = (zeros_most, rules)
