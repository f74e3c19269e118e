-- What stands in the lines that are written is a value: patterns, modes and numbers. Assumes nothing.
use Prim.Native.Nat.{ℕ, ◌-◌, ◌≤◌}
use mathlib.Core.Path.{◌≡◌, refl}
use mathlib.Core.Bool.{Bool, true, false, ◌&&◌, ◌||◌}
use mathlib.Core.List.{List, [], ◌∷◌}
use native.Mathlib.Omega.{arith}
use lib.Dec.{eqb, leb}
use lib.ListN.{length, get_or, drop, length-drop}
use borrow.Author.Tests.{le-leb, leb-true, ne_eqb, eqb-true}
use Rattle.lists.specs.Bytes.{within, all}
use Rattle.lists.proofs.Bools.{and_left, and_right, and_both, or_elim, never}
use Rattle.lists.proofs.Laws.{within_true}
use Rattle.lists.proofs.All.{all_more, all_at}
use Rattle.names.specs.Name.{label_byte, is_name, is_starred, is_wildcard, is_pattern}
use Rattle.names.proofs.Cover.{name_short, name_some, name_bytes}
use Rattle.policies.specs.declared.Mode.{Mode}
use Rattle.policies.specs.declared.Mode.TheVariants as M
use Rattle.policies.specs.Paper.{mode_text}
use Rattle.policies.specs.Texts.{printable, is_text, is_value}
use Rattle.policies.specs.Fields.{is_digit}
use Rattle.policies.proofs.Texts.{printable_text}
use Rattle.writing.specs.Decimal.{decimal}
use Rattle.writing.proofs.Decimal.{decimal_some}
use Rattle.publish.proofs.Digits.{decimal_digits}

-- a byte 21 to 7E
abbrev solid : ℕ → Bool
solid b = within 0x21 0x7E b

within_solid : (lo hi b : ℕ) → 33 ≤ lo → hi ≤ 126 → within lo hi b ≡ true → solid b ≡ true
within_solid lo hi b l h e =
    let k = within_true lo hi b e in
    rw (le-leb 33 b (omega (arith, k.0)), le-leb b 126 (omega (arith, k.1)))

solid_printable : (b : ℕ) → solid b ≡ true → printable b ≡ true
unfolding printable
solid_printable b h =
    let k = within_true 33 126 b h in
    rw (le-leb 32 b (omega (arith, k.0)), le-leb b 126 k.1)

-- such bytes are a value
pub solid_value : (v : List ℕ) → 1 ≤ length v → all solid v ≡ true → is_value v ≡ true
unfolding is_value
solid_value v l h =
    let apart : (i : ℕ) → i ≤ length v - 1 → eqb (get_or v i 0) 32 ≡ false = λ i k. ne_eqb (get_or v i 0) 32 (λ z. absurd (omega (arith, within_true 33 126 (get_or v i 0) (all_at solid 0 v i (omega arith) h)))) in
    rw (le-leb 1 (length v) l, apart 0 (omega arith), apart (length v - 1) (omega arith))
    (printable_text v (all_more solid printable solid_printable v h))

-- a digit
pub digit_solid : (b : ℕ) → is_digit b ≡ true → solid b ≡ true
unfolding is_digit
digit_solid b h = within_solid 48 57 b (omega arith) (omega arith) h

label_solid : (b : ℕ) → label_byte b ≡ true → solid b ≡ true
unfolding label_byte
label_solid b h =
    or_elim (within 97 122 b || within 65 90 b || within 48 57 b) (eqb b 45)
    (or_elim (within 97 122 b || within 65 90 b) (within 48 57 b)
    (or_elim (within 97 122 b) (within 65 90 b) (within_solid 97 122 b (omega arith) (omega arith)) (within_solid 65 90 b (omega arith) (omega arith)))
    (within_solid 48 57 b (omega arith) (omega arith)))
    (λ e. let k : b ≡ 45 = eqb-true b 45 e in rw k)
    h

-- a name
name_solid : (s : List ℕ) → is_name s ≡ true → all solid s ≡ true
name_solid s h = name_bytes solid label_solid refl s h

-- a wildcard
wild_solid : (p : List ℕ) → is_wildcard p ≡ true → all solid p ≡ true
unfolding is_wildcard is_starred all
wild_solid [] h = never cc
wild_solid (a ∷ []) h = never cc
wild_solid (a ∷ b ∷ s) h =
    let k = and_both (is_starred (a ∷ b ∷ s)) (is_name s) h in
    let j = and_both (leb 2 (length (a ∷ b ∷ s)) && eqb a 42) (eqb b 46) k.0 in
    let x : a ≡ 42 = eqb-true a 42 (and_right (leb 2 (length (a ∷ b ∷ s))) (eqb a 42) j.0) in
    let y : b ≡ 46 = eqb-true b 46 j.1 in
    rw (x, y) (name_solid s k.1)

wild_short : (p : List ℕ) → is_wildcard p ≡ true → (1 ≤ length p) × (length p ≤ 255)
unfolding is_wildcard is_starred
wild_short p h =
    let k = and_both (is_starred p) (is_name (drop 2 p)) h in
    let l = and_left (leb 2 (length p)) (eqb (get_or p 0 0) 42) (and_left (leb 2 (length p) && eqb (get_or p 0 0) 42) (eqb (get_or p 1 0) 46) k.0) in
    (omega (arith, leb-true 2 (length p) l), omega (arith, leb-true 2 (length p) l, name_short (drop 2 p) k.1, length-drop 2 p))

-- a pattern has 1 to 255 bytes, and is a value
pub pattern_short : (p : List ℕ) → is_pattern p ≡ true → (1 ≤ length p) × (length p ≤ 255)
unfolding is_pattern
pattern_short p h = or_elim (is_name p) (is_wildcard p) (λ e. (name_some p e, omega (arith, name_short p e))) (wild_short p) h

pub pattern_value : (p : List ℕ) → is_pattern p ≡ true → is_value p ≡ true
unfolding is_pattern
pattern_value p h = solid_value p (pattern_short p h).0 (or_elim (is_name p) (is_wildcard p) (name_solid p) (wild_solid p) h)

-- a number in decimal
pub decimal_value : (n : ℕ) → is_value (decimal n) ≡ true
decimal_value n = solid_value (decimal n) (decimal_some n) (all_more is_digit solid digit_solid (decimal n) (decimal_digits n))

-- the text of a mode
pub mode_value : (m : Mode) → is_value (mode_text m) ≡ true
unfolding mode_text is_value is_text printable
mode_value M.Enforce = refl
mode_value M.Testing = refl
mode_value M.None = refl
