-- A text that equals a name ignoring ASCII case is a name; so `covers` tells of a name what `matches_name` says. Assumes nothing.
use Prim.Native.Nat.{ℕ, suc, ◌+◌, ◌-◌, ◌<◌, ◌≤◌}
use mathlib.Core.Path.{◌≡◌, refl, sym, ap, ◌∙◌}
use mathlib.Core.Bool.{Bool, true, false, cond, not, ◌&&◌, ◌||◌, and-false, or-false}
use mathlib.Core.List.{List, [], ◌∷◌, map}
use native.Mathlib.Omega.{arith}
use lib.Dec.{eqb, leb, ltb}
use lib.ListN.{length, get_or, take, drop, length-map, get_or-map, drop_of_length-le, length-drop}
use borrow.Author.Tests.{ne_eqb, ltb-true, ltb-false, leb-true, le-leb, lt-leb, eqb-true}
use Rattle.lists.specs.Bytes.{within, all, lower_of}
use Rattle.lists.specs.Equal.{agree, same_letter, same_text}
use Rattle.lists.specs.Split.{index_of, split, to_first}
use Rattle.lists.proofs.Bools.{and_left, and_right, never}
use Rattle.lists.proofs.Laws.{within_true}
use Rattle.lists.proofs.All.{all_more, all_between}
use Rattle.lists.proofs.Split.{split_first, join_split}
use Rattle.names.specs.Name.{label_byte, is_label, is_name, is_starred, is_wildcard, after_first, matches_name}
use Rattle.names.specs.Scan.{follows_dot, covers_name}

-- the small letters of a text
abbrev lowered : List ℕ → List ℕ
lowered s = map lower_of s

-- the same text has the same small letters
same_lowered : (a b : List ℕ) → same_text a b ≡ true → lowered a ≡ lowered b
unfolding agree same_letter
same_lowered [] [] h = refl
same_lowered [] (y ∷ b) h = never cc
same_lowered (x ∷ a) [] h = never cc
same_lowered (x ∷ a) (y ∷ b) h =
    let e = eqb (lower_of x) (lower_of y) in
    cc (eqb-true (lower_of x) (lower_of y) (and_left e (same_text a b) h), same_lowered a b (and_right e (same_text a b) h))

-- a test that holds equally of a capital and its small letter does not see case. A capital is between the signs and the small letters, so its small letter is of
-- a label as well, and no hyphen or dot
unseen : (p : ℕ → Bool) → ((x : ℕ) → 65 ≤ x → x ≤ 90 → p (x + 32) ≡ p x) → (x : ℕ) → p (lower_of x) ≡ p x
unfolding lower_of
unseen p same x = go (within 65 90 x) refl
  where
    go : (t : Bool) → within 65 90 x ≡ t → p (cond t (x + 32) x) ≡ p x
    go true e = same x (within_true 65 90 x e).0 (within_true 65 90 x e).1
    go false e = refl

letter_byte : (x : ℕ) → 65 ≤ x → x ≤ 90 → label_byte (x + 32) ≡ label_byte x
unfolding label_byte
letter_byte x a b =
    simp
    (le-leb 97 (x + 32) (omega arith), le-leb (x + 32) 122 (omega arith), lt-leb 97 x (omega arith), le-leb 65 x a, le-leb x 90 b)

hyphen : (x : ℕ) → 65 ≤ x → x ≤ 90 → eqb (x + 32) 45 ≡ eqb x 45
hyphen x a b = ne_eqb (x + 32) 45 (λ e. omega arith) ∙ sym (ne_eqb x 45 (λ e. omega arith))

dot : (x : ℕ) → 65 ≤ x → x ≤ 90 → eqb (x + 32) 46 ≡ eqb x 46
dot x a b = ne_eqb (x + 32) 46 (λ e. omega arith) ∙ sym (ne_eqb x 46 (λ e. omega arith))

all_lowered : (l : List ℕ) → all label_byte (lowered l) ≡ all label_byte l
unfolding all
all_lowered [] = refl
all_lowered (x ∷ l) = rw (unseen label_byte letter_byte x, all_lowered l)

hyphen_lowered : (l : List ℕ) (i : ℕ) → eqb (get_or (lowered l) i 0) 45 ≡ eqb (get_or l i 0) 45
unfolding lower_of
hyphen_lowered l i = ap (λ (y : ℕ). eqb y 45) (get_or-map lower_of l i 0) ∙ unseen (λ (y : ℕ). eqb y 45) hyphen (get_or l i 0)

label_lowered : (l : List ℕ) → is_label (lowered l) ≡ is_label l
unfolding is_label
label_lowered l = rw (length-map l lower_of, hyphen_lowered l 0, hyphen_lowered l (length l - 1), all_lowered l)

first_lowered : (x : ℕ) (ps : List (List ℕ)) → to_first (lower_of x) (map lowered ps) ≡ map lowered (to_first x ps)
unfolding to_first
first_lowered x [] = refl
first_lowered x (p ∷ ps) = refl

split_lowered : (s : List ℕ) → split 46 (lowered s) ≡ map lowered (split 46 s)
unfolding split
split_lowered [] = refl
split_lowered (x ∷ s) = rw (unseen (λ (y : ℕ). eqb y 46) dot x, split_lowered s) (go (split 46 s) (eqb x 46))
  where
    go : (ps : List (List ℕ)) (t : Bool) → cond t ([] ∷ map lowered ps) (to_first (lower_of x) (map lowered ps)) ≡ map lowered (cond t ([] ∷ ps) (to_first x ps))
    go ps true = refl
    go ps false = first_lowered x ps

labels_lowered : (ps : List (List ℕ)) → all is_label (map lowered ps) ≡ all is_label ps
unfolding all
labels_lowered [] = refl
labels_lowered (p ∷ ps) = rw (label_lowered p, labels_lowered ps)

-- a text is a name exactly where its small letters are
name_lowered : (s : List ℕ) → is_name (lowered s) ≡ is_name s
unfolding is_name
name_lowered s = rw (length-map s lower_of, split_lowered s, labels_lowered (split 46 s))

-- what equals a name, ignoring ASCII case, is a name
pub name_same : (a b : List ℕ) → same_text a b ≡ true → is_name a ≡ is_name b
name_same a b h = sym (name_lowered a) ∙ ap is_name (same_lowered a b h) ∙ name_lowered b

-- what follows the first dots of equal texts is equal
pub rest_same : (a b : List ℕ) → same_text a b ≡ true → same_text (after_first a) (after_first b) ≡ true
unfolding agree same_letter index_of
rest_same [] [] h = refl
rest_same [] (y ∷ b) h = never cc
rest_same (x ∷ a) [] h = never cc
rest_same (x ∷ a) (y ∷ b) h =
    let e = eqb (lower_of x) (lower_of y) in
    let r : same_text a b ≡ true = and_right e (same_text a b) h in
    let same : lower_of x ≡ lower_of y = eqb-true (lower_of x) (lower_of y) (and_left e (same_text a b) h) in
    let dots : eqb x 46 ≡ eqb y 46 = sym (unseen (λ (z : ℕ). eqb z 46) dot x) ∙ ap (λ (z : ℕ). eqb z 46) same ∙ unseen (λ (z : ℕ). eqb z 46) dot y in
    rw dots (go (eqb y 46) r (rest_same a b r))
  where
    go : (t : Bool) → same_text a b ≡ true → same_text (after_first a) (after_first b) ≡ true → same_text (drop (cond t 0 (suc (index_of 46 a)) + 1) (x ∷ a)) (drop (cond t 0 (suc (index_of 46 b)) + 1) (y ∷ b)) ≡ true
    go true r q = r
    go false r q =
        let i : suc (index_of 46 a) + 1 ≡ suc (index_of 46 a + 1) = omega arith in
        let j : suc (index_of 46 b) + 1 ≡ suc (index_of 46 b + 1) = omega arith in
        rw (i, j) q

empty_piece : all is_label (split 46 []) ≡ false
unfolding all split is_label
empty_piece = refl

-- a name has at most 253 bytes, and its pieces between dots are labels
pub name_short : (n : List ℕ) → is_name n ≡ true → length n ≤ 253
unfolding is_name
name_short n h = leb-true (length n) 253 (and_right (leb 1 (length n)) (leb (length n) 253) (and_left (within 1 253 (length n)) (all is_label (split 46 n)) h))

pub name_labels : (n : List ℕ) → is_name n ≡ true → all is_label (split 46 n) ≡ true
unfolding is_name
name_labels n h = and_right (within 1 253 (length n)) (all is_label (split 46 n)) h

-- a name has 1 to 253 bytes, each of a label or a dot
pub name_some : (n : List ℕ) → is_name n ≡ true → 1 ≤ length n
unfolding is_name
name_some n h = (within_true 1 253 (length n) (and_left (within 1 253 (length n)) (all is_label (split 46 n)) h)).0

label_bytes : (p : ℕ → Bool) → ((b : ℕ) → label_byte b ≡ true → p b ≡ true) → (l : List ℕ) → is_label l ≡ true → all p l ≡ true
unfolding is_label
label_bytes p f l h = all_more label_byte p f l (and_right (within 1 63 (length l) && not (eqb (get_or l 0 0) 45) && not (eqb (get_or l (length l - 1) 0) 45)) (all label_byte l) h)

-- so what each byte of a label passes, and the dot, each byte of a name passes
pub name_bytes : (p : ℕ → Bool) → ((b : ℕ) → label_byte b ≡ true → p b ≡ true) → p 46 ≡ true → (n : List ℕ) → is_name n ≡ true → all p n ≡ true
name_bytes p f d n h = rw (join_split 46 n) at (all_between p 46 d (split 46 n) (all_more is_label (all p) (label_bytes p f) (split 46 n) (name_labels n h)))

-- what follows the first dot of a name is a name
pub name_after : (n : List ℕ) → is_name n ≡ true → index_of 46 n < length n → is_name (after_first n) ≡ true
unfolding is_name all
name_after n h k = go (after_first n) refl
  where
    first : split 46 n ≡ take (index_of 46 n) n ∷ split 46 (after_first n)
    first = let e : suc (index_of 46 n) ≡ index_of 46 n + 1 = omega arith in rw (← e) (split_first 46 n k)

    rest : all is_label (split 46 (after_first n)) ≡ true
    rest = and_right (is_label (take (index_of 46 n) n)) (all is_label (split 46 (after_first n))) (rw first at (name_labels n h))

    go : (m : List ℕ) → after_first n ≡ m → (within 1 253 (length m) && all is_label (split 46 m)) ≡ true
    go [] e = absurd (let x : all is_label (split 46 []) ≡ true = rw e at rest in never (cc (x, empty_piece)))
    go (x ∷ m) e =
        let l : length (x ∷ m) ≤ 253 = omega (arith, name_short n h, ap length e, length-drop (index_of 46 n + 1) n) in
        let r : all is_label (split 46 (x ∷ m)) ≡ true = rw e at rest in
        rw (le-leb 1 (length (x ∷ m)) (omega arith), le-leb (length (x ∷ m)) 253 l) r

-- no text equals a name but a name: where the texts are equal, the pattern needs no test
name_or_not : (a b : List ℕ) → is_name b ≡ true → same_text a b ≡ (is_name a && same_text a b)
name_or_not a b h = go (same_text a b) refl
  where
    go : (t : Bool) → same_text a b ≡ t → t ≡ (is_name a && t)
    go true e = rw (name_same a b e, h)
    go false e = sym (and-false (is_name a))

-- nothing is no name
pub nothing_no_name : is_name [] ≡ false
unfolding is_name
nothing_no_name = refl

pub same_nothing : (a : List ℕ) → (is_name a && same_text a []) ≡ false
unfolding agree
same_nothing [] = rw nothing_no_name
same_nothing (x ∷ a) = and-false (is_name (x ∷ a))

-- where n has no dot, nothing follows it, which is no name
pub nothing_follows : (s n : List ℕ) → length n ≤ index_of 46 n + 1 → (is_name s && same_text s (after_first n)) ≡ false
nothing_follows s n l = rw (drop_of_length-le n l) (same_nothing s)

-- what follows `*.`, against what follows the first dot of a name
after_same : (s n : List ℕ) → is_name n ≡ true → follows_dot s n ≡ (is_name s && same_text s (after_first n))
unfolding follows_dot
after_same s n h = go (ltb (index_of 46 n) (length n)) refl
  where
    go : (t : Bool) → ltb (index_of 46 n) (length n) ≡ t → (t && same_text s (after_first n)) ≡ (is_name s && same_text s (after_first n))
    go true e = name_or_not s (after_first n) (name_after n h (ltb-true (index_of 46 n) (length n) e))
    go false e = sym (nothing_follows s n (omega (arith, ltb-false (index_of 46 n) (length n) e)))

-- a text that begins with a star is no name
star_no_name : (p : List ℕ) → get_or p 0 0 ≡ 42 → is_name p ≡ false
unfolding is_name is_label label_byte split to_first all
star_no_name [] h = refl
star_no_name (x ∷ s) h = go (split 46 s)
  where
    go : (ps : List (List ℕ)) → (within 1 253 (length (x ∷ s)) && all is_label (cond (eqb x 46) ([] ∷ ps) (to_first x ps))) ≡ false
    go [] = simp (h, and-false)
    go (q ∷ qs) = simp (h, and-false)

pub starred_no_name : (p : List ℕ) → is_starred p ≡ true → is_name p ≡ false
unfolding is_starred
starred_no_name p h = star_no_name p (eqb-true (get_or p 0 0) 42 (and_right (leb 2 (length p)) (eqb (get_or p 0 0) 42) (and_left (leb 2 (length p) && eqb (get_or p 0 0) 42) (eqb (get_or p 1 0) 46) h)))

-- of a name n, `covers` says whether p matches n
pub matches_covers : (p n : List ℕ) → is_name n ≡ true → covers_name p n ≡ matches_name p n
unfolding covers_name matches_name is_wildcard
matches_covers p n h = rw h (go (is_starred p) refl)
  where
    go : (t : Bool) → is_starred p ≡ t → cond t (follows_dot (drop 2 p) n) (same_text p n) ≡ ((is_name p && same_text p n) || (t && is_name (drop 2 p) && same_text (drop 2 p) (after_first n)))
    go true e = rw (starred_no_name p e) (after_same (drop 2 p) n h)
    go false e = name_or_not p n h ∙ sym (or-false (is_name p && same_text p n))
