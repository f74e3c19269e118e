-- Laws of what is filled up with zeros: names and ids are read back. Assumes nothing.
use Prim.Native.Nat.{ℕ, zero, suc, ◌+◌, ◌-◌, ◌<◌, ◌≤◌}
use mathlib.Core.Path.{◌≡◌, refl, sym, ap, ◌∙◌}
use mathlib.Core.Bool.{Bool, true, false, cond, not, ◌&&◌}
use mathlib.Core.List.{List, [], ◌∷◌, ◌++◌}
use native.Mathlib.Omega.{arith}
use mathlib.Core.Logic.{◌≢◌}
use denote.Ref.{Bor}
use lib.Dec.{eqb, leb}
use lib.ListN.{length, get_or, take, drop, take-append-drop, drop_of_length-le, length-replicate}
use lib.Seq.{take-length}
use borrow.Author.Rules.{rules}
use borrow.Author.Tests.{not-true, not-false, le-leb, leb-true, leb-false, ne_eqb, eq-eqb, eqb-true, eqb-false}
use Rattle.std.specs.Prelude.{Some, None, Decides}
use Rattle.std.specs.Cmp.Lexicographic.{pointwise}
use Rattle.std.proofs.lemmas.Slice.Eq.{strip_suffix_is}
use Rattle.lists.specs.Bytes.{all}
use Rattle.lists.specs.Span.{trimmed_length}
use Rattle.lists.specs.Split.{lacks}
use Rattle.lists.specs.Write.{wrote_front}
use Rattle.lists.proofs.Bools.{apart, and_left, and_right}
use Rattle.lists.proofs.All.{all_lacks, all_drop}
use Rattle.lists.specs.Equal.{same_letter, same_text}
use Rattle.lists.proofs.Agree.{agree_length}
use Rattle.lists.proofs.Laws.{drop_next}
use Rattle.lists.proofs.Trim.{trim_gone, trim_le, trim_length, trim_rest, trim_last, trim_start, trim_stop}
use Rattle.fields.specs.Name.{letter_or_digit}
use Rattle.names.specs.Name.{label_byte, is_name}
use Rattle.names.proofs.Cover.{name_bytes}
use Rattle.txt.specs.Paper.{is_id}
use Rattle.txt.proofs.Paper.{id_parts}
use Rattle.cache.specs.Held.{is_zero, zeros, unfilled, filled}

-- a text without zeros has no final zeros
no_zeros : (s : List ℕ) → lacks 0 s ≡ true → trimmed_length is_zero s ≡ length s
unfolding all trimmed_length is_zero
no_zeros [] h = refl
no_zeros (b ∷ s) h = go (no_zeros s (and_right (not (eqb b 0)) (lacks 0 s) h)) (eqb b 0) (and_left (not (eqb b 0)) (lacks 0 s) h)
  where
    go : trimmed_length is_zero s ≡ length s → (t : Bool) → not t ≡ true → cond (t && all is_zero s) 0 (suc (trimmed_length is_zero s)) ≡ suc (length s)
    go ih true n = apart n
    go ih false n = ap suc ih

pub all_zeros : (n : ℕ) → all is_zero (zeros n) ≡ true
unfolding all is_zero
all_zeros zero = refl
all_zeros (suc n) = all_zeros n

module _ (n : ℕ) (s : List ℕ) (fits : length s ≤ n) (bytes : lacks 0 s ≡ true) where
  filled_is : filled n s ≡ s ++ drop (length s) (zeros n)
  unfolding filled wrote_front
  filled_is = rw (le-leb (length s) (length (zeros n)) (omega (arith, fits, length-replicate {A = ℕ} n 0)))

  -- what was filled up with zeros is read back
  pub filled_back : unfilled (filled n s) ≡ s
  filled_back =
      rw filled_is
      (trim_gone is_zero s (drop (length s) (zeros n)) (all_drop is_zero (length s) (zeros n) (all_zeros n)) ∙ (ap (λ (k : ℕ). take k s) (no_zeros s bytes) ∙ take-length s))

drop_zeros : (k n : ℕ) → drop k (zeros n) ≡ zeros (n - k)
drop_zeros zero n = let z : n - 0 ≡ n = omega arith in rw z
drop_zeros (suc k) zero = let z : 0 - suc k ≡ 0 = omega arith in rw z
drop_zeros (suc k) (suc n) = let z : suc n - suc k ≡ n - k = omega arith in rw z (drop_zeros k n)

-- what is filled up has zeros after it
pub filled_out : (n : ℕ) (s : List ℕ) → length s ≤ n → filled n s ≡ s ++ zeros (n - length s)
unfolding filled wrote_front
filled_out n s h = rw (le-leb (length s) (length (zeros n)) (omega (arith, h, length-replicate {A = ℕ} n 0)), drop_zeros (length s) n)

zero_no_label : label_byte 0 ≡ false
unfolding label_byte
zero_no_label = refl

zero_no_letter : letter_or_digit 0 ≡ false
unfolding letter_or_digit
zero_no_letter = refl

-- names and ids have no zero
pub name_lacks : (d : List ℕ) → is_name d ≡ true → lacks 0 d ≡ true
name_lacks d h = name_bytes (λ (x : ℕ). not (eqb x 0)) (λ b e. rw (ne_eqb b 0 (λ z. apart (sym zero_no_label ∙ (rw z at e))))) refl d h

pub id_lacks : (i : List ℕ) → is_id i ≡ true → lacks 0 i ≡ true
id_lacks i h = all_lacks letter_or_digit 0 zero_no_letter i (id_parts i h).2

-- ---- a text that is stripped of n zeros at its end has the same without its zeros; one that is not does not end in n zeros
equal_decides : (a b : ℕ) → Decides (eqb a b) (a ≡ b)
equal_decides a b = (eqb-true a b, eq-eqb a b)

module _ (s : List ℕ) (n : ℕ) where
  abbrev Stripped : Bor (List ℕ) → Type 0
  Stripped x = (pointwise eqb (drop (length s - length (zeros n)) s) (zeros n) ≡ true) × (x.now ≡ take (length s - length (zeros n)) s) × (length x.now + length (zeros n) ≡ length s)

  pub stripped : (x : Bor (List ℕ)) → Stripped x → unfilled x.now ≡ unfilled s
  stripped x h = sym (ap unfilled (strip_suffix_is equal_decides s (zeros n) (Some x) h) ∙ trim_gone is_zero x.now (zeros n) (all_zeros n))

  pub unstripped : pointwise eqb (drop (length s - length (zeros n)) s) (zeros n) ≡ false → (front : List ℕ) → s ≢ front ++ zeros n
  unstripped h = strip_suffix_is equal_decides s (zeros n) None h

ends_zero : (s : List ℕ) → 0 < length s → get_or s (length s - 1) 0 ≡ 0 → s ≡ take (length s - 1) s ++ zeros 1
ends_zero s l z =
    let n : length s - 1 + 1 ≡ length s = omega (arith, l) in
    let all_gone : drop (length s) s ≡ [] = drop_of_length-le s (omega arith) in
    sym (take-append-drop (length s - 1) s)
    ∙ ap (λ (u : List ℕ). take (length s - 1) s ++ u) (drop_next s (length s - 1) (omega (arith, l)) ∙ rw (n, z, all_gone))

-- what a text is without zeros at its end is as long as the text, or the text ends in a zero
pub ends_bare : (s : List ℕ) → ((front : List ℕ) → s ≢ front ++ zeros 1) → s ≡ unfilled s
unfolding is_zero
ends_bare s none_left = go (leb (length s) 0) refl (eqb (get_or s (length s - 1) 0) 0) refl
  where
    go : (a : Bool) → leb (length s) 0 ≡ a → (b : Bool) → eqb (get_or s (length s - 1) 0) 0 ≡ b → s ≡ unfilled s
    go true e b z = let l : length s ≤ 0 = leb-true (length s) 0 e in let k : trimmed_length is_zero s ≡ length s = omega (arith, l, trim_le is_zero s) in sym (ap (λ (n : ℕ). take n s) k ∙ take-length s)
    go false e true z =
        let l : 0 < length s = leb-false (length s) 0 e in
        absurd (none_left (take (length s - 1) s) (ends_zero s l (eqb-true (get_or s (length s - 1) 0) 0 z)))
    go false e false z =
        let l : 0 < length s = leb-false (length s) 0 e in
        sym (ap (λ (n : ℕ). take n s) (sym (trim_stop is_zero s (length s) (trim_start is_zero s) (omega arith) false l (sym z) refl)) ∙ take-length s)

-- ---- whether a field holds a domain: t is the field's front, r what `compare` says of it, u the field less its zeros
module _ (s d : List ℕ) where
  not_as_long : (trimmed_length is_zero s ≡ length d → ⊥) → false ≡ same_text (unfilled s) d
  not_as_long n = agree_length same_letter (unfilled s) d (λ e. n (sym (trim_length is_zero s) ∙ e))

  pub holds_longer : length d < length s → (get_or s (length d) 0 ≡ 0 → ⊥) → false ≡ same_text (unfilled s) d
  unfolding all is_zero
  holds_longer h n = not_as_long (λ e. n (zero_there e))
    where
      zero_there : trimmed_length is_zero s ≡ length d → get_or s (length d) 0 ≡ 0
      zero_there e =
          let z : all is_zero (drop (length d) s) ≡ true = rw e at (trim_rest is_zero s) in
          let y : all is_zero (get_or s (length d) 0 ∷ drop (length d + 1) s) ≡ true = rw (drop_next s (length d) h) at z in
          eqb-true (get_or s (length d) 0) 0 (and_left (eqb (get_or s (length d) 0) 0) (all is_zero (drop (length d + 1) s)) y)

  pub holds_shorter : 0 < length d → get_or s (length d - 1) 0 ≡ 0 → false ≡ same_text (unfilled s) d
  unfolding is_zero
  holds_shorter h z = not_as_long other
    where
      other : trimmed_length is_zero s ≡ length d → ⊥
      other e =
          let l : eqb (get_or s (trimmed_length is_zero s - 1) 0) 0 ≡ false = trim_last is_zero s (omega (arith, e, h)) in
          let k : eqb (get_or s (length d - 1) 0) 0 ≡ false = rw e at l in
          eqb-false (get_or s (length d - 1) 0) 0 k z

  module _ (t : List ℕ) (front : t ≡ take (length d) (drop 0 s)) (r : Bool) (g : r ≡ same_text t d) where
    as_long : trimmed_length is_zero s ≡ length d → r ≡ same_text (unfilled s) d
    as_long e = g ∙ (ap (λ (u : List ℕ). same_text u d) front ∙ ap (λ (k : ℕ). same_text (take k s) d) (sym e))

    holds_other : r ≡ false → false ≡ same_text (unfilled s) d
    holds_other f = go (eqb (trimmed_length is_zero s) (length d)) refl
      where
        go : (b : Bool) → eqb (trimmed_length is_zero s) (length d) ≡ b → false ≡ same_text (unfilled s) d
        go true e = sym f ∙ as_long (eqb-true (trimmed_length is_zero s) (length d) e)
        go false e = not_as_long (eqb-false (trimmed_length is_zero s) (length d) e)

    pub holds_same : r ≡ true → (u : List ℕ) → u ≡ unfilled s → eqb (length u) (length d) ≡ same_text (unfilled s) d
    holds_same y u q = go (eqb (length u) (length d)) refl
      where
        k : length u ≡ trimmed_length is_zero s
        k = ap length q ∙ trim_length is_zero s

        go : (b : Bool) → eqb (length u) (length d) ≡ b → b ≡ same_text (unfilled s) d
        go true e = sym y ∙ as_long (sym k ∙ eqb-true (length u) (length d) e)
        go false e = not_as_long (λ z. eqb-false (length u) (length d) e (k ∙ z))

    pub holds_else : r ≡ false → r ≡ same_text (unfilled s) d
    holds_else f = f ∙ holds_other f

pub ruleset holds_laws = (holds_longer, holds_shorter, holds_else, holds_same, not-true, not-false, rules)
