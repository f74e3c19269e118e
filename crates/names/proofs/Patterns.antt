-- The returns of `is_label`, `is_under`, `read_pattern` and `matches`. Assumes nothing.
use Prim.Native.Nat.{ℕ, suc, ◌+◌, ◌-◌, ◌<◌, ◌≤◌}
use mathlib.Core.Path.{◌≡◌, refl, sym, ap, ◌∙◌}
use mathlib.Core.Bool.{Bool, true, false, cond, ◌&&◌, ◌||◌, and-true, and-false}
use mathlib.Core.List.{List, ◌∷◌}
use native.Mathlib.Omega.{arith}
use lib.Dec.{eqb, leb, ltb}
use lib.ListN.{length, get_or, take, drop, length-drop}
use lib.Seq.{take-length}
use borrow.Author.Rules.{rules}
use borrow.Author.Tests.{not-true, not-false, le-leb, lt-leb, leb-true, leb-false, ltb-true, ltb-false, eq-eqb, ne_eqb}
use Rattle.lists.specs.Bytes.{all}
use Rattle.lists.specs.Equal.{same_letter, same_text}
use Rattle.lists.specs.Span.{span_of}
use Rattle.lists.specs.Split.{index_of, split}
use Rattle.lists.proofs.Bools.{never, and_left, and_right}
use Rattle.lists.proofs.Agree.{agree_lengths}
use Rattle.lists.proofs.Laws.{take_rest}
use Rattle.lists.proofs.Span.{span_le, span_reaches}
use Rattle.lists.proofs.Split.{split_first}
use Rattle.names.specs.declared.Pattern.{Pattern}
use Rattle.names.specs.Name.{label_byte, is_label, is_name, is_starred, is_wildcard, is_pattern, after_first, matches_name, pattern_for}
use Rattle.names.specs.Scan.{label_ends, follows_dot}
use Rattle.names.proofs.Cover.{name_same, name_labels, nothing_follows, starred_no_name}
use Rattle.names.proofs.Match.{starred_long}

-- `is_label`: v is what `has_label_ends` gave, e what `label_from` gave
module _ (l : List ℕ) where
  pub label_empty : length l < 1 → false ≡ is_label l
  unfolding is_label
  label_empty h = simp (lt-leb 1 (length l) h)

  pub label_first : get_or l 0 0 ≡ 45 → false ≡ is_label l
  unfolding is_label
  label_first h = simp (eq-eqb (get_or l 0 0) 45 h, and-false)

  pub label_unhyphened : (get_or l 0 0 ≡ 45 → ⊥) → eqb (get_or l 0 0) 45 ≡ false
  label_unhyphened h = ne_eqb (get_or l 0 0) 45 h

  pub label_ends_lem : (v : Bool) → v ≡ label_ends l → v ≡ false → false ≡ is_label l
  unfolding is_label label_ends
  label_ends_lem v g f = rw (sym g ∙ f)

  -- every byte is of a label exactly where the first that is not stands at the end
  spans : (e : ℕ) → e ≡ 0 + span_of label_byte (drop 0 l) → eqb e (length l) ≡ all label_byte l
  spans e g = go (leb (length l) (span_of label_byte l)) refl ∙ (span_reaches label_byte l (length l) (omega arith) ∙ ap (all label_byte) (take-length l))
    where
      go : (t : Bool) → leb (length l) (span_of label_byte l) ≡ t → eqb e (length l) ≡ t
      go true h = eq-eqb e (length l) (omega (arith, g, leb-true (length l) (span_of label_byte l) h, span_le label_byte l))
      go false h = ne_eqb e (length l) (λ q. omega (arith, g, leb-false (length l) (span_of label_byte l) h))

  pub label_bytes : (v : Bool) → v ≡ label_ends l → v ≡ true → (e : ℕ) → e ≡ 0 + span_of label_byte (drop 0 l) → eqb e (length l) ≡ is_label l
  unfolding is_label label_ends
  label_bytes v g t e h = rw (sym g ∙ t) (spans e h)

pub ruleset label_laws = (label_empty, label_first, label_unhyphened, label_ends_lem, label_bytes, not-true, not-false, rules)

-- `is_under`: q is what `follows_dot` gave of the name `rest`
module _ (rest n : List ℕ) (named : is_name rest ≡ true) (q : Bool) (gave : q ≡ follows_dot rest n) where
  pub under_other : q ≡ false → false ≡ (is_name n && same_text rest (after_first n))
  unfolding follows_dot
  under_other f = go (ltb (index_of 46 n) (length n)) refl (sym gave ∙ f)
    where
      go : (t : Bool) → ltb (index_of 46 n) (length n) ≡ t → (t && same_text rest (after_first n)) ≡ false → false ≡ (is_name n && same_text rest (after_first n))
      go true e h = sym (rw h (and-false (is_name n)))
      go false e h =
          let k : same_text rest (after_first n) ≡ false = rw named at (nothing_follows rest n (omega (arith, ltb-false (index_of 46 n) (length n) e))) in
          sym (rw k (and-false (is_name n)))

  pub under_long : 253 < length n → false ≡ (is_name n && same_text rest (after_first n))
  unfolding is_name
  under_long k = simp (lt-leb (length n) 253 k, and-false)

  -- what follows is `rest`, so the first dot stands right before as many bytes
  module _ (t : q ≡ true) where
    both : (ltb (index_of 46 n) (length n) && same_text rest (after_first n)) ≡ true
    unfolding follows_dot
    both = sym gave ∙ t

    inside : index_of 46 n < length n
    inside = ltb-true (index_of 46 n) (length n) (and_left (ltb (index_of 46 n) (length n)) (same_text rest (after_first n)) both)

    same : same_text rest (after_first n) ≡ true
    same = and_right (ltb (index_of 46 n) (length n)) (same_text rest (after_first n)) both

    whole : index_of 46 n + 1 + length rest ≡ length n
    whole = omega (arith, inside, agree_lengths same_letter rest (after_first n) same, length-drop (index_of 46 n + 1) n)

    pub under_shorter : length rest ≤ length n
    under_shorter = omega (arith, whole)

    pub under_room : 1 ≤ length n - length rest
    under_room = omega (arith, whole)

    pub under_label : length n ≤ 253 → (r : Bool) → r ≡ is_label (take (length n - length rest - 1 - 0) (drop 0 n)) → r ≡ (is_name n && same_text rest (after_first n))
    unfolding is_name all
    under_label k r e =
        let o : suc (index_of 46 n) ≡ index_of 46 n + 1 = omega arith in
        let p : split 46 n ≡ take (index_of 46 n) n ∷ split 46 (after_first n) = rw (← o) (split_first 46 n inside) in
        let w : all is_label (split 46 (after_first n)) ≡ true = name_labels (after_first n) (sym (name_same rest (after_first n) same) ∙ named) in
        let d : length n - length rest - 1 - 0 ≡ index_of 46 n = omega (arith, whole) in
        let g : r ≡ is_label (take (index_of 46 n) n) = rw d at e in
        simp (same, p, w, le-leb 1 (length n) (omega (arith, inside)), le-leb (length n) 253 k, and-true) g

pub ruleset under_laws = (under_other, under_long, under_shorter, under_room, under_label, not-true, not-false, rules)

-- `read_pattern`: r is what `is_starred` gave, m what `is_name` gave
module _ (p n : List ℕ) (r : Bool) (gave : r ≡ is_starred p) (m : Bool) where
  module _ (t : r ≡ true) (named : m ≡ is_name (take (length p - 2) (drop 2 p))) where
    starred : is_starred p ≡ true
    starred = sym gave ∙ t

    named_rest : m ≡ is_name (drop 2 p)
    named_rest = named ∙ ap is_name (take_rest p 2)

    pub wild_malformed : m ≡ false → Pattern.Malformed ≡ pattern_for p n
    unfolding pattern_for is_pattern is_wildcard
    wild_malformed f = simp (starred_no_name p starred, starred, sym named_rest ∙ f)

    module _ (mt : m ≡ true) (u : Bool) (under : u ≡ (is_name n && same_text (take (length p - 2) (drop 2 p)) (after_first n))) where
      matches_u : matches_name p n ≡ u
      unfolding matches_name is_wildcard
      matches_u = simp (starred_no_name p starred, starred, sym named_rest ∙ mt) (sym (rw (take_rest p 2) at under))

      is_pattern_lem : is_pattern p ≡ true
      unfolding is_pattern is_wildcard
      is_pattern_lem = simp (starred_no_name p starred, starred, sym named_rest ∙ mt)

      pub wild_matching : u ≡ true → Pattern.Matching ≡ pattern_for p n
      unfolding pattern_for
      wild_matching e = rw (is_pattern_lem, matches_u, e)

      pub wild_other : u ≡ false → Pattern.Other ≡ pattern_for p n
      unfolding pattern_for
      wild_other e = rw (is_pattern_lem, matches_u, e)

  module _ (f : r ≡ false) (named : m ≡ is_name p) where
    plain : is_starred p ≡ false
    plain = sym gave ∙ f

    pub plain_malformed : m ≡ false → Pattern.Malformed ≡ pattern_for p n
    unfolding pattern_for is_pattern is_wildcard
    plain_malformed e = simp (plain, sym named ∙ e)

    module _ (mt : m ≡ true) (q : Bool) (same : q ≡ same_text p n) where
      is_name_lem : is_name p ≡ true
      is_name_lem = sym named ∙ mt

      pub plain_matching : q ≡ true → Pattern.Matching ≡ pattern_for p n
      unfolding pattern_for is_pattern is_wildcard matches_name
      plain_matching t = simp (is_name_lem, sym (name_same p n (sym same ∙ t)) ∙ is_name_lem, plain, sym same ∙ t)

      pub plain_other : q ≡ false → Pattern.Other ≡ pattern_for p n
      unfolding pattern_for is_pattern is_wildcard matches_name
      plain_other t = simp (is_name_lem, plain, sym same ∙ t, and-false)

-- what `is_under` asks of the name after the star
pub known_name : (s : List ℕ) (m : Bool) → m ≡ is_name s → m ≡ true → is_name s ≡ true
known_name s m e t = sym e ∙ t

pub ruleset read_pattern_laws = (known_name, wild_malformed, wild_matching, wild_other, plain_malformed, plain_matching, plain_other, starred_long, not-true, not-false, rules)

-- `matches`: r is what `read_pattern` gave
module _ (p n : List ℕ) (r : Pattern) (gave : r ≡ pattern_for p n) where
  pub matches_matching : r ≡ Pattern.Matching → true ≡ matches_name p n
  unfolding pattern_for
  matches_matching e = go (is_pattern p) (matches_name p n) (sym e ∙ gave)
    where
      go : (a b : Bool) → Pattern.Matching ≡ cond a (cond b Pattern.Matching Pattern.Other) Pattern.Malformed → true ≡ b
      go true true h = refl
      go true false h = never cc
      go false b h = never cc

  pub matches_other : r ≡ Pattern.Other → false ≡ matches_name p n
  unfolding pattern_for
  matches_other e = go (is_pattern p) (matches_name p n) (sym e ∙ gave)
    where
      go : (a b : Bool) → Pattern.Other ≡ cond a (cond b Pattern.Matching Pattern.Other) Pattern.Malformed → false ≡ b
      go true true h = never cc
      go true false h = refl
      go false b h = never cc

  pub matches_malformed : r ≡ Pattern.Malformed → false ≡ matches_name p n
  unfolding pattern_for is_pattern matches_name
  matches_malformed e = go (is_name p) (is_wildcard p) (matches_name p n) (sym e ∙ gave)
    where
      go : (a b m : Bool) → Pattern.Malformed ≡ cond (a || b) (cond m Pattern.Matching Pattern.Other) Pattern.Malformed → false ≡ (is_name n && (a && same_text p n || b && same_text (drop 2 p) (after_first n)))
      go true b true h = never cc
      go true b false h = never cc
      go false true true h = never cc
      go false true false h = never cc
      go false false m h = sym (and-false (is_name n))

pub ruleset matches_laws = (matches_matching, matches_other, matches_malformed, rules)
