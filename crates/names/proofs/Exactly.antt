-- What matching means, both ways: a plain name matches exactly its equals, and `*.N` exactly the names made of one label, a dot and N. Assumes nothing.
use Prim.Native.Char.{code}
use Prim.Native.Nat.{ℕ, suc, ◌+◌, ◌-◌, ◌<◌, ◌≤◌}
use mathlib.Core.Path.{◌≡◌, refl, sym, ap, ◌∙◌}
use mathlib.Core.Bool.{Bool, true, false, not, ◌&&◌, ◌||◌, and-false}
use mathlib.Core.List.{List, ◌∷◌, ◌++◌}
use mathlib.Core.Logic.{◌↔◌}
use native.Mathlib.Omega.{arith}
use lib.Dec.{eqb, ltb}
use lib.ListN.{length, get_or, take, drop, length-append, take-append-drop}
use lib.Seq.{drop-append-add}
use borrow.Author.Tests.{ltb-true, ltb-false, le-leb}
use Rattle.lists.specs.Bytes.{within, all, any}
use Rattle.lists.specs.Equal.{same_text}
use Rattle.lists.specs.Split.{index_of, split, lacks}
use Rattle.lists.specs.Text.{text}
use Rattle.lists.proofs.Bools.{and_left, and_right, never}
use Rattle.lists.proofs.Agree.{text_like}
use Rattle.lists.proofs.Laws.{drop_next}
use Rattle.lists.proofs.Split.{split_first, split_after, index_after, index_there}
use Rattle.lists.proofs.All.{all_lacks}
use Rattle.names.specs.Name.{label_byte, is_label, is_name, is_starred, is_wildcard, after_first, matches_name, some_matches}
use Rattle.names.proofs.Cover.{name_same, rest_same, name_short, name_labels, nothing_follows, starred_no_name}
use Rattle.names.proofs.Name.{dot_outside}

-- a name begins with no star
name_no_star : (p : List ℕ) → is_name p ≡ true → is_starred p ≡ false
name_no_star p h = go (is_starred p) refl
  where
    go : (t : Bool) → is_starred p ≡ t → t ≡ false
    go true e = sym h ∙ starred_no_name p e
    go false e = refl

-- a plain name matches exactly its equals, ignoring ASCII case
pub plain_exactly : (p n : List ℕ) → is_name p ≡ true → matches_name p n ≡ same_text p n
unfolding matches_name is_wildcard
plain_exactly p n h = rw (h, name_no_star p h) (go (same_text p n) refl)
  where
    go : (t : Bool) → same_text p n ≡ t → (is_name n && (t || false)) ≡ t
    go true e = rw (sym (name_same p n e) ∙ h)
    go false e = and-false (is_name n)

-- n is a label, a dot, and what equals N ignoring ASCII case
pub record OneLabelBefore (N n : List ℕ) : Type 0 where
  pub label : List ℕ
  pub rest : List ℕ
  pub is_label_lem : is_label label ≡ true
  pub made : n ≡ label ++ (code "." ∷ rest)
  pub same : same_text N rest ≡ true

-- `*.N`
abbrev pub wildcard : List ℕ → List ℕ
wildcard N = text "*." ++ N

label_bytes : (l : List ℕ) → is_label l ≡ true → all label_byte l ≡ true
unfolding is_label
label_bytes l h = and_right (within 1 63 (length l) && not (eqb (get_or l 0 0) 45) && not (eqb (get_or l (length l - 1) 0) 45)) (all label_byte l) h

-- a label, a dot and a name are a name, where they have 253 bytes at most, and the name follows the first dot
module _ (l m : List ℕ) (is_label_lem : is_label l ≡ true) where
  no_dot : lacks 46 l ≡ true
  no_dot = all_lacks label_byte 46 dot_outside l (label_bytes l is_label_lem)

  after_label : after_first (l ++ (46 ∷ m)) ≡ m
  after_label = rw (index_after 46 l m no_dot, drop-append-add l (46 ∷ m) 1)

  name_joined : is_name m ≡ true → length (l ++ (46 ∷ m)) ≤ 253 → is_name (l ++ (46 ∷ m)) ≡ true
  unfolding is_name all
  name_joined h k = rw (le-leb 1 (length (l ++ (46 ∷ m))) (omega (arith, length-append l (46 ∷ m))), le-leb (length (l ++ (46 ∷ m))) 253 k, split_after 46 l m no_dot, is_label_lem) (name_labels m h)

put_together : {N n : List ℕ} → is_name N ≡ true → OneLabelBefore N n → length n ≤ 253 → (is_name n && same_text N (after_first n)) ≡ true
put_together {N} {n} named m k =
    let e : n ≡ m.label ++ (46 ∷ m.rest) = m.made in
    let r : is_name m.rest ≡ true = sym (name_same N m.rest m.same) ∙ named in
    rw (e, name_joined m.label m.rest m.is_label_lem r (rw e at k), after_label m.label m.rest m.is_label_lem) m.same

module _ (N n : List ℕ) (named : is_name N ≡ true) where
  no_name_starred : is_name (wildcard N) ≡ false
  unfolding is_starred
  no_name_starred = starred_no_name (wildcard N) (rw (le-leb 2 (length (wildcard N)) (omega arith)))

  -- what `*.N` says of n
  wildcard_says : matches_name (wildcard N) n ≡ (is_name n && same_text N (after_first n))
  unfolding matches_name is_wildcard is_starred
  wildcard_says = rw (no_name_starred, le-leb 2 (length (wildcard N)) (omega arith), named)

  has_dot : same_text N (after_first n) ≡ true → index_of 46 n < length n
  has_dot h = go (ltb (index_of 46 n) (length n)) refl
    where
      go : (t : Bool) → ltb (index_of 46 n) (length n) ≡ t → index_of 46 n < length n
      go true e = ltb-true (index_of 46 n) (length n) e
      go false e =
          let l : length n ≤ index_of 46 n + 1 = omega (arith, ltb-false (index_of 46 n) (length n) e) in
          never (cc (nothing_follows N n l))

  taken_apart : is_name n ≡ true → same_text N (after_first n) ≡ true → OneLabelBefore N n
  unfolding all
  taken_apart h e =
      let d : index_of 46 n < length n = has_dot e in
      let f : split 46 n ≡ take (index_of 46 n) n ∷ split 46 (drop (suc (index_of 46 n)) n) = split_first 46 n d in
      let l : all is_label (split 46 n) ≡ true = name_labels n h in
      record {
        label = take (index_of 46 n) n;
        rest = after_first n;
        is_label_lem = and_left (is_label (take (index_of 46 n) n)) (all is_label (split 46 (drop (suc (index_of 46 n)) n))) (rw f at l);
        made = sym (take-append-drop (index_of 46 n) n) ∙ ap (λ (r : List ℕ). take (index_of 46 n) n ++ r) (drop_next n (index_of 46 n) d ∙ ap (λ (b : ℕ). b ∷ after_first n) (index_there 46 n d));
        same = e;
      }

  -- `*.N`, with N a name, matches exactly the names made of one label, a dot and N
  pub wildcard_exactly : matches_name (wildcard N) n ≡ true ↔ OneLabelBefore N n × (length n ≤ 253)
  wildcard_exactly = (gives, λ m. takes m.0 m.1)
    where
      gives : matches_name (wildcard N) n ≡ true → OneLabelBefore N n × (length n ≤ 253)
      gives h =
          let both : (is_name n && same_text N (after_first n)) ≡ true = sym wildcard_says ∙ h in
          let named_n : is_name n ≡ true = and_left (is_name n) (same_text N (after_first n)) both in
          (taken_apart named_n (and_right (is_name n) (same_text N (after_first n)) both), name_short n named_n)

      takes : OneLabelBefore N n → length n ≤ 253 → matches_name (wildcard N) n ≡ true
      takes m l = wildcard_says ∙ put_together named m l

-- Names that are equal, ignoring ASCII case, are matched by the same patterns.
pub matches_like : (p n m : List ℕ) → same_text n m ≡ true → matches_name p n ≡ matches_name p m
unfolding matches_name
matches_like p n m h = rw (name_same n m h, text_like p n m h, text_like (drop 2 p) (after_first n) (after_first m) (rest_same n m h))

pub some_like : (ps : List (List ℕ)) (n m : List ℕ) → same_text n m ≡ true → some_matches ps n ≡ some_matches ps m
some_like ps n m h = λ i. any (λ (p : List ℕ). matches_like p n m h i) ps
