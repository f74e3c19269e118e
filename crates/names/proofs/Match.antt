-- The returns of `follows_dot`, `covers`, `some_match` and `is_pattern`. Assumes nothing.
use Prim.Native.Nat.{ℕ, ◌+◌, ◌-◌, ◌<◌, ◌≤◌}
use mathlib.Core.Path.{◌≡◌, refl, sym, ◌∙◌}
use mathlib.Core.Bool.{Bool, true, false, ◌&&◌, ◌||◌, and-true, and-false, or-false}
use mathlib.Core.List.{List, [], ◌∷◌}
use native.Mathlib.Omega.{arith}
use lib.Dec.{eqb, leb}
use lib.ListN.{length, get_or, take, drop}
use borrow.Author.Rules.{rules}
use borrow.Author.Tests.{not-true, not-false, lt-ltb, le-ltb, leb-true}
use Rattle.lists.specs.Bytes.{any}
use Rattle.lists.specs.Equal.{same_text}
use Rattle.lists.specs.Split.{index_of}
use Rattle.lists.proofs.Bools.{and_left}
use Rattle.lists.proofs.Laws.{take_rest}
use Rattle.names.specs.Name.{is_name, is_starred, is_wildcard, is_pattern, matches_name, some_matches}
use Rattle.names.specs.Scan.{follows_dot, covers_name}
use Rattle.names.proofs.Cover.{matches_covers, starred_no_name}

-- a pattern matches n exactly where it covers n and n is a name
covers_name_lem : (p n : List ℕ) → matches_name p n ≡ (covers_name p n && is_name n)
unfolding matches_name
covers_name_lem p n = go (is_name n) refl
  where
    go : (t : Bool) → is_name n ≡ t → matches_name p n ≡ (covers_name p n && t)
    go true e = sym (matches_covers p n e) ∙ sym (and-true (covers_name p n))
    go false e = rw (and-false (covers_name p n), e)

-- of some texts, one matches n exactly where one covers n and n is a name
some_covers_name : (ps : List (List ℕ)) (n : List ℕ) → some_matches ps n ≡ (any (λ (p : List ℕ). covers_name p n) ps && is_name n)
unfolding any
some_covers_name [] n = refl
some_covers_name (p ∷ ps) n = rw (covers_name_lem p n, some_covers_name ps n) (go (covers_name p n) (any (λ (p : List ℕ). covers_name p n) ps) (is_name n))
  where
    go : (a b t : Bool) → ((a && t) || (b && t)) ≡ ((a || b) && t)
    go true b true = refl
    go true b false = and-false b
    go false b t = refl

-- `some_match`: q is what `some_cover` gave
module _ (ps : List (List ℕ)) (n : List ℕ) (q : Bool) (gave : q ≡ any (λ (p : List ℕ). covers_name p n) ps) where
  pub none_covered : q ≡ false → false ≡ some_matches ps n
  none_covered f = sym (rw (some_covers_name ps n, sym gave ∙ f) refl)

  pub some_covered : q ≡ true → (r : Bool) → r ≡ is_name n → r ≡ some_matches ps n
  some_covered t r e = e ∙ sym (rw (some_covers_name ps n, sym gave ∙ t) refl)

pub ruleset some_laws = (none_covered, some_covered, not-true, not-false, rules)

-- what begins with `*.` has two bytes at least
pub starred_long : (p : List ℕ) (r : Bool) → r ≡ is_starred p → r ≡ true → 2 ≤ length p
unfolding is_starred
starred_long p r gave t = leb-true 2 (length p) (and_left (leb 2 (length p)) (eqb (get_or p 0 0) 42) (and_left (leb 2 (length p) && eqb (get_or p 0 0) 42) (eqb (get_or p 1 0) 46) (sym gave ∙ t)))

-- `follows_dot`: dot is where the first dot of n was found, v what `compare` says of what follows it
module _ (rest n : List ℕ) (dot : ℕ) (found : dot ≡ 0 + index_of 46 (drop 0 n)) where
  pub no_dot_follows : length n ≤ dot → false ≡ follows_dot rest n
  unfolding follows_dot
  no_dot_follows h =
      let k : length n ≤ index_of 46 n = omega arith in
      cc (le-ltb (index_of 46 n) (length n) k)

  pub rest_follows : dot < length n → (v : Bool) → v ≡ same_text rest (take (length n - (dot + 1)) (drop (dot + 1) n)) → v ≡ follows_dot rest n
  unfolding follows_dot
  rest_follows h v e =
      let k : dot ≡ index_of 46 n = omega arith in
      cc (lt-ltb dot (length n) h, take_rest n (dot + 1))

pub ruleset follows_laws = (no_dot_follows, rest_follows, rules)

-- `covers`: r is what `is_starred` gave, v what its other call gave
module _ (p n : List ℕ) (r : Bool) (gave : r ≡ is_starred p) (v : Bool) where
  pub cover_rest : r ≡ true → v ≡ follows_dot (take (length p - 2) (drop 2 p)) n → v ≡ covers_name p n
  unfolding covers_name
  cover_rest t e = cc (take_rest p 2)

  pub cover_whole : r ≡ false → v ≡ same_text p n → v ≡ covers_name p n
  unfolding covers_name
  cover_whole f e = cc

pub ruleset covers_laws = (cover_rest, cover_whole, starred_long, not-true, not-false, rules)

-- `is_pattern`: r is what `is_starred` gave
module _ (p : List ℕ) (r : Bool) (gave : r ≡ is_starred p) (v : Bool) where
  pub pattern_plain : r ≡ false → v ≡ is_name p → v ≡ is_pattern p
  unfolding is_pattern is_wildcard
  pattern_plain f e = simp (sym gave ∙ f, or-false) e

  pub pattern_wild : r ≡ true → v ≡ is_name (take (length p - 2) (drop 2 p)) → v ≡ is_pattern p
  unfolding is_pattern is_wildcard
  pattern_wild t e = cc (starred_no_name p (sym gave ∙ t), take_rest p 2)

pub ruleset pattern_laws = (pattern_plain, pattern_wild, starred_long, not-true, not-false, rules)
