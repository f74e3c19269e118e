-- The character strings of an RDATA: their laws, and the turns of the loops over them. Assumes nothing.
use Prim.Native.Nat.{ℕ, zero, suc, min, ◌+◌, ◌-◌, ◌<◌, ◌≤◌}
use mathlib.Core.Path.{◌≡◌, refl, sym, ap, ◌∙◌}
use mathlib.Core.Bool.{Bool, true, false, ◌&&◌, and-true, and-false}
use mathlib.Core.List.{List, [], ◌∷◌, ◌++◌, flatten}
use native.Mathlib.Omega.{arith}
use lib.Dec.{eqb, leb, ltb}
use lib.ListN.{length, get_or, take, drop, length-append, length-drop, take-append-drop, drop_of_length-le}
use Rattle.std.proofs.lemmas.List.{take_min, drop_min}
use borrow.Author.Rules.{rules}
use borrow.Author.Tests.{le-leb, lt-leb}
use Rattle.lists.proofs.Bools.{never, and_both}
use Rattle.lists.specs.Equal.{agree, same_byte}
use Rattle.lists.specs.Span.{begins}
use Rattle.lists.specs.Text.{text}
use Rattle.lists.proofs.Laws.{take_rest}
use Rattle.txt.specs.Rdata.{strings_in, strings, fit_in, strings_fit, is_rdata, joined}
use Rattle.txt.specs.Txt.{is_candidate}

-- ---- the strings one by one: the bound on how many are read is large enough

fit_enough : (k m : ℕ) (s : List ℕ) → length s ≤ k → length s ≤ m → fit_in k s ≡ fit_in m s
unfolding fit_in
fit_enough zero zero s h l = refl
fit_enough zero (suc m) [] h l = refl
fit_enough zero (suc m) (n ∷ s) h l = absurd (omega arith)
fit_enough (suc k) zero [] h l = refl
fit_enough (suc k) zero (n ∷ s) h l = absurd (omega arith)
fit_enough (suc k) (suc m) [] h l = refl
fit_enough (suc k) (suc m) (n ∷ s) h l = rw (fit_enough k m (drop n s) (omega (arith, length-drop n s)) (omega (arith, length-drop n s)))

pub fit_cons : (n : ℕ) (s : List ℕ) → strings_fit (n ∷ s) ≡ (leb n (length s) && strings_fit (drop n s))
unfolding strings_fit fit_in
fit_cons n s = rw (fit_enough (length s) (length (drop n s)) (drop n s) (omega (arith, length-drop n s)) (omega arith))

strings_enough : (k m : ℕ) (s : List ℕ) → length s ≤ k → length s ≤ m → strings_in k s ≡ strings_in m s
unfolding strings_in
strings_enough zero zero s h l = refl
strings_enough zero (suc m) [] h l = refl
strings_enough zero (suc m) (n ∷ s) h l = absurd (omega arith)
strings_enough (suc k) zero [] h l = refl
strings_enough (suc k) zero (n ∷ s) h l = absurd (omega arith)
strings_enough (suc k) (suc m) [] h l = refl
strings_enough (suc k) (suc m) (n ∷ s) h l = rw (strings_enough k m (drop n s) (omega (arith, length-drop n s)) (omega (arith, length-drop n s)))

pub strings_cons : (n : ℕ) (s : List ℕ) → strings (n ∷ s) ≡ take n s ∷ strings (drop n s)
unfolding strings strings_in
strings_cons n s = rw (strings_enough (length s) (length (drop n s)) (drop n s) (omega (arith, length-drop n s)) (omega arith))

pub joined_none : joined [] ≡ []
unfolding joined strings strings_in flatten
joined_none = refl

pub joined_cons : (n : ℕ) (s : List ℕ) → joined (n ∷ s) ≡ take n s ++ joined (drop n s)
unfolding joined flatten
joined_cons n s = rw (strings_cons n s)

pub strings_none : (s : List ℕ) → length s ≡ 0 → strings s ≡ []
unfolding strings strings_in
strings_none [] e = refl
strings_none (n ∷ s) e = absurd (omega arith)

-- a string is cut off where the RDATA ends: n is its length, end the lesser of that and what is left
pub next_string : (s after : List ℕ) (n end : ℕ) → s ≡ n ∷ after → end ≡ min n (length after) → strings s ≡ take end after ∷ strings (take (length after - end) (drop end after))
next_string s after n end e m = rw (e, strings_cons n after, take_rest after end, m, take_min n after, drop_min n after) refl

joined_short_in : (k : ℕ) (s : List ℕ) → length (flatten (strings_in k s)) ≤ length s
unfolding strings_in flatten
joined_short_in zero s = omega arith
joined_short_in (suc k) [] = omega arith
joined_short_in (suc k) (n ∷ s) = omega (arith, joined_short_in k (drop n s), length-append (take n s) (flatten (strings_in k (drop n s))), ap length (take-append-drop n s), length-append (take n s) (drop n s))

pub joined_short : (s : List ℕ) → length (joined s) ≤ length s
unfolding joined strings
joined_short s = joined_short_in (length s) s

-- ---- `is_rdata`: a turn of its loop, and its end

pub fit_none : (s : List ℕ) → length s ≡ 0 → strings_fit s ≡ true
unfolding strings_fit fit_in
fit_none [] e = refl
fit_none (n ∷ s) e = absurd (omega arith)

module _ (s after : List ℕ) (n : ℕ) (e : s ≡ n ∷ after) where
  pub fit_past : length after < n → strings_fit s ≡ false
  fit_past l = rw (e, fit_cons n after, lt-leb n (length after) l) refl

  pub fit_next : n ≤ length after → strings_fit s ≡ strings_fit (take (length after - n) (drop n after))
  fit_next l = rw (e, fit_cons n after, le-leb n (length after) l, take_rest after n) refl

pub rdata_unfit : (s : List ℕ) → strings_fit s ≡ false → false ≡ is_rdata s
unfolding is_rdata
rdata_unfit s e = rw e (sym (and-false (ltb 0 (length s))))

pub rdata_fit : (s : List ℕ) → strings_fit s ≡ true → ltb 0 (length s) ≡ is_rdata s
unfolding is_rdata
rdata_fit s e = rw e (sym (and-true (ltb 0 (length s))))

-- ---- the text of an RDATA, string by string: xs are the strings still to come, x the first of them

abbrev pub tag : List ℕ
tag = text "v=STSv1;"

pub tag_start : (s : List ℕ) → is_candidate (joined s) ≡ begins tag (flatten (strings s))
unfolding is_candidate joined
tag_start s = refl

module _ (xs : List (List ℕ)) (x : List ℕ) (ys : List (List ℕ)) (e : xs ≡ x ∷ ys) where
  pub flatten_next : flatten xs ≡ x ++ flatten ys
  unfolding flatten
  flatten_next = rw e refl

  pub flatten_length : length (flatten xs) ≡ length x + length (flatten ys)
  flatten_length = ap length flatten_next ∙ length-append x (flatten ys)

pub flatten_none : (xs : List (List ℕ)) → xs ≡ [] → flatten xs ≡ []
unfolding flatten
flatten_none xs e = rw e refl

-- ---- `is_tagged`: the tag in one string

begins_short : (p t : List ℕ) → length t < length p → begins p t ≡ false
unfolding begins
begins_short [] t h = absurd (omega arith)
begins_short (x ∷ p) [] h = refl
begins_short (x ∷ p) (y ∷ t) h = rw (begins_short p t (omega arith)) (and-false (eqb y x))

begins_same : (p t : List ℕ) → length p ≤ length t → agree same_byte (take (length p) t) p ≡ begins p t
unfolding begins agree same_byte
begins_same [] t h = refl
begins_same (x ∷ p) [] h = absurd (omega arith)
begins_same (x ∷ p) (y ∷ t) h = rw (begins_same p t (omega arith)) refl

-- what is left of the tag, held against the next n bytes, as many as both have
begins_take : (p x t : List ℕ) (n : ℕ) → n ≤ length p → n ≤ length x → agree same_byte (take n x) (take n p) ≡ true → begins p (x ++ t) ≡ begins (drop n p) (drop n x ++ t)
unfolding begins agree same_byte
begins_take p x t zero hp hx a = refl
begins_take [] x t (suc n) hp hx a = absurd (omega arith)
begins_take (b ∷ p) [] t (suc n) hp hx a = absurd (omega arith)
begins_take (b ∷ p) (c ∷ x) t (suc n) hp hx a =
    let q = and_both (eqb c b) (agree same_byte (take n x) (take n p)) a in
    rw (q.0, begins_take p x t n (omega arith) (omega arith) q.1) refl

begins_differ : (p x t : List ℕ) (n : ℕ) → n ≤ length p → n ≤ length x → agree same_byte (take n x) (take n p) ≡ false → begins p (x ++ t) ≡ false
unfolding begins agree same_byte
begins_differ p x t zero hp hx a = never cc
begins_differ [] x t (suc n) hp hx a = absurd (omega arith)
begins_differ (b ∷ p) [] t (suc n) hp hx a = absurd (omega arith)
begins_differ (b ∷ p) (c ∷ x) t (suc n) hp hx a = go (λ q. begins_differ p x t n (omega arith) (omega arith) q) (eqb c b) a
  where
    go : (agree same_byte (take n x) (take n p) ≡ false → begins p (x ++ t) ≡ false) → (v : Bool) → (v && agree same_byte (take n x) (take n p)) ≡ false → (v && begins p (x ++ t)) ≡ false
    go f true q = f q
    go f false q = refl

-- xs are the strings still to come, p what is left of the tag; n bytes of the string x are held against it
module _ (xs : List (List ℕ)) (x : List ℕ) (ys : List (List ℕ)) (e : xs ≡ x ∷ ys) (p : List ℕ) (n : ℕ) (least : n ≡ min (length x) (length p)) (r : Bool) (gave : r ≡ agree same_byte (take n x) (take n p)) where
  tag_rest : take (length p - n) (drop n p) ≡ drop n p
  tag_rest = take_rest p n

  pub tag_differs : r ≡ false → begins p (flatten xs) ≡ false
  tag_differs f = rw (flatten_next xs x ys e) (begins_differ p x (flatten ys) n (omega arith) (omega arith) (sym gave ∙ f))

  pub tag_next : r ≡ true → begins p (flatten xs) ≡ begins (drop n p) (drop n x ++ flatten ys)
  tag_next t = rw (flatten_next xs x ys e) (begins_take p x (flatten ys) n (omega arith) (omega arith) (sym gave ∙ t))

  pub tag_whole : r ≡ true → length (take (length p - n) (drop n p)) ≡ 0 → begins p (flatten xs) ≡ true
  unfolding begins
  tag_whole t z = tag_next t ∙ go (drop n p) (rw tag_rest at z)
    where
      go : (q : List ℕ) → length q ≡ 0 → begins q (drop n x ++ flatten ys) ≡ true
      go [] z = refl
      go (c ∷ q) z = absurd (omega arith)

  pub tag_goes_on : r ≡ true → (length (take (length p - n) (drop n p)) ≡ 0 → ⊥) → begins p (flatten xs) ≡ begins (take (length p - n) (drop n p)) (flatten ys)
  tag_goes_on t z =
      let z' = rw tag_rest at z in
      let k : length x ≤ n = omega (arith, length-drop n p, z') in
      tag_next t ∙ rw (drop_of_length-le x k, tag_rest) refl

-- an empty string says nothing
pub tag_empty : (p : List ℕ) (xs : List (List ℕ)) (x : List ℕ) (ys : List (List ℕ)) → xs ≡ x ∷ ys → length x ≡ 0 → begins p (flatten xs) ≡ begins p (flatten ys)
tag_empty p xs [] ys e h = rw (flatten_next xs [] ys e)
tag_empty p xs (c ∷ x) ys e h = absurd (omega arith)

pub tag_unended : (p : List ℕ) (xs : List (List ℕ)) → xs ≡ [] → 0 < length p → begins p (flatten xs) ≡ false
unfolding begins flatten
tag_unended [] xs e h = absurd (omega arith)
tag_unended (c ∷ p) xs e h = rw e refl

pub ruleset tag_laws = (tag_start, tag_differs, tag_whole, tag_goes_on, tag_empty, tag_unended)

pub ruleset length_laws = (flatten_length, flatten_none, joined_short)

pub ruleset rdata_laws = (fit_past, fit_next, fit_none, rdata_unfit, rdata_fit)

pub tagged_short : (t : List ℕ) → length t < 8 → false ≡ is_candidate t
unfolding is_candidate
tagged_short t h = sym (begins_short tag t h)

-- r is what `equal` gave of the first eight bytes
pub tagged_same : (t : List ℕ) → 8 ≤ length t → (r : Bool) → r ≡ agree same_byte (take 8 t) tag → r ≡ is_candidate t
unfolding is_candidate
tagged_same t h r gave = gave ∙ begins_same tag t h

pub ruleset tagged_laws = (tagged_short, tagged_same, rules)

-- ---- `is_candidate`: where the first string has room for the tag, only that string counts

begins_first : (p t : List ℕ) (n : ℕ) → length p ≤ n → begins p (take n t ++ joined (drop n t)) ≡ begins p t
unfolding begins
begins_first [] t n h = refl
begins_first (x ∷ p) t zero h = absurd (omega arith)
begins_first (x ∷ p) [] (suc n) h = rw joined_none
begins_first (x ∷ p) (y ∷ t) (suc n) h = rw (begins_first p t n (omega arith))

first_is : (n : ℕ) (s : List ℕ) → 8 ≤ n → is_candidate s ≡ is_candidate (take n s ++ joined (drop n s))
unfolding is_candidate
first_is n s l = sym (begins_first tag s n l)

module _ (s : List ℕ) where
  pub first_none : length s < 1 → false ≡ is_candidate (joined s)
  first_none h = go s h
    where
      go : (s : List ℕ) → length s < 1 → false ≡ is_candidate (joined s)
      go [] h = rw joined_none (tagged_short [] (omega arith))
      go (x ∷ s) h = absurd (omega arith)

  pub first_only : 1 ≤ length s → 8 ≤ get_or s 0 0 → (r : Bool) → r ≡ is_candidate (take (length s - 1) (drop 1 s)) → r ≡ is_candidate (joined s)
  first_only z l r e = e ∙ (ap is_candidate (take_rest s 1) ∙ go s z l)
    where
      go : (s : List ℕ) → 1 ≤ length s → 8 ≤ get_or s 0 0 → is_candidate (drop 1 s) ≡ is_candidate (joined s)
      go [] z l = absurd (omega arith)
      go (n ∷ s) z l = rw (joined_cons n s) (first_is n s l)

pub ruleset first_laws = (first_none, first_only, rules)
