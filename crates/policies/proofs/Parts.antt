-- The lines of a body one by one, as other crates read them: the ways out of `line_to`, `is_mx_at` and `line_value`. Assumes nothing.
use Prim.Native.Nat.{ℕ, zero, suc, ◌+◌, ◌-◌, ◌<◌, ◌≤◌}
use mathlib.Core.Path.{◌≡◌, refl, sym, ap, ◌∙◌}
use mathlib.Core.Bool.{Bool, true, false, cond, not, ◌&&◌, and-true, and-false}
use mathlib.Core.List.{List, [], ◌∷◌, ◌++◌}
use native.Mathlib.Omega.{arith}
use borrow.Author.Rules.{rules}
use borrow.Author.Tests.{lt-ltb, le-ltb, eq-eqb, ne_eqb, eqb-true, not-true}
use lib.Dec.{ltb, eqb}
use lib.ListN.{length, get_or, take, drop, length-drop, drop_of_length-le}
use lib.Seq.{take-nil, take_all, get_or-drop}
use Rattle.lists.specs.Bytes.{all}
use Rattle.lists.specs.Equal.{agree, same_byte, same_bytes}
use Rattle.lists.specs.Split.{index_of}
use Rattle.lists.specs.Text.{text}
use Rattle.lists.proofs.Bools.{never, apart, and_left, and_right, and_both, and_intro, and_swap}
use Rattle.lists.proofs.Laws.{ltb_suc, drop_next, take_rest}
use Rattle.lists.proofs.Span.{begins_whole}
use Rattle.lists.specs.Span.{span_of, begins, trimmed_length}
use Rattle.policies.specs.Fields.{name_of, is_named, value_of}
use Rattle.policies.specs.Reader.{text_end, line_end, line_to, line_at}

-- `line_to`
module _ (s : List ℕ) (at e : ℕ) where
  pub line_outside : length s ≤ at → take 0 (drop 0 s) ≡ line_to s at e
  line_outside h = rw (drop_of_length-le s h, take-nil (text_end s at e - at))

  pub line_empty : e ≤ at → take (at - at) (drop at s) ≡ line_to s at e
  unfolding text_end
  line_empty h =
      let nothing : at - at ≡ e - at = omega arith in
      rw (le-ltb at e h, and-false (ltb e (length s)), nothing)

  pub line_open : length s < e → take (length s - at) (drop at s) ≡ line_to s at e
  unfolding text_end
  line_open h =
      let all_of_it : length (drop at s) ≤ e - at = omega (arith, length-drop at s) in
      rw (le-ltb e (length s) (omega arith), take_rest s at, take_all (e - at) (drop at s) all_of_it)

  module _ (t : ℕ) (x : t ≡ text_end s at e) where
    pub text_from : at < e → at ≤ t
    unfolding text_end
    text_from h = rw x (go (ltb e (length s) && ltb at e && eqb (get_or s (e - 1) 0) 13))
      where
        go : (b : Bool) → at ≤ cond b (e - 1) e
        go true = omega arith
        go false = omega arith

    pub text_to : e ≤ length s → t ≤ length s
    unfolding text_end
    text_to h = rw x (go (ltb e (length s) && ltb at e && eqb (get_or s (e - 1) 0) 13))
      where
        go : (b : Bool) → cond b (e - 1) e ≤ length s
        go true = omega arith
        go false = omega arith

  pub line_is : (t : ℕ) → t ≡ text_end s at e → take (t - at) (drop at s) ≡ line_to s at e
  line_is t x = rw x

pub ruleset line_to_laws = (line_outside, line_empty, line_open, line_is, text_from, text_to, rules)

-- `is_mx_at`: a line has a name exactly where it begins with the name and a colon
named_begins : (n l : List ℕ) → all (λ (b : ℕ). not (eqb b 58)) n ≡ true → is_named n l ≡ begins (n ++ (58 ∷ [])) l
unfolding is_named name_of index_of agree same_byte begins all
named_begins [] [] h = refl
named_begins [] (y ∷ s) h = go (eqb y 58)
  where
    go : (t : Bool) → (ltb (cond t 0 (suc (index_of 58 s))) (suc (length s)) && same_bytes (take (cond t 0 (suc (index_of 58 s))) (y ∷ s)) []) ≡ (t && true)
    go true = rw (lt-ltb 0 (suc (length s)) (omega arith))
    go false = simp and-false
named_begins (x ∷ n) [] h = refl
named_begins (x ∷ n) (y ∷ s) h = go (eqb y 58) refl (named_begins n s (and_right (not (eqb x 58)) (all (λ (b : ℕ). not (eqb b 58)) n) h))
  where
    go : (t : Bool) → eqb y 58 ≡ t → is_named n s ≡ begins (n ++ (58 ∷ [])) s → (ltb (cond t 0 (suc (index_of 58 s))) (suc (length s)) && same_bytes (take (cond t 0 (suc (index_of 58 s))) (y ∷ s)) (x ∷ n)) ≡ (eqb y x && begins (n ++ (58 ∷ [])) s)
    go true e ih =
        let a : eqb x 58 ≡ false = not-true (eqb x 58) (and_left (not (eqb x 58)) (all (λ (b : ℕ). not (eqb b 58)) n) h) in
        let b : eqb y x ≡ false = ne_eqb y x (λ z. apart (sym a ∙ eq-eqb x 58 (sym z ∙ eqb-true y 58 e))) in
        rw b (simp and-false)
    go false e ih = rw (ltb_suc (index_of 58 s) (length s), ← ih) (and_swap (ltb (index_of 58 s) (length s)) (eqb y x) (same_bytes (take (index_of 58 s) s) n))

mx_begins : (l : List ℕ) → is_named (text "mx") l ≡ begins (text "mx:") l
unfolding all
mx_begins l = named_begins (text "mx") l refl

-- where the body goes on with `mx:`, the line has room for it; so whether it does may be asked of the body
front_begins : (p l : List ℕ) (k : ℕ) → begins p (take k l) ≡ true → begins p l ≡ true
unfolding begins
front_begins [] l k h = refl
front_begins (x ∷ p) [] zero h = h
front_begins (x ∷ p) [] (suc k) h = h
front_begins (x ∷ p) (y ∷ l) zero h = never cc
front_begins (x ∷ p) (y ∷ l) (suc k) h =
    let b = and_both (eqb y x) (begins p (take k l)) h in
    and_intro (eqb y x) (begins p l) b.0 (front_begins p l k b.1)

module _ (s : List ℕ) (at : ℕ) where
  abbrev room : ℕ
  room = text_end s at (line_end s at) - at

  mx_room : (r : List ℕ) → drop at s ≡ 109 ∷ 120 ∷ 58 ∷ r → 3 ≤ room
  unfolding text_end line_end index_of
  mx_room r e = go (index_of 10 r) refl
    where
      ends : index_of 10 (drop at s) ≡ suc (suc (suc (index_of 10 r)))
      ends = ap (index_of 10) e

      farther : (b : Bool) (n : ℕ) → at + 4 ≤ n → 3 ≤ cond b (n - 1) n - at
      farther true n h = omega arith
      farther false n h = omega arith

      go : (j : ℕ) → index_of 10 r ≡ j → 3 ≤ room
      go zero f =
          let n : at + index_of 10 (drop at s) ≡ at + 3 = omega (arith, ends) in
          let i : at + 3 - 1 ≡ at + 2 = omega arith in
          let colon : get_or s (at + 3 - 1) 0 ≡ 58 = ap (λ (k : ℕ). get_or s k 0) i ∙ (sym (get_or-drop at s 2 0) ∙ ap (λ (l : List ℕ). get_or l 2 0) e) in
          let no_cr : eqb (get_or s (at + 3 - 1) 0) 13 ≡ false = ap (λ (b : ℕ). eqb b 13) colon in
          let whole : cond (ltb (at + 3) (length s) && ltb at (at + 3) && eqb (get_or s (at + 3 - 1) 0) 13) (at + 3 - 1) (at + 3) ≡ at + 3 = rw no_cr (simp and-false) in
          rw (n, whole) (omega arith)
      go (suc j) f = farther (ltb (at + index_of 10 (drop at s)) (length s) && ltb at (at + index_of 10 (drop at s)) && eqb (get_or s (at + index_of 10 (drop at s) - 1) 0) 13) (at + index_of 10 (drop at s)) (omega (arith, ends, f))

  pub line_mx : is_named (text "mx") (line_at s at) ≡ begins (text "mx:") (drop at s)
  unfolding line_at begins
  line_mx = mx_begins (take room (drop at s)) ∙ go (begins (text "mx:") (drop at s)) refl (begins (text "mx:") (take room (drop at s))) refl
    where
      go : (p : Bool) → begins (text "mx:") (drop at s) ≡ p → (q : Bool) → begins (text "mx:") (take room (drop at s)) ≡ q → q ≡ p
      go true e true f = refl
      go true e false f =
          let r : List ℕ = drop 3 (drop at s) in
          let whole : drop at s ≡ 109 ∷ 120 ∷ 58 ∷ r = begins_whole (text "mx:") (drop at s) e in
          let three : room ≡ suc (suc (suc (room - 3))) = omega (arith, mx_room r whole) in
          sym f ∙ (ap (λ (l : List ℕ). begins (text "mx:") (take room l)) whole ∙ ap (λ (k : ℕ). begins (text "mx:") (take k (109 ∷ 120 ∷ 58 ∷ r))) three)
      go false e true f = apart (sym e ∙ front_begins (text "mx:") (drop at s) room f)
      go false e false f = refl

  too_short : length (drop at s) < 3 → false ≡ is_named (text "mx") (line_at s at)
  too_short h = go (begins (text "mx:") (drop at s)) refl
    where
      go : (b : Bool) → begins (text "mx:") (drop at s) ≡ b → false ≡ is_named (text "mx") (line_at s at)
      go false e = sym (line_mx ∙ e)
      go true e = absurd (omega (arith, h, ap length (begins_whole (text "mx:") (drop at s) e)))

  pub mx_outside : length s < at → false ≡ is_named (text "mx") (line_at s at)
  mx_outside h = too_short (omega (arith, length-drop at s))

  pub mx_short : at ≤ length s → length s - at < 3 → false ≡ is_named (text "mx") (line_at s at)
  mx_short w h = too_short (omega (arith, length-drop at s))

  module _ (w : at ≤ length s) (h : 3 ≤ length s - at) where
    by_bytes : is_named (text "mx") (line_at s at) ≡ (eqb (get_or s at 0) 109 && (eqb (get_or s (at + 1) 0) 120 && (eqb (get_or s (at + 2) 0) 58 && true)))
    unfolding begins
    by_bytes =
        let two : at + 1 + 1 ≡ at + 2 = omega arith in
        let three : drop at s ≡ get_or s at 0 ∷ get_or s (at + 1) 0 ∷ get_or s (at + 2) 0 ∷ drop (at + 2 + 1) s = drop_next s at (omega arith) ∙ ap (λ (l : List ℕ). get_or s at 0 ∷ l) (drop_next s (at + 1) (omega arith) ∙ ap (λ (k : ℕ). get_or s (at + 1) 0 ∷ drop k s) two ∙ ap (λ (l : List ℕ). get_or s (at + 1) 0 ∷ l) (drop_next s (at + 2) (omega arith))) in
        line_mx ∙ ap (begins (text "mx:")) three

    pub mx_first : (get_or s at 0 ≡ 109 → ⊥) → false ≡ is_named (text "mx") (line_at s at)
    mx_first d = sym (by_bytes ∙ rw (ne_eqb (get_or s at 0) 109 d))

    module _ (m : get_or s at 0 ≡ 109) where
      pub mx_second : (get_or s (at + 1) 0 ≡ 120 → ⊥) → false ≡ is_named (text "mx") (line_at s at)
      mx_second d = sym (by_bytes ∙ rw (eq-eqb (get_or s at 0) 109 m, ne_eqb (get_or s (at + 1) 0) 120 d))

      pub mx_third : get_or s (at + 1) 0 ≡ 120 → eqb (get_or s (at + 2) 0) 58 ≡ is_named (text "mx") (line_at s at)
      mx_third x = sym (by_bytes ∙ rw (eq-eqb (get_or s at 0) 109 m, eq-eqb (get_or s (at + 1) 0) 120 x) (and-true (eqb (get_or s (at + 2) 0) 58)))

pub ruleset mx_at_laws = (mx_outside, mx_short, mx_first, mx_second, mx_third)

-- `line_value`: c is what `find` gave
module _ (l : List ℕ) (c : ℕ) (found : c ≡ 0 + index_of 58 (drop 0 l)) where
  pub colon_is : c ≡ index_of 58 l
  colon_is = omega arith

  pub no_value : length l ≤ c → take 0 (drop 0 l) ≡ value_of l
  unfolding value_of span_of trimmed_length
  no_value h =
      let k : length l ≤ index_of 58 l + 1 = omega (arith, colon_is) in
      rw (drop_of_length-le l k)

pub ruleset line_value_laws = (no_value, colon_is, rules)
