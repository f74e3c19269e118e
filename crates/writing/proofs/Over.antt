-- Laws of texts written into lent memory from a place on: where one stands, and that one after another is the whole. Assumes nothing.
use Prim.Native.Nat.{ℕ, ◌+◌, ◌-◌, ◌<◌, ◌≤◌}
use mathlib.Core.Path.{◌≡◌, sym, ap, ◌∙◌}
use mathlib.Core.List.{List, [], ◌∷◌, ◌++◌, append_assoc, append-nil}
use native.Mathlib.Omega.{arith}
use lib.ListN.{length, take, drop, length-append, length-drop, take-append-drop, drop_of_length-le}
use lib.Seq.{length-take-le, take-append_seam, take-append-le, take_at, drop-append-le, drop-append-add, drop_at, take-take, drop-drop}
use borrow.Author.Rules.{rules}
use borrow.Author.Tests.{lt-leb, le-leb}
use Rattle.lists.specs.Write.{wrote_front}
use Rattle.lists.proofs.Laws.{drop_take, take_rest}
use Rattle.writing.specs.Over.{over}

-- nothing written changes nothing, and neither does what does not fit
pub over_nothing : (at : ℕ) (d : List ℕ) → over at [] d ≡ d
unfolding over wrote_front
over_nothing at d = rw (le-leb 0 (length (drop at d)) (omega arith)) (take-append-drop at d)

pub over_short : (at : ℕ) (t d : List ℕ) → length d < at + length t → d ≡ over at t d
unfolding over wrote_front
over_short at [] d h = sym (over_nothing at d)
over_short at (x ∷ t) d h = rw (lt-leb (length (x ∷ t)) (length (drop at d)) (omega (arith, length-drop at d))) (sym (take-append-drop at d))

-- `put`: its two ways out; y is what `write_front` left in the part of d from `at` on
pub put_outside : (at : ℕ) (t d : List ℕ) → length d < at → d ≡ over at t d
put_outside at t d h = over_short at t d (omega arith)

pub put_inside : (at : ℕ) (t d y : List ℕ) → y ≡ wrote_front t (take (length d - at) (drop at d)) → take at d ++ (y ++ drop (length d - at) (drop at d)) ≡ over at t d
unfolding over
put_inside at t d y e =
    let k : length (drop at d) ≤ length d - at = omega (arith, length-drop at d) in
    rw (e, take_rest d at, drop_of_length-le (drop at d) k, append-nil)

pub ruleset put_laws = (put_outside, put_inside, rules)

-- a text that fits
module _ (at : ℕ) (t d : List ℕ) (fits : at + length t ≤ length d) where
  front : length (take at d) ≡ at
  front = length-take-le at d (omega (arith, fits))

  over_is : over at t d ≡ take at d ++ (t ++ drop (length t) (drop at d))
  unfolding over wrote_front
  over_is = rw (le-leb (length t) (length (drop at d)) (omega (arith, length-drop at d, fits)))

  pub over_fits : over at t d ≡ take at d ++ (t ++ drop (at + length t) d)
  over_fits = over_is ∙ rw (drop-drop (length t) at d)

  pub over_length : length (over at t d) ≡ length d
  over_length =
      ap length over_is
      ∙ omega (arith, fits, front, length-append (take at d) (t ++ drop (length t) (drop at d)), length-append t (drop (length t) (drop at d)), length-drop (length t) (drop at d), length-drop at d)

  -- it stands in its place
  pub over_there : take (length t) (drop at (over at t d)) ≡ t
  over_there = rw (over_is, drop_at (take at d) (t ++ drop (length t) (drop at d)) at front) (take-append_seam t (drop (length t) (drop at d)))

  -- what stands before it, or after it, is as it was
  pub over_before : (m l : ℕ) → m + l ≤ at → take l (drop m (over at t d)) ≡ take l (drop m d)
  over_before m l h =
      let r : List ℕ = t ++ drop (length t) (drop at d) in
      let f : m ≤ length (take at d) = omega (arith, front, h) in
      let g : l ≤ length (drop m (take at d)) = omega (arith, length-drop m (take at d), front, h) in
      let w : l ≤ at - m = omega (arith, h) in
      rw (over_is, drop-append-le m (take at d) r f, take-append-le l (drop m (take at d)) r g, drop_take m at d) (take-take l (at - m) (drop m d) w)

  pub over_after : (m : ℕ) → at + length t ≤ m → drop m (over at t d) ≡ drop m d
  over_after m h =
      let r : List ℕ = drop (length t) (drop at d) in
      let a : m ≡ length (take at d) + (length t + (m - at - length t)) = omega (arith, front, h) in
      let b : at + (length t + (m - at - length t)) ≡ m = omega (arith, h) in
      ap (drop m) over_is
      ∙ (ap (λ (j : ℕ). drop j (take at d ++ (t ++ r))) a
      ∙ (drop-append-add (take at d) (t ++ r) (length t + (m - at - length t))
      ∙ (drop-append-add t r (m - at - length t)
      ∙ (drop-drop (m - at - length t) (length t) (drop at d)
      ∙ (drop-drop (length t + (m - at - length t)) at d ∙ ap (λ (j : ℕ). drop j d) b)))))

-- a text in two parts: the one over the front, and the other after it, either first
module _ (at : ℕ) (p q d : List ℕ) (h : at + length (p ++ q) ≤ length d) where
  both_fit : at + length p + length q ≤ length d
  both_fit = omega (arith, length-append p q)

  first_fits : at + length p ≤ length d
  first_fits = omega (arith, both_fit)

  front_size : length (take at d ++ p) ≡ at + length p
  front_size = omega (arith, length-append (take at d) p, length-take-le at d (omega (arith, both_fit)), both_fit)

  -- all of it, as one text
  whole : over at (p ++ q) d ≡ (take at d ++ p) ++ (q ++ drop (at + length p + length q) d)
  whole =
      let k : at + length (p ++ q) ≡ at + length p + length q = omega (arith, length-append p q) in
      over_fits at (p ++ q) d h ∙ rw (k, append_assoc p q (drop (at + length p + length q) d)) (sym (append_assoc (take at d) p (q ++ drop (at + length p + length q) d)))

  pub over_then : over (at + length p) q (over at p d) ≡ over at (p ++ q) d
  over_then =
      let e : over at p d ≡ (take at d ++ p) ++ drop (at + length p) d = over_fits at p d first_fits ∙ sym (append_assoc (take at d) p (drop (at + length p) d)) in
      let g : at + length p + length q ≤ length (over at p d) = omega (arith, both_fit, over_length at p d first_fits) in
      let r : drop (at + length p + length q) ((take at d ++ p) ++ drop (at + length p) d) ≡ drop (at + length p + length q) d = sym (drop-drop (length q) (at + length p) ((take at d ++ p) ++ drop (at + length p) d)) ∙ rw (drop_at (take at d ++ p) (drop (at + length p) d) (at + length p) front_size, drop-drop (length q) (at + length p) d) in
      over_fits (at + length p) q (over at p d) g
      ∙ rw (e, take_at (take at d ++ p) (drop (at + length p) d) (at + length p) front_size, r, whole)

  pub over_last_first : over at p (over (at + length p) q d) ≡ over at (p ++ q) d
  over_last_first =
      let e : over (at + length p) q d ≡ take (at + length p) d ++ (q ++ drop (at + length p + length q) d) = over_fits (at + length p) q d both_fit in
      let n : length (take (at + length p) d) ≡ at + length p = length-take-le (at + length p) d first_fits in
      let g : at + length p ≤ length (over (at + length p) q d) = omega (arith, both_fit, over_length (at + length p) q d both_fit) in
      over_fits at p (over (at + length p) q d) g
      ∙ rw (e, drop_at (take (at + length p) d) (q ++ drop (at + length p + length q) d) (at + length p) n, take-append-le at (take (at + length p) d) (q ++ drop (at + length p + length q) d) (omega (arith, n)), take-take at (at + length p) d (omega arith), whole)
      (sym (append_assoc (take at d) p (q ++ drop (at + length p + length q) d)))

-- a piece p of a text, and what follows it: x is the slice once p is written, b the place where p ends
module _ (at b : ℕ) (p q d x : List ℕ) (wrote : x ≡ over at p d) (ends : b ≡ at + length p) (h : at + length (p ++ q) ≤ length d) where
  pub step_is : over at (p ++ q) d ≡ over b q x
  step_is = rw (wrote, ends) (sym (over_then at p q d h))

  pub step_fits : b + length q ≤ length x
  step_fits = rw wrote (omega (arith, length-append p q, over_length at p d (omega (arith, length-append p q))))

  pub step_length : length x ≡ length d
  step_length = rw wrote (over_length at p d (omega (arith, length-append p q)))
