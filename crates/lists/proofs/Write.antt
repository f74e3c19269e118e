-- A list t is written to the front of a slice, by a loop byte by byte, or piece by piece. d is the slice at the start, x as it is. Assumes nothing.
use Prim.Native.Nat.{ℕ, ◌+◌, ◌-◌, ◌<◌, ◌≤◌}
use mathlib.Core.Path.{◌≡◌, refl, sym, ap, ◌∙◌}
use mathlib.Core.List.{List, ◌++◌, append_assoc, append-nil}
use native.Mathlib.Numerals.{add-one}
use native.Mathlib.Omega.{arith}
use lib.ListN.{length, get_or, take, drop, set, length-append, length-drop, take-append-drop, drop_of_length-le}
use lib.Seq.{take-suc, set_at, length-take-le, take-length, take_at, drop_at, drop-drop}
use borrow.Author.Rules.{rules}
use borrow.Author.Tests.{lt-leb, le-leb}
use Rattle.lists.specs.Write.{wrote_front}
use Rattle.lists.proofs.Laws.{drop_next, take_rest}

module _ (t d x : List ℕ) (i : ℕ) (inv : x ≡ take i t ++ drop i d) (short : length t ≤ length d) where
  pub write_next : (v : ℕ) → i < length t → v ≡ get_or t i 0 → set x i v ≡ take (i + 1) t ++ drop (i + 1) d
  write_next v h e =
      let k : i < length d = omega arith in
      rw (inv, drop_next d i k, set_at (take i t) (get_or d i 0) (drop (i + 1) d) v i (length-take-le i t (omega arith)), e, add-one i, take-suc t i 0 h, append_assoc)

  pub write_end : length t ≤ i → i ≤ length t → x ≡ t ++ drop (length t) d
  write_end h k =
      let e : i ≡ length t = omega arith in
      inv ∙ rw (e, take-length)

  pub write_length : i ≤ length t → length x ≡ length d
  write_length h = rw (inv, length-append, length-take-le i t h, length-drop) (omega arith)

-- `write_front`: a turn of its loop, and its two ends
pub front_short : (t d : List ℕ) → length d < length t → d ≡ wrote_front t d
unfolding wrote_front
front_short t d h = rw (lt-leb (length t) (length d) h)

module _ (t d x : List ℕ) (i : ℕ) (inv : x ≡ take i t ++ drop i d) (short : length t ≤ length d) where
  pub front_next : i < length t → set x i (get_or t i 0) ≡ take (i + 1) t ++ drop (i + 1) d
  front_next h = write_next t d x i inv short (get_or t i 0) h refl

  pub front_end : length t ≤ i → i ≤ length t → x ≡ wrote_front t d
  unfolding wrote_front
  front_end h k = rw (le-leb (length t) (length d) short) (write_end t d x i inv short h k)

pub ruleset front_laws = (front_short, front_next, front_end, lt-leb, le-leb, rules)

-- A list t is written over the front of d piece by piece: x is the slice as it is, n how many bytes of t stand in it, and
-- t has the piece p, of m bytes, at n, and r after it
module _ (t p r : List ℕ) (n m : ℕ) (size : length p ≡ m) (w : n ≤ length t) (left : drop n t ≡ p ++ r) where
  parted : t ≡ (take n t ++ p) ++ r
  parted = sym (take-append-drop n t) ∙ (ap (λ (y : List ℕ). take n t ++ y) left ∙ sym (append_assoc (take n t) p r))

  front_length : length (take n t ++ p) ≡ n + m
  front_length = omega (arith, length-append (take n t) p, length-take-le n t w)

  pub piece_within : n + m ≤ length t
  piece_within = omega (arith, length-drop n t, ap length left, length-append p r)

  pub piece_take : take (n + m) t ≡ take n t ++ p
  piece_take = ap (take (n + m)) parted ∙ take_at (take n t ++ p) r (n + m) front_length

  pub piece_drop : drop (n + m) t ≡ r
  piece_drop = ap (drop (n + m)) parted ∙ drop_at (take n t ++ p) r (n + m) front_length

  -- y is the part of x from n on, with p written over its front
  module _ (d x y : List ℕ) (front : x ≡ take n t ++ drop n d) (room : length t ≤ length d) (wrote : y ≡ wrote_front p (take (length x - n) (drop n x))) where
    front_is : take n x ≡ take n t
    front_is = ap (take n) front ∙ take_at (take n t) (drop n d) n (length-take-le n t w)

    rest_is : drop n x ≡ drop n d
    rest_is = ap (drop n) front ∙ drop_at (take n t) (drop n d) n (length-take-le n t w)

    part_is : y ≡ p ++ drop (n + m) d
    unfolding wrote_front
    part_is =
        let k : length p ≤ length (drop n d) = omega (arith, length-drop n d, piece_within) in
        wrote ∙ rw (take_rest x n, rest_is, le-leb (length p) (length (drop n d)) k, size, drop-drop m n d)

    pub put_is : take n x ++ (y ++ drop (length x - n) (drop n x)) ≡ take (n + m) t ++ drop (n + m) d
    put_is =
        let k : length (drop n x) ≤ length x - n = omega (arith, length-drop n x) in
        rw (drop_of_length-le (drop n x) k, append-nil, front_is, part_is, piece_take) (sym (append_assoc (take n t) p (drop (n + m) d)))

    pub put_length : length (take (n + m) t ++ drop (n + m) d) ≡ length d
    put_length = omega (arith, length-append (take (n + m) t) (drop (n + m) d), length-take-le (n + m) t piece_within, length-drop (n + m) d, piece_within)
