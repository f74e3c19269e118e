-- Numbers as four bytes each, and pieces that are written one after another over the front of memory. Assumes nothing.
use Prim.Native.Nat.{ℕ, ◌+◌, ◌/◌, ◌%◌, ◌^◌, ◌<◌, ◌≤◌}
use mathlib.Core.Path.{◌≡◌, refl, sym, ap, ◌∙◌}
use mathlib.Core.List.{List, [], ◌∷◌, ◌++◌, append-nil, append_assoc}
use native.Mathlib.Omega.{arith}
use borrow.Rule.Slice.PartMut.{put_mid}
use lib.ListN.{length, take, drop, length-append, length-drop}
use lib.Seq.{take_at, drop_at, take-length, length-take-le, drop-drop}
use Rattle.std.specs.Int.{to_be_bytes, w32}
use Rattle.lists.proofs.Write.{piece_within, piece_take, piece_drop}
use Rattle.numbers.specs.Numbers.{written}

pub four_are : (n : ℕ) → n < 2 ^ 32 → to_be_bytes w32 n ≡ written (n ∷ [])
unfolding written
four_are n h = let z : n / 16777216 % 256 ≡ n / 16777216 = omega arith in rw z

-- of a text t, n bytes stand in the output, which was d and is x, and `left` is still to come
pub record Put (t d x left : List ℕ) (n : ℕ) : Type 0 where
  pub within : n ≤ length t
  pub rest : drop n t ≡ left
  pub wrote : x ≡ take n t ++ drop n d
  pub room : length t ≤ length d
  pub same : length x ≡ length d

pub put_start : (t d : List ℕ) → length t ≤ length d → Put t d d t 0
put_start t d h = record { within = omega arith; rest = refl; wrote = refl; room = h; same = refl }

module _ (t d x left : List ℕ) (n : ℕ) (so : Put t d x left n) where
  -- the next piece p is copied to the place n
  module _ (p r : List ℕ) (next : left ≡ p ++ r) where
    pub put_within : n + length p ≤ length t
    put_within = piece_within t p r n (length p) refl so.within (so.rest ∙ next)

    pub put_next : (y : List ℕ) (m k : ℕ) → y ≡ p → m ≡ length p → k ≡ m → Put t d (put_mid n k x y) r (n + m)
    put_next y m k is_y size is_k =
        let e = so.rest ∙ next in
        let w : n + m ≤ length t = omega (arith, put_within) in
        let front : take n x ≡ take n t = ap (take n) so.wrote ∙ take_at (take n t) (drop n d) n (length-take-le n t so.within) in
        let back : drop n x ≡ drop n d = ap (drop n) so.wrote ∙ drop_at (take n t) (drop n d) n (length-take-le n t so.within) in
        let z : put_mid n k x y ≡ take (n + m) t ++ drop (n + m) d = rw (is_k, front, back, is_y, drop-drop m n d, piece_take t p r n m (sym size) so.within e) (sym (append_assoc (take n t) p (drop (n + m) d))) in
        record {
          within = w;
          rest = piece_drop t p r n m (sym size) so.within e;
          wrote = z;
          room = so.room;
          same = rw z (omega (arith, w, so.room, length-append (take (n + m) t) (drop (n + m) d), length-take-le (n + m) t w, length-drop (n + m) d));
        }

    pub put_fits : n + length p ≤ length x
    put_fits = omega (arith, put_within, so.room, so.same)

  -- all of it stands there
  pub put_end : left ≡ [] → take n x ≡ t
  put_end e =
      let z : n ≡ length t = omega (arith, length-drop n t, ap length (so.rest ∙ e), so.within) in
      rw (so.wrote, z, take-length) (take_at t (drop (length t) d) (length t) refl)

-- two numbers and a list of numbers, copied one after another
pub places_are : (a b : ℕ) (l d u v w : List ℕ) (k : ℕ) → u ≡ written (a ∷ []) → v ≡ written (b ∷ []) → w ≡ l → 8 + length l ≤ length d → k ≡ length l
    → take (8 + length l) (put_mid 8 k (put_mid 4 4 (put_mid 0 4 d u) v) w) ≡ written (a ∷ b ∷ []) ++ l
unfolding written
places_are a b l d u v w k is_u is_v is_w room is_k =
    let p = written (a ∷ []) in
    let q = written (b ∷ []) in
    let t = p ++ (q ++ l) in
    let none : Put t d d t 0 = put_start t d (omega (arith, room)) in
    let one : Put t d (put_mid 0 4 d u) (q ++ l) 4 = put_next t d d t 0 none p (q ++ l) refl u 4 4 is_u refl refl in
    let two : Put t d (put_mid 4 4 (put_mid 0 4 d u) v) l 8 = put_next t d (put_mid 0 4 d u) (q ++ l) 4 one q l refl v 4 4 is_v refl refl in
    put_end t d _ [] (8 + length l) (put_next t d (put_mid 4 4 (put_mid 0 4 d u) v) l 8 two l [] (sym (append-nil l)) w (length l) k is_w refl is_k) refl
