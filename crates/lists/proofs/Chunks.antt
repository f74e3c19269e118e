-- A list as chunks of eight bytes, as a loop reads it that takes eight bytes a turn. Assumes nothing.
use Prim.Native.Nat.{ℕ, zero, suc, ◌+◌, ◌-◌, ◌*◌, ◌/◌, ◌<◌, ◌≤◌}
use mathlib.Core.Path.{◌≡◌, refl, subst, ◌∙◌}
use mathlib.Core.Bool.{Bool, true, false}
use mathlib.Core.List.{List, []}
use native.Mathlib.Omega.{arith}
use lib.ListN.{length, get_or, take, drop, length-drop}
use lib.Seq.{drop-drop, get_or-drop}
use mir.Val.{Fits}
use mir.Syntax.{w8}
use lib.Dec.{eqb}
use Rattle.std.specs.Int.{w64, from_le_bytes}
use Rattle.std.specs.Simd.{first_chunks}
use Rattle.lists.specs.Bytes.{is_bytes}
use Rattle.lists.specs.Equal.{agree, same_byte}
use Rattle.lists.specs.Words.{number_of, eight_at, marks}
use Rattle.lists.proofs.Laws.{part_length, take_rest}
use Rattle.lists.proofs.Std.{bytes_front, eight_is_number}
use Rattle.lists.proofs.Words.{eight_is, eight_bytes, eight_same, same_next, same_differ}

pub chunk_is : (n count k : ℕ) (u : List ℕ) → k < count → get_or (first_chunks n count u) k [] ≡ take n (drop (n * k) u)
chunk_is n zero k u h = absurd (omega arith)
chunk_is n (suc count) zero u h = let e : n * 0 ≡ 0 = omega arith in rw e refl
chunk_is n (suc count) (suc k) u h =
    let e : n * suc k ≡ n + n * k = omega arith in
    chunk_is n count k (drop n u) (omega arith) ∙ rw (e, drop-drop (n * k) n u) refl

-- chunk k of what stands from `from` on, and the number that its bytes write
module _ (s : List ℕ) (from k : ℕ) (words : List (List ℕ)) (front : words ≡ first_chunks 8 (length (take (length s - from) (drop from s)) / 8) (take (length s - from) (drop from s))) (count : length words ≡ length (take (length s - from) (drop from s)) / 8) (w : from ≤ length s) (h : k < length words) where
  pub chunk_within : from + 8 * k + 8 ≤ length s
  chunk_within =
      let a : length (take (length s - from) (drop from s)) ≡ length s - from = rw (take_rest s from) (length-drop from s) in
      omega arith

  pub chunk_eight : get_or words k [] ≡ eight_at s (from + 8 * k)
  chunk_eight =
      let e : k < length (take (length s - from) (drop from s)) / 8 = omega arith in
      rw front (chunk_is 8 (length (take (length s - from) (drop from s)) / 8) k (take (length s - from) (drop from s)) e ∙ rw (take_rest s from, drop-drop (8 * k) from s) refl)

  chunk_number : (x : ℕ) → x ≡ get_or (get_or words k []) 0 0 + get_or (get_or words k []) 1 0 * 256 + get_or (get_or words k []) 2 0 * 65536 + get_or (get_or words k []) 3 0 * 16777216 + get_or (get_or words k []) 4 0 * 4294967296 + get_or (get_or words k []) 5 0 * 1099511627776 + get_or (get_or words k []) 6 0 * 281474976710656 + get_or (get_or words k []) 7 0 * 72057594037927936 → x ≡ number_of (eight_at s (from + 8 * k))
  unfolding number_of
  chunk_number x e =
      let l = eight_is s (from + 8 * k) chunk_within in
      let f = rw (chunk_eight, l) at e in
      rw l (omega (arith, f))

  chunk_length : length (eight_at s (from + 8 * k)) ≡ 8
  chunk_length = part_length s (from + 8 * k) 8 chunk_within

  chunk_bytes : ((i : ℕ) → Fits w8 (get_or s i 0)) → is_bytes (eight_at s (from + 8 * k)) ≡ true
  chunk_bytes f =
      let i = from + 8 * k in
      eight_bytes s i _ _ _ _ _ _ _ _ chunk_within refl refl refl refl refl refl refl refl (f i).fits (f (i + 1)).fits (f (i + 2)).fits (f (i + 3)).fits (f (i + 4)).fits (f (i + 5)).fits (f (i + 6)).fits (f (i + 7)).fits

  -- what a function gives for that number that gives the marks of any eight bytes: these are the marks of the chunk
  pub chunk_marks : (p : ℕ → Bool) (Q : ℕ → ℕ → Type 0) → ((l : List ℕ) (r : ℕ) → length l ≡ 8 → is_bytes l ≡ true → Q (number_of l) r → r ≡ marks p l) → ((i : ℕ) → Fits w8 (get_or s i 0)) → (x m : ℕ) → x ≡ get_or (get_or words k []) 0 0 + get_or (get_or words k []) 1 0 * 256 + get_or (get_or words k []) 2 0 * 65536 + get_or (get_or words k []) 3 0 * 16777216 + get_or (get_or words k []) 4 0 * 4294967296 + get_or (get_or words k []) 5 0 * 1099511627776 + get_or (get_or words k []) 6 0 * 281474976710656 + get_or (get_or words k []) 7 0 * 72057594037927936 → Q x m → m ≡ marks p (eight_at s (from + 8 * k))
  chunk_marks p Q said f x m e q = said (eight_at s (from + 8 * k)) m chunk_length (chunk_bytes f) (subst (λ z. Q z m) (chunk_number x e) q)

-- two lists of one length, by chunk k of each: n bytes of both, and eight of both by the numbers u and v that they write
module _ (a b : List ℕ) (k : ℕ) where
  module _ (n : ℕ) (x y : List (List ℕ)) (p : x ≡ first_chunks n (length a / n) a) (q : y ≡ first_chunks n (length b / n) b) (same : length a ≡ length b) (h : k < length a / n) where
    pub chunk_left : get_or x k [] ≡ take n (drop (n * k) a)
    chunk_left = rw p (chunk_is n (length a / n) k a h)

    pub chunk_right : get_or y k [] ≡ take n (drop (n * k) b)
    chunk_right = let g : k < length b / n = rw same at h in rw q (chunk_is n (length b / n) k b g)

  pub chunk_same : (x y : List (List ℕ)) → x ≡ first_chunks 8 (length a / 8) a → y ≡ first_chunks 8 (length b / 8) b → length a ≡ length b → k < length a / 8 → ((i : ℕ) → Fits w8 (get_or a i 0)) → ((i : ℕ) → Fits w8 (get_or b i 0)) → (u v : ℕ) → u ≡ from_le_bytes w64 (get_or x k []) → v ≡ from_le_bytes w64 (get_or y k []) → eqb u v ≡ agree same_byte (eight_at a (8 * k)) (eight_at b (8 * k))
  chunk_same x y p q same h fa fb u v d e =
      let wa : 8 * k + 8 ≤ length a = omega arith in
      let wb : 8 * k + 8 ≤ length b = omega arith in
      let la : length (eight_at a (8 * k)) ≡ 8 = part_length a (8 * k) 8 wa in
      let lb : length (eight_at b (8 * k)) ≡ 8 = part_length b (8 * k) 8 wb in
      let du : u ≡ number_of (eight_at a (8 * k)) = rw (d, chunk_left 8 x y p q same h) (eight_is_number (eight_at a (8 * k)) la) in
      let ev : v ≡ number_of (eight_at b (8 * k)) = rw (e, chunk_right 8 x y p q same h) (eight_is_number (eight_at b (8 * k)) lb) in
      let ha : is_bytes (eight_at a (8 * k)) ≡ true = bytes_front 8 (drop (8 * k) a) (λ i. rw (get_or-drop (8 * k) a i 0) (fa (8 * k + i)).fits) in
      let hb : is_bytes (eight_at b (8 * k)) ≡ true = bytes_front 8 (drop (8 * k) b) (λ i. rw (get_or-drop (8 * k) b i 0) (fb (8 * k + i)).fits) in
      eight_same a b (8 * k) u v wa wb du ha ev hb

-- a loop that compares n bytes of each a turn: it stands at i, next at j, and r is what the comparison gave
module _ (n : ℕ) (a b : List ℕ) (i j : ℕ) (next : j ≡ i + n) (inv : agree same_byte a b ≡ agree same_byte (drop i a) (drop i b)) (r : Bool) (gave : r ≡ agree same_byte (take n (drop i a)) (take n (drop i b))) where
  pub chunks_next : r ≡ true → agree same_byte a b ≡ agree same_byte (drop j a) (drop j b)
  chunks_next t = rw next (same_next n a b i r gave inv t)

  pub chunks_differ : r ≡ false → false ≡ agree same_byte a b
  chunks_differ t = same_differ n a b i r gave inv t
