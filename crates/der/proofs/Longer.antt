-- An element is the same in a list as in a front of it that holds it. Assumes nothing.
use Rattle.std.specs.Prelude.{Option, None, Some, Ok}
use Prim.Native.Nat.{ℕ, zero, suc, ◌+◌, ◌-◌, ◌%◌, ◌<◌, ◌≤◌}
use mathlib.Core.Path.{◌≡◌, refl, sym, ◌∙◌}
use mathlib.Core.Bool.{Bool, true, false, cond, ◌&&◌, not}
use mathlib.Core.List.{List, [], ◌∷◌, ◌++◌}
use native.Mathlib.Omega.{arith}
use borrow.Author.Tests.{le-leb, leb-true, ltb-true, ltb-false}
use lib.Dec.{leb, ltb, eqb}
use lib.ListN.{length, get_or, take, drop, length-append, drop_of_length-le, get_or-append}
use lib.Seq.{take-append-le, drop-append-le}
use Rattle.lists.proofs.Bools.{never, and_left, and_right}
use Rattle.der.specs.declared.Head.{Head}
use Rattle.der.specs.Header.{value_of, long_size, short_size, headed, header}
use Rattle.der.specs.Walk as Der
use Rattle.der.proofs.Heads.{end_inside}

size_of : (b : Bool) (v n : ℕ) → cond b (Some v) None ≡ Some n → b ≡ true
size_of true v n e = refl
size_of false v n e = never cc

-- a length that a form gives is the same where more bytes follow
short_longer : (n : ℕ) (t u : List ℕ) (m : ℕ) → short_size n t ≡ Some m → short_size n (t ++ u) ≡ short_size n t
unfolding short_size
short_longer n t u m e =
    let b = size_of (leb n (length t)) n m e in
    rw (b, le-leb n (length (t ++ u)) (omega (arith, leb-true n (length t) b, length-append t u)))

long_longer : (k : ℕ) (t u : List ℕ) (m : ℕ) → long_size k t ≡ Some m → long_size k (t ++ u) ≡ long_size k t
unfolding long_size
long_longer k t u m e =
    let b = size_of (leb 1 k && leb k (length t) && not (eqb (get_or t 0 0) 0) && leb 128 (value_of 0 (take k t)) && leb (value_of 0 (take k t)) (length t - k)) (value_of 0 (take k t)) m e in
    let c = and_left (leb 1 k && leb k (length t) && not (eqb (get_or t 0 0) 0) && leb 128 (value_of 0 (take k t))) (leb (value_of 0 (take k t)) (length t - k)) b in
    let d = and_left (leb 1 k && leb k (length t)) (not (eqb (get_or t 0 0) 0)) (and_left (leb 1 k && leb k (length t) && not (eqb (get_or t 0 0) 0)) (leb 128 (value_of 0 (take k t))) c) in
    let one = leb-true 1 k (and_left (leb 1 k) (leb k (length t)) d) in
    let fits = and_right (leb 1 k) (leb k (length t)) d in
    let room = and_right (leb 1 k && leb k (length t) && not (eqb (get_or t 0 0) 0) && leb 128 (value_of 0 (take k t))) (leb (value_of 0 (take k t)) (length t - k)) b in
    let l = leb-true k (length t) fits in
    let r = leb-true (value_of 0 (take k t)) (length t - k) room in
    let more = length-append t u in
    rw (get_or-append t u 0 0 (omega (arith, one, l)), take-append-le k t u l, fits, room, le-leb k (length (t ++ u)) (omega (arith, l, more)), le-leb (value_of 0 (take k t)) (length (t ++ u) - k) (omega (arith, r, more)))

sized : {A : Type 0} (tag start : ℕ) (z : Option ℕ) (h : Head) → headed tag start z ≡ Some h → ((m : ℕ) → z ≡ Some m → A) → A
unfolding headed
sized tag start (Some m) h e k = k m refl
sized tag start None h e k = never cc

header_longer : (at : ℕ) (t u : List ℕ) (h : Head) → header at t ≡ Some h → header at (t ++ u) ≡ Some h
unfolding header
header_longer at [] u h e = never cc
header_longer at (a ∷ []) u h e = never cc
header_longer at (a ∷ n ∷ t) u h e = go (eqb (a % 32) 31) (ltb n 128) e
  where
    go : (x y : Bool) → cond x None (cond y (headed a (at + 2) (short_size n t)) (headed a (at + 2 + (n - 128)) (long_size (n - 128) t))) ≡ Some h
        → cond x None (cond y (headed a (at + 2) (short_size n (t ++ u))) (headed a (at + 2 + (n - 128)) (long_size (n - 128) (t ++ u)))) ≡ Some h
    go true y e = e
    go false true e = rw (sized a (at + 2) (short_size n t) h e (λ m q. short_longer n t u m q)) e
    go false false e = rw (sized a (at + 2 + (n - 128)) (long_size (n - 128) t) h e (λ m q. long_longer (n - 128) t u m q)) e

-- outside a list no element begins
none_outside : (s : List ℕ) (at : ℕ) (h : Head) → length s ≤ at → header at (drop at s) ≡ Some h → ⊥
unfolding header
none_outside s at h l e = never (let z = drop_of_length-le s l in cc)

-- An element that opens in a list begins inside it.
pub opens_within : (s : List ℕ) (at : ℕ) (h : Head) → header at (drop at s) ≡ Some h → at < length s
opens_within s at h e = go (ltb at (length s)) refl
  where
    go : (b : Bool) → ltb at (length s) ≡ b → at < length s
    go true q = ltb-true at (length s) q
    go false q = absurd (none_outside s at h (ltb-false at (length s) q) e)

-- An element that opens in a list opens, the same, in each list that begins with it.
pub opens_longer : (s t : List ℕ) (at : ℕ) (h : Head) → header at (drop at s) ≡ Some h → header at (drop at (s ++ t)) ≡ Some h
opens_longer s t at h e =
    let l = opens_within s at h e in
    rw (drop-append-le at s t (omega (arith, l))) (header_longer at (drop at s) t h e)

-- what stands in an element is the same where more bytes follow
contents_longer : (walk : Der.Walker) (s t : List ℕ) (h : Head) → h.end ≤ length s → Der.walk_contents walk (s ++ t) h ≡ Der.walk_contents walk s h
unfolding Der.walk_contents
contents_longer walk s t h l = rw (take-append-le h.end s t l)

opened_longer : (walk : Der.Walker) (s t : List ℕ) (at : ℕ) (d : Option Head) (n : ℕ) → header at (drop at s) ≡ d → Der.opened walk s at d ≡ Ok n → Der.opened walk (s ++ t) at (header at (drop at (s ++ t))) ≡ Ok n
unfolding Der.opened
opened_longer walk s t at None n q e = never cc
opened_longer walk s t at (Some h) n q e = rw (opens_longer s t at h q) (contents_longer walk s t h (end_inside s at (Some h) h (sym q) refl) ∙ e)

-- An element that X.690's walk accepts in a list is accepted, the same, in each list that begins with it.
pub walk_longer : (levels : ℕ) (s t : List ℕ) (at n : ℕ) → Der.walk_element levels s at ≡ Ok n → Der.walk_element levels (s ++ t) at ≡ Ok n
unfolding Der.walk_element
walk_longer zero s t at n e = never cc
walk_longer (suc levels) s t at n e = opened_longer (Der.walk_run (Der.walk_element levels)) s t at (header at (drop at s)) n refl e
