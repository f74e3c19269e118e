-- The order is pinned down: no other list has each host before all that follow it, and holds exactly the hosts given. Assumes nothing.
use Prim.Native.Nat.{ℕ, suc, ◌<◌}
use mathlib.Core.Path.{◌≡◌, refl, sym, ◌∙◌}
use mathlib.Core.Bool.{Bool, true, false, cond, not, ◌&&◌}
use mathlib.Core.List.{List, [], ◌∷◌}
use native.Mathlib.Omega.{arith}
use lib.Dec.{eqb}
use borrow.Author.Tests.{eq-eqb, eqb-true}
use Rattle.lists.specs.Bytes.{all}
use Rattle.messages.specs.declared.Host.{Host}
use Rattle.messages.specs.Hosts.{hosts_of, in_order}
use Rattle.messages.specs.Order.{comes_before, is_ordered, how_many}
use Rattle.lists.proofs.Bools.{apart, and_left, and_right}
use Rattle.lists.proofs.All.{all_more}
use Rattle.messages.proofs.Order.{before_turn, same_hosts, ordered}

-- the same host
abbrev same : Host → Host → Bool
same x y = eqb x.preference y.preference && (eqb x.verdict y.verdict && eqb x.position y.position)

same_is : (x y : Host) → same x y ≡ true → x ≡ y
same_is x y h =
    let rest = and_right (eqb x.preference y.preference) (eqb x.verdict y.verdict && eqb x.position y.position) h in
    let p : x.preference ≡ y.preference = eqb-true x.preference y.preference (and_left (eqb x.preference y.preference) (eqb x.verdict y.verdict && eqb x.position y.position) h) in
    let v : x.verdict ≡ y.verdict = eqb-true x.verdict y.verdict (and_left (eqb x.verdict y.verdict) (eqb x.position y.position) rest) in
    let k : x.position ≡ y.position = eqb-true x.position y.position (and_right (eqb x.verdict y.verdict) (eqb x.position y.position) rest) in
    together x.preference y.preference x.verdict y.verdict x.position y.position p v k
  where
    together : (a b c d e f : ℕ) → a ≡ b → c ≡ d → e ≡ f → ◌≡◌ {A = Host} (record { preference = a; verdict = c; position = e }) (record { preference = b; verdict = d; position = f })
    together a b c d e f p v k = rw (p, v, k)

same_self : (x : Host) → same x x ≡ true
same_self x = rw (eq-eqb x.preference x.preference refl, eq-eqb x.verdict x.verdict refl, eq-eqb x.position x.position refl)

same_turn : (x y : Host) → same x y ≡ false → same y x ≡ false
same_turn x y h = go (same y x) refl
  where
    go : (t : Bool) → same y x ≡ t → t ≡ false
    go true e = sym (same_self x) ∙ rw (same_is y x e) at h
    go false e = refl

none_pass : (p : Host → Bool) (xs : List Host) → all (λ (x : Host). not (p x)) xs ≡ true → how_many p xs ≡ 0
unfolding all how_many
none_pass p [] h = refl
none_pass p (x ∷ xs) h = go (none_pass p xs) (p x) h
  where
    go : (all (λ (y : Host). not (p y)) xs ≡ true → how_many p xs ≡ 0) → (t : Bool) → (not t && all (λ (y : Host). not (p y)) xs) ≡ true → cond t (suc (how_many p xs)) (how_many p xs) ≡ 0
    go ih true k = apart k
    go ih false k = ih k

-- x is among y and the hosts after it, and is not y: y comes before x
later_host : (x y : Host) (ys : List Host) → all (comes_before y) ys ≡ true → same x y ≡ false → 0 < how_many (same x) (y ∷ ys) → comes_before y x ≡ true
unfolding how_many
later_host x y ys o d h = go (comes_before y x) refl
  where
    apart_from : comes_before y x ≡ false → (z : Host) → comes_before y z ≡ true → (t : Bool) → same x z ≡ t → not t ≡ true
    apart_from f z b true e = apart (sym f ∙ rw (same_is x z e) b)
    apart_from f z b false e = refl

    go : (t : Bool) → comes_before y x ≡ t → t ≡ true
    go true f = refl
    go false f =
        let n : how_many (same x) ys ≡ 0 = none_pass (same x) ys (all_more (comes_before y) (λ (z : Host). not (same x z)) (λ z b. apart_from f z b (same x z) refl) ys o) in
        let m : 0 < how_many (same x) ys = rw d at h in
        absurd (omega arith)

some : (x : Host) (xs : List Host) → 0 < how_many (same x) (x ∷ xs)
unfolding how_many
some x xs = rw (same_self x) (omega arith)

fewer : (t : Bool) (a b : ℕ) → cond t (suc a) a ≡ cond t (suc b) b → a ≡ b
fewer true a b h = omega arith
fewer false a b h = h

-- two lists that are ordered and hold the same hosts are one
pub one_order : (xs ys : List Host) → is_ordered xs ≡ true → is_ordered ys ≡ true → ((p : Host → Bool) → how_many p xs ≡ how_many p ys) → xs ≡ ys
unfolding is_ordered how_many
one_order [] [] o q f = refl
one_order [] (y ∷ ys) o q f = absurd (omega (arith, f (λ z. true)))
one_order (x ∷ xs) [] o q f = absurd (omega (arith, f (λ z. true)))
one_order (x ∷ xs) (y ∷ ys) o q f = go (one_order xs ys (and_right (all (comes_before x) xs) (is_ordered xs) o) (and_right (all (comes_before y) ys) (is_ordered ys) q)) (same x y) refl
  where
    go : (((p : Host → Bool) → how_many p xs ≡ how_many p ys) → xs ≡ ys) → (t : Bool) → same x y ≡ t → x ∷ xs ≡ y ∷ ys
    go ih true e =
        let u : x ≡ y = same_is x y e in
        let v : xs ≡ ys = ih (λ p. fewer (p x) (how_many p xs) (how_many p ys) (rw (sym u) at (f p))) in
        cc
    go ih false e =
        let a : comes_before y x ≡ true = later_host x y ys (and_left (all (comes_before y) ys) (is_ordered ys) q) e (omega (arith, f (same x), some x xs)) in
        let b : comes_before x y ≡ true = later_host y x xs (and_left (all (comes_before x) xs) (is_ordered xs) o) (same_turn x y e) (omega (arith, f (same y), some y ys)) in
        apart (sym (before_turn x y b) ∙ a)

-- the order of a message's hosts is the only one
pub only_order : (ps vs : List ℕ) (ys : List Host) → is_ordered ys ≡ true → ((p : Host → Bool) → how_many p ys ≡ how_many p (hosts_of ps vs)) → ys ≡ in_order (hosts_of ps vs)
only_order ps vs ys o f = one_order ys (in_order (hosts_of ps vs)) o (ordered ps vs) (λ p. f p ∙ sym (same_hosts p (hosts_of ps vs)))
