-- The order of the hosts: `in_order` holds exactly the hosts given, each before all that follow it. Assumes nothing.
use Prim.Native.Nat.{ℕ, zero, suc, ◌+◌, ◌<◌, ◌≤◌}
use mathlib.Core.Path.{◌≡◌, refl, sym, ◌∙◌}
use mathlib.Core.Bool.{Bool, true, false, cond, ◌&&◌, ◌||◌}
use mathlib.Core.List.{List, [], ◌∷◌}
use mathlib.Core.Logic.{⊎_elim}
use native.Mathlib.Nat.{eq-or-lt_of_le}
use native.Mathlib.Omega.{arith}
use lib.Dec.{eqb, leb, ltb}
use lib.ListN.{length, drop, drop_of_length-le}
use borrow.Author.Tests.{lt-ltb, le-ltb, eq-eqb, ne_eqb, ltb-true, ltb-false, leb-true, leb-false, eqb-true, eqb-false}
use Rattle.lists.specs.Bytes.{all}
use Rattle.lists.proofs.Laws.{drop_next}
use Rattle.messages.specs.declared.Host.{Host}
use Rattle.messages.specs.Hosts.{hosts_from, hosts_of, insert, in_order}
use Rattle.messages.specs.Order.{comes_before, is_ordered, how_many, host_at}
use Rattle.lists.proofs.Bools.{apart, and_left, and_right, and_intro, and_swap}
use Rattle.lists.proofs.All.{all_both}

-- which of two hosts comes first
pub before_lower : (x y : Host) → x.preference < y.preference → comes_before x y ≡ true
unfolding comes_before
before_lower x y h = rw (lt-ltb x.preference y.preference h)

pub before_given : (x y : Host) → x.preference ≤ y.preference → x.position < y.position → comes_before x y ≡ true
unfolding comes_before
before_given x y h k =
    ⊎_elim
    (λ (e : x.preference ≡ y.preference). rw (le-ltb x.preference y.preference (omega arith), eq-eqb x.preference y.preference e, lt-ltb x.position y.position k))
    (λ (l : x.preference < y.preference). rw (lt-ltb x.preference y.preference l))
    (eq-or-lt_of_le h)

pub before_not : (x y : Host) → y.preference ≤ x.preference → (y.preference ≡ x.preference → y.position ≤ x.position) → comes_before x y ≡ false
unfolding comes_before
before_not x y h k =
    ⊎_elim
    (λ (e : y.preference ≡ x.preference). rw (le-ltb x.preference y.preference h, eq-eqb x.preference y.preference (sym e), le-ltb x.position y.position (k e)))
    (λ (l : y.preference < x.preference). rw (le-ltb x.preference y.preference h, ne_eqb x.preference y.preference (λ e. omega arith)))
    (eq-or-lt_of_le h)

-- what it says of the two that x comes first, or does not
pub before_facts : (x y : Host) → comes_before x y ≡ true → (x.preference ≤ y.preference) × (x.preference ≡ y.preference → x.position < y.position)
unfolding comes_before
before_facts x y h = go (ltb x.preference y.preference) refl (eqb x.preference y.preference) refl (ltb x.position y.position) refl h
  where
    go : (s : Bool) → ltb x.preference y.preference ≡ s → (t : Bool) → eqb x.preference y.preference ≡ t → (u : Bool) → ltb x.position y.position ≡ u → (s || t && u) ≡ true → (x.preference ≤ y.preference) × (x.preference ≡ y.preference → x.position < y.position)
    go true a t b u c k = let l : x.preference < y.preference = ltb-true x.preference y.preference a in (omega arith, λ e. absurd (omega arith))
    go false a true b true c k = (omega (arith, eqb-true x.preference y.preference b), λ e. ltb-true x.position y.position c)
    go false a true b false c k = apart k
    go false a false b u c k = apart k

pub before_fails : (x y : Host) → comes_before x y ≡ false → (y.preference ≤ x.preference) × (x.preference ≡ y.preference → y.position ≤ x.position)
unfolding comes_before
before_fails x y h = go (ltb x.preference y.preference) refl (eqb x.preference y.preference) refl (ltb x.position y.position) refl h
  where
    go : (s : Bool) → ltb x.preference y.preference ≡ s → (t : Bool) → eqb x.preference y.preference ≡ t → (u : Bool) → ltb x.position y.position ≡ u → (s || t && u) ≡ false → (y.preference ≤ x.preference) × (x.preference ≡ y.preference → y.position ≤ x.position)
    go true a t b u c k = apart (sym k)
    go false a true b true c k = apart (sym k)
    go false a true b false c k = (omega (arith, eqb-true x.preference y.preference b), λ e. ltb-false x.position y.position c)
    go false a false b u c k = (ltb-false x.preference y.preference a, λ e. absurd (eqb-false x.preference y.preference b e))

pub before_turn : (x y : Host) → comes_before x y ≡ true → comes_before y x ≡ false
before_turn x y h =
    let f = before_facts x y h in
    before_not y x f.0 (λ e. let l : x.position < y.position = f.1 e in omega arith)

pub before_self : (x : Host) → comes_before x x ≡ false
before_self x = before_not x x (omega arith) (λ e. omega arith)

-- `insert` puts one host more into a list, and moves no other out
pub all_insert : (p : Host → Bool) (h : Host) (xs : List Host) → all p (insert h xs) ≡ (p h && all p xs)
unfolding all insert
all_insert p h [] = refl
all_insert p h (x ∷ xs) = go (all_insert p h xs) (leb h.preference x.preference)
  where
    go : all p (insert h xs) ≡ (p h && all p xs) → (t : Bool) → all p (cond t (h ∷ x ∷ xs) (x ∷ insert h xs)) ≡ (p h && (p x && all p xs))
    go ih true = refl
    go ih false = rw ih (and_swap (p x) (p h) (all p xs))

pub all_in_order : (p : Host → Bool) (hs : List Host) → all p (in_order hs) ≡ all p hs
unfolding all in_order
all_in_order p [] = refl
all_in_order p (h ∷ hs) = all_insert p h (in_order hs) ∙ rw (all_in_order p hs)

count_insert : (p : Host → Bool) (h : Host) (xs : List Host) → how_many p (insert h xs) ≡ how_many p (h ∷ xs)
unfolding how_many insert
count_insert p h [] = refl
count_insert p h (x ∷ xs) = go (count_insert p h xs) (leb h.preference x.preference)
  where
    swap : (s t : Bool) (n : ℕ) → cond s (suc (cond t (suc n) n)) (cond t (suc n) n) ≡ cond t (suc (cond s (suc n) n)) (cond s (suc n) n)
    swap true true n = refl
    swap true false n = refl
    swap false true n = refl
    swap false false n = refl

    go : how_many p (insert h xs) ≡ how_many p (h ∷ xs) → (t : Bool) → how_many p (cond t (h ∷ x ∷ xs) (x ∷ insert h xs)) ≡ how_many p (h ∷ x ∷ xs)
    go ih true = refl
    go ih false = rw ih (swap (p x) (p h) (how_many p xs))

-- the order holds exactly the hosts given: as many pass any test
pub same_hosts : (p : Host → Bool) (hs : List Host) → how_many p (in_order hs) ≡ how_many p hs
unfolding how_many in_order
same_hosts p [] = refl
same_hosts p (h ∷ hs) = count_insert p h (in_order hs) ∙ rw (same_hosts p hs)

-- a host was given after position k
abbrev after : ℕ → Host → Bool
after k x = ltb k x.position

given_after : (j k : ℕ) (ps vs : List ℕ) → j < k → all (after j) (hosts_from k ps vs) ≡ true
unfolding all hosts_from
given_after j k [] vs h = refl
given_after j k (p ∷ ps) [] h = refl
given_after j k (p ∷ ps) (v ∷ vs) h = rw (lt-ltb j k h) (given_after j (k + 1) ps vs (omega arith))

-- h, given before all hosts of an ordered list, is put in its place there
insert_ordered : (h : Host) (xs : List Host) → all (after h.position) xs ≡ true → is_ordered xs ≡ true → is_ordered (insert h xs) ≡ true
unfolding all insert is_ordered
insert_ordered h [] g o = refl
insert_ordered h (x ∷ xs) g o = go (insert_ordered h xs) (leb h.preference x.preference) refl
  where
    go : (all (after h.position) xs ≡ true → is_ordered xs ≡ true → is_ordered (insert h xs) ≡ true) → (t : Bool) → leb h.preference x.preference ≡ t → is_ordered (cond t (h ∷ x ∷ xs) (x ∷ insert h xs)) ≡ true
    go ih true e =
        let l : h.preference ≤ x.preference = leb-true h.preference x.preference e in
        let now : h.position < x.position = ltb-true h.position x.position (and_left (after h.position x) (all (after h.position) xs) g) in
        let rest : all (comes_before h) xs ≡ true =
        all_both (comes_before x) (after h.position) (comes_before h)
        (λ y a b. before_given h y (let q : x.preference ≤ y.preference = (before_facts x y a).0 in omega arith) (ltb-true h.position y.position b))
        xs (and_left (all (comes_before x) xs) (is_ordered xs) o) (and_right (after h.position x) (all (after h.position) xs) g) in
        and_intro (comes_before h x && all (comes_before h) xs) (all (comes_before x) xs && is_ordered xs) (and_intro (comes_before h x) (all (comes_before h) xs) (before_given h x l now) rest) o
    go ih false e =
        let l : x.preference < h.preference = leb-false h.preference x.preference e in
        and_intro (all (comes_before x) (insert h xs)) (is_ordered (insert h xs))
        (all_insert (comes_before x) h xs ∙ and_intro (comes_before x h) (all (comes_before x) xs) (before_lower x h l) (and_left (all (comes_before x) xs) (is_ordered xs) o))
        (ih (and_right (after h.position x) (all (after h.position) xs) g) (and_right (all (comes_before x) xs) (is_ordered xs) o))

pub hosts_ordered : (k : ℕ) (ps vs : List ℕ) → is_ordered (in_order (hosts_from k ps vs)) ≡ true
unfolding hosts_from in_order is_ordered
hosts_ordered k [] vs = refl
hosts_ordered k (p ∷ ps) [] = refl
hosts_ordered k (p ∷ ps) (v ∷ vs) =
    insert_ordered (record { preference = p; verdict = v; position = k }) (in_order (hosts_from (k + 1) ps vs))
    (all_in_order (after k) (hosts_from (k + 1) ps vs) ∙ given_after k (k + 1) ps vs (omega arith)) (hosts_ordered (k + 1) ps vs)

-- the hosts stand in order: lower preference first, equal ones as given
pub ordered : (ps vs : List ℕ) → is_ordered (in_order (hosts_of ps vs)) ≡ true
ordered ps vs = hosts_ordered 0 ps vs

-- the hosts from position k on begin with the one at k
pub hosts_next : (ps vs : List ℕ) (k : ℕ) → k < length ps → k < length vs → hosts_from k (drop k ps) (drop k vs) ≡ host_at ps vs k ∷ hosts_from (k + 1) (drop (k + 1) ps) (drop (k + 1) vs)
unfolding hosts_from
hosts_next ps vs k h g = rw (drop_next ps k h, drop_next vs k g)

pub hosts_end : (ps vs : List ℕ) (k : ℕ) → length ps ≤ k → hosts_from k (drop k ps) (drop k vs) ≡ []
unfolding hosts_from
hosts_end ps vs k h = rw (drop_of_length-le ps h)

-- a test that every host passes: each position's, and back
module _ (p : Host → Bool) (ps vs : List ℕ) (even : length vs ≡ length ps) where
  from_each : ((i : ℕ) → i < length ps → p (host_at ps vs i) ≡ true) → (n k : ℕ) → k + n ≡ length ps → all p (hosts_from k (drop k ps) (drop k vs)) ≡ true
  unfolding all
  from_each f zero k e = let g : length ps ≤ k = omega arith in rw (hosts_end ps vs k g)
  from_each f (suc n) k e = let g : k < length ps = omega arith in rw (hosts_next ps vs k g (omega arith), f k g) (from_each f n (k + 1) (omega arith))

  pub all_hosts : ((i : ℕ) → i < length ps → p (host_at ps vs i) ≡ true) → all p (hosts_of ps vs) ≡ true
  all_hosts f = from_each f (length ps) 0 (omega arith)

  to_each : (n k : ℕ) → k + n ≡ length ps → all p (hosts_from k (drop k ps) (drop k vs)) ≡ true → (i : ℕ) → k ≤ i → i < length ps → p (host_at ps vs i) ≡ true
  unfolding all
  to_each zero k e h i l m = absurd (omega arith)
  to_each (suc n) k e h i l m =
      let g : k < length ps = omega arith in
      let u : (p (host_at ps vs k) && all p (hosts_from (k + 1) (drop (k + 1) ps) (drop (k + 1) vs))) ≡ true = rw (hosts_next ps vs k g (omega arith)) at h in
      ⊎_elim
      (λ (q : k ≡ i). rw (sym q) (and_left (p (host_at ps vs k)) (all p (hosts_from (k + 1) (drop (k + 1) ps) (drop (k + 1) vs))) u))
      (λ (q : k < i). to_each n (k + 1) (omega arith) (and_right (p (host_at ps vs k)) (all p (hosts_from (k + 1) (drop (k + 1) ps) (drop (k + 1) vs))) u) i (omega arith) m)
      (eq-or-lt_of_le l)

  pub each_host : all p (hosts_of ps vs) ≡ true → (i : ℕ) → i < length ps → p (host_at ps vs i) ≡ true
  each_host h i m = to_each (length ps) 0 (omega arith) h i (omega arith) m
