-- Laws of any tree of rules. Assumes nothing.
use Prim.Native.Nat.{ℕ, ◌+◌, ◌≤◌}
use mathlib.Core.Path.{◌≡◌, refl, sym, ◌∙◌, ap, subst}
use mathlib.Core.Bool.{Bool, true, false, cond}
use mathlib.Core.List.{List, [], ◌∷◌}
use mathlib.Core.Option.{Option, none, some}
use native.Mathlib.Omega.{arith}
use Rattle.lists.proofs.Bools.{apart, neither_left, neither_right, never}
use Rattle.hosts.specs.Facts.{Base, Fact, tlsa, first, second, starttls, handshake, certificates, Value, Facts, Full, given, value, is_given, later}
use Rattle.hosts.specs.Tree.{Rules, verdict, ask, verdict_of, reached, Question, Outcome, final, missing, on_given, walk, answers_read, is_tlsa}
use Rattle.hosts.specs.Demands.{or_else, first_missing, names_read}

-- a full set keeps the facts given
abbrev pub KeptBy : Facts → Full → Type 0
KeptBy g f = (q : Fact) (a : Value q) → given g q ≡ some a → value f q ≡ a

-- what the walk says of each full set that keeps the facts: its verdict, or its first missing fact
abbrev pub Says : Outcome → Option ℕ → ℕ → Type 0
Says (final v) m n = (n ≡ v) × (m ≡ none)
Says (missing q) m n = m ≡ some q.number

pub says : (t : Rules) (g : Facts) (f : Full) → KeptBy g f → Says (walk t g) (first_missing g (reached t f)) (verdict_of t f)
says (verdict v) g f h = (refl, refl)
says (ask n q k) g f h = go (given g q) refl (λ a. says (k a) g f h)
  where
    go : (m : Option (Value q)) → given g q ≡ m → ((a : Value q) → Says (walk (k a) g) (first_missing g (reached (k a) f)) (verdict_of (k a) f))
        → Says (on_given m (missing (record { number = n; fact = q })) (λ a. walk (k a) g))
        (cond (is_given (given g q)) (first_missing g (reached (k (value f q)) f)) (some n)) (verdict_of (k (value f q)) f)
    go none e ih = rw e refl
    go (some a) e ih = rw (e, h q a e) (ih a)

-- the count of the walk is the number of names whose given answers the rules read in such a full set
pub counted : (t : Rules) (g : Facts) (f : Full) → KeptBy g f → answers_read t g ≡ names_read g (reached t f)
counted (verdict v) g f h = refl
counted (ask n q k) g f h = go (given g q) refl (λ a. counted (k a) g f h)
  where
    go : (m : Option (Value q)) → given g q ≡ m → ((a : Value q) → answers_read (k a) g ≡ names_read g (reached (k a) f))
        → on_given m 0 (λ a. is_tlsa q + answers_read (k a) g) ≡ cond (is_given (given g q)) (is_tlsa q + names_read g (reached (k (value f q)) f)) 0
    go none e ih = rw e refl
    go (some a) e ih = rw (e, h q a e) (ap (λ (x : ℕ). is_tlsa q + x) (ih a))

-- a full set as the facts of a call

abbrev pub full : Base → Full → Facts
full b f = record { base = b; tlsa1 = some f.tlsa1; tlsa2 = some f.tlsa2; offered = some f.offered; outcome = some f.outcome; presented = some f.presented }

pub full_given : (b : Base) (f : Full) (q : Fact) → given (full b f) q ≡ some (value f q)
full_given b f (tlsa first) = refl
full_given b f (tlsa second) = refl
full_given b f starttls = refl
full_given b f handshake = refl
full_given b f certificates = refl

pub full_kept : (b : Base) (f : Full) → KeptBy (full b f) f
full_kept b f (tlsa first) a e = cc
full_kept b f (tlsa second) a e = cc
full_kept b f starttls a e = cc
full_kept b f handshake a e = cc
full_kept b f certificates a e = cc

-- nothing is missing in it, so the walk ends with its verdict
no_missing : (b : Base) (f : Full) (l : List Question) → first_missing (full b f) l ≡ none
no_missing b f [] = refl
no_missing b f (q ∷ qs) = rw (full_given b f q.fact) (no_missing b f qs)

pub walk_full : (t : Rules) (b : Base) (f : Full) → walk t (full b f) ≡ final (verdict_of t f)
walk_full t b f = go (walk t (full b f)) (says t (full b f) f (full_kept b f))
  where
    go : (o : Outcome) → Says o (first_missing (full b f) (reached t f)) (verdict_of t f) → o ≡ final (verdict_of t f)
    go (final v) s = ap final (sym s.0)
    go (missing q) s = never (cc (s, no_missing b f (reached t f)))

-- filling up: what is given, else the value of a full set

abbrev pub fill : Facts → Full → Full
fill g d = record {
  tlsa1 = or_else g.tlsa1 d.tlsa1;
  tlsa2 = or_else g.tlsa2 d.tlsa2;
  offered = or_else g.offered d.offered;
  outcome = or_else g.outcome d.outcome;
  presented = or_else g.presented d.presented;
}

pub fill_value : (g : Facts) (d : Full) (q : Fact) → value (fill g d) q ≡ or_else (given g q) (value d q)
fill_value g d (tlsa first) = refl
fill_value g d (tlsa second) = refl
fill_value g d starttls = refl
fill_value g d handshake = refl
fill_value g d certificates = refl

pub fill_kept : (g : Facts) (d : Full) → KeptBy g (fill g d)
fill_kept g d q a e = fill_value g d q ∙ rw e refl

-- the facts before q: without q and all that are later

abbrev pub before : Fact → Facts → Facts
before (tlsa first) g = record { base = g.base; tlsa1 = none; tlsa2 = none; offered = none; outcome = none; presented = none }
before (tlsa second) g = record { base = g.base; tlsa1 = g.tlsa1; tlsa2 = none; offered = none; outcome = none; presented = none }
before starttls g = record { base = g.base; tlsa1 = g.tlsa1; tlsa2 = g.tlsa2; offered = none; outcome = none; presented = none }
before handshake g = record { base = g.base; tlsa1 = g.tlsa1; tlsa2 = g.tlsa2; offered = g.offered; outcome = none; presented = none }
before certificates g = record { base = g.base; tlsa1 = g.tlsa1; tlsa2 = g.tlsa2; offered = g.offered; outcome = g.outcome; presented = none }

gone : {A : Type 0} (m : Option A) → is_given m ≡ false → m ≡ none
gone none e = refl
gone (some a) e = apart (sym e)

module _ (g : Facts) where
  all_before_5 : given g certificates ≡ none → before certificates g ≡ g
  all_before_5 e = λ i. record { base = g.base; tlsa1 = g.tlsa1; tlsa2 = g.tlsa2; offered = g.offered; outcome = g.outcome; presented = sym e i }

  all_before_4 : given g handshake ≡ none → later handshake g ≡ false → before handshake g ≡ g
  all_before_4 e l = (λ i. record { base = g.base; tlsa1 = g.tlsa1; tlsa2 = g.tlsa2; offered = g.offered; outcome = sym e i; presented = none }) ∙ all_before_5 (gone _ l)

  all_before_3 : given g starttls ≡ none → later starttls g ≡ false → before starttls g ≡ g
  all_before_3 e l = (λ i. record { base = g.base; tlsa1 = g.tlsa1; tlsa2 = g.tlsa2; offered = sym e i; outcome = none; presented = none }) ∙ all_before_4 (gone _ (neither_left _ (later handshake g) l)) (neither_right (is_given g.outcome) _ l)

  all_before_2 : given g (tlsa second) ≡ none → later (tlsa second) g ≡ false → before (tlsa second) g ≡ g
  all_before_2 e l = (λ i. record { base = g.base; tlsa1 = g.tlsa1; tlsa2 = sym e i; offered = none; outcome = none; presented = none }) ∙ all_before_3 (gone _ (neither_left _ (later starttls g) l)) (neither_right (is_given g.offered) _ l)

  all_before_1 : given g (tlsa first) ≡ none → later (tlsa first) g ≡ false → before (tlsa first) g ≡ g
  all_before_1 e l = (λ i. record { base = g.base; tlsa1 = sym e i; tlsa2 = none; offered = none; outcome = none; presented = none }) ∙ all_before_2 (gone _ (neither_left _ (later (tlsa second) g) l)) (neither_right (is_given g.tlsa2) _ l)

-- where q is missing and nothing later is given, all that is given stands before q
pub all_before : (q : Fact) (g : Facts) → given g q ≡ none → later q g ≡ false → before q g ≡ g
all_before (tlsa first) g e l = all_before_1 g e l
all_before (tlsa second) g e l = all_before_2 g e l
all_before starttls g e l = all_before_3 g e l
all_before handshake g e l = all_before_4 g e l
all_before certificates g e l = all_before_5 g e

-- each verdict of the rules passes one test, and the number of each question another
abbrev pub Each : (v q : ℕ → Bool) → Rules → Type 0
Each v q (verdict n) = v n ≡ true
Each v q (ask n f k) = (q n ≡ true) × ((a : Value f) → Each v q (k a))

pub each_more : (v w q : ℕ → Bool) → ((n : ℕ) → v n ≡ true → w n ≡ true) → (t : Rules) → Each v q t → Each w q t
each_more v w q more (verdict n) h = more n h
each_more v w q more (ask n f k) h = (h.0, λ a. each_more v w q more (k a) (h.1 a))

pub each_verdict : (v q : ℕ → Bool) (t : Rules) (f : Full) → Each v q t → v (verdict_of t f) ≡ true
each_verdict v q (verdict n) f h = h
each_verdict v q (ask n p k) f h = each_verdict v q (k (value f p)) f (h.1 (value f p))

-- and so does what the walk comes to
abbrev pub Comes : (v q : ℕ → Bool) → Outcome → Type 0
Comes v q (final n) = v n ≡ true
Comes v q (missing m) = q m.number ≡ true

pub comes : (v q : ℕ → Bool) (t : Rules) (g : Facts) → Each v q t → Comes v q (walk t g)
comes v q (verdict n) g h = h
comes v q (ask n f k) g h = go (given g f) (λ a. comes v q (k a) g (h.1 a))
  where
    go : (m : Option (Value f)) → ((a : Value f) → Comes v q (walk (k a) g)) → Comes v q (on_given m (missing (record { number = n; fact = f })) (λ a. walk (k a) g))
    go none ih = h.0
    go (some a) ih = ih a

-- at most n TLSA answers are read
abbrev pub Most : Rules → ℕ → Type 0
Most (verdict v) n = Unit {0}
Most (ask m q k) n = (j : ℕ) × (is_tlsa q + j ≤ n) × ((a : Value q) → Most (k a) j)

pub most_read : (t : Rules) (n : ℕ) (g : Facts) → Most t n → answers_read t g ≤ n
most_read (verdict v) n g h = omega arith
most_read (ask m q k) n g h = go (given g q) (λ a. most_read (k a) h.0 g (h.2 a))
  where
    go : (o : Option (Value q)) → ((a : Value q) → answers_read (k a) g ≤ h.0) → on_given o 0 (λ a. is_tlsa q + answers_read (k a) g) ≤ n
    go none ih = omega arith
    go (some a) ih = omega (arith, ih a, h.1)

-- what is said of the values of the facts, and of two full sets
module _ (Ok : (q : Fact) → Value q → Type 0) where
  abbrev pub AllOk : Full → Type 0
  AllOk f = (q : Fact) → Ok q (value f q)

  abbrev pub GivenOk : Facts → Type 0
  GivenOk g = (q : Fact) (a : Value q) → given g q ≡ some a → Ok q a

  pub record Two (D : Full → Full → Type 0) : Type 0 where
    pub left : Full
    pub right : Full
    pub left_ok : AllOk left
    pub right_ok : AllOk right
    pub differ : D left right

  two_map : {D E : Full → Full → Type 0} → ((l r : Full) → D l r → E l r) → Two D → Two E
  two_map h t = record { left = t.left; right = t.right; left_ok = t.left_ok; right_ok = t.right_ok; differ = h t.left t.right t.differ }

  pub fill_ok : (g : Facts) (d : Full) → GivenOk g → AllOk d → AllOk (fill g d)
  fill_ok g d h k q = rw fill_value (go (given g q) refl)
    where
      go : (m : Option (Value q)) → given g q ≡ m → Ok q (or_else m (value d q))
      go none e = k q
      go (some a) e = h q a e

  -- filled into the facts, the two have two verdicts
  abbrev pub Differ : Rules → Facts → Full → Full → Type 0
  Differ t g l r = verdict_of t (fill g l) ≡ verdict_of t (fill g r) → ⊥

  -- every question matters: at each there are two ways to go on, with two verdicts
  abbrev pub Matters : Rules → Type 0
  Matters (verdict v) = Unit {0}
  Matters (ask n q k) = Two (λ l r. (g : Facts) → Differ (ask n q k) (before q g) l r) × ((a : Value q) → Ok q a → Matters (k a))

  -- where the walk misses a fact and no later one is given, the facts given leave two verdicts
  abbrev pub Leaves : Outcome → Rules → Facts → Type 0
  Leaves (final v) t g = Unit {0}
  Leaves (missing q) t g = later q.fact g ≡ false → Two (Differ t g)

  pub leaves : (t : Rules) (g : Facts) → Matters t → GivenOk g → Leaves (walk t g) t g
  leaves (verdict v) g s h = tt
  leaves (ask n q k) g s h = go (given g q) refl (λ a. leaves (k a) g)
    where
      go : (m : Option (Value q)) → given g q ≡ m → ((a : Value q) → Matters (k a) → GivenOk g → Leaves (walk (k a) g) (k a) g)
          → Leaves (on_given m (missing (record { number = n; fact = q })) (λ a. walk (k a) g)) (ask n q k) g
      go none e ih = λ l. two_map (λ x y z. subst (λ (c : Facts). Differ (ask n q k) c x y) (all_before q g e l) (z g)) s.0
      go (some a) e ih = lift (walk (k a) g) (ih a (s.1 a (h q a e)) h)
        where
          at : (d : Full) → verdict_of (ask n q k) (fill g d) ≡ verdict_of (k a) (fill g d)
          at d = rw (fill_value, e)

          lift : (o : Outcome) → Leaves o (k a) g → Leaves o (ask n q k) g
          lift (final v) x = x
          lift (missing w) x = λ l. two_map (λ y z d p. d (sym (at y) ∙ (p ∙ at z))) (x l)
