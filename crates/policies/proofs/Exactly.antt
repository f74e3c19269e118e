-- A body has no fault exactly where it has a byte, every line is of the form, and the fields hold what document 01 says. Assumes nothing.
use Prim.Native.Nat.{ℕ}
use mathlib.Core.Path.{◌≡◌, refl, sym, ◌∙◌}
use mathlib.Core.Bool.{Bool, true, false, cond, not, ◌&&◌, ◌||◌, and-false, or-true, not-not}
use mathlib.Core.List.{List, [], ◌∷◌}
use mathlib.Core.Option.{Option, none, some}
use native.Mathlib.Omega.{arith}
use lib.Dec.{leb}
use lib.ListN.{length}
use borrow.Author.Tests.{ne_eqb, le-leb}
use Rattle.lists.specs.Bytes.{all, any}
use Rattle.lists.specs.Text.{text}
use Rattle.names.specs.Name.{is_pattern}
use Rattle.policies.specs.declared.Cause.{Cause}
use Rattle.policies.specs.declared.Fault.{Fault}
use Rattle.policies.specs.Lines.{lines}
use Rattle.policies.specs.Fields.{value_of, is_line, is_named, any_named, first_named, patterns, is_version, mode_of, age_of, is_there, is_first, cause_after}
use Rattle.policies.specs.Policy.{or_later, first_fault, body_fault}

-- the test holds of a value, where there is one
unfoldable pub holds : (List ℕ → Bool) → Option (List ℕ) → Bool
holds p none = true
holds p (some v) = p v

abbrev pub is_mode : List ℕ → Bool
is_mode v = is_there (mode_of v)

abbrev pub is_age : List ℕ → Bool
is_age v = is_there (age_of v)

-- every line is of the form; the first version is `STSv1`, the first mode a mode, the first max_age a max_age; every mx is a pattern
unfoldable pub well_formed : List (List ℕ) → Bool
well_formed ls =
    all is_line ls && holds is_version (first_named (text "version") ls) && holds is_mode (first_named (text "mode") ls)
    && holds is_age (first_named (text "max_age") ls)
    && all is_pattern (patterns ls)

-- the same of the lines after the lines `earlier`, where a first field may stand already
abbrev good_first : List ℕ → (List ℕ → Bool) → List (List ℕ) → List (List ℕ) → Bool
good_first name p earlier ls = any_named name earlier || holds p (first_named name ls)

abbrev well_after : List (List ℕ) → List (List ℕ) → Bool
well_after earlier ls =
    all is_line ls && good_first (text "version") is_version earlier ls && good_first (text "mode") is_mode earlier ls
    && good_first (text "max_age") is_age earlier ls
    && all is_pattern (patterns ls)

-- one line more: n says that it has the name, e that an earlier one had, v that its value is good, x that the later ones are
one_first : (n e v x : Bool) → (e || cond n v x) ≡ (not (n && not e && not v) && ((n || e) || x))
one_first true true v x = refl
one_first true false true x = refl
one_first true false false x = refl
one_first false e v x = refl

one_mx : (n p q : Bool) → cond n (p && q) q ≡ (not (n && not p) && q)
one_mx true true q = refl
one_mx true false q = refl
one_mx false p q = refl

first_line : (name : List ℕ) (p : List ℕ → Bool) (earlier : List (List ℕ)) (l : List ℕ) (ls : List (List ℕ)) → good_first name p earlier (l ∷ ls) ≡ (not (is_first name earlier l && not (p (value_of l))) && good_first name p (l ∷ earlier) ls)
unfolding first_named is_first any holds
first_line name p earlier l ls = go (is_named name l)
  where
    go : (n : Bool) → (any (is_named name) earlier || holds p (cond n (some (value_of l)) (first_named name ls))) ≡ (not (n && not (any (is_named name) earlier) && not (p (value_of l))) && ((n || any (is_named name) earlier) || holds p (first_named name ls)))
    go true = one_first true (any (is_named name) earlier) (p (value_of l)) (holds p (first_named name ls))
    go false = one_first false (any (is_named name) earlier) (p (value_of l)) (holds p (first_named name ls))

mx_line : (l : List ℕ) (ls : List (List ℕ)) → all is_pattern (patterns (l ∷ ls)) ≡ (not (is_named (text "mx") l && not (is_pattern (value_of l))) && all is_pattern (patterns ls))
unfolding patterns all
mx_line l ls = go (is_named (text "mx") l)
  where
    go : (n : Bool) → all is_pattern (cond n (value_of l ∷ patterns ls) (patterns ls)) ≡ (not (n && not (is_pattern (value_of l))) && all is_pattern (patterns ls))
    go true = one_mx true (is_pattern (value_of l)) (all is_pattern (patterns ls))
    go false = refl

-- the tests of one line, and those of the lines after it
gather : (l a b₁ c₁ b₂ c₂ b₃ c₃ b₄ c₄ : Bool) → ((l && a) && (b₁ && c₁) && (b₂ && c₂) && (b₃ && c₃) && (b₄ && c₄)) ≡ ((l && b₁ && b₂ && b₃ && b₄) && (a && c₁ && c₂ && c₃ && c₄))
gather false a b₁ c₁ b₂ c₂ b₃ c₃ b₄ c₄ = refl
gather true a false c₁ b₂ c₂ b₃ c₃ b₄ c₄ = simp and-false
gather true a true c₁ false c₂ b₃ c₃ b₄ c₄ = simp and-false
gather true a true c₁ true c₂ false c₃ b₄ c₄ = simp and-false
gather true a true c₁ true c₂ true c₃ false c₄ = simp and-false
gather true a true c₁ true c₂ true c₃ true c₄ = refl

-- a chain of causes
chain : (f v m g x : Bool) → is_there (cond f (some Cause.Form) (cond v (some Cause.Version) (cond m (some Cause.Mode) (cond g (some Cause.MaxAge) (cond x (some Cause.Mx) none))))) ≡ not (not f && not v && not m && not g && not x)
unfolding is_there
chain true v m g x = refl
chain false true m g x = refl
chain false false true g x = refl
chain false false false true x = refl
chain false false false false true = refl
chain false false false false false = refl

later_there : (s : List ℕ) (n : ℕ) (c : Option Cause) (later : Option Fault) → is_there (or_later s n c later) ≡ (is_there c || is_there later)
unfolding or_later is_there
later_there s n none later = refl
later_there s n (some c) later = refl

either_not : (x y : Bool) → not (x && y) ≡ (not x || not y)
either_not true y = refl
either_not false y = refl

-- nothing is wrong with the line l after the lines `earlier`
abbrev sound_line : List (List ℕ) → List ℕ → Bool
sound_line earlier l =
    is_line l && not (is_first (text "version") earlier l && not (is_version (value_of l))) && not (is_first (text "mode") earlier l && not (is_mode (value_of l)))
    && not (is_first (text "max_age") earlier l && not (is_age (value_of l)))
    && not (is_named (text "mx") l && not (is_pattern (value_of l)))

cause_there : (earlier : List (List ℕ)) (l : List ℕ) → is_there (cause_after earlier l) ≡ not (sound_line earlier l)
unfolding cause_after
cause_there earlier l =
    chain
    (not (is_line l))
    (is_first (text "version") earlier l && not (is_version (value_of l)))
    (is_first (text "mode") earlier l && not (is_mode (value_of l)))
    (is_first (text "max_age") earlier l && not (is_age (value_of l)))
    (is_named (text "mx") l && not (is_pattern (value_of l)))
    ∙ rw (not-not (is_line l))

after_line : (earlier : List (List ℕ)) (l : List ℕ) (ls : List (List ℕ)) → well_after earlier (l ∷ ls) ≡ (sound_line earlier l && well_after (l ∷ earlier) ls)
unfolding all
after_line earlier l ls =
    rw (first_line (text "version") is_version earlier l ls, first_line (text "mode") is_mode earlier l ls, first_line (text "max_age") is_age earlier l ls, mx_line l ls)
    (gather
    (is_line l)
    (all is_line ls)
    (not (is_first (text "version") earlier l && not (is_version (value_of l))))
    (good_first (text "version") is_version (l ∷ earlier) ls)
    (not (is_first (text "mode") earlier l && not (is_mode (value_of l))))
    (good_first (text "mode") is_mode (l ∷ earlier) ls)
    (not (is_first (text "max_age") earlier l && not (is_age (value_of l))))
    (good_first (text "max_age") is_age (l ∷ earlier) ls)
    (not (is_named (text "mx") l && not (is_pattern (value_of l))))
    (all is_pattern (patterns ls)))

after_none : (earlier : List (List ℕ)) → well_after earlier [] ≡ true
unfolding all first_named patterns holds
after_none earlier = simp or-true

fault_after : (s : List ℕ) (earlier ls : List (List ℕ)) → is_there (first_fault s earlier ls) ≡ not (well_after earlier ls)
unfolding first_fault is_there
fault_after s earlier [] = rw (after_none earlier)
fault_after s earlier (l ∷ ls) =
    later_there s (length earlier) (cause_after earlier l) (first_fault s (l ∷ earlier) ls)
    ∙ rw (cause_there earlier l, fault_after s (l ∷ earlier) ls, after_line earlier l ls) (sym (either_not (sound_line earlier l) (well_after (l ∷ earlier) ls)))

-- a body has a fault exactly where it has no byte, or its lines are not well-formed
pub fault_exactly : (s : List ℕ) → is_there (body_fault s) ≡ not (leb 1 (length s) && well_formed (lines s))
unfolding body_fault is_there well_formed any
fault_exactly [] = refl
fault_exactly (x ∷ s) = rw (ne_eqb (length (x ∷ s)) 0 (λ z. absurd (omega arith)), le-leb 1 (length (x ∷ s)) (omega arith)) (fault_after (x ∷ s) [] (lines (x ∷ s)))
