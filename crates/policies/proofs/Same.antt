-- The reader goes line by line, with the fields seen so far. It finds what the definition says: the first fault, or the fields of all lines. Assumes nothing.
use Prim.Native.Nat.{ℕ, suc, ◌+◌, ◌-◌, ◌<◌, ◌≤◌}
use mathlib.Core.Path.{◌≡◌, refl, sym, ap, ◌∙◌}
use mathlib.Core.Bool.{Bool, true, false, cond, not, ◌&&◌, ◌||◌, or-false, or_assoc}
use mathlib.Core.List.{List, [], ◌∷◌}
use mathlib.Core.Option as O
use mathlib.Core.Option.{none, some}
use Rattle.std.specs.Prelude.{Option, Some, None, Result, Ok, Err}
use native.Mathlib.Nat.{add-zero}
use native.Mathlib.Numerals.{add-one}
use native.Mathlib.Omega.{arith}
use lib.ListN.{length, drop, drop_of_length-le}
use borrow.Author.Tests.{eq-eqb, ne_eqb, lt-ltb}
use Rattle.lists.specs.Bytes.{any}
use Rattle.lists.specs.Equal.{agree, same_byte, same_bytes}
use Rattle.lists.specs.Split.{index_of}
use Rattle.lists.specs.Text.{text}
use Rattle.lists.proofs.Agree.{same_bytes_lem}
use Rattle.lists.proofs.Bools.{never}
use Rattle.names.specs.Name.{is_pattern, matches_name, some_matches}
use Rattle.fields.specs.Name.{has_name}
use Rattle.fields.proofs.Name.{has_inside}
use Rattle.policies.specs.declared.Mode.{Mode}
use Rattle.policies.specs.declared.Cause.{Cause}
use Rattle.policies.specs.declared.Kind.{Kind}
use Rattle.policies.specs.declared.Kind.TheVariants as K
use Rattle.policies.specs.declared.Seen.{Seen}
use Rattle.policies.specs.declared.Fault.{Fault}
use Rattle.policies.specs.declared.Step.{Step}
use Rattle.policies.specs.declared.Step.TheVariants.{Next, Pattern}
use Rattle.policies.specs.declared.Checked.{Checked}
use Rattle.policies.specs.Texts.{is_value}
use Rattle.policies.specs.Lines.{lines, line_start}
use Rattle.policies.specs.Fields.{name_of, value_of, is_line, is_named, any_named, first_named, patterns, is_version, mode_of, age_of, is_there, is_first, cause_after}
use Rattle.policies.specs.Policy.{fault_at, or_later, first_fault, body_fault, mode_in, age_in, first_mode, first_age}
use Rattle.policies.specs.Reader.{kind_of, held, holds, new_mode, new_age, take_version, take_mode, take_age, take_mx, take_field, take_line, line_end, line_at, placed, turn_at, seen_in, outcome, checked}
use Rattle.policies.proofs.Body.{lines_at, next_after, next_within, next_start}

-- what a step leaves: an end, the fields, the count of patterns, and whether the host is listed
unfoldable pub stop_or : List ℕ → ℕ → Result Step Cause → Result Checked Fault → Result Checked Fault
stop_or s n (Err cause) later = Err (fault_at s n cause)
stop_or s n (Ok step) later = later

unfoldable pub seen_after : Seen → Result Step Cause → Seen
seen_after r (Err cause) = r
seen_after r (Ok (Next q)) = q
seen_after r (Ok (Pattern y)) = r

unfoldable pub count_after : ℕ → Result Step Cause → ℕ
count_after m (Err cause) = m
count_after m (Ok (Next q)) = m
count_after m (Ok (Pattern y)) = m + 1

unfoldable pub listed_after : Bool → Result Step Cause → Bool
listed_after x (Err cause) = x
listed_after x (Ok (Next q)) = x
listed_after x (Ok (Pattern y)) = y

-- the reader, over the lines that are left: r are the fields seen, m the patterns and n the lines passed, x says whether the host is listed
unfoldable pub run : (host : List ℕ) → List ℕ → Seen → ℕ → Bool → ℕ → List (List ℕ) → Result Checked Fault
run host s r m x n [] = Ok (record { seen = r; patterns = m; listed = x })
run host s r m x n (l ∷ ls) =
    stop_or s n (take_line host x r l)
    (run host s (seen_after r (take_line host x r l)) (count_after m (take_line host x r l)) (listed_after x (take_line host x r l)) (n + 1) ls)

-- the kind of a field says which name it has
abbrev is_mx_kind : Kind → Bool
is_mx_kind K.Version = false
is_mx_kind K.Mode = false
is_mx_kind K.MaxAge = false
is_mx_kind K.Mx = true
is_mx_kind K.Other = false

abbrev is_version_kind : Kind → Bool
is_version_kind K.Version = true
is_version_kind K.Mode = false
is_version_kind K.MaxAge = false
is_version_kind K.Mx = false
is_version_kind K.Other = false

abbrev is_mode_kind : Kind → Bool
is_mode_kind K.Version = false
is_mode_kind K.Mode = true
is_mode_kind K.MaxAge = false
is_mode_kind K.Mx = false
is_mode_kind K.Other = false

abbrev is_age_kind : Kind → Bool
is_age_kind K.Version = false
is_age_kind K.Mode = false
is_age_kind K.MaxAge = true
is_age_kind K.Mx = false
is_age_kind K.Other = false

record Kinds (n : List ℕ) : Type 0 where
  mx : same_bytes n (text "mx") ≡ is_mx_kind (kind_of n)
  version : same_bytes n (text "version") ≡ is_version_kind (kind_of n)
  mode : same_bytes n (text "mode") ≡ is_mode_kind (kind_of n)
  age : same_bytes n (text "max_age") ≡ is_age_kind (kind_of n)

kinds : (n : List ℕ) → Kinds n
unfolding kind_of agree same_byte
kinds n = go (same_bytes n (text "mx")) (same_bytes n (text "version")) (same_bytes n (text "mode")) (same_bytes n (text "max_age")) refl refl refl refl
  where
    go : (a b c d : Bool) → same_bytes n (text "mx") ≡ a → same_bytes n (text "version") ≡ b → same_bytes n (text "mode") ≡ c → same_bytes n (text "max_age") ≡ d → Kinds n
    go true b c d p q r u = rw (same_bytes_lem n (text "mx") p) (record { mx = refl; version = refl; mode = refl; age = refl })
    go false true c d p q r u = rw (same_bytes_lem n (text "version") q) (record { mx = refl; version = refl; mode = refl; age = refl })
    go false false true d p q r u = rw (same_bytes_lem n (text "mode") r) (record { mx = refl; version = refl; mode = refl; age = refl })
    go false false false true p q r u = rw (same_bytes_lem n (text "max_age") u) (record { mx = refl; version = refl; mode = refl; age = refl })
    go false false false false p q r u = record { mx = cc; version = cc; mode = cc; age = cc }

-- of a line of the right form only the name is asked
pub named_as : (l name : List ℕ) → is_line l ≡ true → is_named name l ≡ same_bytes (name_of l) name
unfolding is_named is_line
named_as l name h = rw (lt-ltb (index_of 58 l) (length l) (has_inside 58 l (go (has_name 58 l) h)))
  where
    go : (t : Bool) → (t && is_value (value_of l)) ≡ true → t ≡ true
    go true k = refl
    go false k = k

-- the first of two values: the one seen before, where there is one
unfoldable or_value : {A : Type 0} → Option A → Option A → Option A
or_value None later = later
or_value (Some a) later = Some a

value_had : {A : Type 0} (x : Option A) → holds x ≡ true → (later : Option A) → or_value x later ≡ x
unfolding or_value holds
value_had None h later = never cc
value_had (Some a) h later = refl

value_new : {A : Type 0} (x : Option A) → holds x ≡ false → (later : Option A) → or_value x later ≡ later
unfolding or_value holds
value_new None h later = refl
value_new (Some a) h later = never cc

value_alone : {A : Type 0} (x : Option A) → or_value x None ≡ x
unfolding or_value
value_alone None = refl
value_alone (Some a) = refl

-- a mode is held as one
pub mode_held_lem : (mode : Mode) → holds (held (some mode)) ≡ true
unfolding holds held
mode_held_lem mode = refl

-- the fields that are there after the lines, when r were there before them
abbrev absorb : Seen → List (List ℕ) → Seen
absorb r ls =
    record {
      version = r.version || any_named (text "version") ls;
      mode = or_value r.mode (held (first_mode ls));
      age = or_value r.age (held (first_age ls));
    }

-- r has a field exactly where the lines `earlier` have it
record Agrees (r : Seen) (earlier : List (List ℕ)) : Type 0 where
  version : r.version ≡ any_named (text "version") earlier
  mode : holds r.mode ≡ any_named (text "mode") earlier
  age : holds r.age ≡ any_named (text "max_age") earlier

absorb_none : (r : Seen) → absorb r [] ≡ r
unfolding any first_named mode_in age_in held
absorb_none r = rw (or-false r.version, value_alone r.mode, value_alone r.age)

-- one line: what it does to the fields, against its cause
module _ (host s : List ℕ) (earlier ls : List (List ℕ)) (r : Seen) (m : ℕ) (x : Bool) (l : List ℕ) (a : Agrees r earlier) where
  Goal : Type 0
  Goal = run host s r m x (length earlier) (l ∷ ls) ≡ outcome (absorb r (l ∷ ls)) (m + length (patterns (l ∷ ls))) (x || some_matches (patterns (l ∷ ls)) host) (first_fault s earlier (l ∷ ls))

  IH : Type 0
  IH = (q : Seen) (k : ℕ) (y : Bool) → Agrees q (l ∷ earlier) → run host s q k y (suc (length earlier)) ls ≡ outcome (absorb q ls) (k + length (patterns ls)) (y || some_matches (patterns ls) host) (first_fault s (l ∷ earlier) ls)

  -- a sound line that leaves the fields q, the count k and the flag y
  onward : (q : Seen) (k : ℕ) (y : Bool) → IH → Agrees q (l ∷ earlier) → ((z : Result Checked Fault) → stop_or s (length earlier) (take_line host x r l) z ≡ z) → seen_after r (take_line host x r l) ≡ q → count_after m (take_line host x r l) ≡ k → listed_after x (take_line host x r l) ≡ y → cause_after earlier l ≡ none → absorb r (l ∷ ls) ≡ absorb q ls → m + length (patterns (l ∷ ls)) ≡ k + length (patterns ls) → (x || some_matches (patterns (l ∷ ls)) host) ≡ (y || some_matches (patterns ls) host) → Goal
  unfolding Goal IH run first_fault or_later
  onward q k y ih b st se co li ca ab pa cv = st _ ∙ rw (se, co, li, add-one (length earlier), ca, ab, pa, cv) (ih q k y b)

  -- a line with a cause
  broken : (c : Cause) → take_line host x r l ≡ Err c → cause_after earlier l ≡ some c → Goal
  unfolding Goal run first_fault or_later stop_or outcome
  broken c tk ca = rw (tk, ca)

  module _ (il : is_line l ≡ true) (k : Kind) (e : kind_of (name_of l) ≡ k) where
    nv : is_named (text "version") l ≡ is_version_kind k
    nv = named_as l (text "version") il ∙ (kinds (name_of l)).version ∙ ap is_version_kind e

    nm : is_named (text "mode") l ≡ is_mode_kind k
    nm = named_as l (text "mode") il ∙ (kinds (name_of l)).mode ∙ ap is_mode_kind e

    na : is_named (text "max_age") l ≡ is_age_kind k
    na = named_as l (text "max_age") il ∙ (kinds (name_of l)).age ∙ ap is_age_kind e

    nx : is_named (text "mx") l ≡ is_mx_kind k
    nx = named_as l (text "mx") il ∙ (kinds (name_of l)).mx ∙ ap is_mx_kind e

    tk : take_line host x r l ≡ take_field host x r k (value_of l)
    unfolding take_line
    tk = rw (il, e)

    ca : cause_after earlier l ≡ cond (is_version_kind k && not r.version && not (is_version (value_of l))) (some Cause.Version) (cond (is_mode_kind k && not (holds r.mode) && not (is_there (mode_of (value_of l)))) (some Cause.Mode) (cond (is_age_kind k && not (holds r.age) && not (is_there (age_of (value_of l)))) (some Cause.MaxAge) (cond (is_mx_kind k && not (is_pattern (value_of l))) (some Cause.Mx) none)))
    unfolding cause_after is_first
    ca = rw (il, nv, nm, na, nx, a.version, a.mode, a.age)

    ab : absorb r (l ∷ ls) ≡ record { version = r.version || (is_version_kind k || any_named (text "version") ls); mode = or_value r.mode (held (mode_in (cond (is_mode_kind k) (some (value_of l)) (first_named (text "mode") ls)))); age = or_value r.age (held (age_in (cond (is_age_kind k) (some (value_of l)) (first_named (text "max_age") ls)))) }
    unfolding any first_named
    ab = rw (nv, nm, na)

    pa : m + length (patterns (l ∷ ls)) ≡ m + length (cond (is_mx_kind k) (value_of l ∷ patterns ls) (patterns ls))
    unfolding patterns
    pa = rw nx

    cv : (x || some_matches (patterns (l ∷ ls)) host) ≡ (x || some_matches (cond (is_mx_kind k) (value_of l ∷ patterns ls) (patterns ls)) host)
    unfolding patterns
    cv = rw nx

    ag : (q : Seen) → q.version ≡ (is_version_kind k || r.version) → holds q.mode ≡ (is_mode_kind k || holds r.mode) → holds q.age ≡ (is_age_kind k || holds r.age) → Agrees q (l ∷ earlier)
    unfolding any
    ag q x y z = record { version = x ∙ rw (nv, a.version); mode = y ∙ rw (nm, a.mode); age = z ∙ rw (na, a.age) }

  module _ (il : is_line l ≡ true) (ih : IH) where
    other : kind_of (name_of l) ≡ K.Other → Goal
    unfolding take_field stop_or seen_after count_after listed_after
    other e =
        let st : take_line host x r l ≡ Ok (Next r) = tk il K.Other e in
        onward r m x ih (ag il K.Other e r refl refl refl) (λ z. rw st) (rw st) (rw st) (rw st) (ca il K.Other e) (ab il K.Other e) (pa il K.Other e) (cv il K.Other e)

    mx : (t : Bool) → is_pattern (value_of l) ≡ t → kind_of (name_of l) ≡ K.Mx → Goal
    unfolding take_field take_mx stop_or seen_after count_after listed_after any
    mx true p e =
        let st : take_line host x r l ≡ Ok (Pattern (x || matches_name (value_of l) host)) = tk il K.Mx e ∙ rw p in
        onward r (m + 1) (x || matches_name (value_of l) host) ih (ag il K.Mx e r refl refl refl) (λ z. rw st) (rw st) (rw st) (rw st) (ca il K.Mx e ∙ rw p) (ab il K.Mx e) (pa il K.Mx e ∙ omega arith) (cv il K.Mx e ∙ sym (or_assoc x (matches_name (value_of l) host) (some_matches (patterns ls) host)))
    mx false p e = broken Cause.Mx (tk il K.Mx e ∙ rw p) (ca il K.Mx e ∙ rw p)

    version : (h t : Bool) → r.version ≡ h → is_version (value_of l) ≡ t → kind_of (name_of l) ≡ K.Version → Goal
    unfolding take_field take_version stop_or seen_after count_after listed_after
    version true t w y e =
        let st : take_line host x r l ≡ Ok (Next r) = tk il K.Version e ∙ rw w in
        onward r m x ih (ag il K.Version e r w refl refl) (λ z. rw st) (rw st) (rw st) (rw st) (ca il K.Version e ∙ rw w) (ab il K.Version e ∙ rw w) (pa il K.Version e) (cv il K.Version e)
    version false true w y e =
        let q : Seen = record { version = true; mode = r.mode; age = r.age } in
        let st : take_line host x r l ≡ Ok (Next q) = tk il K.Version e ∙ rw (w, y) in
        onward q m x ih (ag il K.Version e q refl refl refl) (λ z. rw st) (rw st) (rw st) (rw st) (ca il K.Version e ∙ rw (w, y)) (ab il K.Version e ∙ rw w) (pa il K.Version e) (cv il K.Version e)
    version false false w y e = broken Cause.Version (tk il K.Version e ∙ rw (w, y)) (ca il K.Version e ∙ rw (w, y))

    mode : (h : Bool) (o : O.Option Mode) → holds r.mode ≡ h → mode_of (value_of l) ≡ o → kind_of (name_of l) ≡ K.Mode → Goal
    unfolding take_field take_mode new_mode stop_or seen_after count_after listed_after is_there mode_in held holds or_value
    mode true o w y e =
        let st : take_line host x r l ≡ Ok (Next r) = tk il K.Mode e ∙ rw w in
        onward r m x ih (ag il K.Mode e r refl w refl) (λ z. rw st) (rw st) (rw st) (rw st) (ca il K.Mode e ∙ rw w) (ab il K.Mode e ∙ simp (value_had r.mode w)) (pa il K.Mode e) (cv il K.Mode e)
    mode false (some o) w y e =
        let q : Seen = record { version = r.version; mode = Some o; age = r.age } in
        let st : take_line host x r l ≡ Ok (Next q) = tk il K.Mode e ∙ rw (w, y) in
        onward q m x ih (ag il K.Mode e q refl refl refl) (λ z. rw st) (rw st) (rw st) (rw st) (ca il K.Mode e ∙ rw (w, y)) (ab il K.Mode e ∙ rw (value_new r.mode w (held (mode_of (value_of l))), y)) (pa il K.Mode e) (cv il K.Mode e)
    mode false none w y e = broken Cause.Mode (tk il K.Mode e ∙ rw (w, y)) (ca il K.Mode e ∙ rw (w, y))

    age : (h : Bool) (o : O.Option ℕ) → holds r.age ≡ h → age_of (value_of l) ≡ o → kind_of (name_of l) ≡ K.MaxAge → Goal
    unfolding take_field take_age new_age stop_or seen_after count_after listed_after is_there age_in held holds or_value
    age true o w y e =
        let st : take_line host x r l ≡ Ok (Next r) = tk il K.MaxAge e ∙ rw w in
        onward r m x ih (ag il K.MaxAge e r refl refl w) (λ z. rw st) (rw st) (rw st) (rw st) (ca il K.MaxAge e ∙ rw w) (ab il K.MaxAge e ∙ simp (value_had r.age w)) (pa il K.MaxAge e) (cv il K.MaxAge e)
    age false (some n) w y e =
        let q : Seen = record { version = r.version; mode = r.mode; age = Some n } in
        let st : take_line host x r l ≡ Ok (Next q) = tk il K.MaxAge e ∙ rw (w, y) in
        onward q m x ih (ag il K.MaxAge e q refl refl refl) (λ z. rw st) (rw st) (rw st) (rw st) (ca il K.MaxAge e ∙ rw (w, y)) (ab il K.MaxAge e ∙ rw (value_new r.age w (held (age_of (value_of l))), y)) (pa il K.MaxAge e) (cv il K.MaxAge e)
    age false none w y e = broken Cause.MaxAge (tk il K.MaxAge e ∙ rw (w, y)) (ca il K.MaxAge e ∙ rw (w, y))

    each : (k : Kind) → kind_of (name_of l) ≡ k → Goal
    each K.Version e = version r.version (is_version (value_of l)) refl refl e
    each K.Mode e = mode (holds r.mode) (mode_of (value_of l)) refl refl e
    each K.MaxAge e = age (holds r.age) (age_of (value_of l)) refl refl e
    each K.Mx e = mx (is_pattern (value_of l)) refl e
    each K.Other e = other e

  line : (t : Bool) → is_line l ≡ t → IH → Goal
  unfolding take_line cause_after
  line true il ih = each il ih (kind_of (name_of l)) refl
  line false il ih = broken Cause.Form (rw il) (rw il)

same : (host s : List ℕ) (earlier ls : List (List ℕ)) (r : Seen) (m : ℕ) (x : Bool) → Agrees r earlier → run host s r m x (length earlier) ls ≡ outcome (absorb r ls) (m + length (patterns ls)) (x || some_matches (patterns ls) host) (first_fault s earlier ls)
unfolding run first_fault outcome patterns any Goal IH
same host s earlier [] r m x a = rw (absorb_none r, add-zero m, or-false x)
same host s earlier (l ∷ ls) r m x a = line host s earlier ls r m x l a (is_line l) refl (λ q k y b. same host s (l ∷ earlier) ls q k y b)

-- `check`: the start of its loop, its turns and its ends
pub check_start : (host : List ℕ) (x : Bool) (s : List ℕ) → (length s ≡ 0 → ⊥) → checked host x s ≡ run host s (record { version = false; mode = None; age = None }) 0 x 0 (lines s)
unfolding checked body_fault seen_in any or_value holds
check_start host x s h =
    let r : Seen = record { version = false; mode = None; age = None } in
    let z : 0 + length (patterns (lines s)) ≡ length (patterns (lines s)) = omega arith in
    rw (ne_eqb (length s) 0 h, ← z)
    (sym (same host s [] (lines s) r 0 x (record { version = refl; mode = refl; age = refl })))

pub check_empty : (host : List ℕ) (x : Bool) (s : List ℕ) (f : Fault) → length s ≡ 0 → f ≡ record { cause = Cause.Form; line = 0 + 1; offset = 0 } → Err f ≡ checked host x s
unfolding checked body_fault fault_at outcome line_start
check_empty host x s f h e = rw (eq-eqb (length s) 0 h, e) refl

turned_on : (st : Result Step Cause) (next : ℕ) (p : Step × ℕ) → Ok p ≡ placed st next → (st ≡ Ok p.0) × (p.1 ≡ next)
unfolding placed
turned_on (Ok q) next p h = let e : p ≡ record { 0 = q; 1 = next } = cc in rw e (refl, refl)
turned_on (Err c) next p h = never cc

turned_broken : (st : Result Step Cause) (next : ℕ) (c : Cause) → Err c ≡ placed st next → st ≡ Err c
unfolding placed
turned_broken (Ok q) next c h = never cc
turned_broken (Err d) next c h = cc

-- a turn: p is what `take_line` gave at `at`
module _ (host : List ℕ) (x : Bool) (s : List ℕ) (r : Seen) (at : ℕ) where
  module _ (p : Step × ℕ) (g : Ok p ≡ turn_at host x r s at) where
    turn_step : (take_line host x r (line_at s at) ≡ Ok p.0) × (p.1 ≡ line_end s at + 1)
    unfolding turn_at
    turn_step = turned_on (take_line host x r (line_at s at)) (line_end s at + 1) p g

    pub turn_place : p.1 ≡ line_end s at + 1
    turn_place = turn_step.1

    -- no more lines than bytes were passed
    pub turn_counts : (n : ℕ) → n ≤ at → n + 1 ≤ p.1
    turn_counts n h = omega (arith, turn_place, next_after s at)

  broken_step : (c : Cause) → Err c ≡ turn_at host x r s at → take_line host x r (line_at s at) ≡ Err c
  unfolding turn_at
  broken_step c e = turned_broken (take_line host x r (line_at s at)) (line_end s at + 1) c e

  -- w is whether the host was listed at the start
  module _ (w : Bool) (m n : ℕ) (inv : checked host w s ≡ run host s r m x n (lines (drop at s))) (h : at < length s) where
    turn : checked host w s ≡ stop_or s n (take_line host x r (line_at s at)) (run host s (seen_after r (take_line host x r (line_at s at))) (count_after m (take_line host x r (line_at s at))) (listed_after x (take_line host x r (line_at s at))) (n + 1) (lines (drop (line_end s at + 1) s)))
    unfolding run
    turn = inv ∙ rw (lines_at s at h)

    pub check_next : (p : Step × ℕ) → Ok p ≡ turn_at host x r s at → (q : Seen) → p.0 ≡ Next q → checked host w s ≡ run host s q m x (n + 1) (lines (drop p.1 s))
    unfolding stop_or seen_after count_after listed_after
    check_next p g q e = turn ∙ rw ((turn_step p g).0, (turn_step p g).1, e) refl

    pub check_pattern : (p : Step × ℕ) → Ok p ≡ turn_at host x r s at → (y : Bool) → p.0 ≡ Pattern y → checked host w s ≡ run host s r (m + 1) y (n + 1) (lines (drop p.1 s))
    unfolding stop_or seen_after count_after listed_after
    check_pattern p g y e = turn ∙ rw ((turn_step p g).0, (turn_step p g).1, e) refl

    pub check_broken : (c : Cause) → Err c ≡ turn_at host x r s at → at ≡ line_start s n → (f : Fault) → f ≡ record { cause = c; line = n + 1; offset = at } → Err f ≡ checked host w s
    unfolding stop_or fault_at
    check_broken c e z f y = rw (y, z) (sym (turn ∙ rw (broken_step c e) refl))

-- where the next line begins
module _ (s : List ℕ) (at k : ℕ) (e : k ≡ line_end s at + 1) where
  pub next_begins : (n : ℕ) → at ≡ line_start s n → k ≡ line_start s (n + 1)
  next_begins n h = e ∙ next_start s at n h

  pub next_fits : at < length s → k ≤ length s + 1
  next_fits h = omega (arith, next_within s at h)

  pub next_less : at < length s → length s + 1 - k < length s + 1 - at
  next_less h = omega (arith, next_after s at, next_within s at h)

pub check_end : (host : List ℕ) (w : Bool) (s : List ℕ) (r : Seen) (m : ℕ) (x : Bool) (n at : ℕ) → checked host w s ≡ run host s r m x n (lines (drop at s)) → length s ≤ at → Ok (record { seen = r; patterns = m; listed = x }) ≡ checked host w s
unfolding run lines
check_end host w s r m x n at inv h = sym (inv ∙ rw (drop_of_length-le s h))

pub start_first : (s : List ℕ) → 0 ≡ line_start s 0
unfolding line_start
start_first s = refl

pub ruleset check_laws = (check_start, check_empty, check_next, check_pattern, check_broken, check_end, start_first, turn_place, next_begins, next_fits, turn_counts, next_less)
