-- What a reader expects of the definitions. Assumes nothing.
use Prim.Native.Nat.{ℕ, suc, ◌+◌, ◌*◌, ◌-◌, ◌≤◌}
use mathlib.Core.Path.{◌≡◌, refl, sym, ap, ◌∙◌}
use mathlib.Core.Bool.{Bool, true, false, cond, not, ◌&&◌, ◌||◌}
use mathlib.Core.List.{List, [], ◌∷◌, ◌++◌}
use mathlib.Core.Logic.{◌⊎◌, inl, inr}
use mathlib.Core.Option.{Option, none, some}
use native.Mathlib.Omega.{arith}
use lib.Dec.{eqb, leb, ltb}
use lib.ListN.{length, get_or}
use borrow.Author.Tests.{eqb-true, ne_eqb, le-ltb, leb-true, le-leb, not-true}
use Rattle.lists.specs.Bytes.{within, all}
use Rattle.lists.specs.Equal.{same_bytes}
use Rattle.lists.specs.Split.{to_first, lacks}
use Rattle.lists.specs.Text.{text}
use Rattle.lists.proofs.Bools.{apart, and_both, or_elim, never}
use Rattle.lists.proofs.Laws.{within_true}
use Rattle.clock.specs.Clock.{longest}
use Rattle.clock.proofs.Laws.{capped_most}
use Rattle.policies.specs.declared.Mode.{Mode}
use Rattle.policies.specs.declared.Mode.TheVariants as M
use Rattle.policies.specs.declared.Cause.{Cause}
use Rattle.policies.specs.declared.Fault.{Fault}
use Rattle.policies.specs.declared.PolicyAnswer.{PolicyAnswer}
use Rattle.policies.specs.Lines.{LF, CR, lines}
use Rattle.policies.specs.Fields.{value_of, is_named, first_named, is_there, decimal_after, cause_after}
use Rattle.policies.specs.Policy.{Policy, Reading, too_long, malformed, incomplete, policy, longest_body, fault_at, or_later, first_fault, body_fault, completed, judged, read_body, mode_number, cause_number, fault_answer, answer_to, policy_answer, patterns_of}
use Rattle.policies.specs.Paper.{Pair, Body, nothing, last, lf, crlf, first_value, values, Makes, Writes}
use Rattle.policies.specs.Diagnosis.{Means, line_form, bad_version, bad_mode, bad_max_age, bad_mx, Diagnosis}
use Rattle.policies.proofs.Body.{lines_there}
use Rattle.policies.proofs.Ends.{no_cr}
use Rattle.policies.proofs.Answers.{cause_range}
use Rattle.policies.proofs.Diagnosis.{means_number, number_means, completed_number, diagnosed}
use Rattle.policies.proofs.Exactly.{well_formed, fault_exactly}
use Rattle.policies.proofs.Paper.{accepts, accepted, patterns_are, some_byte}

-- Every answer: 7 with the numbers of a policy, a refusal 50 or 52, or 53 to 57 with a line and an offset; all else is zero
pub data Answer : PolicyAnswer → Type 0 where
  answer_7 : (mode lifetime count : ℕ) → Answer (record { number = 7; mode = mode; lifetime = lifetime; mx_count = count; line = 0; offset = 0 })
  answer_50 : Answer (record { number = 50; mode = 0; lifetime = 0; mx_count = 0; line = 0; offset = 0 })
  answer_52 : Answer (record { number = 52; mode = 0; lifetime = 0; mx_count = 0; line = 0; offset = 0 })
  answer_wrong : {number : ℕ} {cause : Cause} → Means number cause → (line offset : ℕ) → Answer (record { number = number; mode = 0; lifetime = 0; mx_count = 0; line = line; offset = offset })

answers : (r : Reading) → Answer (answer_to r)
unfolding answer_to fault_answer
answers too_long = answer_50
answers (malformed f) = answer_wrong (number_means f.cause) f.line f.offset
answers incomplete = answer_52
answers (policy p) = answer_7 (mode_number p.mode) p.lifetime.0 (length p.patterns)

pub answer_table : (s : List ℕ) → Answer (policy_answer s)
unfolding policy_answer
answer_table s = answers (read_body s)

-- the refusals of a policy: 50, and 52 to 57. So 51 is none
abbrev pub is_policy_refusal : ℕ → Bool
is_policy_refusal n = eqb n 50 || within 52 57 n

pub refusal_range : (n : ℕ) → is_policy_refusal n ≡ true → (50 ≤ n) × (n ≤ 57)
refusal_range n h = or_elim (eqb n 50) (within 52 57 n) (λ e. let k : n ≡ 50 = eqb-true n 50 e in (omega arith, omega arith)) (λ e. let k = within_true 52 57 n e in (omega (arith, k.0), k.1)) h

pub policy_number_lem : (s : List ℕ) → (eqb (policy_answer s).number 7 || is_policy_refusal (policy_answer s).number) ≡ true
policy_number_lem s = go (policy_answer s) (answer_table s)
  where
    wrong : (n : ℕ) (c : Cause) → Means n c → (eqb n 7 || is_policy_refusal n) ≡ true
    wrong n c line_form = refl
    wrong n c bad_version = refl
    wrong n c bad_mode = refl
    wrong n c bad_max_age = refl
    wrong n c bad_mx = refl

    go : (a : PolicyAnswer) → Answer a → (eqb a.number 7 || is_policy_refusal a.number) ≡ true
    go a (answer_7 m l c) = refl
    go a answer_50 = refl
    go a answer_52 = refl
    go a (answer_wrong {number} {cause} m l k) = wrong number cause m

-- 51 is answered no more
pub never_51 : (s : List ℕ) → (policy_answer s).number ≡ 51 → ⊥
never_51 s e = apart (rw e at (policy_number_lem s))

-- and no answer is zero
pub answer_never_zero : (s : List ℕ) → (policy_answer s).number ≡ 0 → ⊥
answer_never_zero s e = apart (rw e at (policy_number_lem s))

-- the numbers of the modes
pub data ModeIs : Mode → ℕ → Type 0 where
  enforce_1 : ModeIs M.Enforce 1
  testing_2 : ModeIs M.Testing 2
  none_3 : ModeIs M.None 3

-- 7 is the answer to a policy and to nothing else: 1 to 65,536 bytes that write it; its mode, 1 enforce, 2 testing, 3 none; its lifetime, at most the longest; and the
-- number of its patterns, which are all those of the body
pub record Accepts (s : List ℕ) : Type 0 where
  pub read : Policy
  pub reads : read_body s ≡ policy read
  pub writes : Writes s read
  pub some_bytes : 1 ≤ length s
  pub fits : length s ≤ longest_body
  pub mode : ModeIs read.mode (policy_answer s).mode
  pub lifetime : (policy_answer s).lifetime ≡ read.lifetime.0
  pub at_most : (policy_answer s).lifetime ≤ longest
  pub patterns : read.patterns ≡ patterns_of s
  pub count : (policy_answer s).mx_count ≡ length (patterns_of s)

mode_is : (m : Mode) → ModeIs m (mode_number m)
unfolding mode_number
mode_is M.Enforce = enforce_1
mode_is M.Testing = testing_2
mode_is M.None = none_3

module _ (s : List ℕ) (p : Policy) (e : read_body s ≡ policy p) where
  written : Writes s p
  written = accepted s p e

  answer_is : policy_answer s ≡ record { number = 7; mode = mode_number p.mode; lifetime = p.lifetime.0; mx_count = length p.patterns; line = 0; offset = 0 }
  unfolding policy_answer answer_to
  answer_is = rw e

  patterns_of_lem : p.patterns ≡ patterns_of s
  unfolding patterns_of
  patterns_of_lem = sym (patterns_are s p written)

  policy_accepted : Accepts s
  policy_accepted =
      record {
        read = p;
        reads = e;
        writes = written;
        some_bytes = leb-true 1 (length s) (some_byte s p written);
        fits = written.fits;
        mode = rw answer_is (mode_is p.mode);
        lifetime = rw answer_is;
        at_most = rw (answer_is, written.makes.lifetime) (capped_most (decimal_after 0 written.makes.age));
        patterns = patterns_of_lem;
        count = rw answer_is (ap length patterns_of_lem);
      }

pub accepted_answer : (s : List ℕ) → (policy_answer s).number ≡ 7 → Accepts s
unfolding policy_answer answer_to fault_answer
accepted_answer s h = go (read_body s) refl h
  where
    go : (r : Reading) → read_body s ≡ r → (answer_to r).number ≡ 7 → Accepts s
    go too_long e k = absurd (omega arith)
    go (malformed f) e k = absurd (omega (arith, (cause_range f.cause).0))
    go incomplete e k = absurd (omega arith)
    go (policy p) e k = policy_accepted s p e

completed_not : (p : ℕ → Bool) → p 7 ≡ false → p 52 ≡ false → (ls : List (List ℕ)) → p (answer_to (completed ls)).number ≡ false
completed_not p a b ls = go (answer_to (completed ls)).number (completed_number ls)
  where
    go : (n : ℕ) → (n ≡ 7) ⊎ (n ≡ 52) → p n ≡ false
    go n (inl e) = rw e a
    go n (inr e) = rw e b

-- In the order 50, 53 to 57, 52: 50 exactly for more than 65,536 bytes
pub long_exactly : (s : List ℕ) → eqb (policy_answer s).number 50 ≡ ltb longest_body (length s)
unfolding policy_answer read_body judged answer_to fault_answer
long_exactly s = go (ltb longest_body (length s)) (body_fault s)
  where
    go : (t : Bool) (o : Option Fault) → eqb (answer_to (cond t too_long (judged o (lines s)))).number 50 ≡ t
    go true o = refl
    go false (some f) = ne_eqb (cause_number f.cause) 50 (λ e. absurd (omega (arith, (cause_range f.cause).0)))
    go false none = completed_not (λ (n : ℕ). eqb n 50) refl refl (lines s)

-- then 53 to 57 exactly for no bytes or lines that are not well-formed; `diagnosis` and `diagnosed` say which
pub malformed_exactly : (s : List ℕ) → within 53 57 (policy_answer s).number ≡ (not (ltb longest_body (length s)) && not (leb 1 (length s) && well_formed (lines s)))
unfolding policy_answer read_body judged answer_to fault_answer is_there
malformed_exactly s = go (ltb longest_body (length s)) (body_fault s) (leb 1 (length s) && well_formed (lines s)) (fault_exactly s)
  where
    go : (t : Bool) (o : Option Fault) (w : Bool) → is_there o ≡ not w → within 53 57 (answer_to (cond t too_long (judged o (lines s)))).number ≡ (not t && not w)
    go true o w h = refl
    go false none true h = completed_not (within 53 57) refl refl (lines s)
    go false none false h = never cc
    go false (some f) true h = never cc
    go false (some f) false h =
        let r = cause_range f.cause in
        rw (le-leb 53 (cause_number f.cause) r.0, le-leb (cause_number f.cause) 57 r.1)

-- and then 7 or 52 by the required fields
pub sound_exactly : (s : List ℕ) → length s ≤ longest_body → (leb 1 (length s) && well_formed (lines s)) ≡ true → policy_answer s ≡ answer_to (completed (lines s))
unfolding policy_answer read_body judged is_there
sound_exactly s h k = rw (le-ltb longest_body (length s) h) (go (body_fault s) (fault_exactly s ∙ rw k))
  where
    go : (o : Option Fault) → is_there o ≡ false → answer_to (judged o (lines s)) ≡ answer_to (completed (lines s))
    go none e = refl
    go (some f) e = never cc

-- No fault is left out: a body of at most 65,536 bytes with which nothing is wrong is answered with 7 or 52
pub nothing_wrong : (s : List ℕ) → length s ≤ longest_body → ((number n k : ℕ) → Diagnosis s number n k → ⊥) → ((policy_answer s).number ≡ 7) ⊎ (policy_answer s ≡ record { number = 52; mode = 0; lifetime = 0; mx_count = 0; line = 0; offset = 0 })
nothing_wrong s h none_wrong = go (policy_answer s) refl (answer_table s)
  where
    go : (a : PolicyAnswer) → policy_answer s ≡ a → Answer a → (a.number ≡ 7) ⊎ (a ≡ record { number = 52; mode = 0; lifetime = 0; mx_count = 0; line = 0; offset = 0 })
    go a e (answer_7 m l c) = inl refl
    go a e answer_50 = apart (sym (le-ltb longest_body (length s) h) ∙ (sym (long_exactly s) ∙ rw e))
    go a e answer_52 = inr refl
    go a e (answer_wrong {number} {cause} m n k) =
        let r = rw (means_number number cause m) at (cause_range cause) in
        absurd (none_wrong number n k (diagnosed s number n k r.0 r.1 e))

-- Bodies of the same lines get the same answer, whatever the ends of the lines, but for the offset of a line that offends
abbrev pub without_offset : PolicyAnswer → PolicyAnswer
without_offset a = record { number = a.number; mode = a.mode; lifetime = a.lifetime; mx_count = a.mx_count; line = a.line; offset = 0 }

fault_alike : (s t : List ℕ) (earlier ls ms : List (List ℕ)) → without_offset (answer_to (judged (first_fault s earlier ls) ms)) ≡ without_offset (answer_to (judged (first_fault t earlier ls) ms))
unfolding first_fault or_later fault_at judged answer_to fault_answer
fault_alike s t earlier [] ms = refl
fault_alike s t earlier (l ∷ ls) ms = go (cause_after earlier l) (fault_alike s t (l ∷ earlier) ls ms)
  where
    go : (o : Option Cause) → without_offset (answer_to (judged (first_fault s (l ∷ earlier) ls) ms)) ≡ without_offset (answer_to (judged (first_fault t (l ∷ earlier) ls) ms)) → without_offset (answer_to (judged (or_later s (length earlier) o (first_fault s (l ∷ earlier) ls)) ms)) ≡ without_offset (answer_to (judged (or_later t (length earlier) o (first_fault t (l ∷ earlier) ls)) ms))
    go none ih = ih
    go (some c) ih = refl

no_lines : {A : Type 0} (x : ℕ) (s : List ℕ) → lines (x ∷ s) ≡ [] → A
no_lines x s e = let z : length (lines (x ∷ s)) ≡ 0 = rw e in absurd (omega (arith, lines_there x s))

pub answer_by_lines : (s t : List ℕ) → lines s ≡ lines t → length s ≤ longest_body → length t ≤ longest_body → without_offset (policy_answer s) ≡ without_offset (policy_answer t)
unfolding policy_answer read_body body_fault lines
answer_by_lines [] [] e h k = refl
answer_by_lines [] (y ∷ t) e h k = no_lines y t (sym e)
answer_by_lines (x ∷ s) [] e h k = no_lines x s e
answer_by_lines (x ∷ s) (y ∷ t) e h k =
    let c = ne_eqb (length (x ∷ s)) 0 (λ z. absurd (omega arith)) in
    let d = ne_eqb (length (y ∷ t)) 0 (λ z. absurd (omega arith)) in
    rw (le-ltb longest_body (length (x ∷ s)) h, le-ltb longest_body (length (y ∷ t)) k, c, d, e) (fault_alike (x ∷ s) (y ∷ t) [] (lines (y ∷ t)) (lines (y ∷ t)))

-- a last end, LF or CRLF, after a line without one changes no line
module _ (e : List ℕ) (end : (x : ℕ) → (x ≡ LF → ⊥) → (x ≡ CR → ⊥) → lines (x ∷ e) ≡ (x ∷ []) ∷ []) where
  final : (s : List ℕ) → 1 ≤ length s → (get_or s (length s - 1) 0 ≡ LF → ⊥) → (get_or s (length s - 1) 0 ≡ CR → ⊥) → lines (s ++ e) ≡ lines s
  unfolding lines to_first
  final [] h n m = absurd (omega arith)
  final (x ∷ []) h n m = end x n m ∙ rw (ne_eqb x LF n, ne_eqb x CR m)
  final (x ∷ y ∷ s) h n m =
      let k : suc (suc (length s)) - 1 ≡ suc (suc (length s) - 1) = omega arith in
      rw (final (y ∷ s) (omega arith) (λ z. n (rw k z)) (λ z. m (rw k z)))

pub final_lf : (s : List ℕ) → 1 ≤ length s → (get_or s (length s - 1) 0 ≡ LF → ⊥) → (get_or s (length s - 1) 0 ≡ CR → ⊥) → lines (s ++ (LF ∷ [])) ≡ lines s
unfolding lines to_first
final_lf = final (LF ∷ []) (λ x n m. rw (ne_eqb x LF n, ne_eqb x CR m))

pub final_crlf : (s : List ℕ) → 1 ≤ length s → (get_or s (length s - 1) 0 ≡ LF → ⊥) → (get_or s (length s - 1) 0 ≡ CR → ⊥) → lines (s ++ (CR ∷ LF ∷ [])) ≡ lines s
unfolding lines to_first
final_crlf = final (CR ∷ LF ∷ []) (λ x n m. rw (ne_eqb x LF n, ne_eqb x CR m))

-- A body that has the fields of an accepted one is read as the same policy: the same mode, lifetime and patterns, whatever its line ends and the blanks in its lines
pub same_fields : (s t : List ℕ) (p : Policy) (w : Writes s p) → Body t w.fields → length t ≤ longest_body → read_body t ≡ policy p
same_fields s t p w b h = accepts t p (record { fields = w.fields; body = b; makes = w.makes; fits = h })

-- the body with each CRLF turned to LF has the same fields
unfoldable pub lf_only : List ℕ → List ℕ
lf_only [] = []
lf_only (b ∷ s) = cond (eqb b CR && eqb (get_or s 0 0) LF) (lf_only s) (b ∷ lf_only s)

lf_after : (l t : List ℕ) → lacks CR l ≡ true → lf_only (l ++ t) ≡ l ++ lf_only t
unfolding lf_only all
lf_after [] t h = refl
lf_after (x ∷ l) t h =
    let k = and_both (not (eqb x CR)) (lacks CR l) h in
    rw (not-true (eqb x CR) k.0, lf_after l t k.1)

lf_line : (l : List ℕ) → lacks CR l ≡ true → lf_only l ≡ l
unfolding lf_only all
lf_line [] h = refl
lf_line (x ∷ l) h =
    let k = and_both (not (eqb x CR)) (lacks CR l) h in
    rw (not-true (eqb x CR) k.0, lf_line l k.1)

pub lf_fields : (s : List ℕ) (fs : List Pair) → Body s fs → Body (lf_only s) fs
unfolding lf_only
lf_fields s fs nothing = nothing
lf_fields s fs (last {l} {f} h) = rw (lf_line l (no_cr l f h)) (last h)
lf_fields s fs (lf {l} {s = t} {f} {fs = gs} h b) = rw (lf_after l (LF ∷ t) (no_cr l f h)) (lf h (lf_fields t gs b))
lf_fields s fs (crlf {l} {s = t} {f} {fs = gs} h b) = rw (lf_after l (CR ∷ LF ∷ t) (no_cr l f h)) (lf h (lf_fields t gs b))

lf_shorter : (s : List ℕ) → length (lf_only s) ≤ length s
unfolding lf_only
lf_shorter [] = omega arith
lf_shorter (b ∷ s) = go (lf_shorter s) (eqb b CR && eqb (get_or s 0 0) LF)
  where
    go : length (lf_only s) ≤ length s → (t : Bool) → length (cond t (lf_only s) (b ∷ lf_only s)) ≤ suc (length s)
    go ih true = omega arith
    go ih false = omega arith

pub lf_same : (s : List ℕ) (p : Policy) → read_body s ≡ policy p → read_body (lf_only s) ≡ policy p
lf_same s p e =
    let w : Writes s p = accepted s p e in
    same_fields s (lf_only s) p w (lf_fields s w.fields w.body) (omega (arith, lf_shorter s, w.fits))

-- The first of a name stays the first, whatever lines follow
pub first_stays : (name : List ℕ) (ls ms : List (List ℕ)) → is_there (first_named name ls) ≡ true → first_named name (ls ++ ms) ≡ first_named name ls
unfolding first_named is_there
first_stays name [] ms h = never cc
first_stays name (l ∷ ls) ms h = go (first_stays name ls ms) (is_named name l) h
  where
    go : (is_there (first_named name ls) ≡ true → first_named name (ls ++ ms) ≡ first_named name ls) → (t : Bool) → is_there (cond t (some (value_of l)) (first_named name ls)) ≡ true → cond t (some (value_of l)) (first_named name (ls ++ ms)) ≡ cond t (some (value_of l)) (first_named name ls)
    go ih true k = refl
    go ih false k = ih k

-- the field has another name, or one of the fields before it has this name
unfoldable pub is_later : List ℕ → List Pair → Pair → Bool
is_later name fs f = not (same_bytes f.name name) || is_there (first_value name fs)

-- the field is no `mx`, and no first version, mode or max_age
unfoldable pub is_ignored : List Pair → Pair → Bool
is_ignored fs f = not (same_bytes f.name (text "mx")) && is_later (text "version") fs f && is_later (text "mode") fs f && is_later (text "max_age") fs f

first_ignored : (name : List ℕ) (f : Pair) (fs gs : List Pair) → is_later name fs f ≡ true → first_value name (fs ++ (f ∷ gs)) ≡ first_value name (fs ++ gs)
unfolding is_later first_value is_there
first_ignored name f [] gs h = go (same_bytes f.name name) h
  where
    go : (t : Bool) → (not t || false) ≡ true → cond t (some f.value) (first_value name gs) ≡ first_value name gs
    go true k = never cc
    go false k = refl
first_ignored name f (g ∷ fs) gs h = go (first_ignored name f fs gs) (same_bytes g.name name) h
  where
    go : (is_later name fs f ≡ true → first_value name (fs ++ (f ∷ gs)) ≡ first_value name (fs ++ gs)) → (t : Bool) → (not (same_bytes f.name name) || is_there (cond t (some g.value) (first_value name fs))) ≡ true → cond t (some g.value) (first_value name (fs ++ (f ∷ gs))) ≡ cond t (some g.value) (first_value name (fs ++ gs))
    go ih true k = refl
    go ih false k = ih k

values_ignored : (name : List ℕ) (f : Pair) (fs gs : List Pair) → same_bytes f.name name ≡ false → values name (fs ++ (f ∷ gs)) ≡ values name (fs ++ gs)
unfolding values
values_ignored name f [] gs h = rw h
values_ignored name f (g ∷ fs) gs h = rw (values_ignored name f fs gs h)

-- An ignored field changes nothing, whatever its value: with it and without it the fields make the same policy
module _ (f : Pair) (fs gs : List Pair) (h : is_ignored fs f ≡ true) (p : Policy) where
  record Ignored : Type 0 where
    version : first_value (text "version") (fs ++ (f ∷ gs)) ≡ first_value (text "version") (fs ++ gs)
    mode : first_value (text "mode") (fs ++ (f ∷ gs)) ≡ first_value (text "mode") (fs ++ gs)
    age : first_value (text "max_age") (fs ++ (f ∷ gs)) ≡ first_value (text "max_age") (fs ++ gs)
    mx : values (text "mx") (fs ++ (f ∷ gs)) ≡ values (text "mx") (fs ++ gs)

  unseen : Ignored
  unfolding is_ignored
  unseen =
      let v : Bool = is_later (text "version") fs f in
      let m : Bool = is_later (text "mode") fs f in
      let x : Bool = not (same_bytes f.name (text "mx")) in
      let a = and_both (x && v && m) (is_later (text "max_age") fs f) h in
      let b = and_both (x && v) m a.0 in
      let c = and_both x v b.0 in
      record {
        version = first_ignored (text "version") f fs gs c.1;
        mode = first_ignored (text "mode") f fs gs b.1;
        age = first_ignored (text "max_age") f fs gs a.1;
        mx = values_ignored (text "mx") f fs gs (not-true (same_bytes f.name (text "mx")) c.0);
      }

  moved : (a b : List Pair) → first_value (text "version") a ≡ first_value (text "version") b → first_value (text "mode") a ≡ first_value (text "mode") b → first_value (text "max_age") a ≡ first_value (text "max_age") b → values (text "mx") a ≡ values (text "mx") b → Makes b p → Makes a p
  moved a b v m g x k =
      record {
        version = v ∙ k.version;
        mode = m ∙ k.mode;
        age = k.age;
        max_age = g ∙ k.max_age;
        digits = k.digits;
        lifetime = k.lifetime;
        mx = k.mx ∙ sym x;
        names = k.names;
        enough = k.enough;
      }

  pub ignored_with : Makes (fs ++ gs) p → Makes (fs ++ (f ∷ gs)) p
  ignored_with = moved (fs ++ (f ∷ gs)) (fs ++ gs) unseen.version unseen.mode unseen.age unseen.mx

  pub ignored_without : Makes (fs ++ (f ∷ gs)) p → Makes (fs ++ gs) p
  ignored_without = moved (fs ++ gs) (fs ++ (f ∷ gs)) (sym unseen.version) (sym unseen.mode) (sym unseen.age) (sym unseen.mx)

-- Digits are decimal: a digit more makes ten times the number and the digit; a zero in front changes nothing
pub decimal_digit : (n : ℕ) (v : List ℕ) (d : ℕ) → decimal_after n (v ++ (d ∷ [])) ≡ decimal_after n v * 10 + (d - 48)
unfolding decimal_after
decimal_digit n [] d = refl
decimal_digit n (x ∷ v) d = decimal_digit (n * 10 + (x - 48)) v d

pub decimal_zero : (v : List ℕ) → decimal_after 0 (48 ∷ v) ≡ decimal_after 0 v
unfolding decimal_after
decimal_zero v = refl
