-- What is wrong with a body: the answer names the first line that offends, its offset and its cause, as document 02 says, in both directions. Assumes nothing.
use Prim.Native.Nat.{ℕ, ◌+◌, ◌≤◌}
use mathlib.Core.Path.{◌≡◌, refl, sym, ap, ◌∙◌}
use mathlib.Core.Bool.{Bool, true, false, cond, not, ◌&&◌, ◌||◌, and-false}
use mathlib.Core.List.{List, [], ◌∷◌, ◌++◌, append_assoc}
use mathlib.Core.Logic.{◌⊎◌, inl, inr}
use mathlib.Core.Option.{Option, none, some}
use native.Mathlib.Omega.{arith}
use lib.Dec.{ltb}
use lib.ListN.{length, take, drop, length-append}
use borrow.Author.Tests.{le-ltb, ne_eqb}
use Rattle.lists.specs.Bytes.{any}
use Rattle.lists.specs.Equal.{agree, same_byte, same_bytes}
use Rattle.lists.specs.Split.{index_of}
use Rattle.lists.specs.Text.{text}
use Rattle.lists.proofs.Agree.{same_bytes_lem}
use Rattle.lists.proofs.Bools.{and_both, by_cond, never}
use Rattle.names.specs.Name.{is_pattern}
use Rattle.policies.specs.declared.Mode.{Mode}
use Rattle.policies.specs.declared.Cause.{Cause}
use Rattle.policies.specs.declared.Cause.TheVariants as C
use Rattle.policies.specs.declared.Fault.{Fault}
use Rattle.policies.specs.declared.PolicyAnswer.{PolicyAnswer}
use Rattle.policies.specs.Lines.{lines, line_start}
use Rattle.policies.specs.Fields.{name_of, value_of, is_line, is_named, any_named, is_version, mode_of, age_of, is_there, is_first, cause_after, patterns}
use Rattle.policies.specs.Policy.{Reading, too_long, longest_body, fault_at, or_later, first_fault, body_fault, first_mode, first_age, has_patterns, complete, completed, judged, read_body, cause_number, fault_answer, answer_to, policy_answer}
use Rattle.policies.specs.Diagnosis.{Wrong, form, version, mode, max_age, mx, Sound, one_more, Begins, Offends, Means, line_form, bad_version, bad_mode, bad_max_age, bad_mx, Diagnosis, zero_bytes, offending}
use Rattle.policies.specs.Diagnosis as D
use Rattle.policies.proofs.Begins.{begins_cut, begins_count, begins_start, line_begins}

-- a line has one name
one_name : (a b l : List ℕ) → same_bytes a b ≡ false → is_named a l ≡ true → is_named b l ≡ false
unfolding is_named
one_name a b l apart h =
    let k : name_of l ≡ a = same_bytes_lem (name_of l) a (and_both (ltb (index_of 58 l) (length l)) (same_bytes (name_of l) a) h).1 in
    rw (k, apart) (and-false (ltb (index_of 58 l) (length l)))

first_named : (name : List ℕ) (earlier : List (List ℕ)) (l : List ℕ) → is_first name earlier l ≡ true → is_named name l ≡ true
unfolding is_first
first_named name earlier l h = (and_both (is_named name l) (not (any_named name earlier)) h).0

-- what is wrong with a line, and what `cause_after` finds
module _ (earlier : List (List ℕ)) (l : List ℕ) where
  not_first : (a b : List ℕ) → same_bytes a b ≡ false → is_named a l ≡ true → is_first b earlier l ≡ false
  unfolding is_first
  not_first a b apart h = rw (one_name a b l apart h)

  pub wrong_cause : (cause : Cause) → Wrong earlier l cause → cause_after earlier l ≡ some cause
  unfolding cause_after agree same_byte
  wrong_cause cause (form h) = rw h
  wrong_cause cause (version h f v) = rw (h, f, v)
  wrong_cause cause (mode h f v) =
      let n : is_named (text "mode") l ≡ true = first_named (text "mode") earlier l f in
      rw (h, not_first (text "mode") (text "version") refl n, f, v)
  wrong_cause cause (max_age h f v) =
      let n : is_named (text "max_age") l ≡ true = first_named (text "max_age") earlier l f in
      rw (h, not_first (text "max_age") (text "version") refl n, not_first (text "max_age") (text "mode") refl n, f, v)
  wrong_cause cause (mx h n v) =
      rw (h, not_first (text "mx") (text "version") refl n, not_first (text "mx") (text "mode") refl n, not_first (text "mx") (text "max_age") refl n, n, v)

  -- a test of content: the name is there, and the value is not good
  content : (a b : Bool) {X : Type 0} → (a ≡ true → b ≡ false → X) → ((a && not b) ≡ false → X) → X
  content true true f g = g refl
  content true false f g = f refl refl
  content false b f g = g refl

  pub cause_wrong : (cause : Cause) → cause_after earlier l ≡ some cause → Wrong earlier l cause
  unfolding cause_after
  cause_wrong cause h = on_form (is_line l) refl h
    where
      named : (c : Cause) → Wrong earlier l c → some c ≡ some cause → Wrong earlier l cause
      named c w e = let same : c ≡ cause = cc in rw same at w

      v : Bool
      v = is_first (text "version") earlier l && not (is_version (value_of l))

      m : Bool
      m = is_first (text "mode") earlier l && not (is_there (mode_of (value_of l)))

      a : Bool
      a = is_first (text "max_age") earlier l && not (is_there (age_of (value_of l)))

      x : Bool
      x = is_named (text "mx") l && not (is_pattern (value_of l))

      on_mx : is_line l ≡ true → cond x (some C.Mx) none ≡ some cause → Wrong earlier l cause
      on_mx f e =
          content (is_named (text "mx") l) (is_pattern (value_of l)) (λ p q. named C.Mx (mx f p q) (rw (p, q) at e)) (λ p. never cc)

      on_age : is_line l ≡ true → cond a (some C.MaxAge) (cond x (some C.Mx) none) ≡ some cause → Wrong earlier l cause
      on_age f e =
          content (is_first (text "max_age") earlier l) (is_there (age_of (value_of l))) (λ p q. named C.MaxAge (max_age f p q) (rw (p, q) at e)) (λ p. on_mx f (rw p at e))

      on_mode : is_line l ≡ true → cond m (some C.Mode) (cond a (some C.MaxAge) (cond x (some C.Mx) none)) ≡ some cause → Wrong earlier l cause
      on_mode f e =
          content (is_first (text "mode") earlier l) (is_there (mode_of (value_of l))) (λ p q. named C.Mode (mode f p q) (rw (p, q) at e)) (λ p. on_age f (rw p at e))

      on_version : is_line l ≡ true → cond v (some C.Version) (cond m (some C.Mode) (cond a (some C.MaxAge) (cond x (some C.Mx) none))) ≡ some cause → Wrong earlier l cause
      on_version f e =
          content (is_first (text "version") earlier l) (is_version (value_of l)) (λ p q. named C.Version (version f p q) (rw (p, q) at e)) (λ p. on_mode f (rw p at e))

      on_form : (t : Bool) → is_line l ≡ t → cond (not t) (some C.Form) (cond v (some C.Version) (cond m (some C.Mode) (cond a (some C.MaxAge) (cond x (some C.Mx) none)))) ≡ some cause → Wrong earlier l cause
      on_form true f e = on_version f e
      on_form false f e = named C.Form (form f) e

  -- nothing is wrong with a line without a cause, and the other way round
  none_wrong : cause_after earlier l ≡ none → (cause : Cause) → Wrong earlier l cause → ⊥
  none_wrong h cause w = never (cc (wrong_cause cause w))

  wrong_none : ((cause : Cause) → Wrong earlier l cause → ⊥) → cause_after earlier l ≡ none
  wrong_none h = go (cause_after earlier l) refl
    where
      go : (o : Option Cause) → cause_after earlier l ≡ o → o ≡ none
      go none e = refl
      go (some c) e = absurd (h c (cause_wrong c e))

-- `first_fault` hands the earlier lines on in any order
record Alike (earlier ls : List (List ℕ)) : Type 0 where
  named : (name : List ℕ) → any_named name earlier ≡ any_named name ls
  count : length earlier ≡ length ls

any_last : (p : List ℕ → Bool) (ls : List (List ℕ)) (l : List ℕ) → any p (ls ++ (l ∷ [])) ≡ (p l || any p ls)
unfolding any
any_last p [] l = refl
any_last p (m ∷ ls) l = go (p m) (p l) (any_last p ls l)
  where
    go : (t u : Bool) → any p (ls ++ (l ∷ [])) ≡ (u || any p ls) → (t || any p (ls ++ (l ∷ []))) ≡ (u || (t || any p ls))
    go true true e = refl
    go true false e = refl
    go false u e = e

alike_more : (earlier ls : List (List ℕ)) (l : List ℕ) → Alike earlier ls → Alike (l ∷ earlier) (ls ++ (l ∷ []))
unfolding any
alike_more earlier ls l a =
    record {
      named = λ name. rw (any_last (is_named name) ls l, a.named name);
      count = omega (arith, length-append ls (l ∷ []), a.count);
    }

cause_alike : (earlier ls : List (List ℕ)) (l : List ℕ) → Alike earlier ls → cause_after earlier l ≡ cause_after ls l
unfolding cause_after is_first
cause_alike earlier ls l a = rw (a.named (text "version"), a.named (text "mode"), a.named (text "max_age"))

-- a fault that was found in the lines `all`: the line that offends, with nothing wrong before it
record Found (s : List ℕ) (all : List (List ℕ)) (f : Fault) : Type 0 where
  before : List (List ℕ)
  line : List ℕ
  later : List (List ℕ)
  cause : Cause
  parts : all ≡ before ++ (line ∷ later)
  sound : Sound before
  wrong : Wrong before line cause
  is : f ≡ fault_at s (length before) cause

found : (s : List ℕ) (earlier ls ms : List (List ℕ)) → Alike earlier ls → Sound ls → (f : Fault) → first_fault s earlier ms ≡ some f → Found s (ls ++ ms) f
unfolding first_fault or_later
found s earlier ls [] a g f h = never cc
found s earlier ls (l ∷ ms) a g f h = go (cause_after earlier l) refl (found s (l ∷ earlier) (ls ++ (l ∷ [])) ms (alike_more earlier ls l a)) h
  where
    go : (o : Option Cause) → cause_after earlier l ≡ o → (Sound (ls ++ (l ∷ [])) → (k : Fault) → first_fault s (l ∷ earlier) ms ≡ some k → Found s (ls ++ (l ∷ []) ++ ms) k) → or_later s (length earlier) o (first_fault s (l ∷ earlier) ms) ≡ some f → Found s (ls ++ (l ∷ ms)) f
    go none e ih h = rw (append_assoc ls (l ∷ []) ms) at (ih (one_more g (none_wrong ls l (sym (cause_alike earlier ls l a) ∙ e))) f h)
    go (some c) e ih h =
        record {
          before = ls;
          line = l;
          later = ms;
          cause = c;
          parts = refl;
          sound = g;
          wrong = cause_wrong ls l c (sym (cause_alike earlier ls l a) ∙ e);
          is = let k : fault_at s (length earlier) c ≡ f = cc in sym k ∙ rw a.count;
        }

-- no fault is found in sound lines
record Passed (s : List ℕ) (ls : List (List ℕ)) : Type 0 where
  earlier : List (List ℕ)
  alike : Alike earlier ls
  goes_on : (ms : List (List ℕ)) → first_fault s [] (ls ++ ms) ≡ first_fault s earlier ms

one_on : (s : List ℕ) (earlier : List (List ℕ)) (l : List ℕ) (ms : List (List ℕ)) → cause_after earlier l ≡ none → first_fault s earlier (l ∷ ms) ≡ first_fault s (l ∷ earlier) ms
unfolding first_fault or_later
one_on s earlier l ms h = rw h

passed : (s : List ℕ) (ls : List (List ℕ)) → Sound ls → Passed s ls
passed s ls D.none = record { earlier = []; alike = record { named = λ name. refl; count = refl }; goes_on = λ ms. refl }
passed s ls (one_more {ls = ks} {l} g w) = go (passed s ks g)
  where
    go : Passed s ks → Passed s (ks ++ (l ∷ []))
    go p =
        record {
          earlier = l ∷ p.earlier;
          alike = alike_more p.earlier ks l p.alike;
          goes_on = λ ms. ap (first_fault s []) (append_assoc ks (l ∷ []) ms) ∙ (p.goes_on (l ∷ ms) ∙ one_on s p.earlier l ms (cause_alike p.earlier ks l p.alike ∙ wrong_none ks l w));
        }

same_parts : (a b c d : List (List ℕ)) → length a ≡ length c → a ++ b ≡ c ++ d → (a ≡ c) × (b ≡ d)
same_parts [] b [] d h e = (refl, e)
same_parts [] b (y ∷ c) d h e = absurd (omega arith)
same_parts (x ∷ a) b [] d h e = absurd (omega arith)
same_parts (x ∷ a) b (y ∷ c) d h e =
    let k = same_parts a b c d (omega arith) cc in
    (cc k.0, k.1)

-- the first fault of a body with a byte: the line that offends first
pub fault_offends : (s : List ℕ) → 1 ≤ length s → (f : Fault) → body_fault s ≡ some f → Offends s f.cause f.line f.offset
unfolding body_fault fault_at
fault_offends s o f h = go (found s [] [] (lines s) (record { named = λ name. refl; count = refl }) D.none f (rw (ne_eqb (length s) 0 (λ z. absurd (omega arith))) at h))
  where
    go : Found s (lines s) f → Offends s f.cause f.line f.offset
    go w =
        let n : ℕ = length w.before in
        let k : ℕ = line_start s n in
        let b : Begins s (n + 1) k = line_begins s n (omega (arith, ap length w.parts, length-append w.before (w.line ∷ w.later))) in
        let q = same_parts (lines (take k s)) (lines (drop k s)) w.before (w.line ∷ w.later) (omega (arith, begins_count s (n + 1) k b)) (sym (begins_cut s (n + 1) k b) ∙ w.parts) in
        rw w.is (record { begins = b; earlier = rw q.0 w.sound; line = w.line; later = w.later; here = q.1; wrong = rw q.0 w.wrong })

pub offends_fault : (s : List ℕ) (cause : Cause) (n k : ℕ) → Offends s cause n k → body_fault s ≡ some (record { cause = cause; line = n; offset = k })
unfolding body_fault first_fault or_later fault_at
offends_fault s cause n k w =
    let ls : List (List ℕ) = lines (take k s) in
    let p : Passed s ls = passed s ls w.earlier in
    let cut : lines s ≡ ls ++ (w.line ∷ w.later) = begins_cut s n k w.begins ∙ rw w.here in
    let c : cause_after p.earlier w.line ≡ some cause = cause_alike p.earlier ls w.line p.alike ∙ wrong_cause ls w.line cause w.wrong in
    rw (ne_eqb (length s) 0 (λ z. absurd (omega (arith, w.begins.inside))))
    (ap (first_fault s []) cut
    ∙ p.goes_on (w.line ∷ w.later)
    ∙ rw (c, p.alike.count, begins_start s n k w.begins, sym (begins_count s n k w.begins)))

-- the number of each cause
pub means_number : (number : ℕ) (cause : Cause) → Means number cause → cause_number cause ≡ number
unfolding cause_number
means_number number cause line_form = refl
means_number number cause bad_version = refl
means_number number cause bad_mode = refl
means_number number cause bad_max_age = refl
means_number number cause bad_mx = refl

pub number_means : (cause : Cause) → Means (cause_number cause) cause
unfolding cause_number
number_means C.Form = line_form
number_means C.Version = bad_version
number_means C.Mode = bad_mode
number_means C.MaxAge = bad_max_age
number_means C.Mx = bad_mx

-- What is wrong with a body is the answer to it, field by field
pub diagnosis : (s : List ℕ) (number n k : ℕ) → length s ≤ longest_body → Diagnosis s number n k → policy_answer s ≡ record { number = number; mode = 0; lifetime = 0; mx_count = 0; line = n; offset = k }
unfolding policy_answer read_body body_fault fault_at line_start judged answer_to fault_answer cause_number
diagnosis s number n k h zero_bytes = refl
diagnosis s number n k h (offending {cause = c} m o) = rw (le-ltb longest_body (length s) h, offends_fault s c n k o, means_number number c m)

-- the first fault of a body is what is wrong with it
pub fault_diagnosis : (s : List ℕ) (f : Fault) → body_fault s ≡ some f → Diagnosis s (cause_number f.cause) f.line f.offset
unfolding body_fault fault_at line_start cause_number
fault_diagnosis [] f h = let e : f ≡ record { cause = C.Form; line = 1; offset = 0 } = cc in rw e zero_bytes
fault_diagnosis (x ∷ s) f h = offending (number_means f.cause) (fault_offends (x ∷ s) (omega arith) f h)

-- lines without a fault are answered with 7 or 52
abbrev pub SevenOr52 : Reading → Type 0
SevenOr52 r = ((answer_to r).number ≡ 7) ⊎ ((answer_to r).number ≡ 52)

complete_number : (v : Bool) (m : Option Mode) (g : Option ℕ) (ps : List (List ℕ)) → SevenOr52 (complete v m g ps)
unfolding complete answer_to
complete_number false m g ps = inr refl
complete_number true none g ps = inr refl
complete_number true (some m) none ps = inr refl
complete_number true (some m) (some g) ps = by_cond SevenOr52 (has_patterns m ps) (λ e. inl refl) (λ e. inr refl)

pub completed_number : (ls : List (List ℕ)) → SevenOr52 (completed ls)
unfolding completed
completed_number ls = complete_number (any_named (text "version") ls) (first_mode ls) (first_age ls) (patterns ls)

-- and an answer 53 to 57 says what is wrong with the body
pub diagnosed : (s : List ℕ) (number n k : ℕ) → 53 ≤ number → number ≤ 57 → policy_answer s ≡ record { number = number; mode = 0; lifetime = 0; mx_count = 0; line = n; offset = k } → Diagnosis s number n k
unfolding policy_answer read_body judged answer_to fault_answer
diagnosed s number n k lo hi h = go (ltb longest_body (length s)) (body_fault s) refl h
  where
    ls : List (List ℕ)
    ls = lines s

    neither : SevenOr52 (completed ls) → (answer_to (completed ls)).number ≡ number → Diagnosis s number n k
    neither (inl e) h = absurd (omega arith)
    neither (inr e) h = absurd (omega arith)

    go : (t : Bool) (o : Option Fault) → body_fault s ≡ o → answer_to (cond t too_long (judged o ls)) ≡ record { number = number; mode = 0; lifetime = 0; mx_count = 0; line = n; offset = k } → Diagnosis s number n k
    go true o e h = let z : 50 ≡ number = ap (λ (a : PolicyAnswer). a.number) h in absurd (omega arith)
    go false none e h = neither (completed_number ls) (ap (λ (a : PolicyAnswer). a.number) h)
    go false (some f) e h =
        let x : cause_number f.cause ≡ number = ap (λ (a : PolicyAnswer). a.number) h in
        let y : f.line ≡ n = ap (λ (a : PolicyAnswer). a.line) h in
        let z : f.offset ≡ k = ap (λ (a : PolicyAnswer). a.offset) h in
        rw (x, y, z) at (fault_diagnosis s f e)
