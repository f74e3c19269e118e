-- The returns of `read_policy` and `read_policy_for`, and of the functions that they call. Assumes nothing.
use Prim.Native.Nat.{ℕ, ◌<◌, ◌≤◌}
use mathlib.Core.Path.{◌≡◌, refl, sym, ◌∙◌}
use mathlib.Core.Bool.{Bool, true, false, cond, ◌||◌, and-false}
use mathlib.Core.List.{List}
use mathlib.Core.Option as O
use mathlib.Core.Option.{none, some}
use Rattle.std.specs.Prelude.{Ok, Err}
use native.Mathlib.Omega.{arith}
use lib.Dec.{eqb}
use lib.ListN.{length}
use borrow.Author.Rules.{rules}
use borrow.Author.Tests.{ne_eqb, lt-ltb, le-ltb}
use Rattle.lists.specs.Text.{text}
use Rattle.lists.proofs.Bools.{never}
use Rattle.clock.specs.declared.Lifetime.{Lifetime}
use Rattle.clock.specs.Clock.{lifetime_of}
use Rattle.names.specs.Name.{some_matches}
use Rattle.policies.specs.declared.Mode.{Mode}
use Rattle.policies.specs.declared.Mode.TheVariants as M
use Rattle.policies.specs.declared.Cause.{Cause}
use Rattle.policies.specs.declared.Cause.TheVariants as C
use Rattle.policies.specs.declared.Fault.{Fault}
use Rattle.policies.specs.declared.PolicyAnswer.{PolicyAnswer}
use Rattle.policies.specs.declared.PolicyFor.{PolicyFor}
use Rattle.policies.specs.declared.Checked.{Checked}
use Rattle.policies.specs.Lines.{lines}
use Rattle.policies.specs.Fields.{any_named, patterns}
use Rattle.policies.specs.Policy.{incomplete, policy, body_fault, first_mode, first_age, has_patterns, complete, completed, judged, read_body, mode_number, cause_number, refused_at, refused, fault_answer, answer_to, policy_answer, patterns_of, policy_for}
use Rattle.policies.specs.Reader.{held, seen_in, outcome, checked, accepted, enough, answer_in, seen_answer, for_host}

-- a bad mode is 55, and a bad max_age 56
pub number_mode : (cause : Cause) → cause ≡ C.Mode → 55 ≡ cause_number cause
unfolding cause_number
number_mode cause e = rw e

pub number_max_age : (cause : Cause) → cause ≡ C.MaxAge → 56 ≡ cause_number cause
unfolding cause_number
number_max_age cause e = rw e

pub fault_refused : (f : Fault) (number : ℕ) (a : PolicyAnswer) → number ≡ cause_number f.cause → a ≡ refused_at number f.line f.offset → a ≡ fault_answer f
unfolding fault_answer
fault_refused f number a e k = k ∙ rw e

-- `acceptance`: what `mode_number` and `capped` gave
pub accept : (mode : Mode) (age m number : ℕ) (life : Lifetime) → number ≡ mode_number mode → life ≡ lifetime_of age → ◌≡◌ {A = PolicyAnswer} (record { number = 7; mode = number; lifetime = life.0; mx_count = m; line = 0; offset = 0 }) (accepted mode age m)
unfolding accepted
accept mode age m number life e f = rw (e, f)

-- the answer by the fields seen is the answer to the policy that they make
enough_patterns : (mode : Mode) (ps : List (List ℕ)) → enough mode (length ps) ≡ has_patterns mode ps
unfolding enough has_patterns
enough_patterns M.Enforce ps = refl
enough_patterns M.Testing ps = refl
enough_patterns M.None ps = refl

answer_same : (v : Bool) (mode : O.Option Mode) (age : O.Option ℕ) (ps : List (List ℕ)) → cond v (answer_in (held mode) (held age) (length ps)) (refused 52) ≡ answer_to (complete v mode age ps)
unfolding answer_in held complete answer_to accepted
answer_same false mode age ps = refl
answer_same true none age ps = refl
answer_same true (some mode) none ps = refl
answer_same true (some mode) (some age) ps = rw (enough_patterns mode ps) (go (has_patterns mode ps))
  where
    go : (t : Bool) → cond t (accepted mode age (length ps)) (refused 52) ≡ answer_to (cond t (policy (record { mode = mode; lifetime = lifetime_of age; patterns = ps })) incomplete)
    go true = refl
    go false = refl

-- `for_host`
module _ (a : PolicyAnswer) (x : Bool) where
  pub unlisted : x ≡ false → ◌≡◌ {A = PolicyFor} (record { answer = a; listed = x }) (for_host a x)
  unfolding for_host
  unlisted e = rw e

  pub listed : x ≡ true → ◌≡◌ {A = PolicyFor} (record { answer = a; listed = eqb a.number 7 }) (for_host a x)
  unfolding for_host
  listed e = rw e

pub ruleset host_laws = (unlisted, listed)

-- a refusal lists no host
refused_for : (a : PolicyAnswer) → eqb a.number 7 ≡ false → (x y : Bool) → for_host a x ≡ for_host a y
unfolding for_host
refused_for a e x y = rw (e, and-false x, and-false y)

-- a fault is refused with 53 to 57
pub cause_range : (c : Cause) → (53 ≤ cause_number c) × (cause_number c ≤ 57)
unfolding cause_number
cause_range C.Form = (omega arith, omega arith)
cause_range C.Version = (omega arith, omega arith)
cause_range C.Mode = (omega arith, omega arith)
cause_range C.MaxAge = (omega arith, omega arith)
cause_range C.Mx = (omega arith, omega arith)

fault_refuses : (f : Fault) → eqb (fault_answer f).number 7 ≡ false
unfolding fault_answer
fault_refuses f = ne_eqb (cause_number f.cause) 7 (λ e. absurd (omega (arith, (cause_range f.cause).0)))

-- `read_body`: c is what `check` gave, r is the answer
module _ (s host : List ℕ) (x : Bool) (a : PolicyAnswer) (r : PolicyFor) where
  pub too_long : 65536 < length s → a ≡ refused 50 → r ≡ for_host a false → r ≡ for_host (policy_answer s) (x || some_matches (patterns_of s) host)
  unfolding policy_answer read_body answer_to
  too_long h e f = rw (lt-ltb 65536 (length s) h) (f ∙ rw e (refused_for (refused 50) refl false (x || some_matches (patterns_of s) host)))

  module _ (h : length s ≤ 65536) where
    pub malformed_body : (b : Fault) → Err b ≡ checked host x s → a ≡ fault_answer b → r ≡ for_host a false → r ≡ for_host (policy_answer s) (x || some_matches (patterns_of s) host)
    unfolding policy_answer read_body checked judged outcome answer_to
    malformed_body b k e i = rw (le-ltb 65536 (length s) h) (go (body_fault s) (sym k))
      where
        go : (f : O.Option Fault) → outcome (seen_in (lines s)) (length (patterns (lines s))) (x || some_matches (patterns (lines s)) host) f ≡ Err b → r ≡ for_host (answer_to (judged f (lines s))) (x || some_matches (patterns_of s) host)
        go none k = never cc
        go (some f) k =
            let same : b ≡ f = cc in
            i ∙ rw (e, same) (refused_for (fault_answer f) (fault_refuses f) false (x || some_matches (patterns_of s) host))

    pub sound_body : (c : Checked) → Ok c ≡ checked host x s → a ≡ seen_answer c.seen c.patterns → r ≡ for_host a c.listed → r ≡ for_host (policy_answer s) (x || some_matches (patterns_of s) host)
    unfolding policy_answer read_body checked judged outcome completed seen_answer seen_in patterns_of
    sound_body c k e i = rw (le-ltb 65536 (length s) h) (go (body_fault s) (sym k))
      where
        go : (f : O.Option Fault) → outcome (seen_in (lines s)) (length (patterns (lines s))) (x || some_matches (patterns (lines s)) host) f ≡ Ok c → r ≡ for_host (answer_to (judged f (lines s))) (x || some_matches (patterns (lines s)) host)
        go none k =
            let u : c ≡ record { seen = seen_in (lines s); patterns = length (patterns (lines s)); listed = x || some_matches (patterns (lines s)) host } = cc in
            i ∙ rw (e, u, answer_same (any_named (text "version") (lines s)) (first_mode (lines s)) (first_age (lines s)) (patterns (lines s)))
        go (some f) k = never cc

pub ruleset body_laws = (too_long, malformed_body, sound_body)

-- `read_policy` and `read_policy_for`: r is what `read_body` gave
pub answer_alone : (s host : List ℕ) (x : Bool) (r : PolicyFor) → r ≡ for_host (policy_answer s) (x || some_matches (patterns_of s) host) → r.answer ≡ policy_answer s
unfolding for_host
answer_alone s host x r e = rw e

pub answer_for : (s host : List ℕ) (r : PolicyFor) → r ≡ for_host (policy_answer s) (false || some_matches (patterns_of s) host) → r ≡ policy_for s host
unfolding for_host policy_for
answer_for s host r e = e

pub ruleset policy_laws = (answer_alone, answer_for, rules)
