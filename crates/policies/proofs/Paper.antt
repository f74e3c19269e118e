-- A body is read as a policy exactly where it writes that policy as document 01 says. Assumes nothing.
use Prim.Native.Nat.{ℕ, ◌≤◌}
use mathlib.Core.Path.{◌≡◌, refl, sym, ap, ◌∙◌}
use mathlib.Core.Bool.{Bool, true, false, cond, ◌&&◌, ◌||◌}
use mathlib.Core.List.{List, [], ◌∷◌, map}
use mathlib.Core.Option.{Option, none, some}
use native.Mathlib.Omega.{arith}
use lib.Dec.{leb, ltb}
use lib.ListN.{length}
use borrow.Author.Tests.{le-leb, le-ltb, ltb-false, not-false}
use Rattle.lists.specs.Bytes.{within, all, any}
use Rattle.lists.specs.Equal.{agree, same_byte, same_bytes}
use Rattle.lists.specs.Text.{text}
use Rattle.lists.proofs.Agree.{same_bytes_lem}
use Rattle.names.specs.Name.{is_pattern}
use Rattle.lists.proofs.Bools.{and_both, never}
use Rattle.clock.specs.Clock.{lifetime_of}
use Rattle.policies.specs.declared.Mode.{Mode}
use Rattle.policies.specs.declared.Mode.TheVariants as M
use Rattle.policies.specs.declared.Fault.{Fault}
use Rattle.policies.specs.Lines.{lines}
use Rattle.policies.specs.Fields.{value_of, is_line, is_named, any_named, first_named, patterns, is_version, mode_of, is_digit, decimal_after, age_of, is_there}
use Rattle.policies.specs.Policy.{Policy, too_long, incomplete, policy, longest_body, body_fault, mode_in, age_in, first_mode, first_age, has_patterns, complete, completed, judged, read_body}
use Rattle.policies.specs.Paper.{first_value, values, mode_text, Writes}
use Rattle.policies.proofs.Same.{named_as}
use Rattle.policies.proofs.Forms.{pair_of}
use Rattle.policies.proofs.Ends.{body_read, body_made}
use Rattle.policies.proofs.Exactly.{holds, is_mode, is_age, well_formed, fault_exactly}

-- lines of the form, and their names and values: the same firsts and the same patterns
pub first_pair : (name : List ℕ) (ls : List (List ℕ)) → all is_line ls ≡ true → first_named name ls ≡ first_value name (map pair_of ls)
unfolding all first_named first_value
first_pair name [] h = refl
first_pair name (l ∷ ls) h =
    let k = and_both (is_line l) (all is_line ls) h in
    rw (named_as l name k.0, first_pair name ls k.1)

pub patterns_pair : (ls : List (List ℕ)) → all is_line ls ≡ true → patterns ls ≡ values (text "mx") (map pair_of ls)
unfolding all patterns values
patterns_pair [] h = refl
patterns_pair (l ∷ ls) h =
    let k = and_both (is_line l) (all is_line ls) h in
    rw (named_as l (text "mx") k.0, patterns_pair ls k.1)

-- a line of this name is there exactly where there is a first
any_there : (name : List ℕ) (ls : List (List ℕ)) → any_named name ls ≡ is_there (first_named name ls)
unfolding any first_named is_there
any_there name [] = refl
any_there name (l ∷ ls) = go (any_there name ls) (is_named name l)
  where
    go : any (is_named name) ls ≡ is_there (first_named name ls) → (t : Bool) → (t || any (is_named name) ls) ≡ is_there (cond t (some (value_of l)) (first_named name ls))
    go ih true = refl
    go ih false = ih

absent : {A : Type 0} (o : Option A) → is_there o ≡ false → o ≡ none
unfolding is_there
absent none h = refl
absent (some a) h = never cc

-- the texts of the modes, and what 1 to 10 digits write
mode_read : (m : Mode) → mode_of (mode_text m) ≡ some m
unfolding mode_of mode_text agree same_byte
mode_read M.Enforce = refl
mode_read M.Testing = refl
mode_read M.None = refl

mode_text_lem : (v : List ℕ) (m : Mode) → mode_of v ≡ some m → v ≡ mode_text m
unfolding mode_of mode_text
mode_text_lem v m h = go (same_bytes v (text "enforce")) (same_bytes v (text "testing")) (same_bytes v (text "none")) refl refl refl h
  where
    is : (k : Mode) → some k ≡ some m → v ≡ mode_text k → v ≡ mode_text m
    is k e q = let r : k ≡ m = cc in q ∙ ap mode_text r

    go : (a b c : Bool) → same_bytes v (text "enforce") ≡ a → same_bytes v (text "testing") ≡ b → same_bytes v (text "none") ≡ c → cond a (some M.Enforce) (cond b (some M.Testing) (cond c (some M.None) none)) ≡ some m → v ≡ mode_text m
    go true b c p q r h = is M.Enforce h (same_bytes_lem v (text "enforce") p)
    go false true c p q r h = is M.Testing h (same_bytes_lem v (text "testing") q)
    go false false true p q r h = is M.None h (same_bytes_lem v (text "none") r)
    go false false false p q r h = never cc

age_read : (v : List ℕ) → (within 1 10 (length v) && all is_digit v) ≡ true → age_of v ≡ some (decimal_after 0 v)
unfolding age_of
age_read v h = rw h

age_digits : (v : List ℕ) (n : ℕ) → age_of v ≡ some n → ((within 1 10 (length v) && all is_digit v) ≡ true) × (decimal_after 0 v ≡ n)
unfolding age_of
age_digits v n h = go (within 1 10 (length v) && all is_digit v) h
  where
    go : (t : Bool) → cond t (some (decimal_after 0 v)) none ≡ some n → (t ≡ true) × (decimal_after 0 v ≡ n)
    go true k = (refl, cc)
    go false k = never cc

-- a policy that a body writes is read from it
module _ (s : List ℕ) (p : Policy) (w : Writes s p) where
  read : (all is_line (lines s) ≡ true) × (map pair_of (lines s) ≡ w.fields)
  read = body_read s w.fields w.body

  first_is : (name v : List ℕ) → first_value name w.fields ≡ some v → first_named name (lines s) ≡ some v
  first_is name v h = first_pair name (lines s) read.0 ∙ rw read.1 h

  version_is : first_named (text "version") (lines s) ≡ some (text "STSv1")
  version_is = first_is (text "version") (text "STSv1") w.makes.version

  mode_is : first_named (text "mode") (lines s) ≡ some (mode_text p.mode)
  mode_is = first_is (text "mode") (mode_text p.mode) w.makes.mode

  age_is : first_named (text "max_age") (lines s) ≡ some w.makes.age
  age_is = first_is (text "max_age") w.makes.age w.makes.max_age

  pub patterns_are : patterns (lines s) ≡ p.patterns
  patterns_are = patterns_pair (lines s) read.0 ∙ rw read.1 (sym w.makes.mx)

  well_formed_lem : well_formed (lines s) ≡ true
  unfolding well_formed holds is_version is_there agree same_byte
  well_formed_lem = rw (read.0, version_is, mode_is, mode_read p.mode, age_is, age_read w.makes.age w.makes.digits, patterns_are) w.makes.names

  pub some_byte : leb 1 (length s) ≡ true
  unfolding lines first_named
  some_byte = go s refl
    where
      go : (t : List ℕ) → s ≡ t → leb 1 (length t) ≡ true
      go [] e = absurd (let z : first_named (text "version") [] ≡ some (text "STSv1") = rw e at version_is in never cc)
      go (x ∷ t) e = le-leb 1 (length (x ∷ t)) (omega arith)

  no_fault : body_fault s ≡ none
  no_fault = absent (body_fault s) (fault_exactly s ∙ rw (some_byte, well_formed_lem))

  pub accepts : read_body s ≡ policy p
  unfolding read_body judged completed complete is_there mode_in age_in
  accepts =
      rw (le-ltb 65536 (length s) w.fits, no_fault, any_there (text "version") (lines s), version_is, mode_is, mode_read p.mode, age_is, age_read w.makes.age w.makes.digits, patterns_are, w.makes.enough, ← w.makes.lifetime)

-- what was found first
version_found : (o : Option (List ℕ)) → is_there o ≡ true → holds is_version o ≡ true → o ≡ some (text "STSv1")
unfolding is_there holds is_version
version_found none h k = never cc
version_found (some v) h k = rw (same_bytes_lem v (text "STSv1") k)

mode_found : (o : Option (List ℕ)) (m : Mode) → mode_in o ≡ some m → o ≡ some (mode_text m)
unfolding mode_in
mode_found none m h = never cc
mode_found (some v) m h = rw (mode_text_lem v m h)

record AgeFound (o : Option (List ℕ)) (n : ℕ) : Type 0 where
  age : List ℕ
  is : o ≡ some age
  digits : (within 1 10 (length age) && all is_digit age) ≡ true
  writes : decimal_after 0 age ≡ n

age_found : (o : Option (List ℕ)) (n : ℕ) → age_in o ≡ some n → AgeFound o n
unfolding age_in
age_found none n h = never cc
age_found (some v) n h = record { age = v; is = refl; digits = (age_digits v n h).0; writes = (age_digits v n h).1 }

-- a body that is read as a policy writes it
module _ (s : List ℕ) (fits : length s ≤ longest_body) (clean : body_fault s ≡ none) where
  record Sound : Type 0 where
    form : all is_line (lines s) ≡ true
    version : holds is_version (first_named (text "version") (lines s)) ≡ true
    names : all is_pattern (patterns (lines s)) ≡ true

  sound : Sound
  unfolding is_there well_formed
  sound =
      let a = (and_both (leb 1 (length s)) (well_formed (lines s)) (not-false (leb 1 (length s) && well_formed (lines s)) (sym (fault_exactly s) ∙ rw clean))).1 in
      let ls : List (List ℕ) = lines s in
      let v : Bool = holds is_version (first_named (text "version") ls) in
      let m : Bool = holds is_mode (first_named (text "mode") ls) in
      let g : Bool = holds is_age (first_named (text "max_age") ls) in
      let b = and_both (all is_line ls && v && m && g) (all is_pattern (patterns ls)) a in
      let c = and_both (all is_line ls && v && m) g b.0 in
      let d = and_both (all is_line ls && v) m c.0 in
      let e = and_both (all is_line ls) v d.0 in
      record { form = e.0; version = e.1; names = b.1 }

  made : (m : Mode) (n : ℕ) → any_named (text "version") (lines s) ≡ true → first_mode (lines s) ≡ some m → first_age (lines s) ≡ some n → has_patterns m (patterns (lines s)) ≡ true → Writes s (record { mode = m; lifetime = lifetime_of n; patterns = patterns (lines s) })
  made m n v f g e =
      let ls : List (List ℕ) = lines s in
      let a : AgeFound (first_named (text "max_age") ls) n = age_found (first_named (text "max_age") ls) n g in
      record {
        fields = map pair_of ls;
        body = body_made s sound.form;
        fits = fits;
        makes = record {
          version = sym (first_pair (text "version") ls sound.form) ∙ version_found (first_named (text "version") ls) (sym (any_there (text "version") ls) ∙ v) sound.version;
          mode = sym (first_pair (text "mode") ls sound.form) ∙ mode_found (first_named (text "mode") ls) m f;
          age = a.age;
          max_age = sym (first_pair (text "max_age") ls sound.form) ∙ a.is;
          digits = a.digits;
          lifetime = rw a.writes;
          mx = patterns_pair ls sound.form;
          names = sound.names;
          enough = e;
        };
      }

pub accepted : (s : List ℕ) (p : Policy) → read_body s ≡ policy p → Writes s p
unfolding read_body judged completed complete
accepted s p h = long (ltb longest_body (length s)) refl h
  where
    end : (m : Mode) (n : ℕ) → length s ≤ longest_body → body_fault s ≡ none → any_named (text "version") (lines s) ≡ true → first_mode (lines s) ≡ some m → first_age (lines s) ≡ some n → (t : Bool) → has_patterns m (patterns (lines s)) ≡ t → cond t (policy (record { mode = m; lifetime = lifetime_of n; patterns = patterns (lines s) })) incomplete ≡ policy p → Writes s p
    end m n l c v f g true e k =
        let q : record { mode = m; lifetime = lifetime_of n; patterns = patterns (lines s) } ≡ p = cc in
        rw q at (made s l c m n v f g e)
    end m n l c v f g false e k = never cc

    fields : (v : Bool) (f : Option Mode) (g : Option ℕ) → length s ≤ longest_body → body_fault s ≡ none → any_named (text "version") (lines s) ≡ v → first_mode (lines s) ≡ f → first_age (lines s) ≡ g → complete v f g (patterns (lines s)) ≡ policy p → Writes s p
    fields false f g l c x y z k = never cc
    fields true none g l c x y z k = never cc
    fields true (some m) none l c x y z k = never cc
    fields true (some m) (some n) l c x y z k = end m n l c x y z (has_patterns m (patterns (lines s))) refl k

    fault : (o : Option Fault) → length s ≤ longest_body → body_fault s ≡ o → judged o (lines s) ≡ policy p → Writes s p
    fault (some f) l c k = never cc
    fault none l c k = fields (any_named (text "version") (lines s)) (first_mode (lines s)) (first_age (lines s)) l c refl refl refl k

    long : (t : Bool) → ltb longest_body (length s) ≡ t → cond t too_long (judged (body_fault s) (lines s)) ≡ policy p → Writes s p
    long true e k = never cc
    long false e k = fault (body_fault s) (ltb-false longest_body (length s) e) refl k
