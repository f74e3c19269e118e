-- What is known of bytes that are a certificate: it is one element, all of them, and X.690's own walk accepts it. Assumes nothing.
use Rattle.std.specs.Prelude.{Option, None, Some, Result, Ok, Err}
use Prim.Native.Nat.{ℕ, zero, suc, ◌-◌, ◌≤◌}
use mathlib.Core.Path.{◌≡◌, refl, sym, ap, subst, ◌∙◌}
use mathlib.Core.Bool.{Bool, true, false, cond}
use mathlib.Core.List.{List, [], ◌∷◌, ◌++◌}
use native.Mathlib.Omega.{arith}
use borrow.Author.Tests.{ltb-true, ltb-false, eqb-true}
use lib.Dec.{eqb, ltb}
use lib.ListN.{length, take, drop, length-append}
use lib.Seq.{take_all}
use Rattle.lists.proofs.Bools.{never}
use Rattle.der.specs.declared.Head.{Head}
use Rattle.der.specs.Header.{header}
use Rattle.der.specs.Walk as Der
use Rattle.der.specs.Walk.{fault}
use Rattle.der.specs.declared.Fault.{Fault}
use Rattle.x509.specs.declared.Place.{Place}
use Rattle.x509.specs.declared.Note.{Note}
use Rattle.x509.specs.declared.Progress.{Progress}
use Rattle.x509.specs.declared.Noted.{Noted}
use Rattle.x509.specs.declared.Found.{Found}
use Rattle.x509.specs.Fields.{holds, expects, may_end}
use Rattle.x509.specs.Walk.{past, RunWalker, noted, at_end, walk_run, walk_met, opened, walk_element, none_noted, walk_certificate}
use Rattle.x509.specs.Found.{found_at, fields_by, fields_of}
use Rattle.x509.proofs.Walks.{Steps, element_steps, run_over, run_stops, run_goes}
use Rattle.x509.proofs.Plain.{run_apart, plain_element}
use Rattle.der.proofs.Longer.{opens_longer}
use Rattle.x509.specs.declared.Field.{Field}
use Rattle.x509.proofs.Past.{Left, Passed, element_passed}

-- a SEQUENCE that is all of the bytes, in which the fields of a certificate stand, of which that is noted
pub record OneElement (s : List ℕ) (m : Noted) : Type 0 where
  pub head : Head
  pub opens : header 0 s ≡ Some head
  pub ends : head.end ≡ length s
  pub tag : head.tag ≡ 48
  pub fields : walk_run (walk_element 15) Place.TbsCertificate none_noted s head.start ≡ Ok m

-- the certificate is a SEQUENCE, in which its fields stand, and after it the end
fits_one : (tag : ℕ) (c : List ℕ) (f : Field) → expects Place.Certificate tag c ≡ Some f → (tag ≡ 48) × (f ≡ record { note = Note.Nothing; inside = Some Place.TbsCertificate; after = Place.End })
unfolding expects holds
fits_one tag c f e = go (eqb tag 48) refl e
  where
    go : (b : Bool) → eqb tag 48 ≡ b → cond b (Some (record { note = Note.Nothing; inside = Some Place.TbsCertificate; after = Place.End })) None ≡ Some f
        → (tag ≡ 48) × (f ≡ record { note = Note.Nothing; inside = Some Place.TbsCertificate; after = Place.End })
    go true q e = (eqb-true tag 48 q, cc)
    go false q e = never cc

module _ (s : List ℕ) (next : ℕ) (q : Place) (m : Noted) (x : Passed 15 Place.Certificate none_noted s 0 next q m) where
  field_one : (x.head.tag ≡ 48) × (x.field ≡ record { note = Note.Nothing; inside = Some Place.TbsCertificate; after = Place.End })
  field_one = fits_one x.head.tag (take (x.head.end - x.head.start) (drop x.head.start s)) x.field x.fits

  last_one : q ≡ Place.End
  last_one = sym x.after ∙ ap (λ (f : Field). f.after) field_one.1

  fields_one : walk_run (walk_element 15) Place.TbsCertificate none_noted (take x.head.end s) x.head.start ≡ Ok m
  unfolding Left noted
  fields_one = subst (λ (f : Field). Left (walk_run (walk_element 15)) s x.head (noted f.note 0 none_noted) f.inside m) field_one.1 x.left

-- after the last field nothing may stand
end_opened : (free : Der.Walker) (run : RunWalker) (n : Noted) (s : List ℕ) (at : ℕ) (d : Option Head) → opened free run Place.End n s at d ≡ fault at
unfolding opened expects walk_met
end_opened free run n s at None = refl
end_opened free run n s at (Some h) = refl

end_element : (levels : ℕ) (n : Noted) (s : List ℕ) (at : ℕ) → walk_element levels Place.End n s at ≡ fault at
unfolding walk_element
end_element zero n s at = refl
end_element (suc levels) n s at = end_opened (Der.walk_run (Der.walk_element levels)) (walk_run (walk_element levels)) n s at (header at (drop at s))

past_noted : (n m : Noted) → ◌≡◌ {A = Result Noted Fault} (Ok n) (Ok m) → n ≡ m
past_noted n m e = cc

end_run : (n : Noted) (s : List ℕ) (at : ℕ) (m : Noted) → at ≤ length s → walk_run (walk_element 16) Place.End n s at ≡ Ok m → (at ≡ length s) × (n ≡ m)
unfolding at_end may_end
end_run n s at m l e = go (ltb at (length s)) refl
  where
    go : (b : Bool) → ltb at (length s) ≡ b → (at ≡ length s) × (n ≡ m)
    go true q = run_apart (record { at = at }) m (sym (run_stops (walk_element 16) Place.End n s at (ltb-true at (length s) q) (record { at = at }) (end_element 16 n s at)) ∙ e)
    go false q =
        let k = ltb-false at (length s) q in
        (omega (arith, k, l), past_noted n m (sym (run_over (walk_element 16) Place.End n s at k) ∙ e))

steps_of : (next : ℕ) (p q : Place) (n m : Noted) (s : List ℕ) (at : ℕ) → walk_element 16 p n s at ≡ past next q m → next ≤ length s
unfolding Steps
steps_of next p q n m s at e = (element_steps 16 p n s at next q m e).1

no_certificate : (s : List ℕ) (m : Noted) → length s ≤ 0 → walk_run (walk_element 16) Place.Certificate none_noted s 0 ≡ Ok m → ⊥
unfolding at_end may_end
no_certificate s m l e = run_apart (record { at = 0 }) m (sym (run_over (walk_element 16) Place.Certificate none_noted s 0 l) ∙ e)

-- the walk of a certificate that is accepted is the walk of its one element, which ends with the bytes
pub one_element : (s : List ℕ) (m : Noted) → walk_certificate s ≡ Ok m → walk_element 16 Place.Certificate none_noted s 0 ≡ past (length s) Place.End m
unfolding walk_certificate
one_element s m e = go (ltb 0 (length s)) refl (walk_element 16 Place.Certificate none_noted s 0) refl
  where
    go : (b : Bool) → ltb 0 (length s) ≡ b → (w : Result Progress Fault) → walk_element 16 Place.Certificate none_noted s 0 ≡ w → w ≡ past (length s) Place.End m
    go false q w f = absurd (no_certificate s m (ltb-false 0 (length s) q) e)
    go true q (Err o) f = run_apart o m (sym (run_stops (walk_element 16) Place.Certificate none_noted s 0 (ltb-true 0 (length s) q) o f) ∙ e)
    go true q (Ok x) f =
        let next = x.at in
        let p = x.place in
        let k = x.noted in
        let one = element_passed 15 Place.Certificate none_noted s 0 next p k f in
        let on = run_goes (walk_element 16) Place.Certificate none_noted s 0 (ltb-true 0 (length s) q) (element_steps 16) next p k f in
        let r = end_run k s next m (steps_of next Place.Certificate p none_noted k s 0 f) (ap (λ (x : Place). walk_run (walk_element 16) x k s next) (sym (last_one s next p k one)) ∙ sym on ∙ e) in
        rw (r.0, r.1, last_one s next p k one)

-- A certificate that is accepted is one SEQUENCE that is all of the bytes: no byte is left over.
pub whole : (s : List ℕ) (m : Noted) → walk_certificate s ≡ Ok m → OneElement s m
whole s m e =
    let one = element_passed 15 Place.Certificate none_noted s 0 (length s) Place.End m (one_element s m e) in
    let all : take one.head.end s ≡ s = take_all one.head.end s (omega (arith, one.ends)) in
    record { head = one.head; opens = one.opens; ends = one.ends; tag = (field_one s (length s) Place.End m one).0; fields = ap (λ (x : List ℕ). walk_run (walk_element 15) Place.TbsCertificate none_noted x one.head.start) (sym all) ∙ fields_one s (length s) Place.End m one }

-- A certificate that is accepted is accepted by X.690's own walk, 16 levels deep: its headers are right, nothing overruns what holds it, and nothing is too deep.
pub accepted_plain : (s : List ℕ) (m : Noted) → walk_certificate s ≡ Ok m → Der.walk_element 16 s 0 ≡ Ok (length s)
accepted_plain s m e = plain_element 16 Place.Certificate none_noted s 0 (length s) Place.End m (one_element s m e)

-- where fields are found the walk has no fault
pub fields_walk : {A : Type 0} (s : List ℕ) (f : Found) → fields_of s ≡ Ok f → ((m : Noted) → walk_certificate s ≡ Ok m → f ≡ found_at s m → A) → A
unfolding fields_of fields_by
fields_walk {A} s f e k = go (walk_certificate s) refl e
  where
    go : (w : Result Noted Fault) → walk_certificate s ≡ w → fields_by s w ≡ Ok f → A
    go (Err o) q e = never cc
    go (Ok m) q e = k m q (cc)

same_head : (h k : Head) → Some h ≡ Some k → h ≡ k
same_head h k e = cc

no_length : (t : List ℕ) → length t ≡ 0 → t ≡ []
no_length [] e = refl
no_length (x ∷ t) e = absurd (omega (arith, e))

-- A certificate that is accepted is so with no bytes after it: of bytes that begin in the same way only one front is a certificate.
pub one_reading : (s t : List ℕ) (f g : Found) → fields_of s ≡ Ok f → fields_of (s ++ t) ≡ Ok g → t ≡ []
one_reading s t f g e k =
    fields_walk s f e (λ m w z.
    fields_walk (s ++ t) g k (λ n v y.
    let a = whole s m w in
    let b = whole (s ++ t) n v in
    let same : a.head ≡ b.head = same_head a.head b.head (sym (opens_longer s t 0 a.head a.opens) ∙ b.opens) in
    no_length t (omega (arith, a.ends, b.ends, ap (λ (x : Head). x.end) same, length-append s t))))
