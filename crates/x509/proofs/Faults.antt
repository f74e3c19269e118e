-- Where a walk finds a fault: at or after the place where its subject begins, and inside the bytes or at their end. Assumes nothing.
use Rattle.std.specs.Prelude.{Option, None, Some, Result, Ok, Err}
use Prim.Native.Nat.{ℕ, zero, suc, ◌+◌, ◌-◌, ◌≤◌}
use mathlib.Core.Path.{◌≡◌, refl, sym, ap}
use mathlib.Core.Bool.{Bool, true, false, cond}
use mathlib.Core.List.{List}
use native.Mathlib.Omega.{arith}
use lib.ListN.{length, take, drop}
use lib.Seq.{length-take-le}
use Rattle.lists.proofs.Bools.{never}
use Rattle.der.specs.declared.Head.{Head}
use Rattle.der.specs.Header.{header, is_constructed}
use Rattle.der.specs.Walk as Der
use Rattle.der.specs.Walk.{fault}
use Rattle.der.proofs.Heads.{opens_bounds, end_inside}
use Rattle.der.specs.declared.Fault.{Fault}
use Rattle.x509.specs.declared.Place.{Place}
use Rattle.x509.specs.declared.Progress.{Progress}
use Rattle.x509.specs.declared.Noted.{Noted}
use Rattle.x509.specs.declared.Field.{Field}
use Rattle.x509.specs.Fields.{expects, may_end}
use Rattle.x509.specs.Walk.{ElementWalker, noted, and_then, at_end, run_from, walk_run, passing, leaving, walk_in, walk_met, opened, walk_element, none_noted, walk_certificate}
use Rattle.x509.specs.Found.{fields_by, fields_of}

-- a fault lies between two places
abbrev Between : ℕ → ℕ → ℕ → Type 0
Between at end o = (at ≤ o) × (o ≤ end)

at_fault : (at : ℕ) (o : Fault) → record { at = at } ≡ o → at ≡ o.at
at_fault at o e = ap (λ (f : Fault). f.at) e

-- X.690's walk
unfoldable FreeFaults : Der.Walker → Type 0
FreeFaults walk = (s : List ℕ) (at : ℕ) (o : Fault) → at ≤ length s → walk s at ≡ Err o → Between at (length s) o.at

free_then : {A : Type 0} (w : Result ℕ Fault) (go : ℕ → Result ℕ Fault) (o : Fault) → (w ≡ Err o → A) → ((n : ℕ) → go n ≡ Err o → A) → Der.and_then w go ≡ Err o → A
unfolding Der.and_then
free_then (Err p) go o f g e = f e
free_then (Ok n) go o f g e = g n e

free_from : (walk : Der.Walker) → FreeFaults walk → (s : List ℕ) (left skip at : ℕ) (o : Fault) → at + left ≡ length s → Der.run_from walk s left skip at ≡ Err o → Between at (length s) o.at
unfolding Der.run_from FreeFaults
free_from walk f s zero skip at o l e = never cc
free_from walk f s (suc left) zero at o l e =
    free_then (walk s at) (λ next. Der.run_from walk s left (next - (at + 1)) (at + 1)) o (λ h. f s at o (omega (arith, l)) h)
    (λ n h. let b = free_from walk f s left (n - (at + 1)) (at + 1) o (omega (arith, l)) h in (omega (arith, b.0), b.1)) e
free_from walk f s (suc left) (suc skip) at o l e = let b = free_from walk f s left skip (at + 1) o (omega (arith, l)) e in (omega (arith, b.0), b.1)

free_run : (walk : Der.Walker) → FreeFaults walk → FreeFaults (Der.walk_run walk)
unfolding Der.walk_run FreeFaults
free_run walk f s at o l e = free_from walk f s (length s - at) 0 at o (omega (arith, l)) e

-- what stands in an element
module _ (s : List ℕ) (at : ℕ) (o : Fault) (h : Head) (opens : header at (drop at s) ≡ Some h) where
  in_element : Between h.start (length (take h.end s)) o.at → Between at (length s) o.at
  in_element b =
      let c = opens_bounds at (drop at s) h opens in
      let l = end_inside s at (Some h) h (sym opens) refl in
      (omega (arith, b.0, c.0), omega (arith, b.1, l, length-take-le h.end s l))

  starts_inside : h.start ≤ length (take h.end s)
  starts_inside =
      let c = opens_bounds at (drop at s) h opens in
      let l = end_inside s at (Some h) h (sym opens) refl in
      omega (arith, c.1.0, length-take-le h.end s l)

  free_contents : (walk : Der.Walker) → FreeFaults walk → Der.walk_contents walk s h ≡ Err o → Between at (length s) o.at
  unfolding Der.walk_contents FreeFaults
  free_contents walk f e = go (is_constructed h.tag) e
    where
      go : (b : Bool) → cond b (walk (take h.end s) h.start) (Ok h.end) ≡ Err o → Between at (length s) o.at
      go true e = in_element (f (take h.end s) h.start o starts_inside e)
      go false e = never cc

here : (s : List ℕ) (at : ℕ) (o : Fault) → at ≤ length s → at ≡ o.at → Between at (length s) o.at
here s at o l e = (omega (arith, e), omega (arith, e, l))

free_opened : (walk : Der.Walker) → FreeFaults walk → (s : List ℕ) (at : ℕ) (o : Fault) → at ≤ length s → (d : Option Head) → header at (drop at s) ≡ d → Der.opened walk s at d ≡ Err o → Between at (length s) o.at
unfolding Der.opened
free_opened walk f s at o l None q e = here s at o l (at_fault at o cc)
free_opened walk f s at o l (Some h) q e = free_contents s at o h q walk f e

free_element : (levels : ℕ) → FreeFaults (Der.walk_element levels)
unfolding Der.walk_element FreeFaults
free_element zero s at o l e = here s at o l (at_fault at o cc)
free_element (suc levels) s at o l e = free_opened (Der.walk_run (Der.walk_element levels)) (free_run (Der.walk_element levels) (free_element levels)) s at o l (header at (drop at s)) refl e

-- the walk over RFC 5280's fields
unfoldable Faults : ElementWalker → Type 0
Faults walk = (p : Place) (n : Noted) (s : List ℕ) (at : ℕ) (o : Fault) → at ≤ length s → walk p n s at ≡ Err o → Between at (length s) o.at

end_fault : (p : Place) (n : Noted) (at : ℕ) (o : Fault) → at_end p n at ≡ Err o → at ≡ o.at
unfolding at_end
end_fault p n at o e = go (may_end p) e
  where
    go : (b : Bool) → cond b (Ok n) (fault at) ≡ Err o → at ≡ o.at
    go true e = never cc
    go false e = at_fault at o cc

then_fault : {A : Type 0} (w : Result Progress Fault) (go : ℕ → Place → Noted → Result Noted Fault) (o : Fault) → (w ≡ Err o → A) → ((n : ℕ) (q : Place) (m : Noted) → go n q m ≡ Err o → A) → and_then w go ≡ Err o → A
unfolding and_then
then_fault (Err p) go o f g e = f cc
then_fault (Ok x) go o f g e = g x.at x.place x.noted e

from_fault : (walk : ElementWalker) → Faults walk → (s : List ℕ) (left skip : ℕ) (p : Place) (n : Noted) (at : ℕ) (o : Fault) → at + left ≡ length s → run_from walk s left skip p n at ≡ Err o → Between at (length s) o.at
unfolding run_from Faults
from_fault walk f s zero skip p n at o l e = here s at o (omega (arith, l)) (end_fault p n at o e)
from_fault walk f s (suc left) zero p n at o l e =
    then_fault (walk p n s at) (λ next q m. run_from walk s left (next - (at + 1)) q m (at + 1)) o (λ h. f p n s at o (omega (arith, l)) h)
    (λ next q m h. let b = from_fault walk f s left (next - (at + 1)) q m (at + 1) o (omega (arith, l)) h in (omega (arith, b.0), b.1)) e
from_fault walk f s (suc left) (suc skip) p n at o l e = let b = from_fault walk f s left skip p n (at + 1) o (omega (arith, l)) e in (omega (arith, b.0), b.1)

run_faults : (walk : ElementWalker) → Faults walk → (p : Place) (n : Noted) (s : List ℕ) (at : ℕ) (o : Fault) → at ≤ length s → walk_run walk p n s at ≡ Err o → Between at (length s) o.at
unfolding walk_run
run_faults walk f p n s at o l e = from_fault walk f s (length s - at) 0 p n at o (omega (arith, l)) e

passing_fault : (end : ℕ) (after : Place) (n : Noted) (w : Result ℕ Fault) (o : Fault) → passing end after n w ≡ Err o → w ≡ Err o
unfolding passing
passing_fault end after n (Ok x) o e = never cc
passing_fault end after n (Err p) o e = cc

leaving_fault : (end : ℕ) (after : Place) (w : Result Noted Fault) (o : Fault) → leaving end after w ≡ Err o → w ≡ Err o
unfolding leaving
leaving_fault end after (Ok n) o e = never cc
leaving_fault end after (Err p) o e = cc

in_faults : (free : Der.Walker) → FreeFaults free → (walk : ElementWalker) → Faults walk → (s : List ℕ) (at : ℕ) (o : Fault) → (h : Head) → header at (drop at s) ≡ Some h → (after : Place) (n : Noted) (x : Option Place)
    → walk_in free (walk_run walk) s h after n x ≡ Err o → Between at (length s) o.at
unfolding walk_in
in_faults free f walk g s at o h q after n None e = free_contents s at o h q free f (passing_fault h.end after n (Der.walk_contents free s h) o e)
in_faults free f walk g s at o h q after n (Some p) e =
    in_element s at o h q
    (run_faults walk g p n (take h.end s) h.start o (starts_inside s at o h q) (leaving_fault h.end after (walk_run walk p n (take h.end s) h.start) o e))

met_faults : (free : Der.Walker) → FreeFaults free → (walk : ElementWalker) → Faults walk → (s : List ℕ) (at : ℕ) (o : Fault) → at ≤ length s → (h : Head) → header at (drop at s) ≡ Some h → (n : Noted) (x : Option Field)
    → walk_met free (walk_run walk) s at h n x ≡ Err o → Between at (length s) o.at
unfolding walk_met
met_faults free f walk g s at o l h q n None e = here s at o l (at_fault at o cc)
met_faults free f walk g s at o l h q n (Some y) e = in_faults free f walk g s at o h q y.after (noted y.note at n) y.inside e

opened_faults : (free : Der.Walker) → FreeFaults free → (walk : ElementWalker) → Faults walk → (p : Place) (n : Noted) (s : List ℕ) (at : ℕ) (o : Fault) → at ≤ length s → (d : Option Head) → header at (drop at s) ≡ d
    → opened free (walk_run walk) p n s at d ≡ Err o → Between at (length s) o.at
unfolding opened
opened_faults free f walk g p n s at o l None q e = here s at o l (at_fault at o cc)
opened_faults free f walk g p n s at o l (Some h) q e = met_faults free f walk g s at o l h q n (expects p h.tag (take (h.end - h.start) (drop h.start s))) e

element_faults : (levels : ℕ) → Faults (walk_element levels)
unfolding walk_element Faults
element_faults zero p n s at o l e = here s at o l (at_fault at o cc)
element_faults (suc levels) p n s at o l e =
    opened_faults (Der.walk_run (Der.walk_element levels)) (free_run (Der.walk_element levels) (free_element levels)) (walk_element levels) (element_faults levels) p n s at o l (header at (drop at s)) refl e

fields_fault : (s : List ℕ) (w : Result Noted Fault) (o : Fault) → fields_by s w ≡ Err o → w ≡ Err o
unfolding fields_by
fields_fault s (Ok n) o e = never cc
fields_fault s (Err p) o e = let z : p ≡ o = cc in rw z

-- The offset of a fault is at most the number of the bytes.
pub fault_inside : (s : List ℕ) (o : Fault) → fields_of s ≡ Err o → o.at ≤ length s
unfolding fields_of walk_certificate
fault_inside s o e = (run_faults (walk_element 16) (element_faults 16) Place.Certificate none_noted s 0 o (omega arith) (fields_fault s (walk_certificate s) o e)).1
