-- Where RFC 5280's fields are accepted, X.690's own walk of the same bytes accepts them too. Assumes nothing.
use Rattle.std.specs.Prelude.{Option, None, Some, Result, Ok, Err}
use Prim.Native.Nat.{ℕ, zero, suc, ◌+◌, ◌-◌, ◌≤◌}
use mathlib.Core.Path.{◌≡◌, refl, sym, ap, ◌∙◌}
use mathlib.Core.Bool.{Bool, true, false, cond}
use mathlib.Core.List.{List}
use native.Mathlib.Omega.{arith}
use lib.ListN.{length, take, drop}
use lib.Seq.{length-take-le}
use Rattle.lists.proofs.Bools.{never}
use Rattle.der.specs.declared.Head.{Head}
use Rattle.der.specs.Header.{header, is_constructed}
use Rattle.der.specs.Walk as Der
use Rattle.der.proofs.Heads.{opens_bounds, end_inside}
use Rattle.der.proofs.Walks.{contents_end}
use Rattle.der.specs.declared.Fault.{Fault}
use Rattle.x509.specs.declared.Place.{Place}
use Rattle.x509.specs.declared.Progress.{Progress}
use Rattle.x509.specs.declared.Field.{Field}
use Rattle.x509.specs.declared.Noted.{Noted}
use Rattle.x509.specs.Walk.{past, ElementWalker, and_then, run_from, walk_run, passing, leaving, walk_in, walk_met, opened, walk_element, noted}
use Rattle.x509.specs.Fields.{expects}
use Rattle.x509.proofs.Walks.{fault_past, same_end}

-- no run both has a fault and has none
pub run_apart : {A : Type 0} (o : Fault) (m : Noted) → Err o ≡ Ok m → A
run_apart o m e = never cc

-- a walker of elements that passes only what a walker by X.690 passes, and ends where that one does
unfoldable pub Plain : ElementWalker → Der.Walker → Type 0
Plain walk free = (p : Place) (n : Noted) (s : List ℕ) (at next : ℕ) (q : Place) (m : Noted) → walk p n s at ≡ past next q m → free s at ≡ Ok next

-- a run, by its first element and the rest of it
then_plain : (w : Result Progress Fault) (x : Result ℕ Fault) (go : ℕ → Place → Noted → Result Noted Fault) (on : ℕ → Result ℕ Fault) (m : Noted) (e : ℕ) → ((next : ℕ) (q : Place) (k : Noted) → w ≡ past next q k → x ≡ Ok next)
    → ((next : ℕ) (q : Place) (k : Noted) → go next q k ≡ Ok m → on next ≡ Ok e) → and_then w go ≡ Ok m → Der.and_then x on ≡ Ok e
unfolding and_then Der.and_then
then_plain (Err o) x go on m e f g h = run_apart o m h
then_plain (Ok y) x go on m e f g h = rw (f y.at y.place y.noted refl) (g y.at y.place y.noted h)

from_plain : (walk : ElementWalker) (free : Der.Walker) → Plain walk free → (s : List ℕ) (left skip : ℕ) (p : Place) (n : Noted) (at : ℕ) (m : Noted)
    → run_from walk s left skip p n at ≡ Ok m → Der.run_from free s left skip at ≡ Ok (at + left)
unfolding run_from Der.run_from Plain
from_plain walk free f s zero skip p n at m e = let z : at + 0 ≡ at = omega arith in rw z
from_plain walk free f s (suc left) zero p n at m e =
    then_plain (walk p n s at) (free s at) (λ next q k. run_from walk s left (next - (at + 1)) q k (at + 1)) (λ next. Der.run_from free s left (next - (at + 1)) (at + 1)) m (at + suc left)
    (λ next q k g. f p n s at next q k g)
    (λ next q k g. let z : at + 1 + left ≡ at + suc left = omega arith in rw z at (from_plain walk free f s left (next - (at + 1)) q k (at + 1) m g)) e
from_plain walk free f s (suc left) (suc skip) p n at m e =
    let z : at + 1 + left ≡ at + suc left = omega arith in
    rw z at (from_plain walk free f s left skip p n (at + 1) m e)

run_plain : (walk : ElementWalker) (free : Der.Walker) → Plain walk free → (p : Place) (n : Noted) (s : List ℕ) (at : ℕ) (m : Noted) → at ≤ length s
    → walk_run walk p n s at ≡ Ok m → Der.walk_run free s at ≡ Ok (length s)
unfolding walk_run Der.walk_run
run_plain walk free f p n s at m l e =
    let z : at + (length s - at) ≡ length s = omega arith in
    rw z at (from_plain walk free f s (length s - at) 0 p n at m e)

-- what stands in an element, by the walk of its fields
module _ (walk : ElementWalker) (free : Der.Walker) (plain : Plain walk free) (s : List ℕ) (h : Head) (order : h.start ≤ h.end) (inside : h.end ≤ length s) where
  passing_plain : (after : Place) (n : Noted) (w : Result ℕ Fault) (next : ℕ) (q : Place) (m : Noted) → Der.walk_contents (Der.walk_run free) s h ≡ w → passing h.end after n w ≡ past next q m → w ≡ Ok next
  unfolding passing
  passing_plain after n (Err o) next q m f e = fault_past o next q m e
  passing_plain after n (Ok x) next q m f e =
      rw (contents_end free s h order inside x f, same_end h.end next after q n m e)

  contents_plain : (p : Place) (n m : Noted) → walk_run walk p n (take h.end s) h.start ≡ Ok m → Der.walk_contents (Der.walk_run free) s h ≡ Ok h.end
  unfolding Der.walk_contents
  contents_plain p n m e = go (is_constructed h.tag)
    where
      go : (c : Bool) → cond c (Der.walk_run free (take h.end s) h.start) (Ok h.end) ≡ Ok h.end
      go true =
          let l = length-take-le h.end s inside in
          rw l at (run_plain walk free plain p n (take h.end s) h.start m (omega (arith, l, order)) e)
      go false = refl

  leaving_plain : (p : Place) (n : Noted) (after : Place) (w : Result Noted Fault) (next : ℕ) (q : Place) (m : Noted) → walk_run walk p n (take h.end s) h.start ≡ w
      → leaving h.end after w ≡ past next q m → Der.walk_contents (Der.walk_run free) s h ≡ Ok next
  unfolding leaving
  leaving_plain p n after (Err o) next q m f e = fault_past o next q m e
  leaving_plain p n after (Ok k) next q m f e = contents_plain p n k f ∙ ap (λ (x : ℕ). Ok x) (same_end h.end next after q k m e)

  in_plain : (after : Place) (n : Noted) (x : Option Place) (next : ℕ) (q : Place) (m : Noted) → walk_in (Der.walk_run free) (walk_run walk) s h after n x ≡ past next q m → Der.walk_contents (Der.walk_run free) s h ≡ Ok next
  unfolding walk_in
  in_plain after n None next q m e = passing_plain after n (Der.walk_contents (Der.walk_run free) s h) next q m refl e
  in_plain after n (Some p) next q m e = leaving_plain p n after (walk_run walk p n (take h.end s) h.start) next q m refl e

  met_plain : (at : ℕ) (n : Noted) (x : Option Field) (next : ℕ) (q : Place) (m : Noted) → walk_met (Der.walk_run free) (walk_run walk) s at h n x ≡ past next q m → Der.walk_contents (Der.walk_run free) s h ≡ Ok next
  unfolding walk_met
  met_plain at n None next q m e = never cc
  met_plain at n (Some f) next q m e = in_plain f.after (noted f.note at n) f.inside next q m e

opened_plain : (walk : ElementWalker) (free : Der.Walker) → Plain walk free → (p : Place) (n : Noted) (s : List ℕ) (at : ℕ) (d : Option Head) (next : ℕ) (q : Place) (m : Noted) → d ≡ header at (drop at s)
    → opened (Der.walk_run free) (walk_run walk) p n s at d ≡ past next q m → Der.opened (Der.walk_run free) s at d ≡ Ok next
unfolding opened Der.opened
opened_plain walk free f p n s at None next q m i e = never cc
opened_plain walk free f p n s at (Some h) next q m i e =
    met_plain walk free f s h (opens_bounds at (drop at s) h (sym i)).1.0 (end_inside s at (Some h) h i refl) at n (expects p h.tag (take (h.end - h.start) (drop h.start s))) next q m e

element_plain : (levels : ℕ) → Plain (walk_element levels) (Der.walk_element levels)
unfolding Plain walk_element Der.walk_element
element_plain zero p n s at next q m e = never cc
element_plain (suc levels) p n s at next q m e = opened_plain (walk_element levels) (Der.walk_element levels) (element_plain levels) p n s at (header at (drop at s)) next q m refl e

-- An element that is accepted at a place in RFC 5280's fields is accepted by X.690's walk, which ends where it does.
pub plain_element : (levels : ℕ) (p : Place) (n : Noted) (s : List ℕ) (at next : ℕ) (q : Place) (m : Noted) → walk_element levels p n s at ≡ past next q m → Der.walk_element levels s at ≡ Ok next
unfolding Plain
plain_element levels = element_plain levels

-- A run that is accepted from a place on is accepted by X.690's walk, which ends where the list does.
pub plain_run : (levels : ℕ) (p : Place) (n : Noted) (s : List ℕ) (at : ℕ) (m : Noted) → at ≤ length s → walk_run (walk_element levels) p n s at ≡ Ok m
    → Der.walk_run (Der.walk_element levels) s at ≡ Ok (length s)
plain_run levels p n s at m l e = run_plain (walk_element levels) (Der.walk_element levels) (element_plain levels) p n s at m l e
