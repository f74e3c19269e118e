-- What is known of an element that the walk over RFC 5280's fields passed. Assumes nothing.
use Rattle.std.specs.Prelude.{Option, None, Some, Result, Ok, Err}
use Prim.Native.Nat.{ℕ, suc, ◌-◌}
use mathlib.Core.Path.{◌≡◌, refl, ap}
use mathlib.Core.List.{List}
use lib.ListN.{take, drop}
use Rattle.der.specs.declared.Head.{Head}
use Rattle.der.specs.Header.{header}
use Rattle.der.specs.Walk as Der
use Rattle.der.specs.declared.Fault.{Fault}
use Rattle.x509.specs.declared.Place.{Place}
use Rattle.x509.specs.declared.Field.{Field}
use Rattle.x509.specs.declared.Progress.{Progress}
use Rattle.x509.specs.declared.Noted.{Noted}
use Rattle.x509.specs.Fields.{expects}
use Rattle.x509.specs.Walk.{past, RunWalker, noted, walk_run, passing, leaving, walk_in, walk_met, opened, walk_element}
use Rattle.x509.proofs.Walks.{fault_past, same_progress}
use Rattle.lists.proofs.Bools.{never}

-- what was noted inside an element that is past, by what may stand in it
unfoldable pub Left : RunWalker → List ℕ → Head → Noted → Option Place → Noted → Type 0
Left run s h n None m = n ≡ m
Left run s h n (Some p) m = run p n (take h.end s) h.start ≡ Ok m

-- An element that a walk passed: its header, the field that it fits, where it ends, the place after it, and what was noted inside it.
pub record Passed (levels : ℕ) (p : Place) (n : Noted) (s : List ℕ) (at next : ℕ) (q : Place) (m : Noted) : Type 0 where
  pub head : Head
  pub opens : header at (drop at s) ≡ Some head
  pub field : Field
  pub fits : expects p head.tag (take (head.end - head.start) (drop head.start s)) ≡ Some field
  pub ends : head.end ≡ next
  pub after : field.after ≡ q
  pub left : Left (walk_run (walk_element levels)) s head (noted field.note at n) field.inside m

past_is : (a b : ℕ) (p q : Place) (n m : Noted) → past a p n ≡ past b q m → (a ≡ b) × ((p ≡ q) × (n ≡ m))
past_is a b p q n m e =
    let z = same_progress (record { at = a; place = p; noted = n }) (record { at = b; place = q; noted = m }) e in
    (ap (λ (x : Progress). x.at) z, (ap (λ (x : Progress). x.place) z, ap (λ (x : Progress). x.noted) z))

passing_left : (end : ℕ) (after : Place) (n : Noted) (w : Result ℕ Fault) (next : ℕ) (q : Place) (m : Noted) → passing end after n w ≡ past next q m → (end ≡ next) × ((after ≡ q) × (n ≡ m))
unfolding passing
passing_left end after n (Err o) next q m e = fault_past o next q m e
passing_left end after n (Ok x) next q m e = past_is end next after q n m e

leaving_left : (end : ℕ) (after : Place) (w : Result Noted Fault) (next : ℕ) (q : Place) (m : Noted) → leaving end after w ≡ past next q m → (end ≡ next) × ((after ≡ q) × (w ≡ Ok m))
unfolding leaving
leaving_left end after (Err o) next q m e = fault_past o next q m e
leaving_left end after (Ok k) next q m e =
    let z = past_is end next after q k m e in
    (z.0, (z.1.0, ap (λ (x : Noted). Ok x) z.1.1))

module _ (free : Der.Walker) (run : RunWalker) (s : List ℕ) (at : ℕ) (h : Head) (next : ℕ) (q : Place) (m : Noted) where
  as_left : (n : Noted) (after : Place) (x : Option Place) → walk_in free run s h after n x ≡ past next q m → (h.end ≡ next) × ((after ≡ q) × Left run s h n x m)
  unfolding walk_in Left
  as_left n after None e = passing_left h.end after n (Der.walk_contents free s h) next q m e
  as_left n after (Some p) e = leaving_left h.end after (run p n (take h.end s) h.start) next q m e

module _ (levels : ℕ) (p : Place) (n : Noted) (s : List ℕ) (at next : ℕ) (q : Place) (m : Noted) where
  abbrev free : Der.Walker
  free = Der.walk_run (Der.walk_element levels)

  by_passed : (h : Head) → header at (drop at s) ≡ Some h → (x : Option Field) → expects p h.tag (take (h.end - h.start) (drop h.start s)) ≡ x
      → walk_met free (walk_run (walk_element levels)) s at h n x ≡ past next q m → Passed levels p n s at next q m
  unfolding walk_met
  by_passed h o None f e = never cc
  by_passed h o (Some g) f e =
      let z = as_left free (walk_run (walk_element levels)) s at h next q m (noted g.note at n) g.after g.inside e in
      record { head = h; opens = o; field = g; fits = f; ends = z.0; after = z.1.0; left = z.1.1 }

  pub opened_passed : (d : Option Head) → header at (drop at s) ≡ d → opened free (walk_run (walk_element levels)) p n s at d ≡ past next q m → Passed levels p n s at next q m
  unfolding opened
  opened_passed None o e = never cc
  opened_passed (Some h) o e = by_passed h o (expects p h.tag (take (h.end - h.start) (drop h.start s))) refl e

  pub element_passed : walk_element (suc levels) p n s at ≡ past next q m → Passed levels p n s at next q m
  unfolding walk_element
  element_passed e = opened_passed (header at (drop at s)) refl e
