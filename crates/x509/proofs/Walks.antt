-- The ways out of `element` and of `run`, and where the walk of an element ends. Assumes nothing.
use Rattle.std.specs.Prelude.{Option, None, Some, Result, Ok, Err}
use Prim.Native.Nat.{ℕ, zero, suc, ◌+◌, ◌-◌, ◌<◌, ◌≤◌}
use mathlib.Core.Path.{◌≡◌, refl, sym, ap, ◌∙◌}
use mathlib.Core.Bool.{Bool, true, false}
use mathlib.Core.List.{List}
use native.Mathlib.Nat.{add-zero}
use native.Mathlib.Omega.{arith}
use borrow.Author.Rules.{rules}
use borrow.Author.Tests.{not-true, not-false}
use lib.ListN.{length, take, drop}
use Rattle.lists.proofs.Bools.{never}
use Rattle.der.specs.declared.Head.{Head}
use Rattle.der.specs.Header.{header}
use Rattle.der.specs.Walk as Der
use Rattle.der.specs.Walk.{fault}
use Rattle.der.proofs.Heads.{opens_bounds, end_inside}
use Rattle.der.specs.declared.Fault.{Fault}
use Rattle.x509.specs.declared.Place.{Place}
use Rattle.x509.specs.declared.Field.{Field}
use Rattle.x509.specs.declared.Progress.{Progress}
use Rattle.x509.specs.declared.Noted.{Noted}
use Rattle.x509.specs.Fields.{expects, may_end}
use Rattle.x509.specs.Walk.{past, ElementWalker, RunWalker, noted, and_then, at_end, run_from, walk_run, passing, leaving, walk_in, walk_met, opened, walk_element}

-- the definitions, a case at a time
pub then_fault : (w : Result Progress Fault) (o : Fault) (go : ℕ → Place → Noted → Result Noted Fault) → w ≡ Err o → and_then w go ≡ Err o
unfolding and_then
then_fault w o go e = rw e

pub then_past : (w : Result Progress Fault) (next : ℕ) (p : Place) (n : Noted) (go : ℕ → Place → Noted → Result Noted Fault) → w ≡ past next p n → and_then w go ≡ go next p n
unfolding and_then
then_past w next p n go e = rw e

run_here : (walk : ElementWalker) (s : List ℕ) (left : ℕ) (p : Place) (n : Noted) (at : ℕ) → run_from walk s (suc left) 0 p n at ≡ and_then (walk p n s at) (λ next q m. run_from walk s left (next - (at + 1)) q m (at + 1))
unfolding run_from
run_here walk s left p n at = refl

run_skips : (walk : ElementWalker) (s : List ℕ) (left k : ℕ) (p : Place) (n : Noted) (at : ℕ) → run_from walk s (suc left) (suc k) p n at ≡ run_from walk s left k p n (at + 1)
unfolding run_from
run_skips walk s left k p n at = refl

-- the bytes of an element are passed over
skip_run : (walk : ElementWalker) (s : List ℕ) (left k : ℕ) (p : Place) (n : Noted) (at : ℕ) → k ≤ left → run_from walk s left k p n at ≡ run_from walk s (left - k) 0 p n (at + k)
skip_run walk s left zero p n at h = let z : left - 0 ≡ left = omega arith in rw (add-zero, z)
skip_run walk s zero (suc k) p n at h = absurd (omega arith)
skip_run walk s (suc left) (suc k) p n at h =
    let y : suc left - suc k ≡ left - k = omega arith in
    let z : at + 1 + k ≡ at + suc k = omega arith in
    run_skips walk s left k p n at ∙ skip_run walk s left k p n (at + 1) (omega arith) ∙ rw (y, z)

-- a walker that, where it has no fault, passes a byte or more and stays inside
unfoldable pub Steps : ElementWalker → Type 0
Steps walk = (p : Place) (n : Noted) (s : List ℕ) (at next : ℕ) (q : Place) (m : Noted) → walk p n s at ≡ past next q m → (at < next) × (next ≤ length s)

-- a run from a place on: it ends there, or its first element is walked
pub run_over : (walk : ElementWalker) (p : Place) (n : Noted) (s : List ℕ) (i : ℕ) → length s ≤ i → walk_run walk p n s i ≡ at_end p n i
unfolding walk_run run_from
run_over walk p n s i h = let z : length s - i ≡ 0 = omega arith in rw z

module _ (walk : ElementWalker) (p : Place) (n : Noted) (s : List ℕ) (i : ℕ) (more : i < length s) where
  abbrev onward : ℕ → Place → Noted → Result Noted Fault
  onward next q m = run_from walk s (length s - (i + 1)) (next - (i + 1)) q m (i + 1)

  run_first : walk_run walk p n s i ≡ and_then (walk p n s i) onward
  unfolding walk_run
  run_first = let z : length s - i ≡ suc (length s - (i + 1)) = omega arith in rw z (run_here walk s (length s - (i + 1)) p n i)

  pub run_stops : (o : Fault) → walk p n s i ≡ Err o → walk_run walk p n s i ≡ Err o
  run_stops o e = run_first ∙ then_fault (walk p n s i) o onward e

  pub run_goes : Steps walk → (next : ℕ) (q : Place) (m : Noted) → walk p n s i ≡ past next q m → walk_run walk p n s i ≡ walk_run walk q m s next
  unfolding walk_run Steps
  run_goes steps next q m e =
      let b = steps p n s i next q m e in
      let k : next - (i + 1) ≤ length s - (i + 1) = omega (arith, b.1) in
      let y : length s - (i + 1) - (next - (i + 1)) ≡ length s - next = omega (arith, b.0, b.1) in
      let z : i + 1 + (next - (i + 1)) ≡ next = omega (arith, b.0) in
      run_first ∙ then_past (walk p n s i) next q m onward e ∙ skip_run walk s (length s - (i + 1)) (next - (i + 1)) q m (i + 1) k ∙ rw (y, z)

-- a turn of the loop over a run, and its ways out
module _ (walk : ElementWalker) (steps : Steps walk) (s : List ℕ) (first : Place) (none : Noted) (at : ℕ) (p : Place) (n : Noted) (i : ℕ) (inv : walk_run walk first none s at ≡ walk_run walk p n s i) where
  module _ (over : length s ≤ i) (d : Bool) (is_d : d ≡ may_end p) where
    pub run_end : d ≡ true → Ok n ≡ walk_run walk first none s at
    unfolding at_end
    run_end e = cc (run_over walk p n s i over)

    pub run_missing : d ≡ false → fault i ≡ walk_run walk first none s at
    unfolding at_end
    run_missing e = cc (run_over walk p n s i over)

  module _ (more : i < length s) (w : Result Progress Fault) (walked : w ≡ walk p n s i) where
    pub run_fault : (o : Fault) → w ≡ Err o → Err o ≡ walk_run walk first none s at
    run_fault o e = sym (inv ∙ run_stops walk p n s i more o (sym walked ∙ e))

    module _ (on : Progress) (passed : w ≡ Ok on) where
      pub run_less : length s - on.at < length s - i
      unfolding Steps
      run_less = omega (arith, (steps p n s i on.at on.place on.noted (sym walked ∙ passed)).0)

      pub run_next : walk_run walk first none s at ≡ walk_run walk on.place on.noted s on.at
      run_next = inv ∙ run_goes walk p n s i more steps on.at on.place on.noted (sym walked ∙ passed)

-- an element ends where its header says
pub fault_past : {A : Type 0} (o : Fault) (next : ℕ) (q : Place) (m : Noted) → Err o ≡ past next q m → A
fault_past o next q m e = never cc

pub same_progress : (x y : Progress) → ◌≡◌ {A = Result Progress Fault} (Ok x) (Ok y) → x ≡ y
same_progress x y e = cc

pub same_end : (a b : ℕ) (p q : Place) (n m : Noted) → past a p n ≡ past b q m → a ≡ b
same_end a b p q n m e = ap (λ (x : Progress). x.at) (same_progress (record { at = a; place = p; noted = n }) (record { at = b; place = q; noted = m }) e)

pub passing_end : (end : ℕ) (after : Place) (n : Noted) (w : Result ℕ Fault) (next : ℕ) (q : Place) (m : Noted) → passing end after n w ≡ past next q m → end ≡ next
unfolding passing
passing_end end after n (Err o) next q m e = fault_past o next q m e
passing_end end after n (Ok x) next q m e = same_end end next after q n m e

pub leaving_end : (end : ℕ) (after : Place) (w : Result Noted Fault) (next : ℕ) (q : Place) (m : Noted) → leaving end after w ≡ past next q m → end ≡ next
unfolding leaving
leaving_end end after (Err o) next q m e = fault_past o next q m e
leaving_end end after (Ok n) next q m e = same_end end next after q n m e

in_end : (free : Der.Walker) (run : RunWalker) (s : List ℕ) (h : Head) (after : Place) (n : Noted) (x : Option Place) (next : ℕ) (q : Place) (m : Noted) → walk_in free run s h after n x ≡ past next q m → h.end ≡ next
unfolding walk_in
in_end free run s h after n None next q m e = passing_end h.end after n (Der.walk_contents free s h) next q m e
in_end free run s h after n (Some inside) next q m e = leaving_end h.end after (run inside n (take h.end s) h.start) next q m e

met_end : (free : Der.Walker) (run : RunWalker) (s : List ℕ) (at : ℕ) (h : Head) (n : Noted) (x : Option Field) (next : ℕ) (q : Place) (m : Noted) → walk_met free run s at h n x ≡ past next q m → h.end ≡ next
unfolding walk_met
met_end free run s at h n None next q m e = never cc
met_end free run s at h n (Some f) next q m e = in_end free run s h f.after (noted f.note at n) f.inside next q m e

opened_steps : (free : Der.Walker) (run : RunWalker) (p : Place) (n : Noted) (s : List ℕ) (at : ℕ) (d : Option Head) (next : ℕ) (q : Place) (m : Noted)
    → d ≡ header at (drop at s) → opened free run p n s at d ≡ past next q m → (at < next) × (next ≤ length s)
unfolding opened
opened_steps free run p n s at None next q m i e = never cc
opened_steps free run p n s at (Some h) next q m i e =
    let l = met_end free run s at h n (expects p h.tag (take (h.end - h.start) (drop h.start s))) next q m e in
    let b = opens_bounds at (drop at s) h (sym i) in
    (omega (arith, b.0, b.1.0), omega (arith, end_inside s at (Some h) h i refl))

pub element_steps : (levels : ℕ) → Steps (walk_element levels)
unfolding walk_element Steps
element_steps zero p n s at next q m e = never cc
element_steps (suc levels) p n s at next q m e = opened_steps (Der.walk_run (Der.walk_element levels)) (walk_run (walk_element levels)) p n s at (header at (drop at s)) next q m refl e

-- a part from the front
front : (s : List ℕ) (e : ℕ) → take (e - 0) (drop 0 s) ≡ take e s
front s e = let z : e - 0 ≡ e = omega arith in rw z

-- an element lies inside what holds it
module _ (s : List ℕ) (at : ℕ) (d : Option Head) (h : Head) (is_d : d ≡ header at (drop at s)) (opens : d ≡ Some h) where
  pub head_order : h.start ≤ h.end
  head_order = (opens_bounds at (drop at s) h (sym is_d ∙ opens)).1.0

  pub head_inside : h.end ≤ length s
  head_inside = end_inside s at d h is_d opens

-- the ways out of `element`
module _ (s : List ℕ) (levels at : ℕ) (p : Place) (n : Noted) where
  pub element_deep : levels ≡ 0 → fault at ≡ walk_element levels p n s at
  unfolding walk_element
  element_deep e = rw e

  module _ (some : levels ≡ 0 → ⊥) (d : Option Head) (is_d : d ≡ header at (drop at s)) where
    abbrev free : Der.Walker
    free = Der.walk_run (Der.walk_element (levels - 1))

    abbrev inner : RunWalker
    inner = walk_run (walk_element (levels - 1))

    a_level : opened free inner p n s at d ≡ walk_element levels p n s at
    unfolding walk_element
    a_level = let z : levels ≡ suc (levels - 1) = omega arith in rw is_d (ap (λ (l : ℕ). walk_element l p n s at) (sym z))

    pub element_none : d ≡ None → fault at ≡ walk_element levels p n s at
    unfolding opened
    element_none e = cc (a_level)

    module _ (h : Head) (opens : d ≡ Some h) (x : Option Field) (is_x : x ≡ expects p h.tag (take (h.end - h.start) (drop h.start s))) where
      here : walk_met free inner s at h n x ≡ walk_element levels p n s at
      unfolding opened
      here = cc (a_level)

      pub element_misplaced : x ≡ None → fault at ≡ walk_element levels p n s at
      unfolding walk_met
      element_misplaced e = cc (here)

      module _ (f : Field) (fits : x ≡ Some f) (m : Noted) (is_m : m ≡ noted f.note at n) where
        field_here : walk_in free inner s h f.after m f.inside ≡ walk_element levels p n s at
        unfolding walk_met
        field_here = cc (here)

        module _ (w : Result ℕ Fault) (is_w : w ≡ Der.walk_contents (Der.walk_run (Der.walk_element (levels - 1))) s h) (any : f.inside ≡ None) where
          passing_here : passing h.end f.after m w ≡ walk_element levels p n s at
          unfolding walk_in
          passing_here = cc (field_here)

          pub free_fault : (o : Fault) → w ≡ Err o → Err o ≡ walk_element levels p n s at
          unfolding passing
          free_fault o e = cc (passing_here)

          pub free_past : (k : ℕ) → w ≡ Ok k → past h.end f.after m ≡ walk_element levels p n s at
          unfolding passing
          free_past k e = cc (passing_here)

        module _ (first : Place) (fields : f.inside ≡ Some first) (w : Result Noted Fault) (is_w : w ≡ walk_run (walk_element (levels - 1)) first m (take h.end s) h.start) where
          leaving_here : leaving h.end f.after w ≡ walk_element levels p n s at
          unfolding walk_in
          leaving_here = cc (field_here)

          pub fields_fault : (o : Fault) → w ≡ Err o → Err o ≡ walk_element levels p n s at
          unfolding leaving
          fields_fault o e = cc (leaving_here)

          pub fields_past : (k : Noted) → w ≡ Ok k → past h.end f.after k ≡ walk_element levels p n s at
          unfolding leaving
          fields_past k e = cc (leaving_here)

pub ruleset element_laws = (head_inside, head_order, element_deep, element_none, element_misplaced, free_fault, free_past, fields_fault, fields_past, rules)

pub ruleset run_laws = (element_steps, run_end, run_missing, run_fault, run_less, run_next, not-true, not-false, rules)
