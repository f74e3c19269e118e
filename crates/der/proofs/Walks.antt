-- X.690's walk: the ways out of `element` and of `run`, and where a walk ends. Assumes nothing.
use Rattle.std.specs.Prelude.{Option, None, Some, Result, Ok, Err}
use Prim.Native.Nat.{ℕ, zero, suc, ◌+◌, ◌-◌, ◌<◌, ◌≤◌}
use mathlib.Core.Path.{◌≡◌, refl, sym, ap, ◌∙◌}
use mathlib.Core.Bool.{Bool, true, false, cond}
use mathlib.Core.List.{List}
use native.Mathlib.Nat.{add-zero}
use native.Mathlib.Omega.{arith}
use borrow.Author.Rules.{rules}
use borrow.Author.Tests.{not-true, not-false}
use lib.ListN.{length, take, drop}
use lib.Seq.{length-take-le}
use Rattle.lists.proofs.Bools.{never}
use Rattle.der.specs.declared.Head.{Head}
use Rattle.der.specs.declared.Fault.{Fault}
use Rattle.der.specs.Header.{header, is_constructed}
use Rattle.der.specs.Walk.{fault, Walker, and_then, run_from, walk_run, walk_contents, opened, walk_element}
use Rattle.der.proofs.Heads.{opens_bounds, end_inside}

pub fault_past : {A : Type 0} (o : Fault) (n : ℕ) → ◌≡◌ {A = Result ℕ Fault} (Err o) (Ok n) → A
fault_past o n e = never cc

pub same_end : (n m : ℕ) → ◌≡◌ {A = Result ℕ Fault} (Ok n) (Ok m) → n ≡ m
same_end n m e = cc

-- the definitions, a case at a time
then_fault : (w : Result ℕ Fault) (o : Fault) (go : ℕ → Result ℕ Fault) → w ≡ Err o → and_then w go ≡ Err o
unfolding and_then
then_fault w o go e = rw e

then_past : (w : Result ℕ Fault) (n : ℕ) (go : ℕ → Result ℕ Fault) → w ≡ Ok n → and_then w go ≡ go n
unfolding and_then
then_past w n go e = rw e

run_here : (walk : Walker) (s : List ℕ) (left at : ℕ) → run_from walk s (suc left) 0 at ≡ and_then (walk s at) (λ next. run_from walk s left (next - (at + 1)) (at + 1))
unfolding run_from
run_here walk s left at = refl

run_skips : (walk : Walker) (s : List ℕ) (left k at : ℕ) → run_from walk s (suc left) (suc k) at ≡ run_from walk s left k (at + 1)
unfolding run_from
run_skips walk s left k at = refl

-- the bytes of an element are passed over
skip_run : (walk : Walker) (s : List ℕ) (left k at : ℕ) → k ≤ left → run_from walk s left k at ≡ run_from walk s (left - k) 0 (at + k)
skip_run walk s left zero at h = let z : left - 0 ≡ left = omega arith in rw (add-zero, z)
skip_run walk s zero (suc k) at h = absurd (omega arith)
skip_run walk s (suc left) (suc k) at h =
    let y : suc left - suc k ≡ left - k = omega arith in
    let z : at + 1 + k ≡ at + suc k = omega arith in
    run_skips walk s left k at ∙ skip_run walk s left k (at + 1) (omega arith) ∙ rw (y, z)

-- a run that has no fault ends where its list does
then_ends : (w : Result ℕ Fault) (go : ℕ → Result ℕ Fault) (n m : ℕ) → ((k : ℕ) → go k ≡ Ok n → n ≡ m) → and_then w go ≡ Ok n → n ≡ m
unfolding and_then
then_ends (Ok k) go n m h e = h k e
then_ends (Err o) go n m h e = fault_past o n e

from_ends : (walk : Walker) (s : List ℕ) (left skip at n : ℕ) → run_from walk s left skip at ≡ Ok n → n ≡ at + left
unfolding run_from
from_ends walk s zero skip at n e = omega (arith, same_end at n e)
from_ends walk s (suc left) zero at n e =
    then_ends (walk s at) (λ next. run_from walk s left (next - (at + 1)) (at + 1)) n (at + suc left) (λ k g. omega (arith, from_ends walk s left (k - (at + 1)) (at + 1) n g)) e
from_ends walk s (suc left) (suc skip) at n e = omega (arith, from_ends walk s left skip (at + 1) n e)

pub run_ends : (walk : Walker) (s : List ℕ) (at n : ℕ) → at ≤ length s → walk_run walk s at ≡ Ok n → n ≡ length s
unfolding walk_run
run_ends walk s at n h e = omega (arith, from_ends walk s (length s - at) 0 at n e)

-- a walker that, where it has no fault, passes a byte or more and stays inside
unfoldable pub Steps : Walker → Type 0
Steps walk = (s : List ℕ) (at n : ℕ) → walk s at ≡ Ok n → (at < n) × (n ≤ length s)

-- a run from a place on: it ends there, or its first element is walked
pub run_over : (walk : Walker) (s : List ℕ) (i : ℕ) → length s ≤ i → walk_run walk s i ≡ Ok i
unfolding walk_run run_from
run_over walk s i h = let z : length s - i ≡ 0 = omega arith in rw z

module _ (walk : Walker) (s : List ℕ) (i : ℕ) (more : i < length s) where
  abbrev onward : ℕ → Result ℕ Fault
  onward next = run_from walk s (length s - (i + 1)) (next - (i + 1)) (i + 1)

  run_first : walk_run walk s i ≡ and_then (walk s i) onward
  unfolding walk_run
  run_first = let z : length s - i ≡ suc (length s - (i + 1)) = omega arith in rw z (run_here walk s (length s - (i + 1)) i)

  pub run_stops : (o : Fault) → walk s i ≡ Err o → walk_run walk s i ≡ Err o
  run_stops o e = run_first ∙ then_fault (walk s i) o onward e

  pub run_goes : Steps walk → (next : ℕ) → walk s i ≡ Ok next → walk_run walk s i ≡ walk_run walk s next
  unfolding walk_run Steps
  run_goes steps next e =
      let b = steps s i next e in
      let k : next - (i + 1) ≤ length s - (i + 1) = omega (arith, b.1) in
      let y : length s - (i + 1) - (next - (i + 1)) ≡ length s - next = omega (arith, b.0, b.1) in
      let z : i + 1 + (next - (i + 1)) ≡ next = omega (arith, b.0) in
      run_first ∙ then_past (walk s i) next onward e ∙ skip_run walk s (length s - (i + 1)) (next - (i + 1)) (i + 1) k ∙ rw (y, z)

-- a turn of the loop over a run, and its ways out
module _ (walk : Walker) (steps : Steps walk) (s : List ℕ) (at i : ℕ) (inv : walk_run walk s at ≡ walk_run walk s i) where
  pub run_end : length s ≤ i → Ok i ≡ walk_run walk s at
  run_end h = sym (inv ∙ run_over walk s i h)

  module _ (more : i < length s) (w : Result ℕ Fault) (walked : w ≡ walk s i) where
    pub run_fault : (o : Fault) → w ≡ Err o → Err o ≡ walk_run walk s at
    run_fault o e = sym (inv ∙ run_stops walk s i more o (sym walked ∙ e))

    module _ (next : ℕ) (past : w ≡ Ok next) where
      pub run_less : length s - next < length s - i
      unfolding Steps
      run_less = omega (arith, (steps s i next (sym walked ∙ past)).0)

      pub run_next : walk_run walk s at ≡ walk_run walk s next
      run_next = inv ∙ run_goes walk s i more steps next (sym walked ∙ past)

-- what stands in an element ends where the element does
pub contents_end : (walk : Walker) (s : List ℕ) (h : Head) → h.start ≤ h.end → h.end ≤ length s → (n : ℕ) → walk_contents (walk_run walk) s h ≡ Ok n → n ≡ h.end
unfolding walk_contents
contents_end walk s h a b n e = go (is_constructed h.tag) e
  where
    go : (c : Bool) → cond c (walk_run walk (take h.end s) h.start) (Ok h.end) ≡ Ok n → n ≡ h.end
    go true e = let l = length-take-le h.end s b in omega (arith, run_ends walk (take h.end s) h.start n (omega (arith, l)) e, l)
    go false e = sym (same_end h.end n e)

opened_steps : (walk : Walker) (s : List ℕ) (at : ℕ) (d : Option Head) (n : ℕ) → d ≡ header at (drop at s) → opened (walk_run walk) s at d ≡ Ok n → (at < n) × (n ≤ length s)
unfolding opened
opened_steps walk s at None n q e = never cc
opened_steps walk s at (Some h) n q e =
    let b = opens_bounds at (drop at s) h (sym q) in
    let l = end_inside s at (Some h) h q refl in
    let z = contents_end walk s h b.1.0 l n e in
    (omega (arith, b.0, b.1.0, z), omega (arith, l, z))

pub element_steps : (levels : ℕ) → Steps (walk_element levels)
unfolding walk_element Steps
element_steps zero s at n e = never cc
element_steps (suc levels) s at n e = opened_steps (walk_element levels) s at (header at (drop at s)) n refl e

-- a part from the front
front : (s : List ℕ) (e : ℕ) → take (e - 0) (drop 0 s) ≡ take e s
front s e = let z : e - 0 ≡ e = omega arith in rw z

-- an element lies inside what holds it
module _ (s : List ℕ) (at : ℕ) (d : Option Head) (h : Head) (is_d : d ≡ header at (drop at s)) (opens : d ≡ Some h) where
  pub element_order : h.start ≤ h.end
  element_order = (opens_bounds at (drop at s) h (sym is_d ∙ opens)).1.0

  pub element_inside : h.end ≤ length s
  element_inside = end_inside s at d h is_d opens

-- the ways out of `element`
module _ (s : List ℕ) (levels at : ℕ) where
  pub element_deep : levels ≡ 0 → fault at ≡ walk_element levels s at
  unfolding walk_element
  element_deep e = rw e

  module _ (some : levels ≡ 0 → ⊥) (d : Option Head) (is_d : d ≡ header at (drop at s)) where
    abbrev inner : Walker
    inner = walk_run (walk_element (levels - 1))

    a_level : opened inner s at d ≡ walk_element levels s at
    unfolding walk_element
    a_level = let z : levels ≡ suc (levels - 1) = omega arith in rw is_d (ap (λ (l : ℕ). walk_element l s at) (sym z))

    pub element_none : d ≡ None → fault at ≡ walk_element levels s at
    unfolding opened
    element_none e = cc (a_level)

    module _ (h : Head) (opens : d ≡ Some h) where
      here : walk_contents inner s h ≡ walk_element levels s at
      unfolding opened
      here = cc (a_level)

      module _ (c : Bool) (is_c : c ≡ is_constructed h.tag) where
        pub element_primitive : c ≡ false → Ok h.end ≡ walk_element levels s at
        unfolding walk_contents
        element_primitive e = cc (here)

        pub element_constructed : (w : Result ℕ Fault) → c ≡ true → w ≡ walk_run (walk_element (levels - 1)) (take (h.end - 0) (drop 0 s)) h.start → w ≡ walk_element levels s at
        unfolding walk_contents
        element_constructed w e f = cc (here, front s h.end)

-- the ways out of `walk_contents`
module _ (s : List ℕ) (h : Head) (levels : ℕ) (c : Bool) (is_c : c ≡ is_constructed h.tag) where
  pub contents_primitive : c ≡ false → Ok h.end ≡ walk_contents (walk_run (walk_element levels)) s h
  unfolding walk_contents
  contents_primitive e = cc

  pub contents_constructed : (t : List ℕ) (w : Result ℕ Fault) → c ≡ true → t ≡ take h.end s → w ≡ walk_run (walk_element levels) t h.start → w ≡ walk_contents (walk_run (walk_element levels)) s h
  unfolding walk_contents
  contents_constructed t w e f g = cc

pub ruleset element_laws = (element_deep, element_none, element_order, element_inside, element_primitive, element_constructed, not-true, not-false, rules)

pub ruleset run_laws = (element_steps, run_end, run_fault, run_less, run_next, rules)

pub ruleset contents_laws = (contents_primitive, contents_constructed, not-true, not-false, rules)

opened_ends : (walk : Walker) (s : List ℕ) (at n : ℕ) (d : Option Head) (h : Head) → header at (drop at s) ≡ d → d ≡ Some h → opened (walk_run walk) s at d ≡ Ok n → n ≡ h.end
unfolding opened
opened_ends walk s at n None h i o e = never cc
opened_ends walk s at n (Some k) h i o e =
    let z : k ≡ h = cc in
    contents_end walk s k (opens_bounds at (drop at s) k i).1.0 (end_inside s at (Some k) k (sym i) refl) n e ∙ ap (λ (x : Head). x.end) z

-- X.690's walk of an element that it accepts ends where the element's header says.
pub walk_ends : (levels : ℕ) (s : List ℕ) (at n : ℕ) (h : Head) → header at (drop at s) ≡ Some h → walk_element levels s at ≡ Ok n → n ≡ h.end
unfolding walk_element
walk_ends zero s at n h o e = never cc
walk_ends (suc levels) s at n h o e = opened_ends (walk_element levels) s at n (header at (drop at s)) h refl o e
