-- Document 02, No. 7: "Walking one element and walking a run of elements are each other's subject." Here by X.690 alone: of what stands in an element nothing is asked
-- but that it is made of elements where the tag says so. A walk is given a list that ends where what holds its subject ends, and the place in it where its subject
-- begins; it ends past its subject, or with a fault at the place of the first element "whose header is of another form, that overruns what holds it, is too deep".
use Rattle.std.specs.Prelude.{ℕ, zero, suc, ◌+◌, ◌-◌, cond, List, length, take, drop, Option, None, Some, Result, Ok, Err}
use Rattle.der.specs.declared.Head.{Head}
use Rattle.der.specs.declared.Fault.{Fault}
use Rattle.der.specs.Header.{header, is_constructed}

-- a fault at a place
abbrev pub fault : {A : Type 0} → ℕ → Result A Fault
fault at = Err (record { at = at })

-- a walk of one subject
abbrev pub Walker : Type 0
Walker = List ℕ → ℕ → Result ℕ Fault

-- go on from where a walk ended, unless with a fault
unfoldable pub and_then : Result ℕ Fault → (ℕ → Result ℕ Fault) → Result ℕ Fault
and_then (Ok n) go = go n
and_then (Err o) go = Err o

-- `left` bytes of a run of elements, at whose place `at` the next element begins after `skip` bytes more
unfoldable pub run_from : Walker → List ℕ → ℕ → ℕ → ℕ → Result ℕ Fault
run_from walk s zero skip at = Ok at
run_from walk s (suc left) zero at = and_then (walk s at) (λ next. run_from walk s left (next - (at + 1)) (at + 1))
run_from walk s (suc left) (suc skip) at = run_from walk s left skip (at + 1)

-- the elements from `at` to the list's end, each by `walk`
unfoldable pub walk_run : Walker → Walker
walk_run walk s at = run_from walk s (length s - at) 0 at

-- what stands in the element with that header: a run of elements, by `walk`, where its tag says that it is constructed
unfoldable pub walk_contents : Walker → List ℕ → Head → Result ℕ Fault
walk_contents walk s h = cond (is_constructed h.tag) (walk (take h.end s) h.start) (Ok h.end)

-- an element by its header
unfoldable pub opened : Walker → List ℕ → ℕ → Option Head → Result ℕ Fault
opened walk s at None = fault at
opened walk s at (Some h) = walk_contents walk s h

-- an element, `levels` deep at most: itself, and the run of what stands in it a level below
unfoldable pub walk_element : ℕ → Walker
walk_element zero s at = fault at
walk_element (suc levels) s at = opened (walk_run (walk_element levels)) s at (header at (drop at s))
