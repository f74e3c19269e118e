-- Document 02, No. 7: the walk over RFC 5280's fields. "Walking one element and walking a run of elements are each other's subject": an element of the table's fields is walked with
-- the run of the fields in it, and what stands in any other field by X.690 alone (der/specs/Walk.antt). A walk is given the place where it stands in the table, a list that
-- ends where what holds its subject ends, and the offset at which its subject begins.
use Rattle.std.specs.Prelude.{ℕ, zero, suc, ◌+◌, ◌-◌, cond, List, length, take, drop, Option, None, Some, Result, Ok, Err}
use Rattle.der.specs.declared.Head.{Head}
use Rattle.der.specs.declared.Fault.{Fault}
use Rattle.der.specs.Header.{header}
use Rattle.der.specs.Walk as Der
use Rattle.der.specs.Walk.{fault}
use Rattle.x509.specs.declared.Place.{Place}
use Rattle.x509.specs.declared.Place.TheVariants.{Certificate}
use Rattle.x509.specs.declared.Note.{Note}
use Rattle.x509.specs.declared.Note.TheVariants.{Nothing, KeyInfo, NameValue, Alternatives}
use Rattle.x509.specs.declared.Field.{Field}
use Rattle.x509.specs.declared.Noted.{Noted}
use Rattle.x509.specs.declared.Progress.{Progress}
use Rattle.x509.specs.Fields.{expects, may_end}

-- The offsets of the elements that are noted, 0 where there is none (at 0 the certificate begins): the public key info, the value of a common name and GeneralNames.
-- "Of several common names the last counts."
unfoldable pub noted : Note → ℕ → Noted → Noted
noted Nothing at n = n
noted KeyInfo at n = record { key = at; name = n.name; alternatives = n.alternatives }
noted NameValue at n = record { key = n.key; name = at; alternatives = n.alternatives }
noted Alternatives at n = record { key = n.key; name = n.name; alternatives = at }

-- past an element: the offset and the place after it, and what is noted
abbrev pub past : ℕ → Place → Noted → Result Progress Fault
past at after n = Ok (record { at = at; place = after; noted = n })

-- a walk of one element, which ends at the offset and the place after it; and a walk of a run
abbrev pub ElementWalker : Type 0
ElementWalker = Place → Noted → List ℕ → ℕ → Result Progress Fault

abbrev pub RunWalker : Type 0
RunWalker = Place → Noted → List ℕ → ℕ → Result Noted Fault

-- go on from where the walk of an element ended, unless with a fault
unfoldable pub and_then : Result Progress Fault → (ℕ → Place → Noted → Result Noted Fault) → Result Noted Fault
and_then (Ok p) go = go p.at p.place p.noted
and_then (Err o) go = Err o

-- the end of a run: "a required element that isn't there is misplaced where it should begin"
unfoldable pub at_end : Place → Noted → ℕ → Result Noted Fault
at_end place n at = cond (may_end place) (Ok n) (fault at)

-- `left` bytes of a run of elements, at whose offset `at` the next element begins after `skip` bytes more
unfoldable pub run_from : ElementWalker → List ℕ → ℕ → ℕ → Place → Noted → ℕ → Result Noted Fault
run_from walk s zero skip place n at = at_end place n at
run_from walk s (suc left) zero place n at = and_then (walk place n s at) (λ next after m. run_from walk s left (next - (at + 1)) after m (at + 1))
run_from walk s (suc left) (suc skip) place n at = run_from walk s left skip place n (at + 1)

-- the elements from `at` to the list's end, each by `walk`
unfoldable pub walk_run : ElementWalker → RunWalker
walk_run walk place n s at = run_from walk s (length s - at) 0 place n at

-- past an element in which anything may stand, by the walk of what stands in it
unfoldable pub passing : ℕ → Place → Noted → Result ℕ Fault → Result Progress Fault
passing end after n (Ok e) = past end after n
passing end after n (Err o) = Err o

-- past an element in which fields stand, by the walk of their run
unfoldable pub leaving : ℕ → Place → Result Noted Fault → Result Progress Fault
leaving end after (Ok n) = past end after n
leaving end after (Err o) = Err o

-- past a field, by the walks of what stands in it: anything, or fields from a place on
unfoldable pub walk_in : Der.Walker → RunWalker → List ℕ → Head → Place → Noted → Option Place → Result Progress Fault
walk_in free run s h after n None = passing h.end after n (Der.walk_contents free s h)
walk_in free run s h after n (Some inside) = leaving h.end after (run inside n (take h.end s) h.start)

-- what an element is where the walk meets it: a field that may stand at that place, or none of it
abbrev pub met : List ℕ → Head → Place → Option Field
met s h place = expects place h.tag (take (h.end - h.start) (drop h.start s))

-- an element that was met: it is misplaced, or a field, which is noted and passed
unfoldable pub walk_met : Der.Walker → RunWalker → List ℕ → ℕ → Head → Noted → Option Field → Result Progress Fault
walk_met free run s at h n None = fault at
walk_met free run s at h n (Some f) = walk_in free run s h f.after (noted f.note at n) f.inside

-- an element by its header: what may stand at that place decides
unfoldable pub opened : Der.Walker → RunWalker → Place → Noted → List ℕ → ℕ → Option Head → Result Progress Fault
opened free run place n s at None = fault at
opened free run place n s at (Some h) = walk_met free run s at h n (met s h place)

-- an element, `levels` deep at most: itself, and what stands in it a level below
unfoldable pub walk_element : ℕ → ElementWalker
walk_element zero place n s at = fault at
walk_element (suc levels) place n s at =
    opened (Der.walk_run (Der.walk_element levels)) (walk_run (walk_element levels)) place n s at (header at (drop at s))

-- nothing is noted yet
abbrev pub none_noted : Noted
none_noted = record { key = 0; name = 0; alternatives = 0 }

-- the whole of some bytes is a certificate: "elements nest at most 16 deep, the certificate being 1"
unfoldable pub walk_certificate : List ℕ → Result Noted Fault
walk_certificate s = walk_run (walk_element 16) Certificate none_noted s 0
