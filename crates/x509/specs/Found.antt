-- What is found in a certificate, as parts of it: the public key info with its header, the value of the last common name or none, and what stands in GeneralNames.
use Rattle.std.specs.Prelude.{ℕ, cond, List, eqb, drop, Option, None, Some, Result, Ok, Err}
use Rattle.der.specs.declared.Head.{Head}
use Rattle.der.specs.declared.Fault.{Fault}
use Rattle.der.specs.Header.{header}
use Rattle.x509.specs.declared.Part.{Part}
use Rattle.x509.specs.declared.Noted.{Noted}
use Rattle.x509.specs.declared.Found.{Found}
use Rattle.x509.specs.Walk.{walk_certificate}

-- no bytes
abbrev pub nothing : Part
nothing = record { start = 0; end = 0 }

-- an element with its header, and what stands in it
unfoldable pub whole_of : ℕ → Option Head → Part
whole_of at (Some h) = record { start = at; end = h.end }
whole_of at None = nothing

unfoldable pub contents_of : Option Head → Part
contents_of (Some h) = record { start = h.start; end = h.end }
contents_of None = nothing

unfoldable pub whole_at : List ℕ → ℕ → Part
whole_at s at = whole_of at (header at (drop at s))

unfoldable pub contents_at : List ℕ → ℕ → Part
contents_at s at = contents_of (header at (drop at s))

-- what stands in the noted element, or none where nothing was noted
unfoldable pub name_at : List ℕ → ℕ → Option Part
name_at s at = cond (eqb at 0) None (Some (contents_at s at))

unfoldable pub alternatives_at : List ℕ → ℕ → Part
alternatives_at s at = cond (eqb at 0) nothing (contents_at s at)

unfoldable pub found_at : List ℕ → Noted → Found
found_at s n = record { key = whole_at s n.key; name = name_at s n.name; alternatives = alternatives_at s n.alternatives }

-- what the walk of a certificate comes to
unfoldable pub fields_by : List ℕ → Result Noted Fault → Result Found Fault
fields_by s (Ok n) = Ok (found_at s n)
fields_by s (Err o) = Err o

unfoldable pub fields_of : List ℕ → Result Found Fault
fields_of s = fields_by s (walk_certificate s)
