use mathlib.Core.Path.{◌≡◌}
use Prim.Native.Nat.{◌≤◌}
use lib.ListN.{length, take, drop}
use mathlib.Core.List.{◌++◌}
use Rattle.leaf.specs.Names.{ids_left}
use Rattle.leaf.specs.Read.{places_text}
use Rattle.leaf.proofs.write_places.Given as goal

abbrev pub invariant-loop-id : goal.invariant-loop-id
invariant-loop-id l =
    (drop l.n (places_text (ids_left l.fn.ids)) ≡ places_text (ids_left l.id-iterator))
    × (l.n ≤ length (places_text (ids_left l.fn.ids)))
    × (l.output ≡ take l.n (places_text (ids_left l.fn.ids)) ++ drop l.n l.initial.output)
    × (length l.output ≡ length l.initial.output)
