use mathlib.Core.Path.{◌≡◌}
use mathlib.Core.Bool.{true}
use mathlib.Core.List.{map, flatten}
use lib.ListN.{length}
use Rattle.lists.specs.Bytes.{all}
use Rattle.numbers.proofs.Written.{lengths_of}
use Rattle.leaf.specs.Names.{ids_left}
use Rattle.leaf.proofs.Sound.{inside_of}
use Rattle.judging.specs.Texts.{part_of}
use Rattle.judging.proofs.Put.{Put}
use Rattle.judging.proofs.Handed.{names_of}
use Rattle.judging.proofs.read_call.ReadCall.gather.Given as goal

abbrev pub invariant-loop-id : goal.invariant-loop-id
invariant-loop-id l = record {
  can : (goal.iterator-loop-id).can_next l.id-iterator;
  ends : (goal.iterator-loop-id).is_finite l.id-iterator;
  inside : all (inside_of (length l.self.leaf.now)) (ids_left l.id-iterator) ≡ true;
  names : Put (flatten (names_of l.self.leaf.now l.self.found)) l.initial.names l.names (flatten (map (part_of l.self.leaf.now) (ids_left l.id-iterator))) l.n;
  lengths : Put (lengths_of (names_of l.self.leaf.now l.self.found)) l.initial.lengths l.lengths (lengths_of (map (part_of l.self.leaf.now) (ids_left l.id-iterator))) l.k;
}
