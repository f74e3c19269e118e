use mathlib.Core.Path.{◌≡◌}
use lib.ListN.{drop}
use Rattle.numbers.specs.Numbers.{numbers}
use Rattle.certificates.specs.Steps.{places_fit}
use Rattle.certificates.proofs.Chain.places_fit.Given as goal

abbrev pub invariant-loop-k : goal.invariant-loop-k
invariant-loop-k l = places_fit (numbers l.self.key_places.now) 0 (numbers l.self.lengths.now) ≡ places_fit (numbers l.self.key_places.now) l.k (drop l.k (numbers l.self.lengths.now))
