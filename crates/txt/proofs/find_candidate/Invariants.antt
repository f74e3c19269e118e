use Rattle.std.proofs.Common.{◌≡◌}
use Rattle.numbers.specs.Numbers.{numbers, words_in}
use Rattle.txt.specs.Steps.{SeenIs, wire_left, candidates_left}
use Rattle.txt.proofs.find_candidate.Given as goal

abbrev pub invariant-loop-n : goal.invariant-loop-n
invariant-loop-n l =
    (goal.iterator-loop-n).can_next l.n-iterator × (goal.iterator-loop-n).is_finite l.n-iterator
    × (wire_left l.rdatas (numbers l.fn.lengths) ≡ wire_left l.rest (words_in l.n-iterator))
    × SeenIs (candidates_left l.rdatas (numbers l.fn.lengths)) (candidates_left l.rest (words_in l.n-iterator)) l.found
