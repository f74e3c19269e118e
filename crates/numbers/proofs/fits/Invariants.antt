use Rattle.std.proofs.Common.{◌≡◌, ◌+◌, ◌&&◌, leb}
use Rattle.lists.specs.Bytes.{all}
use Rattle.numbers.specs.Numbers.{numbers, sum, at_most, words_in}
use Rattle.numbers.proofs.fits.Given as goal

abbrev pub invariant-loop-word : goal.invariant-loop-word
invariant-loop-word l =
    (goal.iterator-loop-word).can_next l.word-iterator × (goal.iterator-loop-word).is_finite l.word-iterator
    × (l.rest + sum (numbers l.list) ≡ l.total + sum (words_in l.word-iterator))
    × (all (at_most l.bound) (numbers l.list) ≡ (leb l.most l.bound && all (at_most l.bound) (words_in l.word-iterator)))
