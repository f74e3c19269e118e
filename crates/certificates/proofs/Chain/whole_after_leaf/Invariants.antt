use mathlib.Core.Path.{◌≡◌}
use mathlib.Core.List.{[]}
use Rattle.lists.specs.Bytes.{any}
use Rattle.numbers.specs.Pieces.{numbered, pieces_in}
use Rattle.certificates.specs.Facts.{certificate_at, certificates_of}
use Rattle.certificates.specs.Checks.{matches_on_path, after_leaf}
use Rattle.certificates.proofs.Chain.whole_after_leaf.Given as goal

abbrev pub invariant-loop-k : goal.invariant-loop-k
invariant-loop-k l = any (matches_on_path l.entry) (after_leaf (certificates_of l.self.certificates.now l.self.lengths.now l.self.key_places.now [] l.self.paths.now)) ≡ any (matches_on_path l.entry) (numbered (certificate_at l.self.key_places.now [] l.self.paths.now) l.k-iterator.count (pieces_in l.k-iterator.iter))
