use Rattle.std.proofs.Common.{◌≡◌, ◌-◌, length, drop}
use Rattle.txt.specs.Grammar.{fields_of, id_among, id_field}
use Rattle.txt.proofs.read_record.Given as goal

abbrev pub invariant-loop-field : goal.invariant-loop-field
invariant-loop-field l = id_field l.t ≡ id_among (fields_of (drop l.at l.t))

abbrev pub decreases-loop-field : goal.decreases-loop-field
decreases-loop-field l = length l.t - l.at
