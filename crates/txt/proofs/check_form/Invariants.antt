use Rattle.std.proofs.Common.{◌≡◌, ◌-◌, length, drop}
use Rattle.txt.specs.Grammar.{fields_of}
use Rattle.txt.specs.Steps.{form_of}
use Rattle.txt.proofs.check_form.Given as goal

abbrev pub invariant-loop-field : goal.invariant-loop-field
invariant-loop-field l = form_of (fields_of (drop l.from l.t)) ≡ form_of (fields_of (drop l.at l.t))

abbrev pub decreases-loop-field : goal.decreases-loop-field
decreases-loop-field l = length l.t - l.at
