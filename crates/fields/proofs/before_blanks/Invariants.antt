use Rattle.std.proofs.Common.{◌≡◌, take}
use Rattle.fields.specs.Blank.{unblanked}
use Rattle.fields.proofs.before_blanks.Given as goal

abbrev pub invariant-loop-i : goal.invariant-loop-i
invariant-loop-i l = unblanked l.s ≡ unblanked (take l.i l.s)
