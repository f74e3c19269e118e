use Rattle.std.proofs.Common.{◌≡◌, length}
use Rattle.policies.specs.Texts.{is_text}
use Rattle.policies.proofs.utf8.is_text.Given as goal

abbrev pub invariant-loop-rest : goal.invariant-loop-rest
invariant-loop-rest l = is_text l.v ≡ is_text l.rest

abbrev pub decreases-loop-rest : goal.decreases-loop-rest
decreases-loop-rest l = length l.rest
