use Rattle.std.proofs.Common.{◌≡◌, ◌<◌, ◌^◌, drop}
use Rattle.lists.specs.Bytes.{all}
use Rattle.policies.specs.Fields.{is_digit, decimal_after}
use Rattle.policies.proofs.age_of.Given as goal

abbrev pub invariant-loop-b : goal.invariant-loop-b
invariant-loop-b l = (l.age < 10 ^ l.b-index) × (all is_digit l.v ≡ all is_digit (drop l.b-index l.v)) × (decimal_after 0 l.v ≡ decimal_after l.age (drop l.b-index l.v))
