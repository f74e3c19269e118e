-- `messages::first_host` meets its contract. Assumes nothing.
use Rattle.std.proofs.Common.{◌≤◌, arith, rules, take}
use Rattle.messages.proofs.Returns.{first_outside, first_walk, front_gives}
use Rattle.messages.proofs.first_host.Goals as goal

pub returns-then-not-contains : goal.returns-then-not-contains
returns-then-not-contains c = first_outside _ _ _ _ (grind arith) c.no_host.ensures

pub returns : goal.returns
returns c =
    let few : c.args.count ≤ 32 = grind arith in
    first_walk _ _ _ _ few (c.walk_hosts.ensures (take c.args.count c.args.preferences) (take c.args.count c.args.verdicts) (front_gives _ _ _ (search rules) (λ k r h q. search rules)) (front_gives _ _ _ (search rules) (λ k r h q. search rules)))
