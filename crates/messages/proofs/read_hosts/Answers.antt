-- `messages::read_hosts` meets its contract. Assumes nothing.
use Rattle.std.proofs.Common.{◌≡◌, arith}
use lib.ListN.{length-set}
use Rattle.numbers.specs.Numbers.{numbers}
use Rattle.messages.proofs.Arrays.{read_preference, read_verdict_lem, read_all, filled_next}
use Rattle.messages.proofs.read_hosts.Goals as goal

pub returns-then-preference-gt65535 : goal.returns-then-preference-gt65535
returns-then-preference-gt65535 c = read_preference (numbers c.args.preferences.now) (numbers c.args.verdicts.now) c.loop-k.k c.args.count c.requires.0 c.requires.1 c.no_host.result c.loop-k-test.true c.no_host.ensures c.number-preference.result c.number-preference.ensures.0 c.if-preference-gt65535.true

pub returns-then-verdict-gt255 : goal.returns-then-verdict-gt255
returns-then-verdict-gt255 c = read_verdict_lem (numbers c.args.preferences.now) (numbers c.args.verdicts.now) c.loop-k.k c.args.count c.requires.0 c.requires.1 c.no_host-then-verdict-gt255.result c.loop-k-test.true c.no_host-then-verdict-gt255.ensures c.number-verdict.result c.number-verdict.ensures.0 c.if-verdict-gt255.true

pub loop-k-preserved : goal.loop-k-preserved
loop-k-preserved c = (
  simp length-set c.loop-k.invariant.0,
  simp length-set c.loop-k.invariant.1,
  filled_next _ _ _ c.args.count c.loop-k.invariant.2 c.requires.0 _ c.number-preference.ensures.0 c.loop-k-test.true c.loop-k.invariant.0 c.requires.3,
  filled_next _ _ _ c.args.count c.loop-k.invariant.3 c.requires.1 _ c.number-verdict.ensures.0 c.loop-k-test.true c.loop-k.invariant.1 c.requires.3,
)

pub returns : goal.returns
returns c =
    let z : c.loop-k.k ≡ c.args.count = omega arith in
    read_all _ _ c.args.count c.requires.0 c.requires.1 c.requires.3 c.loop-k.p c.loop-k.v (rw z at c.loop-k.invariant.2) (rw z at c.loop-k.invariant.3) c.first_host.result c.first_host.ensures
