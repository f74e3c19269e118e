-- `hosts::answer` meets its contract. Assumes nothing.
use Rattle.hosts.specs.Arguments.{said_by}
use Rattle.hosts.proofs.CallReturns.{call_walk}
use Rattle.hosts.proofs.answer.Goals as goal

pub returns : goal.returns
returns c = call_walk (said_by c.args.call.now) _ c.check_first.ensures _ c.in_ok-check_first.was _ c.read_policy-given.ensures _ c.if-policy-ne-ACCEPTED.false _ c.check_last.ensures _ c.in_ok-check_last.was _ c.policy_needs-sts.ensures _ c.is_unlisted-unlisted.ensures c.walk.ensures
