-- `hosts::HostCall::find_set` meets its contract. Assumes nothing.
use Rattle.hosts.specs.Arguments.{said_by}
use Rattle.hosts.proofs.WalkReturns.{stage_is}
use Rattle.hosts.proofs.HostCall.find_set.Goals as goal

pub returns : goal.returns
returns c = stage_is (said_by c.args.self.now) _ _ c.read_given-first.ensures _ c.read_given-second.ensures _ c.later_given-later.ensures _ c.later_than_first.ensures _ c.from.ensures _ c.names_to_try-tries.ensures _ c.at_names.ensures
