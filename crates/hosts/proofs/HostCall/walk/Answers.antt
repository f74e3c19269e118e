-- `hosts::HostCall::walk` meets its contract. Assumes nothing.
use Rattle.std.proofs.Common.{◌∙◌}
use Rattle.hosts.specs.Arguments.{said_by}
use Rattle.hosts.proofs.WalkReturns.{ended_at, walk_answered, walk_certificates}
use Rattle.hosts.proofs.HostCall.walk.Goals as goal

pub returns-in_err-at_starttls : goal.returns-in_err-at_starttls
returns-in_err-at_starttls c = ended_at _ _ c.from_residual-in_err-at_starttls.ensures.1 ∙ walk_answered (said_by c.args.self.now) _ _ _ c.find_set.ensures _ c.in_ok-found.was _ c.at_starttls.ensures _ c.in_err-at_starttls.was

pub returns : goal.returns
returns c = walk_certificates (said_by c.args.self.now) _ _ _ c.find_set.ensures _ c.in_ok-found.was _ c.at_starttls.ensures _ c.in_ok-at_starttls.was _ c.certificate_verdict.ensures _ c.say.ensures
