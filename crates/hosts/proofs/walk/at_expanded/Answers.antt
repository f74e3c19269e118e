-- `hosts::walk::at_expanded` meets its contract. Assumes nothing.
use Rattle.hosts.proofs.WalkReturns.{expanded_read_lem}
use Rattle.hosts.proofs.walk.at_expanded.Goals as goal

pub returns-in-Some : goal.returns-in-Some
returns-in-Some c = expanded_read_lem _ _ _ _ _ c.in-Some.is _ c.read_at_expanded.ensures
