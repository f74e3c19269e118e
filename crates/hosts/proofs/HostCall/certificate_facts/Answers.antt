-- `hosts::HostCall::certificate_facts` meets its contract. Assumes nothing.
use Rattle.hosts.proofs.FactsOf.{facts_value, facts_limits}
use Rattle.hosts.proofs.HostCall.certificate_facts.Goals as goal

pub returns-clause-value : goal.returns-clause-value
returns-clause-value c = facts_value c.args.self.now _ c.then_some.ensures

pub returns-clause-limits : goal.returns-clause-limits
returns-clause-limits c = facts_limits c.args.self.now _ c.then_some.ensures
