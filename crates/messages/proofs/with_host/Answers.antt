-- `messages::with_host` meets its contract. Assumes nothing.
use mathlib.Core.Path.{sym, ◌∙◌}
use Rattle.messages.proofs.Returns.{with_lower, with_higher}
use Rattle.messages.proofs.with_host.Goals as goal

pub returns-in-Some : goal.returns-in-Some
returns-in-Some c = sym c.in-Some.is ∙ with_lower c.args.host c.args.later (sym c.is_next_host.ensures ∙ c.if-is_next_host.false) c.in-Some.other c.in-Some.is c.if-other-host.true

pub returns-in_default : goal.returns-in_default
returns-in_default c = with_higher c.args.host c.args.later (sym c.is_next_host.ensures ∙ c.if-is_next_host.false) c.in-Some.other c.in-Some.is c.if-other-host.false
