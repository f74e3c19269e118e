-- `messages::answer_of_lists` meets its contract. Assumes nothing.
use Rattle.std.proofs.Common.{arith, sym, ◌∙◌}
use Rattle.messages.proofs.Returns.{lists_left, lists_left₂, lists_outside, lists_uneven, lists_hosts}
use Rattle.messages.proofs.answer_of_lists.Goals as goal
use Rattle.messages.proofs.answer_of_lists.Goals.{then-not-is_whole-via-then-not-is_whole, then-not-is_whole-via-else-not-is_whole+then-not-is_whole-2, then-not-contains-via-then-not-contains, then-not-contains-via-else-not-contains+then-count}

pub returns-then-not-is_whole : goal.returns-then-not-is_whole
returns-then-not-is_whole c = elim c.then-not-is_whole.branch [ then-not-is_whole-via-then-not-is_whole w ↦ lists_left _ _ _ (sym c.is_whole.ensures ∙ w.if-not-is_whole.true) c.no_host.ensures | then-not-is_whole-via-else-not-is_whole+then-not-is_whole-2 w ↦ lists_left₂ _ _ _ (sym w.is_whole-else-not-is_whole.ensures ∙ w.if-not-is_whole-2.true) c.no_host.ensures ]

pub returns-then-not-contains : goal.returns-then-not-contains
returns-then-not-contains c =
    let ps = sym c.is_whole.ensures ∙ c.if-not-is_whole.false in
    let vs = sym c.is_whole-else-not-is_whole.ensures ∙ c.if-not-is_whole-2.false in
    elim c.then-not-contains.branch [ then-not-contains-via-then-not-contains w ↦ lists_outside _ _ _ ps vs (rw (sym c.count-count.ensures) (grind arith)) c.no_host-then-not-contains.ensures | then-not-contains-via-else-not-contains+then-count w ↦ lists_uneven _ _ _ ps vs (λ e. w.if-count.true (w.count.ensures ∙ e ∙ sym c.count-count.ensures)) c.no_host-then-not-contains.ensures ]

pub returns : goal.returns
returns c =
    let ps = sym c.is_whole.ensures ∙ c.if-not-is_whole.false in
    let vs = sym c.is_whole-else-not-is_whole.ensures ∙ c.if-not-is_whole-2.false in
    lists_hosts _ _ _ ps vs c.read_hosts.ensures
