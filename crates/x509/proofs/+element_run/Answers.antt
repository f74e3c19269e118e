use Rattle.x509.proofs.Walks.{free_fault, free_past, fields_past}
use borrow.Author.Rules.{rules}
use Rattle.x509.proofs.+element_run.Goals as goal

pub element-returns-in_err-walk_contents-in-None : goal.element-returns-in_err-walk_contents-in-None
element-returns-in_err-walk_contents-in-None t c =
    let f = free_fault c.args.s.now c.args.levels c.args.from.at c.args.from.place c.args.from.noted c.if-levels-eq0.false c.head_at.result c.head_at.ensures c.in_ok-head.head c.in_ok-head.ensures.ok_part c.expects.result c.expects.ensures c.in_ok-field.field c.in_ok-field.ensures.ok_part c.note_at-before.result c.note_at-before.ensures c.walk_contents.result c.walk_contents.ensures c.in-None.is _ c.in_err-walk_contents-in-None.was in
    search (f, rules)

pub element-returns-in_ok-walk_contents-in-None : goal.element-returns-in_ok-walk_contents-in-None
element-returns-in_ok-walk_contents-in-None t c =
    free_past c.args.s.now c.args.levels c.args.from.at c.args.from.place c.args.from.noted c.if-levels-eq0.false c.head_at.result c.head_at.ensures c.in_ok-head.head c.in_ok-head.ensures.ok_part c.expects.result c.expects.ensures c.in_ok-field.field c.in_ok-field.ensures.ok_part c.note_at-before.result c.note_at-before.ensures c.walk_contents.result c.walk_contents.ensures c.in-None.is _ c.in_ok-walk_contents-in-None.was

pub element-returns-in_ok-noted-in-Some : goal.element-returns-in_ok-noted-in-Some
element-returns-in_ok-noted-in-Some t c =
    fields_past c.args.s.now c.args.levels c.args.from.at c.args.from.place c.args.from.noted c.if-levels-eq0.false c.head_at.result c.head_at.ensures c.in_ok-head.head c.in_ok-head.ensures.ok_part c.expects.result c.expects.ensures c.in_ok-field.field c.in_ok-field.ensures.ok_part c.note_at-before.result c.note_at-before.ensures c.in-Some.first c.in-Some.is c.run.result c.run.ensures c.in_ok-noted-in-Some.noted c.in_ok-noted-in-Some.was
