-- `lists::past` meets its contract. Assumes nothing.
use Rattle.std.proofs.Common.{arith}
use Rattle.lists.proofs.Span.{past_next, past_stop, past_last}
use Rattle.lists.proofs.past.Goals as goal

pub returns-then-not-test : goal.returns-then-not-test
returns-then-not-test g c = λ p h. past_stop p c.args.s.now c.loop-i.i c.args.from (c.loop-i.invariant p h) (omega arith) c.test.result (h _ _ (c.type_inv.s c.loop-i.i).fits c.test.ensures) (c.if-not-test.true)

pub loop-i-preserved : goal.loop-i-preserved
loop-i-preserved g c = λ p h. past_next p c.args.s.now c.loop-i.i c.args.from (c.loop-i.invariant p h) (omega arith) c.test.result (h _ _ (c.type_inv.s c.loop-i.i).fits c.test.ensures) (c.if-not-test.false)

pub returns : goal.returns
returns g c = λ p h. past_last p c.args.s.now c.loop-i.i c.args.from (c.loop-i.invariant p h) c.loop-i-test.false c.max.result c.max.ensures
