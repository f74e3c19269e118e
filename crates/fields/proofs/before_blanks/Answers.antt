-- `fields::before_blanks` meets its contract. Assumes nothing.
use Rattle.std.proofs.Common.{arith}
use Rattle.lists.proofs.Trim.{trim_laws, trim_stop}
use Rattle.fields.specs.Blank.{blank}
use Rattle.fields.proofs.before_blanks.Goals as goal

pub returns-then-not-is_blank : goal.returns-then-not-is_blank
returns-then-not-is_blank c = omega (arith, trim_stop blank c.args.s.now c.loop-i.i c.loop-i.invariant c.loop-i.auto.i c.is_blank.result c.loop-i-test.true c.is_blank.ensures c.if-not-is_blank.true)

pub loop-i-preserved : goal.loop-i-preserved
loop-i-preserved c = search trim_laws

pub returns : goal.returns
returns c = search trim_laws
