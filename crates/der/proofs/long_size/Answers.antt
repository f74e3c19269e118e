-- `der::long_size` meets its contract. Assumes nothing.
use Rattle.std.proofs.Common.{rules}
use mathlib.Core.Path.{refl, ◌∙◌}
use native.Mathlib.Omega.{arith}
use Rattle.der.proofs.Sizes.{long_huge, long_small, long_over, long_is, value_turn}
use Rattle.der.proofs.long_size.Goals as goal
use Rattle.der.proofs.long_size.Goals.{then-n-lt128-via-then-n-lt128, then-n-lt128-via-else-n-lt128+then-s-end}

pub returns-in_err-n : goal.returns-in_err-n
returns-in_err-n c =
    c.from_residual.ensures ∙ long_huge c.args.s.now c.args.from c.args.k c.if-k-eq0.false c.if-s-from-2.false c.if-s-from-eq0.false _ refl c.loop-b.n c.loop-b.b-index c.loop-b.invariant c.loop-b-test.true (omega (arith, c.in_err-n.ensures)) (omega arith)

pub loop-b-preserved : goal.loop-b-preserved
loop-b-preserved c =
    let turn = value_turn _ c.loop-b.n c.loop-b.b-index c.loop-b.invariant c.loop-b-test.true in
    search (turn, rules)

pub returns-then-n-lt128 : goal.returns-then-n-lt128
returns-then-n-lt128 c =
    elim c.then-n-lt128.branch [
      | then-n-lt128-via-then-n-lt128 w ↦ long_small c.args.s.now c.args.from c.args.k c.if-k-eq0.false c.if-s-from-2.false c.if-s-from-eq0.false _ refl c.loop-b.n c.loop-b.b-index c.loop-b.invariant c.loop-b-test.false w.if-n-lt128.true
      | then-n-lt128-via-else-n-lt128+then-s-end w ↦ long_over c.args.s.now c.args.from c.args.k c.if-k-eq0.false c.if-s-from-2.false c.if-s-from-eq0.false _ refl c.loop-b.n c.loop-b.b-index c.loop-b.invariant c.loop-b-test.false w.if-n-lt128.false w.if-s-end.true
    ]

pub returns : goal.returns
returns c = long_is c.args.s.now c.args.from c.args.k c.if-k-eq0.false c.if-s-from-2.false c.if-s-from-eq0.false _ refl c.loop-b.n c.loop-b.b-index c.loop-b.invariant c.loop-b-test.false c.if-n-lt128.false c.if-s-end.false
