-- `numbers::fits` meets its contract. Assumes nothing.
use Rattle.std.proofs.Common.{◌≡◌, max, arith, sym, ◌∙◌}
use borrow.Author.Tests.{le-leb}
use Rattle.numbers.proofs.Numbers.{fits_over, fits_sums, fits_most, fits_end}
use Rattle.numbers.proofs.fits.Goals as goal

pub returns-then-rest-n : goal.returns-then-rest-n
returns-then-rest-n c = fits_over _ _ _ _ _ c.loop-word.invariant.2 _ _ c.in-Some.ensures.steps (omega arith)

pub loop-word-preserved : goal.loop-word-preserved
loop-word-preserved c =
    let largest : c.max-most.result ≡ max c.loop-word.most c.in-Some.word = grind arith in (
      tt,
      tt,
      rw c.from-n.ensures (fits_sums c.args.list.now c.args.total c.args.bound _ _ c.loop-word.invariant.2 _ _ c.in-Some.ensures.steps (omega arith)),
      rw largest (fits_most _ _ _ _ _ _ c.loop-word.invariant.3 c.in-Some.ensures.steps),
    )

pub returns-then-most-bound : goal.returns-then-most-bound
returns-then-most-bound c = rw (le-leb _ _ c.if-most-bound.true) at (fits_end c.args.list.now c.args.total c.args.bound _ _ c.loop-word.invariant.2 c.in-None.ensures.steps.0 _ c.loop-word.invariant.3 (sym c.is_whole.ensures ∙ c.if-not-is_whole.false))
