-- `writing::put_decimal` meets its contract. Assumes nothing.
use Rattle.std.proofs.Common.{◌≤◌, arith, refl, ◌∙◌}
use Rattle.writing.proofs.Decimal.{decimal_some, decimal_short, single, several, left_next, digits_next, digits_same, digits_end}
use Rattle.writing.proofs.put_decimal.Goals as goal

pub returns-then-saturating_sub-size-clause-output_after : goal.returns-then-saturating_sub-size-clause-output_after
returns-then-saturating_sub-size-clause-output_after c = decimal_short c.args.n c.args.at c.args.output.now (omega arith)

pub loop-k-init : goal.loop-k-init
loop-k-init c = record { fits = omega (arith, decimal_some c.args.n); sized = c.decimal_length-size.ensures; same = refl; written = refl }

pub loop-k-preserved : goal.loop-k-preserved
loop-k-preserved c =
    let i = c.loop-k.invariant in
    let ten : 10 ≤ c.loop-k.rest = several c.loop-k.rest (omega arith) in
    let same = digits_same c.args.n c.args.at c.loop-k.rest c.loop-k.k c.args.output.now c.loop-k.output i.written i.fits i.sized ten _ c.digit_of.ensures _ c.put_byte.ensures in
    record {
      fits = omega (arith, same, i.fits);
      sized = left_next c.args.n c.args.at c.loop-k.rest c.loop-k.k c.args.output.now c.loop-k.output i.written i.fits i.sized ten;
      same = same ∙ i.same;
      written = digits_next c.args.n c.args.at c.loop-k.rest c.loop-k.k c.args.output.now c.loop-k.output i.written i.fits i.sized ten _ c.digit_of.ensures _ c.put_byte.ensures;
    }

pub digit_of-requires-2 : goal.digit_of-requires-2
digit_of-requires-2 c = single c.loop-k.rest (omega (arith, decimal_some c.loop-k.rest, c.loop-k.invariant.sized))

pub returns-clause-output_after : goal.returns-clause-output_after
returns-clause-output_after c =
    let i = c.loop-k.invariant in
    digits_end c.args.n c.args.at c.loop-k.rest c.loop-k.k c.args.output.now c.loop-k.output i.written i.fits i.sized (single c.loop-k.rest (omega (arith, decimal_some c.loop-k.rest, i.sized))) _ c.digit_of-2.ensures _ c.put_byte-2.ensures
