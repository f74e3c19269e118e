-- `lists::write_front` meets its contract. Assumes nothing.
use Rattle.std.proofs.Common.{◌≤◌, length, arith, sym}
use borrow.Author.Tests.{le-leb}
use Rattle.lists.proofs.Write.{front_end}
use Rattle.lists.proofs.write_front.Goals as goal

pub returns : goal.returns
returns c =
    let short : length c.args.text.now ≤ length c.args.output.now = omega arith in (
      sym (le-leb (length c.args.text.now) (length c.args.output.now) short),
      front_end c.args.text.now c.args.output.now c.loop-i.output c.loop-i.i c.loop-i.invariant.1 short (omega arith) (omega arith),
    )
