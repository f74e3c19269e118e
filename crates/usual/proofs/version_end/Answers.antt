-- `usual::version_end` meets its contract. Assumes nothing.
use Rattle.usual.proofs.Shape.{version_passed}
use Rattle.usual.proofs.version_end.Goals as goal

pub returns : goal.returns
returns c = version_passed c.args.s.now c.args.at _ c.tagged.ensures c.in_ok-head.head c.in_ok-head.was _ c.alone.ensures _ c.in_ok-alone.was
