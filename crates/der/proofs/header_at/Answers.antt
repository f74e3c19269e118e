-- `der::header_at` meets its contract. Assumes nothing.
use Rattle.std.proofs.Common.{◌+◌, ◌-◌}
use native.Mathlib.Omega.{arith}
use Rattle.der.proofs.Heads.{header_large, long_room}
use Rattle.der.proofs.header_at.Goals as goal

pub overflow_add-result-2 : goal.overflow_add-result-2
overflow_add-result-2 c =
    omega (arith, long_room c.args.s.now (c.args.at + 2) (c.from-first.result - 128) _ c.in_ok-size.size c.long_size.ensures c.in_ok-size.was (omega arith))

pub returns : goal.returns
returns c = header_large c.args.s.now c.args.at c.if-s-at-lt2.false c.if-tag-eq31.false c.from-first.result c.from-first.ensures c.if-first-lt128.false _ c.long_size.ensures c.in_ok-size.size c.in_ok-size.was
