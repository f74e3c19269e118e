-- `writing::decimal_length` meets its contract. Assumes nothing.
use Rattle.std.proofs.Common.{◌≡◌, max, arith}
use Rattle.writing.proofs.Decimal.{length_is}
use Rattle.writing.proofs.decimal_length.Goals as goal

pub returns : goal.returns
returns c =
    let largest : c.max.result ≡ max c.args.n 1 = grind arith in
    length_is c.args.n c.max.result c.ilog10.result largest c.ilog10.ensures.power_le c.ilog10.ensures.next_power_gt
