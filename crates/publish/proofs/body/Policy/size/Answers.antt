-- `Policy::size` meets its contract. Assumes nothing.
use mathlib.Core.Path.{refl}
use native.Mathlib.Omega.{arith}
use Rattle.publish.proofs.PolicyReturns.{lines_few, size_few, size_is}
use Rattle.publish.proofs.body.Policy.size.Goals as goal

pub mx_length-requires : goal.mx_length-requires
mx_length-requires c = lines_few _ _ _ c.args.self.short

pub overflow_add-result : goal.overflow_add-result
overflow_add-result c = let few = size_few _ _ _ c.args.self.short _ c.mode_line.ensures _ _ c.mx_length.ensures refl in omega (arith, few)

pub overflow_add-result-2 : goal.overflow_add-result-2
overflow_add-result-2 c = let few = size_few _ _ _ c.args.self.short _ c.mode_line.ensures _ _ c.mx_length.ensures c.decimal_length.ensures in omega (arith, few)

pub overflow_add-result-3 : goal.overflow_add-result-3
overflow_add-result-3 c = let few = size_few _ _ _ c.args.self.short _ c.mode_line.ensures _ _ c.mx_length.ensures c.decimal_length.ensures in omega (arith, few)

pub returns : goal.returns
returns c = size_is _ _ _ _ c.mode_line.ensures _ _ c.mx_length.ensures c.decimal_length.ensures
