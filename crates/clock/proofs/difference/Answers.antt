-- `clock::difference` meets its contract. Assumes nothing.
use Prim.Native.Nat.{◌+◌}
use native.Mathlib.Omega.{arith}
use mathlib.Core.Path.{◌∙◌}
use mir.Syntax.{w64}
use mir.ValLaws.{to_z-of_z, to_z_pos}
use borrow.Author.Rules.{rules}
use Rattle.clock.proofs.Signed.{sub_fits}
use Rattle.clock.proofs.difference.Goals as goal

pub overflow_add-result : goal.overflow_add-result
overflow_add-result c = search rules

pub overflow_cast-result : goal.overflow_cast-result
overflow_cast-result c = search rules

pub overflow_cast-result-2 : goal.overflow_cast-result-2
overflow_cast-result-2 c = search rules

pub overflow_sub-result : goal.overflow_sub-result
overflow_sub-result c = let end = c.args.fetched.0 + c.args.lifetime.0 in
    let present = c.args.present.0 in
    rw (to_z_pos w64 end (omega arith), to_z_pos w64 present (omega arith))
    (sub_fits end present (omega arith) (omega arith))

pub returns : goal.returns
returns c = let end = c.args.fetched.0 + c.args.lifetime.0 in
    let present = c.args.present.0 in
    to_z-of_z w64 _ (overflow_sub-result c) ∙ rw (to_z_pos w64 end (omega arith), to_z_pos w64 present (omega arith))
