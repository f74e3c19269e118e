-- `cache::without_zeros` meets its contract. Assumes nothing.
use mathlib.Core.Path.{◌∙◌}
use native.Mathlib.Omega.{arith}
use Rattle.cache.proofs.Fill.{stripped, unstripped}
use Rattle.cache.proofs.without_zeros.Goals as goal

pub shared_whole_as_slice-strip_suffix : goal.shared_whole_as_slice-strip_suffix
shared_whole_as_slice-strip_suffix g c = omega (arith, c.requires)

pub loop-front-preserved : goal.loop-front-preserved
loop-front-preserved g c = stripped c.loop-front.rest.now g.row.N c.in-Some.front c.in-Some.ensures.cases ∙ c.loop-front.invariant

pub returns-clause-none_left : goal.returns-clause-none_left
returns-clause-none_left g c = unstripped c.loop-front.rest.now g.row.N c.in_default.ensures.cases
