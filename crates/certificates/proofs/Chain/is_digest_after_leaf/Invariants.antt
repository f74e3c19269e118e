use mathlib.Core.Path.{◌≡◌}
use Prim.Native.Nat.{◌-◌}
use Rattle.certificates.specs.Steps.{digest_on_path, any_place}
use Rattle.certificates.proofs.Chain.is_digest_after_leaf.Given as goal

abbrev pub invariant-loop-place : goal.invariant-loop-place
invariant-loop-place l = any_place (digest_on_path l.held l.from l.self.digests.now l.self.paths.now) 1 (l.n - 1) ≡ any_place (digest_on_path l.held l.from l.self.digests.now l.self.paths.now) l.place (l.n - l.place)
