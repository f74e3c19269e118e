-- The checks of a call's arguments, in their order.
use Rattle.std.specs.Prelude.{ℕ, Bool, cond, List, [], ◌∷◌}
use Rattle.std.proofs.Math.Option.{Option, none, some}

-- a test of the arguments, and the refusal where it fails
pub record Check : Type 0 where
  pub passes : Bool
  pub refusal : ℕ

-- the refusal of the first check that fails, or none where all pass
unfoldable pub refusal_of : List Check → Option ℕ
refusal_of [] = none
refusal_of (c ∷ cs) = cond c.passes (refusal_of cs) (some c.refusal)
