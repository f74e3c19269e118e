-- The numbers by which C passes a choice. Zero is never one of them, except where it says "not given".
use Rattle.std.specs.Prelude.{ℕ, cond, eqb}
use Rattle.std.proofs.Math.Option.{Option, none, some}
use Rattle.messages.specs.declared.MxLookup.{MxLookup}
use Rattle.messages.specs.declared.MxLookup.TheVariants.{Answered, Failed}

-- mx_lookup: 1 answered, 2 failed
unfoldable pub mx_lookup_of : ℕ → Option MxLookup
mx_lookup_of code = cond (eqb code 1) (some Answered) (cond (eqb code 2) (some Failed) none)
