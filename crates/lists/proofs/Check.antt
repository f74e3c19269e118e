-- Laws of checks and of the first that fails. Assumes nothing.
use Prim.Native.Nat.{ℕ}
use mathlib.Core.Path.{◌≡◌, refl}
use mathlib.Core.Bool.{Bool, true, false, cond}
use mathlib.Core.List.{List, [], ◌∷◌, ◌++◌}
use mathlib.Core.Option.{Option, none, some}
use Rattle.lists.specs.Check.{Check, refusal_of}
use Rattle.lists.proofs.Bools.{never}

-- where nothing is refused the first check passes, and so do the others
pub checks_first : (b : Bool) (r : ℕ) (rest : Option ℕ) → cond b rest (some r) ≡ none → (b ≡ true) × (rest ≡ none)
checks_first true r rest h = (refl, h)
checks_first false r rest h = never cc

-- checks, and more checks after them
pub checks_more : (cs ds : List Check) → refusal_of cs ≡ none → refusal_of (cs ++ ds) ≡ refusal_of ds
unfolding refusal_of
checks_more [] ds h = refl
checks_more (c ∷ cs) ds h =
    let both = checks_first c.passes c.refusal (refusal_of cs) h in
    rw both.0 (checks_more cs ds both.1)

pub checks_refused : (cs ds : List Check) (r : ℕ) → refusal_of cs ≡ some r → refusal_of (cs ++ ds) ≡ some r
unfolding refusal_of
checks_refused [] ds r h = never cc
checks_refused (c ∷ cs) ds r h = go (checks_refused cs ds r) c.passes h
  where
    go : (refusal_of cs ≡ some r → refusal_of (cs ++ ds) ≡ some r) → (b : Bool) → cond b (refusal_of cs) (some c.refusal) ≡ some r → cond b (refusal_of (cs ++ ds)) (some c.refusal) ≡ some r
    go ih true g = ih g
    go ih false g = g

pub checks_last : (cs : List Check) (c : Check) → refusal_of (cs ++ (c ∷ [])) ≡ none → c.passes ≡ true
unfolding refusal_of
checks_last [] c h = (checks_first c.passes c.refusal none h).0
checks_last (b ∷ cs) c h = checks_last cs c (checks_first b.passes b.refusal (refusal_of (cs ++ (c ∷ []))) h).1
