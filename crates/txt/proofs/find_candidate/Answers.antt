-- `txt::find_candidate` meets its contract. Assumes nothing.
use Rattle.std.proofs.Common.{◌∙◌, sym, refl}
use Rattle.txt.specs.Steps.{CandidateIs}
use Rattle.txt.proofs.Candidates.{wire_over, wire_bad, wire_next, seen_other, seen_one}
use Rattle.txt.proofs.find_candidate.Goals as goal
use Rattle.txt.proofs.find_candidate.Goals.{then-is_candidate, else-is_candidate}

pub returns-then-rest-n : goal.returns-then-rest-n
unfolding CandidateIs
returns-then-rest-n c = c.loop-n.invariant.2 ∙ wire_over _ _ c.in-Some.n _ c.in-Some.ensures.steps c.if-rest-n.true

pub returns-then-not-is_rdata : goal.returns-then-not-is_rdata
unfolding CandidateIs
returns-then-not-is_rdata c = c.loop-n.invariant.2 ∙ wire_bad _ _ c.in-Some.n _ c.in-Some.ensures.steps c.if-rest-n.false (sym c.is_rdata.ensures ∙ c.if-not-is_rdata.true)

pub loop-n-preserved : goal.loop-n-preserved
loop-n-preserved c =
    let v = c.loop-n.invariant in
    let e = c.in-Some.ensures.steps in
    let sound = v.2 ∙ wire_next _ _ c.in-Some.n _ e c.if-rest-n.false (sym c.is_rdata.ensures ∙ c.if-not-is_rdata.false) in
    elim c.if-is_candidate.branch [
      | then-is_candidate w ↦ rw (w.found-is, w.with_one-found.ensures) (tt, tt, sound, seen_one _ _ c.in-Some.n _ e c.if-rest-n.false _ c.loop-n.found _ refl (sym c.is_candidate.ensures ∙ w.if-is_candidate.true) v.3)
      | else-is_candidate w ↦ rw w.found-is (tt, tt, sound, seen_other _ _ c.in-Some.n _ e c.if-rest-n.false _ c.loop-n.found (sym c.is_candidate.ensures ∙ w.if-is_candidate.false) v.3)
    ]
