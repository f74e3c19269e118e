-- `txt::join` meets its contract. Assumes nothing.
use Rattle.txt.proofs.Writing.{join_end, join_within, join_left, join_put}
use Rattle.txt.proofs.join.Goals as goal

pub loop-string-preserved : goal.loop-string-preserved
loop-string-preserved c =
    let v = c.loop-string.invariant in
    let e = c.in-Some.ensures.steps in
    (tt, tt, join_left _ _ _ v.2 v.3 _ _ e, join_within _ _ _ v.2 v.3 _ _ e, join_put _ _ _ v.2 v.3 _ _ e c.args.output.now c.loop-string.output _ v.4 v.5 c.write_front.ensures.1, v.5)

pub returns : goal.returns
returns c = let v = c.loop-string.invariant in join_end _ _ _ v.2 v.3 c.args.output.now c.loop-string.output c.in-None.ensures.steps.0 v.4
