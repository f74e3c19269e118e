-- `judge_host_certificate` meets its contract. Assumes nothing.
use Rattle.hosts.specs.Arguments.{said_by}
use Rattle.judging.proofs.Returns.{answer_absent, answer_read, answer_refused, asks_read, asks_leaf, asks_places}
use Rattle.judging.proofs.judge_host_certificate.Goals as goal

pub returns-in-None : goal.returns-in-None
returns-in-None c = answer_absent (said_by c.args.call.now) _ c.in-None.ensures c.plain_answer.ensures

pub invariant_of-read : goal.invariant_of-read
invariant_of-read c =
    let call = said_by c.args.call.now in
    record {
      is_read = asks_read call _ c.in-Some.ensures _ c.in-Ok.ensures;
      leaf_fits = asks_leaf call _ c.in-Some.ensures _ c.in-Ok.ensures;
      places_fit = asks_places call _ c.in-Some.ensures _ c.in-Ok.ensures;
    }

pub returns-in-Ok : goal.returns-in-Ok
returns-in-Ok c = answer_read (said_by c.args.call.now) _ _ c.in-Some.ensures _ c.in-Ok.ensures c.judge.ensures

pub returns-in-Err : goal.returns-in-Err
returns-in-Err c = answer_refused (said_by c.args.call.now) _ _ c.in-Some.ensures _ c.in-Err.ensures c.judge_refused.ensures
