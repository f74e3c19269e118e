-- `policies::check` meets its contract. Assumes nothing.
use Rattle.std.proofs.Common.{arith}
use Rattle.policies.proofs.Same.{check_next, check_pattern, check_broken, turn_place, turn_counts, next_begins, next_fits}
use Rattle.policies.proofs.check.Goals as goal
use Rattle.policies.proofs.check.Goals.{in-Pattern, in-Next}

pub returns-in-Err : goal.returns-in-Err
returns-in-Err c =
    let v = c.loop-at.invariant in
    check_broken c.args.host.now c.loop-at.listed c.args.s.now c.loop-at.seen c.loop-at.at c.args.known c.loop-at.count c.loop-at.n v.4 c.loop-at-test.true c.in-Err.cause c.in-Err.ensures v.3 c.faulty-in-Err.result c.faulty-in-Err.ensures

pub loop-at-preserved : goal.loop-at-preserved
loop-at-preserved c =
    let v = c.loop-at.invariant in
    let host = c.args.host.now in
    let s = c.args.s.now in
    let at = c.loop-at.at in
    let t = c.in-Ok.turn in
    let place = turn_place host c.loop-at.listed s c.loop-at.seen at t c.in-Ok.ensures in
    let fits = next_fits s at t.1 place c.loop-at-test.true in
    let counts = turn_counts host c.loop-at.listed s c.loop-at.seen at t c.in-Ok.ensures c.loop-at.n v.1 in
    let begins = next_begins s at t.1 place c.loop-at.n v.3 in
    elim c.match-step.branch [
      | in-Pattern w ↦ rw (w.seen-is, w.count-is, w.listed-is) (fits, counts, omega (arith, v.2), begins, check_pattern host c.loop-at.listed s c.loop-at.seen at c.args.known c.loop-at.count c.loop-at.n v.4 c.loop-at-test.true t c.in-Ok.ensures _ w.in-Pattern.is)
      | in-Next w ↦ rw (w.seen-is, w.count-is, w.listed-is) (fits, counts, omega (arith, v.2), begins, check_next host c.loop-at.listed s c.loop-at.seen at c.args.known c.loop-at.count c.loop-at.n v.4 c.loop-at-test.true t c.in-Ok.ensures _ w.in-Next.is)
    ]
