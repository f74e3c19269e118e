-- `messages::walk_hosts` meets its contract. Assumes nothing.
use Rattle.std.proofs.Common.{◌-◌, ◌<◌, ◌≡◌, arith, sym, ◌∙◌}
use Rattle.messages.proofs.Finds.{walk_start, walk_high, walk_bad, walk_next, walk_end}
use Rattle.messages.proofs.walk_hosts.Goals as goal
use Rattle.messages.proofs.walk_hosts.Goals.{then-host-gt65535-via-then-host-gt65535, then-host-gt65535-via-else-host-gt65535+then-not-is_host_verdict}

pub loop-k-init : goal.loop-k-init
loop-k-init g c = λ ps vs p v. walk_start ps vs _ p.long v.long

pub returns-then-host-gt65535 : goal.returns-then-host-gt65535
returns-then-host-gt65535 g c = λ ps vs p v.
    let j = c.loop-k.k - 1 in
    let inside : j < c.args.count = omega arith in
    let rp = p.each j c.preference.result inside c.preference.ensures in
    let rv = v.each j c.verdict.result inside c.verdict.ensures in
    elim c.then-host-gt65535.branch [ then-host-gt65535-via-then-host-gt65535 w ↦ walk_high ps vs _ p.long v.long j c.loop-k.k (omega arith) inside _ _ rp rv w.if-host-gt65535.true _ c.no_host.ensures | then-host-gt65535-via-else-host-gt65535+then-not-is_host_verdict w ↦ walk_bad ps vs _ p.long v.long j c.loop-k.k (omega arith) inside _ _ rp rv (sym w.is_host_verdict.ensures ∙ w.if-not-is_host_verdict.true) _ c.no_host.ensures ]

pub loop-k-preserved : goal.loop-k-preserved
loop-k-preserved g c = λ ps vs p v.
    let j = c.loop-k.k - 1 in
    let inside : j < c.args.count = omega arith in
    let rp = p.each j c.preference.result inside c.preference.ensures in
    let rv = v.each j c.verdict.result inside c.verdict.ensures in
    walk_next ps vs _ p.long v.long j c.loop-k.k (omega arith) inside _ _ rp rv _ (c.loop-k.invariant ps vs p v) c.if-host-gt65535.false (sym c.is_host_verdict.ensures ∙ c.if-not-is_host_verdict.false) _ c.with_host-decider.ensures

pub returns : goal.returns
returns g c = λ ps vs p v.
    let z : c.loop-k.k ≡ 0 = omega arith in
    walk_end ps vs _ p.long v.long c.requires.counted.0 c.requires.counted.1 _ (rw z at (c.loop-k.invariant ps vs p v)) _ c.decided_by.ensures
