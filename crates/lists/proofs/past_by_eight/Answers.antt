-- `lists::past_by_eight` meets its contract. Assumes nothing.
use Rattle.std.proofs.Common.{◌≡◌, ◌+◌, ◌*◌, arith, drop}
use Rattle.lists.specs.Span.{span_of}
use Rattle.lists.proofs.Chunks.{chunk_within, chunk_marks}
use Rattle.lists.proofs.Marks.{eight_past, eight_stop, eight_outside}
use Rattle.lists.proofs.past_by_eight.Goals as goal

pub returns-then-s-from : goal.returns-then-s-from
returns-then-s-from g c = λ p m t. eight_outside p c.args.s.now c.args.from c.if-s-from.true

pub returns-then-m-ne0 : goal.returns-then-m-ne0
returns-then-m-ne0 g c = λ p m t.
    let s = c.args.s.now in
    let from = c.args.from in
    let k = c.loop-k.k in
    let a = c.as_chunks.ensures in
    let w = chunk_within s from k c.as_chunks.result.0.now a.front a.front_len c.if-s-from.false c.loop-k-test.true in
    let gave = chunk_marks s from k c.as_chunks.result.0.now a.front a.front_len c.if-s-from.false c.loop-k-test.true p (λ x r. g.M.Fn.post c.args.mark (x, tt) r) m c.type_inv.s c.from_le_bytes.result c.mark-m.result c.from_le_bytes.ensures c.mark-m.ensures in
    eight_stop p s (from + 8 * k) c.mark-m.result (from + span_of p (drop from s)) (c.loop-k.invariant p m) (omega (arith, w)) gave c.if-m-ne0.true c.bytes_below.result c.bytes_below.ensures.0

pub loop-k-preserved : goal.loop-k-preserved
loop-k-preserved g c = λ p m.
    let s = c.args.s.now in
    let from = c.args.from in
    let k = c.loop-k.k in
    let a = c.as_chunks.ensures in
    let w = chunk_within s from k c.as_chunks.result.0.now a.front a.front_len c.if-s-from.false c.loop-k-test.true in
    let gave = chunk_marks s from k c.as_chunks.result.0.now a.front a.front_len c.if-s-from.false c.loop-k-test.true p (λ x r. g.M.Fn.post c.args.mark (x, tt) r) m c.type_inv.s c.from_le_bytes.result c.mark-m.result c.from_le_bytes.ensures c.mark-m.ensures in
    let next : from + 8 * (k + 1) ≡ from + 8 * k + 8 = omega arith in
    rw next (eight_past p s (from + 8 * k) c.mark-m.result (from + span_of p (drop from s)) (c.loop-k.invariant p m) (omega (arith, w)) gave c.if-m-ne0.false)
