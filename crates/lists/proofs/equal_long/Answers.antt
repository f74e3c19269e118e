-- `lists::equal_long` meets its contract. Assumes nothing.
use Rattle.std.proofs.Common.{◌*◌, ◌+◌, arith}
use Rattle.lists.proofs.Agree.{agree_length}
use Rattle.lists.proofs.Chunks.{chunk_left, chunk_right, chunks_next, chunks_differ}
use Rattle.lists.proofs.equal_long.Goals as goal

pub returns-then-a-b : goal.returns-then-a-b
returns-then-a-b c = search agree_length

pub returns-then-not-equal : goal.returns-then-not-equal
returns-then-not-equal c =
    let x = chunk_left c.args.a.now c.args.b.now c.loop-k.k 32 _ _ c.as_chunks.ensures.front c.as_chunks-2.ensures.front c.if-a-b.false (omega arith) in
    let y = chunk_right c.args.a.now c.args.b.now c.loop-k.k 32 _ _ c.as_chunks.ensures.front c.as_chunks-2.ensures.front c.if-a-b.false (omega arith) in
    chunks_differ 32 c.args.a.now c.args.b.now (32 * c.loop-k.k) (32 * c.loop-k.k + 32) (omega arith) c.loop-k.invariant _ (rw (x, y) at c.equal.ensures) c.if-not-equal.true

pub loop-k-preserved : goal.loop-k-preserved
loop-k-preserved c =
    let x = chunk_left c.args.a.now c.args.b.now c.loop-k.k 32 _ _ c.as_chunks.ensures.front c.as_chunks-2.ensures.front c.if-a-b.false (omega arith) in
    let y = chunk_right c.args.a.now c.args.b.now c.loop-k.k 32 _ _ c.as_chunks.ensures.front c.as_chunks-2.ensures.front c.if-a-b.false (omega arith) in
    chunks_next 32 c.args.a.now c.args.b.now (32 * c.loop-k.k) (32 * (c.loop-k.k + 1)) (omega arith) c.loop-k.invariant _ (rw (x, y) at c.equal.ensures) c.if-not-equal.false
