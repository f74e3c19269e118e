-- `lists::equal` meets its contract. Assumes nothing.
use Rattle.std.proofs.Common.{◌*◌, ◌+◌, arith}
use borrow.Author.Tests.{eq-eqb, ne_eqb}
use Rattle.lists.proofs.Agree.{agree_length}
use Rattle.lists.proofs.Chunks.{chunk_same, chunks_next, chunks_differ}
use Rattle.lists.proofs.equal.Goals as goal

pub returns-then-a-b : goal.returns-then-a-b
returns-then-a-b c = search agree_length

pub returns-then-from_le_bytes : goal.returns-then-from_le_bytes
returns-then-from_le_bytes c =
    let gave = chunk_same c.args.a.now c.args.b.now c.loop-k.k _ _ c.as_chunks.ensures.front c.as_chunks-2.ensures.front c.if-a-b.false (omega arith) c.type_inv.a c.type_inv.b _ _ c.from_le_bytes.ensures c.from_le_bytes-in-loop-k.ensures in
    chunks_differ 8 c.args.a.now c.args.b.now (8 * c.loop-k.k) (8 * c.loop-k.k + 8) (omega arith) c.loop-k.invariant _ gave (ne_eqb _ _ c.if-from_le_bytes.true)

pub loop-k-preserved : goal.loop-k-preserved
loop-k-preserved c =
    let gave = chunk_same c.args.a.now c.args.b.now c.loop-k.k _ _ c.as_chunks.ensures.front c.as_chunks-2.ensures.front c.if-a-b.false (omega arith) c.type_inv.a c.type_inv.b _ _ c.from_le_bytes.ensures c.from_le_bytes-in-loop-k.ensures in
    chunks_next 8 c.args.a.now c.args.b.now (8 * c.loop-k.k) (8 * (c.loop-k.k + 1)) (omega arith) c.loop-k.invariant _ gave (eq-eqb _ _ c.if-from_le_bytes.false)
