-- `leaf::write_places` meets its contract. Assumes nothing.
use Rattle.std.proofs.Common.{◌∙◌, arith}
use Rattle.leaf.specs.Names.{ids_left}
use Rattle.leaf.specs.Read.{sixteen}
use Rattle.leaf.proofs.Writing.{item_end, item_within, item_left, item_put, item_same, sixteen_size}
use Rattle.leaf.proofs.write_places.Goals as goal

pub slice_bounds-copy_from_slice-end : goal.slice_bounds-copy_from_slice-end
slice_bounds-copy_from_slice-end c =
    let w = item_within sixteen (ids_left c.args.ids) (ids_left c.loop-id.id-iterator) c.loop-id.n c.loop-id.invariant.0 c.loop-id.invariant.1 c.in-Some.id (ids_left c.next.new.self) c.in-Some.ensures.steps 16 (sixteen_size c.in-Some.id) in
    let l = c.loop-id.invariant.3 in
    omega (arith, w, l, c.requires)

pub loop-id-preserved : goal.loop-id-preserved
loop-id-preserved c =
    let i = c.loop-id.invariant in
    let w = item_within sixteen (ids_left c.args.ids) (ids_left c.loop-id.id-iterator) c.loop-id.n i.0 i.1 c.in-Some.id (ids_left c.next.new.self) c.in-Some.ensures.steps 16 (sixteen_size c.in-Some.id) in
    let l = item_left sixteen (ids_left c.args.ids) (ids_left c.loop-id.id-iterator) c.loop-id.n i.0 i.1 c.in-Some.id (ids_left c.next.new.self) c.in-Some.ensures.steps 16 (sixteen_size c.in-Some.id) in
    let y = c.copy_from_slice.ensures.after ∙ c.place_of.ensures in (
      l,
      w,
      item_put sixteen (ids_left c.args.ids) (ids_left c.loop-id.id-iterator) c.loop-id.n i.0 i.1 c.in-Some.id (ids_left c.next.new.self) c.in-Some.ensures.steps 16 (sixteen_size c.in-Some.id) c.args.output.now c.loop-id.output c.copy_from_slice.new.self _ (omega arith) y i.2 c.requires,
      item_same sixteen (ids_left c.args.ids) (ids_left c.loop-id.id-iterator) c.loop-id.n i.0 i.1 c.in-Some.id (ids_left c.next.new.self) c.in-Some.ensures.steps 16 (sixteen_size c.in-Some.id) c.args.output.now c.loop-id.output c.copy_from_slice.new.self _ (omega arith) y i.2 c.requires,
    )

pub returns : goal.returns
returns c = item_end sixteen (ids_left c.args.ids) (ids_left c.loop-id.id-iterator) c.loop-id.n c.loop-id.invariant.0 c.loop-id.invariant.1 c.in-None.ensures.steps.0 c.args.output.now c.loop-id.output c.loop-id.invariant.2
