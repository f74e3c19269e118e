-- `gather` meets its contract. Assumes nothing.
use Rattle.std.proofs.Common.{arith, ap, sym, refl, ◌≡◌, ◌∙◌, ◌<◌, ◌≤◌, ◌+◌, ◌-◌, ◌^◌, ◌∷◌, [], length}
use Rattle.numbers.specs.Numbers.{written}
use Rattle.leaf.specs.Names.{dns_ids_of, ids_left}
use Rattle.leaf.proofs.Sound.{ids_inside}
use Rattle.judging.specs.Texts.{part_of}
use Rattle.judging.proofs.Put.{put_start, put_next, put_fits, put_end, four_are}
use Rattle.judging.proofs.Handed.{names_are, lengths_are}
use Rattle.judging.proofs.Pieces.{part_order, part_end, rest_inside, flat_next, sizes_next, flat_none, sizes_none, size_of, flat_room, sizes_room, piece_short}
use Rattle.judging.proofs.read_call.ReadCall.gather.Goals as goal

pub loop-id-init : goal.loop-id-init
loop-id-init c =
    let is_read = c.args.self.now.is_read in
    let e : ids_left c.into_iter-id-iterator.result ≡ dns_ids_of c.args.self.now.leaf.now c.args.self.now.found = ap ids_left c.into_iter-id-iterator.ensures.into_iter_gives ∙ c.dns_ids_of-id-items.ensures in
    record {
      can = tt;
      ends = tt;
      inside = rw e (ids_inside _ _ is_read);
      names = rw e (put_start _ _ (omega (arith, flat_room _ _ is_read)));
      lengths = rw e (put_start _ _ (omega (arith, sizes_room _ _ is_read)));
    }

pub slice_bounds-name-count : goal.slice_bounds-name-count
slice_bounds-name-count c = part_order _ _ _ _ c.in-Some.ensures.steps c.loop-id.invariant.inside

pub slice_bounds-name-start : goal.slice_bounds-name-start
slice_bounds-name-start c = part_order _ _ _ _ c.in-Some.ensures.steps c.loop-id.invariant.inside

pub slice_bounds-name-end : goal.slice_bounds-name-end
slice_bounds-name-end c = part_end _ _ _ _ c.in-Some.ensures.steps c.loop-id.invariant.inside

pub slice_bounds-copy_from_slice-end : goal.slice_bounds-copy_from_slice-end
slice_bounds-copy_from_slice-end c =
    let s = c.args.self.now.leaf.now in
    let w : c.loop-id.n + length (part_of s c.in-Some.id) ≤ length c.loop-id.names = put_fits _ _ _ _ _ c.loop-id.invariant.names _ _ (flat_next (part_of s) _ _ _ c.in-Some.ensures.steps) in
    omega arith

pub slice_bounds-copy_from_slice-end-in-loop-id : goal.slice_bounds-copy_from_slice-end-in-loop-id
slice_bounds-copy_from_slice-end-in-loop-id c =
    let s = c.args.self.now.leaf.now in
    let size = written (length (part_of s c.in-Some.id) ∷ []) in
    let w : c.loop-id.k + length size ≤ length c.loop-id.lengths = put_fits _ _ _ _ _ c.loop-id.invariant.lengths size _ (sizes_next (part_of s) _ _ _ c.in-Some.ensures.steps) in
    omega (arith, size_of (part_of s c.in-Some.id))

pub loop-id-preserved : goal.loop-id-preserved
loop-id-preserved c =
    let s = c.args.self.now.leaf.now in
    let next = flat_next (part_of s) _ _ _ c.in-Some.ensures.steps in
    let sizes = sizes_next (part_of s) _ _ _ c.in-Some.ensures.steps in
    let short : length (part_of s c.in-Some.id) < 2 ^ 32 = piece_short _ _ c.args.self.now.is_read c.args.self.now.leaf_fits _ _ _ _ c.loop-id.invariant.names _ _ next in
    let name : c.loop-id.n + length (part_of s c.in-Some.id) - c.loop-id.n ≡ length (part_of s c.in-Some.id) = omega arith in
    let size : c.loop-id.k + 4 - c.loop-id.k ≡ 4 = omega arith in
    record {
      can = tt;
      ends = tt;
      inside = rest_inside _ _ _ _ c.in-Some.ensures.steps c.loop-id.invariant.inside;
      names = put_next _ _ _ _ _ c.loop-id.invariant.names _ _ next _ _ _ c.copy_from_slice.ensures.after refl name;
      lengths = put_next _ _ _ _ _ c.loop-id.invariant.lengths _ _ sizes _ _ _ (c.copy_from_slice-in-loop-id.ensures.after ∙ (c.to_be_bytes-size.ensures ∙ four_are _ short)) (size_of (part_of s c.in-Some.id)) size;
    }

pub returns : goal.returns
returns c =
    (put_end _ _ _ _ _ c.loop-id.invariant.names (flat_none _ _ c.in-None.ensures.steps.0) ∙ sym (names_are _ _ c.args.self.now.is_read), put_end _ _ _ _ _ c.loop-id.invariant.lengths (sizes_none _ _ c.in-None.ensures.steps.0) ∙ sym (lengths_are _ _ c.args.self.now.is_read))
