-- `certificates::Chain::whole_after_leaf` meets its contract. Assumes nothing.
use Rattle.std.proofs.Common.{◌∙◌, sym, ap, refl, arith}
use mathlib.Core.Logic.{inl}
use Rattle.numbers.specs.Pieces.{pieces_in}
use Rattle.certificates.proofs.Matching.{path_no, path_yes}
use Rattle.certificates.proofs.Passing.{few_pieces, after_none, after_start, placed_none, placed_hit, placed_next}
use Rattle.certificates.proofs.Chain.whole_after_leaf.Goals as goal

pub next-requires : goal.next-requires
next-requires c = (tt, tt, inl (few_pieces c.args.self.certificates.now c.args.self.lengths.now _ _ (ap pieces_in c.enumerate-certificates.ensures.source ∙ c.certificates.ensures) (omega (arith, c.ranges.self)) c.enumerate-certificates.ensures.count))

pub returns-in_default : goal.returns-in_default
returns-in_default c = sym (after_none _ _ _ _ _ _ (ap pieces_in c.enumerate-certificates.ensures.source ∙ c.certificates.ensures) _ c.in_default.ensures.steps.0.0)

pub loop-k-init : goal.loop-k-init
loop-k-init c =
    let g = c.into_iter-k-iterator.ensures.into_iter_gives in
    let h = c.in-Some.ensures.steps in
    rw (g, h.2, c.enumerate-certificates.ensures.count) (after_start _ _ _ _ _ _ (ap pieces_in c.enumerate-certificates.ensures.source ∙ c.certificates.ensures) _ _ _ h.0)

pub returns-then-matches_certificate : goal.returns-then-matches_certificate
returns-then-matches_certificate c = let h = c.in-Some-2.ensures.steps in sym (c.loop-k.invariant ∙ placed_hit _ _ _ _ _ _ h.0 _ h.1 _ (path_yes _ _ _ _ _ _ c.is_on_path.ensures c.if-not-is_on_path.false _ c.matches_certificate.ensures) c.if-matches_certificate.true)

pub loop-k-preserved-then-not-is_on_path : goal.loop-k-preserved-then-not-is_on_path
loop-k-preserved-then-not-is_on_path c = let h = c.in-Some-2.ensures.steps in c.loop-k.invariant ∙ placed_next _ _ _ _ _ _ h.0 _ h.1 _ (path_no _ _ _ _ _ _ c.is_on_path.ensures c.if-not-is_on_path.true) refl _ h.2

pub loop-k-preserved : goal.loop-k-preserved
loop-k-preserved c = let h = c.in-Some-2.ensures.steps in c.loop-k.invariant ∙ placed_next _ _ _ _ _ _ h.0 _ h.1 _ (path_yes _ _ _ _ _ _ c.is_on_path.ensures c.if-not-is_on_path.false _ c.matches_certificate.ensures) c.if-matches_certificate.false _ h.2

pub returns : goal.returns
returns c = sym (c.loop-k.invariant ∙ placed_none _ _ _ _ c.in-None.ensures.steps.0.0)
