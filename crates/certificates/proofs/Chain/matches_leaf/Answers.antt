-- `certificates::Chain::matches_leaf` meets its contract. Assumes nothing.
use Rattle.certificates.proofs.Passing.{leaf_whole, leaf_digest, held_laws}
use Rattle.certificates.proofs.Chain.matches_leaf.Goals as goal

pub returns-then-entry-eq0 : goal.returns-then-entry-eq0
returns-then-entry-eq0 c = leaf_whole _ _ _ _ _ _ c.certificates.ensures _ _ _ c.in-Some.ensures.steps c.if-entry-eq0.true _ c.matches_certificate.ensures

pub is_digest-requires : goal.is_digest-requires
is_digest-requires c = (search held_laws, search held_laws)

pub returns : goal.returns
returns c = leaf_digest _ _ _ _ _ _ c.certificates.ensures _ _ _ c.in-Some.ensures.steps c.requires c.if-entry-eq0.false _ c.digest_start-from.ensures _ c.is_digest.ensures
