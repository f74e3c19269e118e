-- `certificates::Chain::matches_after_leaf` meets its contract. Assumes nothing.
use Rattle.certificates.proofs.Passing.{held_laws}
use Rattle.certificates.proofs.Chain.matches_after_leaf.Goals as goal

pub is_digest_after_leaf-requires : goal.is_digest_after_leaf-requires
is_digest_after_leaf-requires c = (search held_laws, search held_laws)
