-- `names::compare` meets its contract. Assumes nothing.
use Rattle.names.proofs.Pairs.{compare_laws}
use Rattle.names.proofs.compare.Goals as goal

pub returns-then-a-b : goal.returns-then-a-b
returns-then-a-b c = search compare_laws

pub compare_pairs-requires : goal.compare_pairs-requires
compare_pairs-requires c = search compare_laws

pub returns : goal.returns
returns c = search compare_laws
