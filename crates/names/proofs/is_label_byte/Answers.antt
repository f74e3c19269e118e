-- `names::is_label_byte` meets its contract. Assumes nothing.
use Rattle.names.proofs.Label.{byte_laws}
use Rattle.names.proofs.is_label_byte.Goals as goal

pub returns-then-b-ge97 : goal.returns-then-b-ge97
returns-then-b-ge97 c = search byte_laws

pub returns-then-b-eq46 : goal.returns-then-b-eq46
returns-then-b-eq46 c = search byte_laws

pub returns-then-b-ge65 : goal.returns-then-b-ge65
returns-then-b-ge65 c = search byte_laws

pub returns-then-b-ge48 : goal.returns-then-b-ge48
returns-then-b-ge48 c = search byte_laws

pub returns : goal.returns
returns c = search byte_laws
