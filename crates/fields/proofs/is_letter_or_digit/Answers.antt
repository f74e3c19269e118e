-- `fields::is_letter_or_digit` meets its contract. Assumes nothing.
use Rattle.fields.proofs.Letter.{letter_laws}
use Rattle.fields.proofs.is_letter_or_digit.Goals as goal

pub returns-then-b-ge97 : goal.returns-then-b-ge97
returns-then-b-ge97 c = search letter_laws

pub returns-then-b-ge65 : goal.returns-then-b-ge65
returns-then-b-ge65 c = search letter_laws

pub returns-then-b-ge48 : goal.returns-then-b-ge48
returns-then-b-ge48 c = search letter_laws

pub returns : goal.returns
returns c = search letter_laws
