-- `policies::utf8::after_character` meets its contract. Assumes nothing.
use Rattle.std.proofs.Common.{arith}
use Rattle.policies.proofs.Texts.{text_none}
use Rattle.policies.proofs.utf8.after_character.Goals as goal

pub returns-in_default : goal.returns-in_default
returns-in_default c = grind (arith, text_none)
