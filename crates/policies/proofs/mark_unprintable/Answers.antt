-- `policies::mark_unprintable` meets its contract. Assumes nothing.
use Rattle.policies.proofs.PrintableMarks.{unprintable_marked}
use Rattle.policies.proofs.mark_unprintable.Goals as goal

pub returns : goal.returns
returns c = λ l e b n. unprintable_marked l c.args.x e b n
