-- `tweedstork::tweedstork_next_host` meets its contract. Assumes nothing.
use Rattle.tweedstork.proofs.Next.{next_laws}
use Rattle.tweedstork.proofs.tweedstork_next_host.Goals as goal

pub next_host-requires : goal.next_host-requires
next_host-requires c = search next_laws

pub next_host-requires-in-2 : goal.next_host-requires-in-2
next_host-requires-in-2 c = search next_laws

pub returns-in-1 : goal.returns-in-1
returns-in-1 c = search next_laws

pub returns-in-2 : goal.returns-in-2
returns-in-2 c = search next_laws

pub returns-in_default : goal.returns-in_default
returns-in_default c = search next_laws
