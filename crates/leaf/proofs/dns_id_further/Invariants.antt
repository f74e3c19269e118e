use mathlib.Core.Path.{◌≡◌}
use Rattle.reader.specs.Read.{elements_left}
use Rattle.leaf.specs.Names.{dns_names, dns_ids_from, first_of}
use Rattle.leaf.proofs.dns_id_further.Given as goal

abbrev pub invariant-loop-head : goal.invariant-loop-head
invariant-loop-head l = first_of (dns_ids_from l.s l.at) ≡ first_of (dns_names (elements_left l.head-iterator))
