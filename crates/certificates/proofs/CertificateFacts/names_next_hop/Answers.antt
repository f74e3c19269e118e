-- `certificates::CertificateFacts::names_next_hop` meets its contract. Assumes nothing.
use Rattle.certificates.proofs.Naming.{next_hop_further}
use Rattle.certificates.proofs.CertificateFacts.names_next_hop.Goals as goal

pub returns-in-Some : goal.returns-in-Some
returns-in-Some c = next_hop_further _ _ _ _ c.has_name.ensures c.if-has_name.false c.in-Some.name c.in-Some.is _ c.has_name-in-Some.ensures
