-- `certificates::CertificateFacts::has_name` meets its contract. Assumes nothing.
use Rattle.certificates.proofs.Naming.{leaf_common}
use Rattle.certificates.proofs.CertificateFacts.has_name.Goals as goal

pub returns-in-Some : goal.returns-in-Some
returns-in-Some c = leaf_common _ _ _ _ _ c.count.ensures c.if-count-ne0.false c.in-Some.name c.in-Some.is _ c.matches.ensures
