-- `certificates::CertificateFacts::names_fit` meets its contract. Assumes nothing.
use Rattle.certificates.proofs.Limits.{names_common}
use Rattle.certificates.proofs.CertificateFacts.names_fit.Goals as goal

pub returns-in-Some : goal.returns-in-Some
returns-in-Some c = names_common c.args.self.now _ c.count.ensures c.if-count-gt64.false _ c.fits.ensures c.if-not-fits.false c.in-Some.name c.in-Some.is
