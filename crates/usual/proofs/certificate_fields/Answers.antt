-- `usual::certificate_fields` meets its contract. Assumes nothing.
use Rattle.usual.proofs.Shape.{fields_passed}
use Rattle.usual.proofs.certificate_fields.Goals as goal

pub returns : goal.returns
returns c = fields_passed c.args.s.now c.args.at _ c.tagged.ensures c.in_ok-head.head c.in_ok-head.was _ c.free_end.ensures c.in_ok-i.i c.in_ok-i.was _ c.alone.ensures _ c.in_ok-alone.was _ c.tbs_certificate.ensures
