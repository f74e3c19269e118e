-- `publish::write_txt` meets its contract. Assumes nothing.
use Rattle.publish.proofs.TxtReturns.{txt_written}
use Rattle.publish.proofs.write_txt.Goals as goal

pub returns-clause-output_after : goal.returns-clause-output_after
returns-clause-output_after c = txt_written _ _ c.is_id.ensures c.if-not-is_id.false _ c.if-output-end.false _ _ _ c.put.ensures c.put-2.ensures c.put-3.ensures
