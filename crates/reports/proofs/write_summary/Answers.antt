-- `reports::write_summary` meets its contract. Assumes nothing.
use Rattle.reports.proofs.SummaryReturns.{write_laws}
use Rattle.reports.proofs.write_summary.Goals as goal

pub put-requires : goal.put-requires
put-requires c = search write_laws

pub put_sessions-m-requires : goal.put_sessions-m-requires
put_sessions-m-requires c = search write_laws

pub overflow_add-a : goal.overflow_add-a
overflow_add-a c = search write_laws

pub put-requires-2 : goal.put-requires-2
put-requires-2 c = search write_laws

pub overflow_add-a-2 : goal.overflow_add-a-2
overflow_add-a-2 c = search write_laws

pub put_sessions-n-requires : goal.put_sessions-n-requires
put_sessions-n-requires c = search write_laws

pub overflow_add-end : goal.overflow_add-end
overflow_add-end c = search write_laws

pub overflow_add-end-2 : goal.overflow_add-end-2
overflow_add-end-2 c = search write_laws

pub put-requires-3 : goal.put-requires-3
put-requires-3 c = search write_laws

pub overflow_add-result : goal.overflow_add-result
overflow_add-result c = search write_laws

pub shape_of-output : goal.shape_of-output
shape_of-output c = search write_laws

pub returns : goal.returns
returns c = record { value = search write_laws; output_after = search write_laws }
