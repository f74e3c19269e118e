-- `reports::count_at` meets its contract. Assumes nothing.
use Rattle.reports.proofs.Counts.{count_is}
use Rattle.reports.proofs.count_at.Goals as goal

pub returns : goal.returns
returns c = count_is c.args.counts.now c.args.k c.as_chunks.result.0.now c.from_be_bytes.result c.requires.0 c.requires.1 c.as_chunks.ensures.front c.from_be_bytes.ensures
