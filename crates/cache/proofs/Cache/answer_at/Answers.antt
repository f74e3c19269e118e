-- `cache::Cache::answer_at` meets its contract. Assumes nothing.
use Rattle.cache.proofs.Calls.{answer_is}
use Rattle.cache.proofs.Cache.answer_at.Goals as goal

pub returns : goal.returns
returns c = answer_is _ _ _ _ c.requires.0 _ c.text_of.ensures _ c.unfilled_part-id.ensures _ c.filled.ensures
