-- `clock::is_live` meets its contract. Assumes nothing.
use Rattle.clock.proofs.Returns.{live_seconds, live_bad}
use Rattle.clock.proofs.is_live.Goals as goal

pub returns-in-Ok : goal.returns-in-Ok
returns-in-Ok c = live_seconds _ _ _ _ c.in-Ok.ensures.0

pub returns-in-Err : goal.returns-in-Err
returns-in-Err c = live_bad _ _ _ _ c.in-Err.ensures.0
