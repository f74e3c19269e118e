-- What is found from here on is what was to be found from the beginning.
use mathlib.Core.Path.{◌≡◌}
use lib.ListN.{drop}
use Rattle.cache.proofs.Search.{own_from}
use Rattle.cache.proofs.Cache.own_entry.Given as goal

abbrev pub invariant-loop-i : goal.invariant-loop-i
invariant-loop-i l = own_from l.self.clock l.domain l.self.texts.now 0 l.self.table.now ≡ own_from l.self.clock l.domain l.self.texts.now l.i (drop l.i l.self.table.now)
