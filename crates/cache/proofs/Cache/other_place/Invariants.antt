-- What is found from here on is what was to be found from the beginning.
use mathlib.Core.Path.{◌≡◌}
use lib.ListN.{drop}
use Rattle.std.specs.Prelude.{None}
use Rattle.cache.proofs.Search.{other_from}
use Rattle.cache.proofs.Cache.other_place.Given as goal

abbrev pub invariant-loop-i : goal.invariant-loop-i
invariant-loop-i l = other_from l.self.clock l.self.texts.now 0 None l.self.table.now ≡ other_from l.self.clock l.self.texts.now l.i l.stale (drop l.i l.self.table.now)
