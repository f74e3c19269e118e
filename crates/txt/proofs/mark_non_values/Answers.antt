-- `txt::mark_non_values` meets its contract. Assumes nothing.
use Rattle.std.proofs.Common.{arith}
use lib.Dec.{lit<}
use Rattle.lists.proofs.Lanes.{low_below}
use Rattle.txt.proofs.ValueMarks.{differs_below, non_values_marked}
use Rattle.txt.proofs.mark_non_values.Goals as goal

pub overflow_add-from_21 : goal.overflow_add-from_21
overflow_add-from_21 c = record { fits = omega (arith, low_below c.args.x) }

pub overflow_add-past_tilde : goal.overflow_add-past_tilde
overflow_add-past_tilde c = record { fits = omega (arith, low_below c.args.x) }

pub overflow_add-no_equals : goal.overflow_add-no_equals
overflow_add-no_equals c = record { fits = omega (arith, differs_below c.args.x 61 (lit< tt)) }

pub overflow_add-no_semicolon : goal.overflow_add-no_semicolon
overflow_add-no_semicolon c = record { fits = omega (arith, differs_below c.args.x 59 (lit< tt)) }

pub returns : goal.returns
returns c = λ l e b n. non_values_marked l c.args.x e b n
