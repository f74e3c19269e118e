-- `fields::mark_non_letters` meets its contract. Assumes nothing.
use Rattle.std.proofs.Common.{arith}
use Rattle.lists.proofs.Lanes.{low_below}
use Rattle.fields.proofs.LetterMarks.{small_below, non_letters_marked}
use Rattle.fields.proofs.mark_non_letters.Goals as goal

pub overflow_add-from_a : goal.overflow_add-from_a
overflow_add-from_a c = record { fits = omega (arith, small_below c.args.x) }

pub overflow_add-past_z : goal.overflow_add-past_z
overflow_add-past_z c = record { fits = omega (arith, small_below c.args.x) }

pub overflow_add-from_0 : goal.overflow_add-from_0
overflow_add-from_0 c = record { fits = omega (arith, low_below c.args.x) }

pub overflow_add-past_9 : goal.overflow_add-past_9
overflow_add-past_9 c = record { fits = omega (arith, low_below c.args.x) }

pub returns : goal.returns
returns c = λ l e b n. non_letters_marked l c.args.x e b n
