-- `reports::report_count` meets its contract. Assumes nothing.
use Rattle.reports.proofs.CountReturns.{report_laws}
use mathlib.Core.Path.{sym, ◌∙◌}
use Rattle.reports.proofs.Places.{place_few}
use Rattle.reports.proofs.report_count.Goals as goal

pub returns-then-not-is_verdict : goal.returns-then-not-is_verdict
returns-then-not-is_verdict c = record { value = search report_laws; counts_after = search report_laws }

pub returns-then-counts-ne-COUNTS_SIZE : goal.returns-then-counts-ne-COUNTS_SIZE
returns-then-counts-ne-COUNTS_SIZE c = record { value = search report_laws; counts_after = search report_laws }

pub returns-then-n-gt-MOST_SESSIONS : goal.returns-then-n-gt-MOST_SESSIONS
returns-then-n-gt-MOST_SESSIONS c = record { value = search report_laws; counts_after = search report_laws }

pub returns-in_default : goal.returns-in_default
returns-in_default c = record { value = search report_laws; counts_after = search report_laws }

pub returns-then-n-ge-MOST_SESSIONS : goal.returns-then-n-ge-MOST_SESSIONS
returns-then-n-ge-MOST_SESSIONS c = record { value = search report_laws; counts_after = search report_laws }

pub returns : goal.returns
returns c = record { value = search report_laws; counts_after = search report_laws }

pub add_one-requires : goal.add_one-requires
add_one-requires c = (place_few _ _ (sym c.in-Some.is ∙ c.place_of.ensures), search report_laws, search report_laws)
