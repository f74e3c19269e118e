-- `reports::report_summary` meets its contract. Assumes nothing.
use Rattle.reports.proofs.SummaryReturns.{summary_laws}
use Rattle.reports.proofs.report_summary.Goals as goal

pub returns-then-counts-ne-COUNTS_SIZE : goal.returns-then-counts-ne-COUNTS_SIZE
returns-then-counts-ne-COUNTS_SIZE c = record { value = search summary_laws; output_after = search summary_laws }

pub returns-then-plus-gt-MOST_SESSIONS : goal.returns-then-plus-gt-MOST_SESSIONS
returns-then-plus-gt-MOST_SESSIONS c = record { value = search summary_laws; output_after = search summary_laws }

pub returns-then-not-summary_fits : goal.returns-then-not-summary_fits
returns-then-not-summary_fits c = record { value = search summary_laws; output_after = search summary_laws }

pub returns : goal.returns
returns c = record { value = search summary_laws; output_after = search summary_laws }

pub summary_fits-requires : goal.summary_fits-requires
summary_fits-requires c = search summary_laws

pub write_summary-size-requires : goal.write_summary-size-requires
write_summary-size-requires c = search summary_laws
