-- `find_report` meets its contract: by the first line that may not stand around the report, or by the output's end where there is none.
-- Assumes nothing.
use Rattle.texts.proofs.Counting.{start_stands}
use Rattle.report.proofs.Reporting.{report_missing}
use Rattle.report.proofs.find_report.Goals as goal

pub out_of_place-requires : goal.out_of_place-requires
out_of_place-requires c = start_stands _

pub returns-in-End : goal.returns-in-End
returns-in-End c = report_missing _ c.in-End.ensures _ c.misplaced.ensures
