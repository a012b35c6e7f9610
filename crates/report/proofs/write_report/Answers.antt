use Rattle.report.proofs.Puts.{put_then}
use Rattle.report.proofs.WholeReport.{report_written}
use Rattle.report.proofs.write_report.Goals as goal

pub returns-clause-bytes : goal.returns-clause-bytes
returns-clause-bytes c = report_written _ _ _ _ _ c.if-buffer-ne187.false (put_then (put_then c.put_rules.ensures c.put_outputs.ensures) c.put_totals.ensures)
