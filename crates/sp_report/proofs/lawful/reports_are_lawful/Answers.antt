use Rattle.sp_report.proofs.AgreeLaws.{input_laws}
use Rattle.sp_report.proofs.ReportLaws.{report_laws}
use Rattle.sp_report.proofs.lawful.reports_are_lawful.Goals as goal

pub returns : goal.returns
returns c = record { laws = report_laws; inputs = input_laws }
