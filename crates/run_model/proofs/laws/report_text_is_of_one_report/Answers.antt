use Rattle.run_model.proofs.ReportLemmas.{one_report}
use Rattle.run_model.proofs.laws.report_text_is_of_one_report.Goals as goal

pub returns : goal.returns
returns c = one_report
