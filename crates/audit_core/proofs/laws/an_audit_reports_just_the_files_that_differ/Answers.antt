use Rattle.audit_core.proofs.Differing.{difference_is, is_difference, report_over}
use Rattle.audit_core.proofs.RisingPaths.{differences_rise}
use Rattle.audit_core.proofs.laws.an_audit_reports_just_the_files_that_differ.Goals as goal

pub returns : goal.returns
returns c = record {
  report = report_over;
  each = λ files packages d. (difference_is files packages d, is_difference files packages d);
  rising = differences_rise;
}
