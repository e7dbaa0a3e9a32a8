use Rattle.apk_front.proofs.Carried.{undone_anyway}
use Rattle.apk_front.proofs.OutcomeOfReport.{report_disk, report_found, report_kept, report_memory, report_proper, report_read, report_run}
use Rattle.apk_front.proofs.report.report.Goals as goal

pub returns : goal.returns
returns g c = record {
  found = report_found c.args.command.now c.requires _ _ c.verdict_of.result c.verdict_of.ensures c.tell-answer.ensures.told;
  by_reads = report_read c.args.command.now c.requires _ _ c.verdict_of.result c.verdict_of.ensures c.tell-answer.ensures.told;
  tree = report_run c.args.command.now c.requires _ _ c.verdict_of.result c.tell-answer.ensures.tree.same;
  undone = undone_anyway _ _ (λ none. c.tell-answer.ensures.tree.same);
  counts = record {
    goes_on = c.tell-answer.ensures.tree.goes_on;
    disk = report_disk _ c.verdict_of.result _ _ _ _ c.verdict_of.ensures c.tell-answer.ensures.tree;
    kept = report_kept _ c.verdict_of.result _ _ _ _ c.verdict_of.ensures c.tell-answer.ensures.tree;
    memory = report_memory _ c.verdict_of.result _ _ _ _ c.verdict_of.ensures c.tell-answer.ensures.tree;
  };
  proper = report_proper c.args.command.now c.requires _ _ c.tell-answer.ensures.tree.proper;
}
