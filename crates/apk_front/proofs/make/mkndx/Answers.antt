use Rattle.std.proofs.Common.{◌∙◌, List, ap, length}
use Rattle.base_core.proofs.Counting.{no_fault_twice}
use Rattle.outcome.specs.Make.{index_report_line}
use Rattle.command_core.specs.declared.operands.Operand.{Operand}
use Rattle.apk_front.proofs.Containers.{index_outcomes, index_read, proper_by, runs, reports_one}
use Rattle.apk_front.proofs.NothingFailed.{counted_both}
use Rattle.apk_front.proofs.Runs.{refused_behind}
use Rattle.apk_front.proofs.make.mkndx.Goals as goal

pub returns-clause-found : goal.returns-clause-found
returns-clause-found g c =
    reports_one _ _ _ _ (index_outcomes c.args.command.now _ (c.in_ok-report.ensures ∙ ap index_report_line (c.len.ensures ∙ ap (λ (os : List Operand). length os) c.operands.ensures.value))) c.index-container.result c.finish.result _ c.index-container.ensures.made c.finish.ensures.done c.finish.ensures.reported

pub returns-clause-by_reads : goal.returns-clause-by_reads
returns-clause-by_reads g c =
    index_read c.args.command.now _ c.index-container.result c.finish.result (c.in_ok-report.ensures ∙ ap index_report_line (c.len.ensures ∙ ap (λ (os : List Operand). length os) c.operands.ensures.value)) c.index-container.ensures.found c.finish.ensures.done c.finish.ensures.reported

pub returns-clause-run : goal.returns-clause-run
returns-clause-run g c = record {
  tree = runs _ _ _ _ (index_outcomes c.args.command.now _ (c.in_ok-report.ensures ∙ ap index_report_line (c.len.ensures ∙ ap (λ (os : List Operand). length os) c.operands.ensures.value))) c.index-container.result c.finish.result _ _ _ c.index-container.ensures.tree.same c.index-container.ensures.made c.finish.ensures.done c.finish.ensures.cut c.finish.ensures.run.tree;
  refused = refused_behind c.finish.result _ _ _ c.index-container.ensures.tree.same c.finish.ensures.run.refused;
  undone = λ none. c.finish.ensures.run.undone none ∙ c.index-container.ensures.tree.same;
}

pub returns-clause-proper : goal.returns-clause-proper
returns-clause-proper g c =
    proper_by _ _ _ _ (index_outcomes c.args.command.now _ (c.in_ok-report.ensures ∙ ap index_report_line (c.len.ensures ∙ ap (λ (os : List Operand). length os) c.operands.ensures.value))) c.index-container.result _ _ _ _ _ c.index-container.ensures.tree.same c.index-container.ensures.made c.index-container.ensures.tree.proper c.finish.ensures.proper

pub returns-clause-counts : goal.returns-clause-counts
returns-clause-counts g c =
    counted_both no_fault_twice c.index-container.result c.finish.result _ _ _ _ _ c.index-container.ensures.tree c.finish.ensures.done c.finish.ensures.lost c.finish.ensures.goes_on c.finish.ensures.disk c.finish.ensures.kept c.finish.ensures.memory
