use Rattle.outcome.proofs.Idle.{without_commit}
use Rattle.apk_front.proofs.Changing.{change_disk, change_found, change_kept, change_memory, change_proper, change_read, change_run, change_undone}
use Rattle.apk_front.proofs.change_root.change_root.Goals as goal

pub returns-clause-run : goal.returns-clause-run
returns-clause-run g c =
    let unique = c.an_outcome_over_files_is_unique.ensures in
    let leaves = without_commit in
    record {
      found = change_found c.args.command.now c.requires unique leaves _ _ _ _ _ c.verdict_of.result c.verdict_of.ensures c.change-answer.ensures.run;
      by_reads = change_read c.args.command.now c.requires _ _ _ _ _ c.change-answer.ensures.run c.verdict_of.result c.verdict_of.ensures;
      tree = change_run c.args.command.now c.requires unique leaves _ _ _ _ _ c.verdict_of.result c.verdict_of.ensures c.change-answer.ensures.run;
      undone = change_undone c.args.command.now c.requires unique leaves _ _ _ _ _ c.verdict_of.result c.verdict_of.ensures c.change-answer.ensures.run;
      counts = record {
        goes_on = c.change-answer.ensures.counts.goes_on;
        disk = change_disk _ c.verdict_of.result _ _ c.verdict_of.ensures c.change-answer.ensures.counts;
        kept = change_kept _ c.verdict_of.result _ _ c.verdict_of.ensures c.change-answer.ensures.counts;
        memory = change_memory _ c.verdict_of.result _ _ c.verdict_of.ensures c.change-answer.ensures.counts;
      };
      proper = change_proper c.args.command.now c.requires unique leaves _ _ _ _ _ c.verdict_of.result c.verdict_of.ensures c.change-answer.ensures.run;
    }
