use Rattle.std.proofs.Common.{◌∙◌, ◌++◌, List, ap}
use Rattle.change_report.specs.db_core.Seen.{members_of}
use Rattle.journal_staging.specs.declared.writes.StagedWrite.{StagedWrite}
use Rattle.engine_core.specs.Writing.{package_at, record_writes}
use Rattle.engine_core.proofs.Written.{each_gathered, names_gathered}
use Rattle.engine_core.proofs.writes.writes_of.Goals as goal

pub returns-clause-names : goal.returns-clause-names
returns-clause-names c =
    let (files, is, names, all) = c.in_ok-push_files.ensures in
    let r = c.args.records.now in
    names_gathered (members_of c.args.members.now) (package_at c.args.arrivals.now) c.args.plan.now r c.push_record-2.new.writes.items c.sort_writes.new.writes.items (
      files,
      c.in_ok-push_record-2.ensures ∙ ap (λ (l : List StagedWrite). l ++ record_writes r.world_name r.world) (c.in_ok-push_record.ensures
          ∙ ap (λ (l : List StagedWrite). l ++ record_writes r.database_name r.database) (is ∙ ap (λ (l : List StagedWrite). l ++ files) c.new-writes.ensures.items)),
      names,
      all,
    )
    c.requires.once c.in_ok-sort_writes.ensures

pub returns-clause-each : goal.returns-clause-each
returns-clause-each c =
    let (files, is, names, all) = c.in_ok-push_files.ensures in
    let r = c.args.records.now in
    each_gathered (members_of c.args.members.now) (package_at c.args.arrivals.now) c.args.plan.now r c.push_record-2.new.writes.items c.sort_writes.new.writes.items (
      files,
      c.in_ok-push_record-2.ensures ∙ ap (λ (l : List StagedWrite). l ++ record_writes r.world_name r.world) (c.in_ok-push_record.ensures
          ∙ ap (λ (l : List StagedWrite). l ++ record_writes r.database_name r.database) (is ∙ ap (λ (l : List StagedWrite). l ++ files) c.new-writes.ensures.items)),
      names,
      all,
    )
    c.in_ok-sort_writes.ensures
