use Rattle.std.proofs.Common.{◌∙◌, ap}
use Rattle.adb_view.specs.Values.{entry_at_index, text_in}
use Rattle.change_report.specs.db_core.Seen.{members_of}
use Rattle.report_core.specs.declared.refusal.Refusal.TheVariants.{PackageBad}
use Rattle.engine_core.proofs.Members.{at_place}
use Rattle.engine_core.proofs.committing.package_bad.Goals as goal

pub returns : goal.returns
returns c =
    let (m, at) = at_place (members_of c.args.members.now) c.args.place c.requires in
    let here = c.info-info.ensures ∙ ap (λ v. entry_at_index v 0) (c.view.ensures.value m at) in
    let name = c.in_ok-name.ensures ∙ (c.name.ensures ∙ ap (λ v. text_in (entry_at_index v 0)) here) in
    let version = c.in_ok-version.ensures ∙ (c.version.ensures ∙ ap (λ v. text_in (entry_at_index v 1)) here) in (
      m,
      at,
      ap (λ n. PackageBad n c.in_ok-version.version c.args.cause) name
          ∙ ap (λ v. PackageBad (text_in (entry_at_index (entry_at_index m.pkg 0) 0)) v c.args.cause) version,
    )
