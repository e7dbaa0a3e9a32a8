use Rattle.std.proofs.Common.{◌≡◌, ◌∙◌, ℕ, List, map, Result, Ok, Err, sym, ap, subst}
use Rattle.std.specs.Prelude.{IfOk}
use Rattle.std.specs.List.{filter_map}
use Rattle.std.specs.declared.alloc.AllocError.{AllocError}
use Rattle.adb_view.specs.Plain.{Plain}
use Rattle.change_report.specs.change_outcome.ChangeOutcome.{change_report, packages_before_and_after_with_purge}
use Rattle.change_report.specs.package_changes.Placed.{PlacedChange, candidates_at, change_in}
use Rattle.change_report.specs.package_changes.Seen.{placed_replacement_from_parts}
use Rattle.engine_core.specs.Preparing.{inputs_of_plan, wishes_of_plan}
use Rattle.engine_core.proofs.Reporting.{changes_named}
use Rattle.engine_core.proofs.rendering.report_of.Goals as goal

pub returns : goal.returns
returns c =
    let p = c.args.plan.now in
    let s = p.packages.now.selection.now in
    let wishes = wishes_of_plan p in
    λ history found files planned.
    let change = packages_before_and_after_with_purge (inputs_of_plan p) wishes found in
    c.into_text.ensures
    ∙ (c.in_ok-report.ensures s.again wishes change files (record {
      changes = ap (map (λ (p : PlacedChange). p.change)) (c.in_ok-changes.ensures ∙ ap (filter_map change_in) planned.arrived.read.placed)
          ∙ changes_named c.places_lead_to_packages_and_candidates.ensures.change (placed_replacement_from_parts s.db s.pool s.trace s.again);
      to_remove = sym (c.in_ok-to_remove.ensures);
      members = sym planned.arrived.members;
      plan = planned.lists;
    })
    ∙ ap (λ (before : List Plain). change_report (record { before = before; selected = candidates_at s.pool s.trace; again = s.again }) wishes change files) planned.arrived.read.database)
