use Rattle.std.proofs.Common.{◌∙◌, ◌++◌, List, ℕ, Bor, ap, map}
use Rattle.std.specs.Prelude.{is_some}
use Rattle.std.specs.List.{filter, flat_map}
use Rattle.own_core.specs.PlanLists.{sorted_distinct_names}
use Rattle.own_core.specs.db_core.Seen.{packages_of}
use Rattle.package_changes.specs.Placed.{candidates_at}
use Rattle.package_changes.specs.Report.{lines_on_name_that_stays, was_installed}
use Rattle.package_changes.specs.SelectedNames.{place_paired_with_name}
use Rattle.package_changes.proofs.StayingNames.{only_selected_stay}
use Rattle.package_changes.proofs.stays.push_stay_lines.Goals as goal

pub returns : goal.returns
returns c =
    let lines : List (List ℕ) → List ℕ = λ names. flat_map (lines_on_name_that_stays (candidates_at c.args.pool.now c.args.trace.now)) (filter (was_installed (packages_of c.args.db.now)) names) in
    c.in_ok-push_lines_of_names.ensures
    ∙ ap (λ z. c.args.report.now ++ z)
    (ap (λ names. lines (map (λ (n : Bor (List ℕ)). n.now) names)) (c.deref-2.ensures.value ∙ (c.in_ok-staying.ensures ∙ ap (filter (λ (n : Bor (List ℕ)). is_some (place_paired_with_name n.now c.in_ok-selected.selected))) c.deref.ensures.value))
    ∙ (only_selected_stay (packages_of c.args.db.now) c.args.pool.now c.args.trace.now c.in_ok-selected.selected c.in_ok-selected.ensures c.in_ok-names-2.names.items
    ∙ ap lines (c.in_ok-names-2.ensures ∙ ap sorted_distinct_names c.in_ok-names.ensures)))
