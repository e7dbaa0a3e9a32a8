use Rattle.std.proofs.Common.{◌∙◌, ap, List, ℕ}
use Rattle.std.specs.Prelude.{slice_get}
use Rattle.std.specs.List.{filter_map, flat_map}
use Rattle.base_core.specs.Sorted.{sorted_by}
use Rattle.pool_core.proofs.candidate_core.Steps.{if_ok}
use Rattle.query_core.specs.Lines.{line_in_form}
use Rattle.query_core.specs.List.{is_list_candidate}
use Rattle.query_core.specs.Order.{candidate_places_cmp}
use Rattle.query_core.specs.declared.candidates.LineForm.TheVariants.{Full}
use Rattle.query_core.proofs.SelectedPlaces.{places_within}
use Rattle.query_core.proofs.list_query.list.Goals as goal

pub report-requires : goal.report-requires
report-requires c =
    places_within (is_list_candidate c.args.patterns.now c.args.installed_only) c.args.pool.now.candidates _ (c.deref.ensures.value ∙ c.in_ok-places.ensures)

pub returns : goal.returns
returns c =
    let cs = c.args.pool.now.candidates in
    if_ok c.report.result _ _ (λ r e. e ∙ ap (λ (ps : List ℕ). flat_map (line_in_form Full) (filter_map (slice_get cs) (sorted_by (candidate_places_cmp cs) ps))) (c.deref.ensures.value ∙ c.in_ok-places.ensures)) c.report.ensures
