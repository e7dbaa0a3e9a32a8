use Rattle.std.proofs.Common.{◌∙◌, ◌++◌, All, List, ℕ, ap}
use Rattle.std.specs.List.{flat_map}
use Rattle.report_core.specs.QueryReports.{policy_heading}
use Rattle.pool_core.proofs.candidate_core.Steps.{on_ok}
use Rattle.query_core.specs.Policy.{version_policy}
use Rattle.query_core.specs.VersionPlaces.{ListsPlacesOfVersion, VersionPlaces, version_lines}
use Rattle.query_core.proofs.LineParts.{printed_versions}
use Rattle.query_core.proofs.policy_query.add_name.Goals as goal

pub returns : goal.returns
returns c =
    let cs = c.args.pool.now.candidates in
    let repositories = c.args.repositories.now in
    let name : List ℕ = c.args.name.now in
    let vs : List VersionPlaces = c.in_ok-versions.versions.items in
    let all : All (ListsPlacesOfVersion cs name) vs = c.in_ok-versions.ensures.places in
    let printed = printed_versions cs repositories name vs all ∙ ap (flat_map (version_policy cs repositories name)) c.in_ok-versions.ensures.versions in
    on_ok c.put_name-2.result _ _ (λ put. put c.args.report.now.items c.in_ok-reserve.ensures.items
    ∙ ap (λ (lines : List ℕ). c.args.report.now.items ++ (policy_heading name ++ lines)) (ap (flat_map (version_lines repositories)) c.deref-2.ensures.value ∙ printed)) c.put_name-2.ensures
