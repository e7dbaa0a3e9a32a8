use Rattle.std.proofs.Common.{◌∙◌, ap, sym}
use Rattle.std.specs.Prelude.{◌||◌}
use Rattle.std.specs.List.{list_any}
use Rattle.adb_view.specs.Values.{entry_at_index}
use Rattle.dep_core.specs.Meets.{dependency}
use Rattle.candidate_core.specs.Candidates.{dependencies_in_list_value, is_met_by_provides_entry}
use Rattle.candidate_core.specs.PackageWords.{info_in_source}
use Rattle.candidate_core.proofs.WantedVersions.{if_ok_map}
use Rattle.candidate_core.proofs.versions.meets.Goals as goal

pub returns-then-by_own : goal.returns-then-by_own
returns-then-by_own c = λ text of known.
    let own = c.in_ok-by_own.ensures text of known in
    (sym (ap (λ t. t || list_any (is_met_by_provides_entry (dependency c.args.dep.now)) (dependencies_in_list_value (entry_at_index (info_in_source c.args.source.now c.args.kept.word) 15))) (sym own.0 ∙ c.if-by_own.true)), own.1)

pub returns : goal.returns
returns c =
    if_ok_map _ _ (λ meets h text of known.
    let own = c.in_ok-by_own.ensures text of known in
    let rest = h text of own.1 in
    (rest.0 ∙ sym (ap (λ t. t || list_any (is_met_by_provides_entry (dependency c.args.dep.now)) (dependencies_in_list_value (entry_at_index (info_in_source c.args.source.now c.args.kept.word) 15))) (sym own.0 ∙ c.if-by_own.false)), rest.1))
    c.any_entry_meets.result c.any_entry_meets.ensures
