use Rattle.std.proofs.Common.{◌∙◌, ap}
use Rattle.std.specs.Prelude.{Some, None, bytes_eq, if◌then◌else◌}
use Rattle.package_changes.specs.SelectedNames.{place_paired_with_name}
use Rattle.std.specs.Option.{option_or}
use Rattle.package_changes.specs.Changes.{is_candidate_named}
use Rattle.package_changes.proofs.NameTable.{not_there, one_there}
use Rattle.package_changes.proofs.selected.SelectedNames.add.Goals as goal

pub returns-in-None : goal.returns-in-None
returns-in-None c = λ name. not_there (place_paired_with_name name c.args.self.now) (is_candidate_named name) _ c.args.id c.in-None.ensures

pub returns-in_ok-add_name-in-Some : goal.returns-in_ok-add_name-in-Some
returns-in_ok-add_name-in-Some c = λ name.
    one_there _ (place_paired_with_name name c.args.self.now) name _ _ _ c.args.id c.in-Some.ensures c.name.ensures
    (c.in_ok-add_name-in-Some.ensures name
    ∙ ap (λ z. option_or (place_paired_with_name name c.args.self.now) (if bytes_eq c.name.result.now name then Some z else None)) c.id.view_is)
