use Rattle.std.proofs.Common.{◌∙◌, ap}
use Rattle.std.specs.Prelude.{Some, None, bytes_eq, if◌then◌else◌}
use Rattle.package_changes.specs.SelectedNames.{names_and_places, place_paired_with_name}
use Rattle.std.specs.Option.{option_or}
use Rattle.package_changes.proofs.NameTable.{looked_up, one_more_name, there_already}
use Rattle.package_changes.proofs.selected.SelectedNames.add_name.Goals as goal

pub returns-in-Some : goal.returns-in-Some
returns-in-Some c = λ other.
    there_already c.args.name.now other c.args.place _ c.args.self.now
    (c.in-Some.ensures.value ∙ (looked_up c.args.name.now c.self.inside.by_name.entries ∙ ap (place_paired_with_name c.args.name.now) c.self.view_is))

pub returns-in_ok-insert-in-None : goal.returns-in_ok-insert-in-None
returns-in_ok-insert-in-None c = λ other.
    ap (λ z. place_paired_with_name other (names_and_places z)) c.in_ok-insert-in-None.ensures.entries
    ∙ (one_more_name c.args.name other c.args.place c.self.inside.by_name.entries c.in-None.ensures.value
    ∙ ap (λ z. option_or (place_paired_with_name other z) (if bytes_eq c.args.name.now other then Some c.args.place else None)) c.self.view_is)
