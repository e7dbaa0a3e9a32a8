use Rattle.std.proofs.Common.{◌∙◌, ap}
use Rattle.package_changes.specs.SelectedNames.{place_paired_with_name}
use Rattle.package_changes.proofs.NameTable.{looked_up}
use Rattle.package_changes.proofs.selected.SelectedNames.place_of.Goals as goal

pub returns-in-Some : goal.returns-in-Some
returns-in-Some c =
    c.in-Some.ensures.value ∙ (looked_up c.args.name.now c.self.inside.by_name.entries ∙ ap (place_paired_with_name c.args.name.now) c.self.view_is)

pub returns-in-None : goal.returns-in-None
returns-in-None c =
    c.in-None.ensures.value ∙ (looked_up c.args.name.now c.self.inside.by_name.entries ∙ ap (place_paired_with_name c.args.name.now) c.self.view_is)
