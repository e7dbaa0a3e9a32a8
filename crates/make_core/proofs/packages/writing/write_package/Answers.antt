use Rattle.command_core.specs.declared.values.TheConstants.{TRIGGER}
use Rattle.std.proofs.Common.{ap, map, refl, ◌∙◌}
use Rattle.adb_view.specs.Plain.{trimmed_object_or_null}
use Rattle.package_files.specs.adb_values.Drafts.{draft_with}
use Rattle.package_files.proofs.adb_values.Lists.{closed}
use Rattle.package_files.specs.make_info.Information.{information_value_with_installed_size, replaces_priority}
use Rattle.package_files.specs.make_info.Values.{number_or_null}
use Rattle.package_files.specs.Package.{package_fields}
use Rattle.package_files.specs.Packed.{packed_folder}
use Rattle.make_core.specs.Scripts.{scripts_view}
use Rattle.package_files.specs.Sources.{texts_of, values_of_letter}
use Rattle.make_core.proofs.packages.writing.write_package.Goals as goal

pub returns : goal.returns
returns c =
    let priority = c.in_ok-write_number.ensures ∙ ap (λ n. draft_with (number_or_null n) c.write_triggers.new.draft) c.replaces_priority.ensures in
    closed trimmed_object_or_null
    (package_fields (information_value_with_installed_size c.args.about.now c.args.size) (map packed_folder c.args.folders.now) (scripts_view c.args.scripts.now) (texts_of (values_of_letter TRIGGER c.args.values.now)) (replaces_priority c.args.about.now))
    c.args.draft.now _ _ c.close_object.result c.close_object.ensures.ok
    (rw (priority, c.in_ok-write_triggers.ensures, c.in_ok-write_scripts.ensures, c.in_ok-write_paths.ensures, c.in_ok-write.ensures, c.in_ok-open_list.ensures.ok) refl)
