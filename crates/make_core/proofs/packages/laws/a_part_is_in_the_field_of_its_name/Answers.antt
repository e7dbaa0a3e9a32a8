use Rattle.std.proofs.Common.{◌≡◌, Some, refl}
use Rattle.std.proofs.lemmas.List.Elements.{All-from_recursion}
use Rattle.adb_view.specs.Schema.{table}
use Rattle.adb_view.specs.declared.tables.Which.TheVariants.{Scripts}
use Rattle.adb_view.specs.Plain.{blob_or_null}
use Rattle.command_core.specs.Values.{script_types}
use Rattle.package_files.specs.make_info.Named.{value_by_name}
use Rattle.package_files.specs.Package.{script_fields, script_bytes_of_field}
use Rattle.make_core.proofs.packages.laws.a_part_is_in_the_field_of_its_name.Goals as goal

pub returns-clause-types : goal.returns-clause-types
returns-clause-types c = refl

pub returns-clause-scripts : goal.returns-clause-scripts
returns-clause-scripts c = λ scripts.
    All-from_recursion (λ type. value_by_name type (table Scripts) (script_fields scripts) ≡ Some (blob_or_null (script_bytes_of_field scripts type))) script_types
    (refl, (refl, (refl, (refl, (refl, (refl, (refl, tt)))))))

pub returns-clause-priority : goal.returns-clause-priority
returns-clause-priority c = λ info paths scripts triggers priority. refl
