use Rattle.std.proofs.Common.{◌≡◌, ℕ, List, codes}
use Rattle.adb_view.proofs.ValueEntries.{nth_obj}
use Rattle.adb_view.specs.declared.tables.Which.TheVariants.{Index}
use Rattle.adb_view.specs.Plain.{Plain, none, more, array_or_null, blob_or_null}
use Rattle.make_core.specs.Index.{value_of_index}
use Rattle.make_core.specs.make_info.Values.{plains_of_list}
use Rattle.definition_laws.specs.making.NamedFields.{field_named}
use Rattle.definition_laws.proofs.making.values.an_index_has_its_description_and_packages.Goals as goal

parts_told : (description : List ℕ) (entries : List Plain)
    → (field_named Index (codes "description") (value_of_index description entries) ≡ blob_or_null description)
    × (field_named Index (codes "packages") (value_of_index description entries) ≡ array_or_null (plains_of_list entries))
unfolding value_of_index
parts_told description entries =
    let fields = more (blob_or_null description) (more (array_or_null (plains_of_list entries)) none) in
    (nth_obj fields 0, nth_obj fields 1)

pub returns : goal.returns
returns c = parts_told
