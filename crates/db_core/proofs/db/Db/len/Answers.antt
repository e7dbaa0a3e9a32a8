use Rattle.std.proofs.Common.{◌∙◌, ap, length, sym}
use Rattle.std.specs.Prelude.{option_map}
use Rattle.pkg_core.proofs.adb_fields.NameLists.{count-listed}
use Rattle.pkg_core.specs.adb_schema.Views.{idb_value}
use Rattle.adb_view.specs.Values.{entries_in, count_of}
use Rattle.db_core.specs.Packages.{packages_of_database_value}
use Rattle.db_core.proofs.db.Db.len.Goals as goal

pub returns-in-Some-clause-value : goal.returns-in-Some-clause-value
returns-in-Some-clause-value c =
    c.len.ensures.value ∙ (ap (λ v. count_of (entries_in v)) c.packages.ensures ∙ (count-listed _ ∙ sym (ap (λ o. length (packages_of_database_value (option_map idb_value o))) c.in-Some.is)))
