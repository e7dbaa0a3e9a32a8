use Rattle.std.proofs.Common.{◌≡◌, ◌<◌, ℕ, length, Some, ◌∙◌, ap, sym, subst}
use Rattle.std.specs.Prelude.{option_map, slice_get}
use Rattle.pkg_core.proofs.adb_fields.NameLists.{count-listed}
use Rattle.adb_view.specs.Plain.{Plain, Plains}
use Rattle.pkg_core.specs.adb_schema.Views.{idb_value}
use Rattle.adb_view.specs.Values.{count_of, entries_in, entry_at_index}
use Rattle.db_core.specs.EntrySeen.{payload_of_database}
use Rattle.db_core.specs.Packages.{packages_of_database_value}
use Rattle.db_core.proofs.Places.{nth_listed}
use Rattle.db_core.proofs.db.package_of_database.Goals as goal

pub package_at-requires : goal.package_at-requires
package_at-requires c =
    let vs : Plains = entries_in (entry_at_index (idb_value c.in-Some.idb) 0) in
    subst (λ (n : ℕ). c.args.i < n) (ap (λ o. length (packages_of_database_value (option_map idb_value o))) c.in-Some.is ∙ sym (count-listed vs)) c.requires

pub returns : goal.returns
returns c =
    let vs : Plains = entries_in (entry_at_index (idb_value c.in-Some.idb) 0) in
    let within : c.args.i < count_of vs = subst (λ (n : ℕ). c.args.i < n) (ap (λ o. length (packages_of_database_value (option_map idb_value o))) c.in-Some.is ∙ sym (count-listed vs)) c.requires in
    record {
      value =
          ap (λ o. slice_get (packages_of_database_value (option_map idb_value o)) c.args.i) c.in-Some.is
          ∙ (nth_listed vs c.args.i within ∙ ap (λ (v : Plain). Some v) (sym c.package_at.ensures.value));
      lent = c.package_at.ensures.lent ∙ sym (ap payload_of_database c.in-Some.is);
    }
