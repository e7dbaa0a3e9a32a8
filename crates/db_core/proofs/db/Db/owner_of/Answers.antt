use Rattle.std.proofs.Common.{◌≡◌, ◌∙◌, ap, sym}
use Rattle.std.specs.List.{position_from}
use Rattle.std.specs.Prelude.{option_map}
use Rattle.pkg_core.specs.adb_fields.ListValue.{list_value}
use Rattle.pkg_core.specs.adb_fields.Repeated.{list_of}
use Rattle.pkg_core.specs.adb_schema.Views.{idb_value}
use Rattle.adb_view.specs.Values.{entries_in}
use Rattle.db_core.specs.Packages.{packages_of_database_value, lists_path}
use Rattle.db_core.specs.Seen.{packages_of}
use Rattle.db_core.proofs.Places.{within_seen}
use Rattle.db_core.proofs.db.Db.owner_of.Goals as goal

pub returns-in-Some-clause-found : goal.returns-in-Some-clause-found
returns-in-Some-clause-found c =
    let e : packages_of c.args.self.now ≡ list_of (entries_in (list_value c.packages.result)) =
    ap (λ o. packages_of_database_value (option_map idb_value o)) c.in-Some.is ∙ ap (λ v. list_of (entries_in v)) (sym c.packages.ensures) in
    c.find_lister.ensures.found ∙ (λ j. position_from (lists_path (c.as_bytes.ensures.value j)) 0 (sym e j))

pub returns-in-Some-clause-within : goal.returns-in-Some-clause-within
returns-in-Some-clause-within c =
    let e : packages_of c.args.self.now ≡ list_of (entries_in (list_value c.packages.result)) =
    ap (λ o. packages_of_database_value (option_map idb_value o)) c.in-Some.is ∙ ap (λ v. list_of (entries_in v)) (sym c.packages.ensures) in
    within_seen (entries_in (list_value c.packages.result)) _ c.find_lister.result e c.find_lister.ensures.within
