use Rattle.std.proofs.Common.{◌≡◌, ◌++◌, [], map, sym, subst}
use Rattle.std.specs.Prelude.{OnOk}
use Rattle.std.specs.List.{flat_map}
use Rattle.std.specs.Option.{option_map_or}
use Rattle.path_clashes.specs.adb_fields.Repeated.{list_of}
use Rattle.adb_view.specs.Plain.{Plain}
use Rattle.adb_view.specs.Values.{entries_in}
use Rattle.audit_core.specs.Records.{folder_records, package_records}
use Rattle.audit_core.specs.Seen.{record_seen}
use Rattle.audit_core.proofs.records.add_package.Goals as goal

pub returns : goal.returns
returns c =
    subst (λ o. OnOk c.add_folders.result (map record_seen c.add_folders.new.records.items ≡ map record_seen c.args.records.now.items ++ option_map_or package_records o []))
    (sym c.package-package.ensures)
    (subst (λ (v : Plain). OnOk c.add_folders.result (map record_seen c.add_folders.new.records.items ≡ map record_seen c.args.records.now.items ++ flat_map folder_records (list_of (entries_in v))))
    c.paths.ensures c.add_folders.ensures)
