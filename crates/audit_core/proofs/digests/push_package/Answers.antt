use Rattle.std.proofs.Common.{◌≡◌, ◌++◌, [], sym, subst}
use Rattle.std.specs.Prelude.{OnOk}
use Rattle.std.specs.List.{flat_map}
use Rattle.std.specs.Option.{option_map_or}
use Rattle.path_clashes.specs.adb_fields.Repeated.{list_of}
use Rattle.adb_view.specs.Plain.{Plain}
use Rattle.adb_view.specs.Values.{entries_in}
use Rattle.audit_core.specs.Manifest.{manifest_line, package_manifest}
use Rattle.audit_core.specs.Records.{folder_records}
use Rattle.audit_core.proofs.digests.push_package.Goals as goal

pub returns : goal.returns
returns c =
    subst (λ o. OnOk c.push_folders.result (c.push_folders.new.report.items ≡ c.args.report.now.items ++ option_map_or package_manifest o []))
    (sym c.package-package.ensures)
    (subst (λ (v : Plain). OnOk c.push_folders.result (c.push_folders.new.report.items ≡ c.args.report.now.items ++ flat_map manifest_line (flat_map folder_records (list_of (entries_in v)))))
    c.paths.ensures c.push_folders.ensures)
