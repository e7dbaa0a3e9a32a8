use Rattle.std.proofs.Common.{codes, ap, sym, ◌∙◌}
use Rattle.std.specs.Prelude.{sum_by}
use Rattle.std.specs.List.{flat_map}
use Rattle.make_core.specs.adb_fields.Repeated.{files_in}
use Rattle.adb_view.specs.Values.{int_in}
use Rattle.adb_view.specs.declared.tables.Which.TheVariants.{PkgInfo}
use Rattle.make_core.specs.package_files.Package.{installed_size}
use Rattle.definition_laws.proofs.making.MadeFrom.{folders_are, info_is, made_from}
use Rattle.definition_laws.proofs.making.SizesTold.{size_is, sizes_told}
use Rattle.definition_laws.specs.making.MadePackages.{package_in_container, listed_file_size}
use Rattle.definition_laws.specs.making.NamedFields.{field_named}
use Rattle.definition_laws.proofs.making.packages.a_made_package_has_the_size_of_its_files.Goals as goal

pub returns : goal.returns
returns c = λ command names read bytes made.
    let m = made_from c.a_made_package_is_read_back.ensures command names read bytes made in
    ap (λ v. int_in (field_named PkgInfo (codes "installed-size") v)) (info_is command names read (package_in_container bytes) m)
    ∙ (size_is m.items (installed_size m.sources)
    ∙ (sizes_told m.sources ∙ ap (λ folders. sum_by listed_file_size (flat_map files_in folders)) (sym (folders_are command names read (package_in_container bytes) m))))
