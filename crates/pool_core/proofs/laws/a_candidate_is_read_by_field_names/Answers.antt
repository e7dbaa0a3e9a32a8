use Rattle.std.proofs.Common.{◌≡◌, ℕ, List, refl, true}
use Rattle.std.specs.Prelude.{codes}
use Rattle.adb_view.specs.Plain.{Plain}
use Rattle.adb_view.specs.FormatTables.{format_table}
use Rattle.adb_view.specs.Values.{entries_in, entry_at_index}
use Rattle.adb_view.specs.declared.tables.Which.TheVariants.{PkgInfo}
use Rattle.pool_core.specs.FieldNames.{value_of_info_field_named}
use Rattle.pool_core.proofs.FieldsByName.{by_place, is_place_of}
use Rattle.pool_core.proofs.laws.a_candidate_is_read_by_field_names.Goals as goal

at : (name : List ℕ) (i : ℕ) (info : Plain) → is_place_of name i (format_table PkgInfo).1 ≡ true → value_of_info_field_named name info ≡ entry_at_index info i
at name i info h = by_place name i (format_table PkgInfo).1 (entries_in info) h

pub returns : goal.returns
returns c = λ info repository tag installed.
    rw (at (codes "name") 0 info refl, at (codes "version") 1 info refl, at (codes "hashes") 2 info refl, at (codes "depends") 14 info refl, at (codes "provides") 15 info refl, at (codes "install-if") 17 info refl, at (codes "provider-priority") 13 info refl) refl
