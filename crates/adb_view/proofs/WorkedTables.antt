-- The program's tables are those that the format lists.
use Rattle.std.proofs.Common.{◌≡◌, refl}
use Rattle.adb_view.specs.FormatTables.{format_table, program_table}
use Rattle.adb_view.specs.declared.tables.Which.{Which}
use Rattle.adb_view.specs.declared.tables.Which.TheVariants.{Dep, Acl, PkgInfo, File, Dir, Scripts, Package, Index, Idb, Intent}

pub tables_listed : (which : Which) → program_table which ≡ format_table which
tables_listed Dep = refl
tables_listed Acl = refl
tables_listed PkgInfo = refl
tables_listed File = refl
tables_listed Dir = refl
tables_listed Scripts = refl
tables_listed Package = refl
tables_listed Index = refl
tables_listed Idb = refl
tables_listed Intent = refl
