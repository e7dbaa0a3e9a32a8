-- The tables as `docs/formats.md`, "Schemas", lists them: the number of each table, and the name and kind of each
-- field, from field 1 on. The law `tables_are_as_listed` proves that the program has the same tables.
use Rattle.std.specs.Prelude.{ℕ, List, [], ◌∷◌, codes, map}
use Rattle.adb_view.specs.Schema.{table, table_number, field_name_text}
use Rattle.adb_view.specs.declared.tables.Which.{Which}
use Rattle.adb_view.specs.declared.tables.Which.TheVariants.{Dep, Acl, PkgInfo, File, Dir, Scripts, Package, Index, Idb, Intent}
use Rattle.adb_view.specs.declared.tables.Kind.{Kind}
use Rattle.adb_view.specs.declared.tables.Kind.TheVariants.{Int, Text, Hash, Obj, TextArr, ObjArr}

-- the number of a table, and its fields by name and kind, as the table of the document lists them
abbrev pub format_table : Which → ℕ × List (List ℕ × Kind)
format_table Dep = (1, (codes "name", Text) ∷ (codes "version", Text) ∷ (codes "match", Int) ∷ [])
format_table Acl = (
  2,
  (codes "mode", Int) ∷ (codes "user", Text) ∷ (codes "group", Text) ∷
      (codes "xattrs", TextArr) ∷ [],
)
format_table PkgInfo = (
  3,
  (codes "name", Text) ∷ (codes "version", Text) ∷ (codes "hashes", Hash) ∷
      (codes "description", Text) ∷ (codes "arch", Text) ∷ (codes "license", Text) ∷
      (codes "origin", Text) ∷ (codes "maintainer", Text) ∷ (codes "url", Text) ∷
      (codes "repo-commit", Hash) ∷ (codes "build-time", Int) ∷ (codes "installed-size", Int) ∷
      (codes "file-size", Int) ∷ (codes "provider-priority", Int) ∷ (codes "depends", ObjArr Dep) ∷
      (codes "provides", ObjArr Dep) ∷ (codes "replaces", ObjArr Dep) ∷
      (codes "install-if", ObjArr Dep) ∷ (codes "recommends", ObjArr Dep) ∷ (codes "layer", Int) ∷
      (codes "tags", TextArr) ∷ (codes "unused", Int) ∷ [],
)
format_table File = (
  4,
  (codes "name", Text) ∷ (codes "acl", Obj Acl) ∷ (codes "size", Int) ∷
      (codes "mtime", Int) ∷ (codes "hashes", Hash) ∷ (codes "target", Text) ∷
      (codes "unused", Int) ∷ [],
)
format_table Dir = (
  5,
  (codes "name", Text) ∷ (codes "acl", Obj Acl) ∷
      (codes "files", ObjArr File) ∷ [],
)
format_table Scripts = (
  6,
  (codes "trigger", Text) ∷ (codes "pre-install", Text) ∷ (codes "post-install", Text) ∷
      (codes "pre-deinstall", Text) ∷ (codes "post-deinstall", Text) ∷
      (codes "pre-upgrade", Text) ∷ (codes "post-upgrade", Text) ∷ [],
)
format_table Package = (
  7,
  (codes "info", Obj PkgInfo) ∷ (codes "paths", ObjArr Dir) ∷
      (codes "scripts", Obj Scripts) ∷ (codes "triggers", TextArr) ∷
      (codes "replaces-priority", Int) ∷ [],
)
format_table Index = (
  8,
  (codes "description", Text) ∷ (codes "packages", ObjArr PkgInfo) ∷
      (codes "pkgname-spec", Text) ∷ [],
)
format_table Idb = (9, (codes "packages", ObjArr Package) ∷ [])
format_table Intent = (10, (codes "removals", TextArr) ∷ (codes "writes", TextArr) ∷ [])

-- the number of a table, and its fields by name and kind, as the program's constants have them
abbrev pub program_table : Which → ℕ × List (List ℕ × Kind)
program_table which = (
  table_number which,
  map (λ f. (field_name_text f.name, f.kind))
      (table which),
)
