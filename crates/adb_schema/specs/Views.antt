-- The plain value of each view. Serves the contracts of the views, whose methods are the fields of
-- `docs/formats.md`, "Schemas".
use Rattle.adb_view.specs.Plain.{Plain}
use Rattle.adb_view.specs.Adb.{payload_of}
use Rattle.adb_view.specs.Values.{value_at}
use Rattle.adb_view.specs.declared.tables.Which.TheVariants as Which
use Rattle.adb_view.specs.declared.tables.Kind.TheVariants.{Obj}
use Rattle.adb_schema.specs.declared.package_info.DepView.{DepView}
use Rattle.adb_schema.specs.declared.package.AclView.{AclView}
use Rattle.adb_schema.specs.declared.package_info.PkgInfo.{PkgInfo}
use Rattle.adb_schema.specs.declared.package.FileInfo.{FileInfo}
use Rattle.adb_schema.specs.declared.package.DirInfo.{DirInfo}
use Rattle.adb_schema.specs.declared.package.ScriptsView.{ScriptsView}
use Rattle.adb_schema.specs.declared.package.PackageView.{PackageView}
use Rattle.adb_schema.specs.declared.checked.IndexView.{IndexView}
use Rattle.adb_schema.specs.declared.checked.IdbView.{IdbView}
use Rattle.adb_schema.specs.declared.checked.IntentView.{IntentView}

-- the plain value of a dependency's view: that of its word
abbrev pub dependency_value : DepView → Plain
dependency_value view = value_at (payload_of view.adb) (Obj Which.Dep) view.word

-- the plain value of an access list's view: that of its word
abbrev pub acl_value : AclView → Plain
acl_value view = value_at (payload_of view.adb) (Obj Which.Acl) view.word

-- the plain value of the view of a package's information: that of its word
abbrev pub info_value : PkgInfo → Plain
info_value view = value_at (payload_of view.adb) (Obj Which.PkgInfo) view.word

-- the plain value of a file's view: that of its word
abbrev pub file_value : FileInfo → Plain
file_value view = value_at (payload_of view.adb) (Obj Which.File) view.word

-- the plain value of a folder's view: that of its word
abbrev pub dir_value : DirInfo → Plain
dir_value view = value_at (payload_of view.adb) (Obj Which.Dir) view.word

-- the plain value of the view of a package's scripts: that of its word
abbrev pub scripts_value : ScriptsView → Plain
scripts_value view = value_at (payload_of view.adb) (Obj Which.Scripts) view.word

-- the plain value of a package's view: that of its word
abbrev pub package_value : PackageView → Plain
package_value view = value_at (payload_of view.adb) (Obj Which.Package) view.word

-- the plain value of an index's view: that of its word
abbrev pub index_value : IndexView → Plain
index_value view = value_at (payload_of view.adb) (Obj Which.Index) view.word

-- the plain value of an installed database's view: that of its word
abbrev pub idb_value : IdbView → Plain
idb_value view = value_at (payload_of view.adb) (Obj Which.Idb) view.word

-- the plain value of a journal entry's view: that of its word
abbrev pub intent_value : IntentView → Plain
intent_value view = value_at (payload_of view.adb) (Obj Which.Intent) view.word
