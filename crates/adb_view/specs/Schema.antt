-- The ten tables, as the program's constants have them, and the shapes of their fields. The rules are in
-- `docs/formats.md`, "Schemas" (the tables) and "Values" (the shapes).
use Rattle.std.specs.Prelude.{ℕ, zero, suc, List, [], ◌∷◌, codes}
use Rattle.adb_view.specs.Plain.{Shape, number, text, hash, array, object, Fields, no_fields, field}
use Rattle.adb_view.specs.declared.tables.Which.{Which}
use Rattle.adb_view.specs.declared.tables.Which.TheVariants.{Dep, Acl, PkgInfo, File, Dir, Scripts, Package, Index, Idb, Intent}
use Rattle.adb_view.specs.declared.tables.Kind.{Kind}
use Rattle.adb_view.specs.declared.tables.Kind.TheVariants.{Int, Text, Hash, Obj, TextArr, ObjArr}
use Rattle.adb_view.specs.declared.tables.FieldName.{FieldName}
use Rattle.adb_view.specs.declared.tables.Field.{Field}
use Rattle.adb_view.specs.declared.tables.TheConstants.{DEP, ACL, PKGINFO, FILE, DIR, SCRIPTS, PACKAGE, INDEX, IDB, INTENT}

-- the fields of an object of a table, in the order of their numbers, which count from 1
abbrev pub table : Which → List Field
table Dep = DEP.fields
table Acl = ACL.fields
table PkgInfo = PKGINFO.fields
table File = FILE.fields
table Dir = DIR.fields
table Scripts = SCRIPTS.fields
table Package = PACKAGE.fields
table Index = INDEX.fields
table Idb = IDB.fields
table Intent = INTENT.fields

-- the number of a table, from 1 to 10. A cause names a field by 100 times the number of its table,
-- plus the number of the field in the table
abbrev pub table_number : Which → ℕ
table_number Dep = DEP.number
table_number Acl = ACL.number
table_number PkgInfo = PKGINFO.number
table_number File = FILE.number
table_number Dir = DIR.number
table_number Scripts = SCRIPTS.number
table_number Package = PACKAGE.number
table_number Index = INDEX.number
table_number Idb = IDB.number
table_number Intent = INTENT.number

-- the name of a field as the formats write it
abbrev pub field_name_text : FieldName → List ℕ
field_name_text FieldName.Name = codes "name"
field_name_text FieldName.Version = codes "version"
field_name_text FieldName.Match = codes "match"
field_name_text FieldName.Mode = codes "mode"
field_name_text FieldName.User = codes "user"
field_name_text FieldName.Group = codes "group"
field_name_text FieldName.Xattrs = codes "xattrs"
field_name_text FieldName.Hashes = codes "hashes"
field_name_text FieldName.Description = codes "description"
field_name_text FieldName.Arch = codes "arch"
field_name_text FieldName.License = codes "license"
field_name_text FieldName.Origin = codes "origin"
field_name_text FieldName.Maintainer = codes "maintainer"
field_name_text FieldName.Url = codes "url"
field_name_text FieldName.RepoCommit = codes "repo-commit"
field_name_text FieldName.BuildTime = codes "build-time"
field_name_text FieldName.InstalledSize = codes "installed-size"
field_name_text FieldName.FileSize = codes "file-size"
field_name_text FieldName.ProviderPriority = codes "provider-priority"
field_name_text FieldName.Depends = codes "depends"
field_name_text FieldName.Provides = codes "provides"
field_name_text FieldName.Replaces = codes "replaces"
field_name_text FieldName.InstallIf = codes "install-if"
field_name_text FieldName.Recommends = codes "recommends"
field_name_text FieldName.Layer = codes "layer"
field_name_text FieldName.Tags = codes "tags"
field_name_text FieldName.Unused = codes "unused"
field_name_text FieldName.Acl = codes "acl"
field_name_text FieldName.Size = codes "size"
field_name_text FieldName.Mtime = codes "mtime"
field_name_text FieldName.Target = codes "target"
field_name_text FieldName.Files = codes "files"
field_name_text FieldName.Trigger = codes "trigger"
field_name_text FieldName.PreInstall = codes "pre-install"
field_name_text FieldName.PostInstall = codes "post-install"
field_name_text FieldName.PreDeinstall = codes "pre-deinstall"
field_name_text FieldName.PostDeinstall = codes "post-deinstall"
field_name_text FieldName.PreUpgrade = codes "pre-upgrade"
field_name_text FieldName.PostUpgrade = codes "post-upgrade"
field_name_text FieldName.Info = codes "info"
field_name_text FieldName.Paths = codes "paths"
field_name_text FieldName.Scripts = codes "scripts"
field_name_text FieldName.Triggers = codes "triggers"
field_name_text FieldName.ReplacesPriority = codes "replaces-priority"
field_name_text FieldName.Packages = codes "packages"
field_name_text FieldName.PkgnameSpec = codes "pkgname-spec"
field_name_text FieldName.Removals = codes "removals"
field_name_text FieldName.Writes = codes "writes"

-- the fields of a table as the fields of a shape: each has its name, and the shape that `f` gives for its kind
abbrev pub fields_with_shapes_by : (Kind → Shape) → List Field → Fields
fields_with_shapes_by f [] = no_fields
fields_with_shapes_by f (r ∷ rs) = field (field_name_text r.name) (f r.kind) (fields_with_shapes_by f rs)

-- the shape of a kind, in which objects have fields down to this depth, and deeper objects have none. The fields of a
-- table have only tables of lower numbers, so with some depth no fields are left out
abbrev pub shape_to_depth : ℕ → Kind → Shape
shape_to_depth depth Int = number
shape_to_depth depth Text = text
shape_to_depth depth Hash = hash
shape_to_depth depth TextArr = array text
shape_to_depth zero (Obj w) = object (table_number w) no_fields
shape_to_depth (suc depth) (Obj w) = object (table_number w)
    (fields_with_shapes_by (shape_to_depth depth) (table w))
shape_to_depth zero (ObjArr w) = array (object (table_number w) no_fields)
shape_to_depth (suc depth) (ObjArr w) = array
    (object (table_number w) (fields_with_shapes_by (shape_to_depth depth) (table w)))

-- the shape of a kind. Five levels are enough for each table: database, package, folder, file, acl
unfoldable pub shape_of : Kind → Shape
shape_of k = shape_to_depth 5 k

-- the fields of a table as a shape has them
abbrev pub shapes_of : List Field → Fields
shapes_of fields = fields_with_shapes_by shape_of fields
