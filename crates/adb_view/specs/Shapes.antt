-- The shape of each kind, by the shapes of the kinds of its fields or entries: *shape_of* leaves out no fields. Serves
-- the law `tables_are_unrolled_whole` and the proofs; the tables are in `docs/formats.md`, "Schemas".
use Rattle.std.proofs.Common.{◌≡◌, refl}
use Rattle.adb_view.specs.Plain.{number, text, hash, array, object}
use Rattle.adb_view.specs.Schema.{table, table_number, shape_of, shapes_of}
use Rattle.adb_view.specs.declared.tables.Which.{Which}
use Rattle.adb_view.specs.declared.tables.Which.TheVariants.{Dep, Acl, PkgInfo, File, Dir, Scripts, Package, Index, Idb, Intent}
use Rattle.adb_view.specs.declared.tables.Kind.TheVariants.{Int, Text, Hash, Obj, TextArr, ObjArr}

-- the shape of an object has the shapes of its table's fields, in their order
pub object_shape : (w : Which) → shape_of (Obj w) ≡ object (table_number w) (shapes_of (table w))
unfolding shape_of
object_shape Dep = refl
object_shape Acl = refl
object_shape PkgInfo = refl
object_shape File = refl
object_shape Dir = refl
object_shape Scripts = refl
object_shape Package = refl
object_shape Index = refl
object_shape Idb = refl
object_shape Intent = refl

-- the shape of a list of objects of one table
pub objects_shape : (w : Which) → shape_of (ObjArr w) ≡ array (shape_of (Obj w))
unfolding shape_of
objects_shape w = refl

-- the shape of a list of texts
pub texts_shape : shape_of TextArr ≡ array (shape_of Text)
unfolding shape_of
texts_shape = refl

-- the shape of an integer
pub int_shape : shape_of Int ≡ number
unfolding shape_of
int_shape = refl

-- the shape of a text
pub text_shape : shape_of Text ≡ text
unfolding shape_of
text_shape = refl

-- the shape of a hash: a blob like a text, but printed in hexadecimal digits
pub hash_shape : shape_of Hash ≡ hash
unfolding shape_of
hash_shape = refl
