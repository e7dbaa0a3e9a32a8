-- How deep values of a kind nest: a number that is less for the kinds below it. Serves the proof that
-- the walk ends.
use Rattle.std.specs.Prelude.{ℕ, ◌+◌, ◌*◌, max, List, [], ◌∷◌}
use Rattle.adb_view.specs.Schema.{table_number}
use Rattle.adb_view.specs.declared.tables.Kind.{Kind}
use Rattle.adb_view.specs.declared.tables.Kind.TheVariants.{Int, Text, Hash, Obj, TextArr, ObjArr}
use Rattle.adb_view.specs.declared.tables.Field.{Field}

-- a measure of how deep values of a kind nest, of which only the order matters. It is less for the kinds of the fields
-- and entries of such a value, since the fields of a table have only tables of lower numbers
abbrev pub rank : Kind → ℕ
rank Int = 0
rank Text = 0
rank Hash = 0
rank TextArr = 2
rank (Obj w) = 4 * table_number w
rank (ObjArr w) = 4 * table_number w + 2

-- the greatest rank of the kinds of some fields; 0 if there are none
abbrev pub rank_of_all : List Field → ℕ
rank_of_all [] = 0
rank_of_all (f ∷ fs) = max (rank f.kind) (rank_of_all fs)
