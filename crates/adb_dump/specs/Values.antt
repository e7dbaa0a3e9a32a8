-- The plain values that a dump text can represent. The rule is in `docs/formats.md`, "Values": normal
-- values and their shapes. Serves the laws of `src/laws.rt`.
use Rattle.std.specs.Prelude.{◌<◌}
use Rattle.std.specs.List.{AllByRecursion}
use Rattle.adb_view.specs.Plain.{Plain, null, int, blob, arr, obj, Plains, none, more, IsNormal}
use Rattle.adb_view.specs.Shaped.{HasShape}
use Rattle.adb_view.specs.Schema.{shape_of}
use Rattle.adb_view.specs.declared.tables.Which.{Which}
use Rattle.adb_view.specs.declared.tables.Kind.TheVariants.{Obj}

unfoldable mutual
  -- each blob in the value consists of bytes (numbers below 256)
  pub IsOfBytes : Plain → Type 0
  IsOfBytes null = Unit {0}
  IsOfBytes (int n) = Unit {0}
  IsOfBytes (blob b) = AllByRecursion (λ c. c < 256) b
  IsOfBytes (arr vs) = AreOfBytes vs
  IsOfBytes (obj vs) = AreOfBytes vs

  -- each blob in the entries of an array or an object consists of bytes
  pub AreOfBytes : Plains → Type 0
  AreOfBytes none = Unit {0}
  AreOfBytes (more v vs) = IsOfBytes v × AreOfBytes vs

-- the value is normal and has the shape of the table
abbrev pub IsNormalValueOfTable : Which → Plain → Type 0
IsNormalValueOfTable which v = IsNormal v × HasShape (shape_of (Obj which)) v
