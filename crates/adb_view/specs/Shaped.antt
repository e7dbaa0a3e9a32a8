-- The values that a field of a shape may have; each shape allows Null. Serves the law
-- `values_have_their_shape`; shapes are defined in `docs/formats.md`, "Values".
use Rattle.adb_view.specs.Plain.{Plain, null, int, blob, arr, obj, Plains, none, more, Shape, number, text, hash, array, object, Fields, no_fields, field}

-- P holds for each of the values
abbrev pub Each : (Plain → Type 0) → Plains → Type 0
Each P none = Unit {0}
Each P (more v vs) = P v × Each P vs

-- the value is an integer, or Null
abbrev pub IsNumberOrNull : Plain → Type 0
IsNumberOrNull null = Unit {0}
IsNumberOrNull (int n) = Unit {0}
IsNumberOrNull (blob b) = ⊥
IsNumberOrNull (arr vs) = ⊥
IsNumberOrNull (obj vs) = ⊥

-- the value is a blob, or Null
abbrev pub IsBlobOrNull : Plain → Type 0
IsBlobOrNull null = Unit {0}
IsBlobOrNull (int n) = ⊥
IsBlobOrNull (blob b) = Unit {0}
IsBlobOrNull (arr vs) = ⊥
IsBlobOrNull (obj vs) = ⊥

-- the value is an array and P holds for each entry, or it is Null
abbrev pub IsArrayOrNullOf : (Plain → Type 0) → Plain → Type 0
IsArrayOrNullOf P null = Unit {0}
IsArrayOrNullOf P (int n) = ⊥
IsArrayOrNullOf P (blob b) = ⊥
IsArrayOrNullOf P (arr vs) = Each P vs
IsArrayOrNullOf P (obj vs) = ⊥

-- the value is an object and P holds for its values, or it is Null
abbrev pub IsObjectOrNullOf : (Plains → Type 0) → Plain → Type 0
IsObjectOrNullOf P null = Unit {0}
IsObjectOrNullOf P (int n) = ⊥
IsObjectOrNullOf P (blob b) = ⊥
IsObjectOrNullOf P (arr vs) = ⊥
IsObjectOrNullOf P (obj vs) = P vs

-- the value is one that a field of this shape may have. An object has no more values than its shape has fields
unfoldable mutual
  pub HasShape : Shape → Plain → Type 0
  HasShape number v = IsNumberOrNull v
  HasShape text v = IsBlobOrNull v
  HasShape hash v = IsBlobOrNull v
  HasShape (array s) v = IsArrayOrNullOf (HasShape s) v
  HasShape (object schema fs) v = IsObjectOrNullOf (HaveShapes fs) v

  -- the values of an object have the shapes of its fields, in order
  pub HaveShapes : Fields → Plains → Type 0
  HaveShapes no_fields none = Unit {0}
  HaveShapes no_fields (more v vs) = ⊥
  HaveShapes (field name s fs) none = Unit {0}
  HaveShapes (field name s fs) (more v vs) = HasShape s v × HaveShapes fs vs
