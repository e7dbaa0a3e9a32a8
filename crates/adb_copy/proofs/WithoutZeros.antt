-- Values without zeros are normal, and keep their shape, their numbers and their texts.
use Rattle.std.proofs.Common.{◌≡◌, ℕ, zero, suc, ◌^◌, ◌<◌, [], ◌∷◌, refl, arith}
use Rattle.adb_view.specs.Plain.{Plain, null, int, blob, arr, obj, Plains, none, more, Shape, number, text, hash, array, object, Fields, no_fields, field, object_or_null, without_last_nulls, IsNormal, AreNormal}
use Rattle.adb_view.specs.Shaped.{Each, HasShape, HaveShapes}
use Rattle.adb_view.specs.Values.{nth, entries_in, int_in, text_in}
use Rattle.adb_copy.specs.Zeros.{int_or_null, with_value_set_at_index, without_zeros, all_without_zeros}
use Rattle.adb_view.proofs.FoundShapes.{arr_value_shape, blob_value_hash, blob_value_text, obj_value_shape, shape_null, shapes_none}
use Rattle.adb_view.proofs.Normal.{arr_normal, blob_value_normal, obj_normal}
use Rattle.adb_copy.proofs.Shapes.{shape_at}

pub int_normal : (n : ℕ) → n < 2 ^ 64 → IsNormal (int_or_null n)
unfolding IsNormal
int_normal zero h = tt
int_normal (suc n) h = h

-- ---- each integer below 2 ^ 64

unfoldable mutual
  pub HasInts : Plain → Type 0
  HasInts null = Unit {0}
  HasInts (int n) = n < 2 ^ 64
  HasInts (blob b) = Unit {0}
  HasInts (arr vs) = HaveInts vs
  HasInts (obj vs) = HaveInts vs

  pub HaveInts : Plains → Type 0
  HaveInts none = Unit {0}
  HaveInts (more v vs) = HasInts v × HaveInts vs

mutual
  unfolding HasInts HaveInts IsNormal AreNormal

  pub normal_ints : (v : Plain) → IsNormal v → HasInts v
  normal_ints null h = tt
  normal_ints (int n) h = h
  normal_ints (blob b) h = tt
  normal_ints (arr vs) h = all_normal_ints vs h.1
  normal_ints (obj vs) h = all_normal_ints vs h.2

  pub all_normal_ints : (vs : Plains) → AreNormal vs → HaveInts vs
  all_normal_ints none h = tt
  all_normal_ints (more v vs) h = (normal_ints v h.0, all_normal_ints vs h.1)

pub placed_ints : (i : ℕ) (v : Plain) (vs : Plains) → HasInts v → HaveInts vs → HaveInts (with_value_set_at_index i v vs)
unfolding HasInts HaveInts
placed_ints zero v none a h = (a, tt)
placed_ints zero v (more u us) a h = (a, h.1)
placed_ints (suc i) v none a h = (tt, placed_ints i v none a h)
placed_ints (suc i) v (more u us) a h = (h.0, placed_ints i v us a h.1)

pub entries_ints : (v : Plain) → HasInts v → HaveInts (entries_in v)
unfolding HasInts HaveInts
entries_ints null h = tt
entries_ints (int n) h = tt
entries_ints (blob b) h = tt
entries_ints (arr vs) h = h
entries_ints (obj vs) h = h

pub nth_ints : (vs : Plains) (i : ℕ) → HaveInts vs → HasInts (nth vs i)
unfolding HasInts HaveInts
nth_ints none i h = tt
nth_ints (more v vs) zero h = h.0
nth_ints (more v vs) (suc i) h = nth_ints vs i h.1

-- an integer that is read
pub read_small : (v : Plain) → HasInts v → int_in v < 2 ^ 64
unfolding HasInts
read_small null h = omega arith
read_small (int n) h = h
read_small (blob b) h = omega arith
read_small (arr vs) h = omega arith
read_small (obj vs) h = omega arith

pub each_ints : (vs : Plains) → HaveInts vs → Each HasInts vs
unfolding HaveInts
each_ints none h = tt
each_ints (more v vs) h = (h.0, each_ints vs h.1)

mutual
  unfolding HasInts HaveInts without_zeros all_without_zeros IsNormal AreNormal

  pub zeros_normal : (v : Plain) → HasInts v → IsNormal (without_zeros v)
  zeros_normal null h = tt
  zeros_normal (int n) h = int_normal n h
  zeros_normal (blob b) h = blob_value_normal b
  zeros_normal (arr vs) h = arr_normal (all_without_zeros vs) (all_zeros_normal vs h)
  zeros_normal (obj vs) h = obj_normal (all_without_zeros vs) (all_zeros_normal vs h)

  pub all_zeros_normal : (vs : Plains) → HaveInts vs → AreNormal (all_without_zeros vs)
  all_zeros_normal none h = tt
  all_zeros_normal (more v vs) h = (zeros_normal v h.0, all_zeros_normal vs h.1)

-- an object with two values in the place of others
pub placed_normal : (i j : ℕ) (u v : Plain) (vs : Plains) → HasInts u → HasInts v → HaveInts vs → IsNormal (without_zeros (obj (with_value_set_at_index i u (with_value_set_at_index j v vs))))
unfolding HasInts HaveInts
placed_normal i j u v vs a b h = zeros_normal (obj (with_value_set_at_index i u (with_value_set_at_index j v vs))) (placed_ints i u (with_value_set_at_index j v vs) a (placed_ints j v vs b h))

-- ---- of the same shape

pub int_shape : (n : ℕ) → HasShape number (int_or_null n)
unfolding HasShape
int_shape zero = tt
int_shape (suc n) = tt

mutual
  unfolding without_zeros all_without_zeros HasShape HaveShapes

  pub zeros_shape : (s : Shape) (v : Plain) → HasShape s v → HasShape s (without_zeros v)
  zeros_shape number null h = tt
  zeros_shape number (int n) h = int_shape n
  zeros_shape number (blob b) h = absurd h
  zeros_shape number (arr vs) h = absurd h
  zeros_shape number (obj vs) h = absurd h
  zeros_shape text null h = tt
  zeros_shape text (int n) h = absurd h
  zeros_shape text (blob b) h = blob_value_text b
  zeros_shape text (arr vs) h = absurd h
  zeros_shape text (obj vs) h = absurd h
  zeros_shape hash null h = tt
  zeros_shape hash (int n) h = absurd h
  zeros_shape hash (blob b) h = blob_value_hash b
  zeros_shape hash (arr vs) h = absurd h
  zeros_shape hash (obj vs) h = absurd h
  zeros_shape (array s) null h = tt
  zeros_shape (array s) (int n) h = absurd h
  zeros_shape (array s) (blob b) h = absurd h
  zeros_shape (array s) (arr vs) h = arr_value_shape s (all_without_zeros vs) (each_zeros_shape s vs h)
  zeros_shape (array s) (obj vs) h = absurd h
  zeros_shape (object schema fs) null h = tt
  zeros_shape (object schema fs) (int n) h = absurd h
  zeros_shape (object schema fs) (blob b) h = absurd h
  zeros_shape (object schema fs) (arr vs) h = absurd h
  zeros_shape (object schema fs) (obj vs) h = obj_value_shape schema fs (all_without_zeros vs) (all_zeros_shape fs vs h)

  pub each_zeros_shape : (s : Shape) (vs : Plains) → Each (HasShape s) vs → Each (HasShape s) (all_without_zeros vs)
  each_zeros_shape s none h = tt
  each_zeros_shape s (more v vs) h = (zeros_shape s v h.0, each_zeros_shape s vs h.1)

  pub all_zeros_shape : (fs : Fields) (vs : Plains) → HaveShapes fs vs → HaveShapes fs (all_without_zeros vs)
  all_zeros_shape no_fields none h = tt
  all_zeros_shape no_fields (more v vs) h = absurd h
  all_zeros_shape (field name s fs) none h = tt
  all_zeros_shape (field name s fs) (more v vs) h = (zeros_shape s v h.0, all_zeros_shape fs vs h.1)

-- there is a field at this place
abbrev pub IsPlace : Fields → ℕ → Type 0
IsPlace no_fields i = ⊥
IsPlace (field name s fs) zero = Unit {0}
IsPlace (field name s fs) (suc i) = IsPlace fs i

placed_shapes : (fs : Fields) (i : ℕ) (v : Plain) (vs : Plains) → IsPlace fs i → HasShape (shape_at fs i) v → HaveShapes fs vs → HaveShapes fs (with_value_set_at_index i v vs)
unfolding HaveShapes
placed_shapes no_fields i v vs p a h = absurd p
placed_shapes (field name s fs) zero v none p a h = (a, shapes_none fs)
placed_shapes (field name s fs) zero v (more u us) p a h = (a, h.1)
placed_shapes (field name s fs) (suc i) v none p a h = (shape_null s, placed_shapes fs i v none p a (shapes_none fs))
placed_shapes (field name s fs) (suc i) v (more u us) p a h = (h.0, placed_shapes fs i v us p a h.1)

-- an object with two values in the place of others
pub placed_shape : (schema : ℕ) (fs : Fields) (i j : ℕ) (u v : Plain) (vs : Plains) → IsPlace fs i → IsPlace fs j → HasShape (shape_at fs i) u → HasShape (shape_at fs j) v → HaveShapes fs vs
    → HasShape (object schema fs) (without_zeros (obj (with_value_set_at_index i u (with_value_set_at_index j v vs))))
unfolding HasShape
placed_shape schema fs i j u v vs p q a b h =
    zeros_shape (object schema fs) (obj (with_value_set_at_index i u (with_value_set_at_index j v vs))) (placed_shapes fs i u (with_value_set_at_index j v vs) p a (placed_shapes fs j v vs q b h))

-- ---- with the same numbers and texts

pub text_zeros : (v : Plain) → text_in (without_zeros v) ≡ text_in v
unfolding without_zeros
text_zeros null = refl
text_zeros (int zero) = refl
text_zeros (int (suc n)) = refl
text_zeros (blob []) = refl
text_zeros (blob (x ∷ xs)) = refl
text_zeros (arr none) = refl
text_zeros (arr (more v vs)) = refl
text_zeros (obj vs) = go (without_last_nulls (all_without_zeros vs))
  where
    go : (us : Plains) → text_in (object_or_null us) ≡ []
    go none = refl
    go (more u us) = refl

pub int_zeros : (v : Plain) → int_in (without_zeros v) ≡ int_in v
unfolding without_zeros
int_zeros null = refl
int_zeros (int zero) = refl
int_zeros (int (suc n)) = refl
int_zeros (blob []) = refl
int_zeros (blob (x ∷ xs)) = refl
int_zeros (arr none) = refl
int_zeros (arr (more v vs)) = refl
int_zeros (obj vs) = go (without_last_nulls (all_without_zeros vs))
  where
    go : (us : Plains) → int_in (object_or_null us) ≡ 0
    go none = refl
    go (more u us) = refl
