-- Values that are normal, have their shape and keep the rules of their places, part by part.
use Rattle.std.proofs.Common.{◌≡◌, ℕ, ◌+◌, ◌*◌, ◌^◌, ◌<◌, Bool, true, false, if◌then◌else◌, List, [], ◌∷◌, ◌++◌, Option, Some, None, refl, ap, ◌∙◌}
use Rattle.base_core.specs.declared.cause.Cause.{Cause}
use Rattle.base_core.specs.declared.cause.Cause.TheVariants.{BadText}
use Rattle.adb_view.specs.Plain.{Plain, null, int, blob, arr, obj, Plains, none, more, Shape, number, text, hash, array, object, Fields, no_fields, field, blob_or_null, array_or_null, trimmed_object_or_null, prepend_plain_unless_last_null, without_last_nulls, IsNormal, AreNormal}
use Rattle.adb_view.specs.Shaped.{Each, HasShape, HaveShapes}
use Rattle.pkg_core.specs.adb_schema.Texts.{Surroundings, Leaf, number_leaf, text_leaf, keeps_rule, field_number_of_leaf, leaves, field_leaves, leaves_of_all_values, surroundings_of_fields, first_bad_leaf, is_allowed_number_of_field, is_allowed_text_of_field}
use Rattle.adb_view.specs.Values.{text_in}
use Rattle.adb_view.proofs.FoundShapes.{arr_value_shape, blob_value_hash, blob_value_text, obj_value_shape}
use Rattle.adb_view.proofs.Normal.{arr_normal, blob_value_normal, obj_normal}
use Rattle.adb_view.proofs.ValueEntries.{entries_arr, entries_obj, text_blob}

-- ---- their leaves

keep-leaves : (name : List ℕ) (s : Shape) (fs : Fields) (place : ℕ) (around : Surroundings) (v : Plain) (us : Plains)
    → field_leaves (field name s fs) place around (prepend_plain_unless_last_null v us) ≡ field_leaves (field name s fs) place around (more v us)
unfolding field_leaves
keep-leaves name s fs place around null none = refl
keep-leaves name s fs place around null (more u us) = refl
keep-leaves name s fs place around (int n) us = refl
keep-leaves name s fs place around (blob b) us = refl
keep-leaves name s fs place around (arr vs) us = refl
keep-leaves name s fs place around (obj vs) us = refl

trimmed-leaves : (fs : Fields) (place : ℕ) (around : Surroundings) (vs : Plains) → field_leaves fs place around (without_last_nulls vs) ≡ field_leaves fs place around vs
unfolding field_leaves
trimmed-leaves no_fields place around vs = refl
trimmed-leaves (field name s fs) place around none = refl
trimmed-leaves (field name s fs) place around (more v vs) =
    keep-leaves name s fs place around v (without_last_nulls vs) ∙ ap (λ l. leaves s place around v ++ l) (trimmed-leaves fs (place + 1) around vs)

pub trimmed_object_or_null-leaves : (schema : ℕ) (fs : Fields) (place : ℕ) (around : Surroundings) (vs : Plains)
    → leaves (object schema fs) place around (trimmed_object_or_null vs) ≡ field_leaves fs (100 * schema + 1) (surroundings_of_fields schema around (trimmed_object_or_null vs)) vs
unfolding leaves
trimmed_object_or_null-leaves schema fs place around vs =
    let inside : Surroundings = surroundings_of_fields schema around (trimmed_object_or_null vs) in
    ap (field_leaves fs (100 * schema + 1) inside) (entries_obj (without_last_nulls vs)) ∙ trimmed-leaves fs (100 * schema + 1) inside vs

-- ---- good walks, part by part

-- one leaf in front
in_front : (t : Bool) (c : Cause) (a b : Option Cause) → (a ≡ None → b ≡ None) → (if t then a else Some c) ≡ None → (if t then b else Some c) ≡ None
in_front true c a b h e = h e
in_front false c a b h e = (cc)

behind_front : (t : Bool) (c : Cause) (a b : Option Cause) → (a ≡ None → b ≡ None) → (if t then a else Some c) ≡ None → b ≡ None
behind_front true c a b h e = h e
behind_front false c a b h e = (cc)

pub good_append : (xs ys : List Leaf) → first_bad_leaf xs ≡ None → first_bad_leaf ys ≡ None → first_bad_leaf (xs ++ ys) ≡ None
good_append [] ys a b = b
good_append (x ∷ xs) ys a b = in_front (keeps_rule x) (BadText (field_number_of_leaf x)) (first_bad_leaf xs) (first_bad_leaf (xs ++ ys)) (λ e. good_append xs ys e b) a

pub good_front : (xs ys : List Leaf) → first_bad_leaf (xs ++ ys) ≡ None → first_bad_leaf xs ≡ None
good_front [] ys a = refl
good_front (x ∷ xs) ys a = in_front (keeps_rule x) (BadText (field_number_of_leaf x)) (first_bad_leaf (xs ++ ys)) (first_bad_leaf xs) (good_front xs ys) a

pub good_back : (xs ys : List Leaf) → first_bad_leaf (xs ++ ys) ≡ None → first_bad_leaf ys ≡ None
good_back [] ys a = a
good_back (x ∷ xs) ys a = behind_front (keeps_rule x) (BadText (field_number_of_leaf x)) (first_bad_leaf (xs ++ ys)) (first_bad_leaf ys) (good_back xs ys) a

pub good_leaf : (x : Leaf) → keeps_rule x ≡ true → first_bad_leaf (x ∷ []) ≡ None
good_leaf x e = rw e refl

-- ---- good values

-- normal, of its shape, and each text and number keeps the rule of its place
pub record IsGood (s : Shape) (place : ℕ) (around : Surroundings) (v : Plain) : Type 0 where
  pub normal : IsNormal v
  pub shaped : HasShape s v
  pub kept : first_bad_leaf (leaves s place around v) ≡ None

-- the values of an object's fields; those that are missing are Null
abbrev pub AreGood : Fields → ℕ → Surroundings → Plains → Type 0
AreGood no_fields place around none = Unit {0}
AreGood no_fields place around (more v vs) = ⊥
AreGood (field name s fs) place around none = IsGood s place around null × AreGood fs (place + 1) around none
AreGood (field name s fs) place around (more v vs) = IsGood s place around v × AreGood fs (place + 1) around vs

all_normal : (fs : Fields) (place : ℕ) (around : Surroundings) (vs : Plains) → AreGood fs place around vs → AreNormal vs
unfolding AreNormal
all_normal no_fields place around none g = tt
all_normal no_fields place around (more v vs) g = absurd g
all_normal (field name s fs) place around none g = tt
all_normal (field name s fs) place around (more v vs) g = (g.0.normal, all_normal fs (place + 1) around vs g.1)

all_shaped : (fs : Fields) (place : ℕ) (around : Surroundings) (vs : Plains) → AreGood fs place around vs → HaveShapes fs vs
unfolding HaveShapes
all_shaped no_fields place around none g = tt
all_shaped no_fields place around (more v vs) g = absurd g
all_shaped (field name s fs) place around none g = tt
all_shaped (field name s fs) place around (more v vs) g = (g.0.shaped, all_shaped fs (place + 1) around vs g.1)

all_kept : (fs : Fields) (place : ℕ) (around : Surroundings) (vs : Plains) → AreGood fs place around vs → first_bad_leaf (field_leaves fs place around vs) ≡ None
unfolding field_leaves
all_kept no_fields place around none g = refl
all_kept no_fields place around (more v vs) g = absurd g
all_kept (field name s fs) place around none g = good_append (leaves s place around null) (field_leaves fs (place + 1) around none) g.0.kept (all_kept fs (place + 1) around none g.1)
all_kept (field name s fs) place around (more v vs) g = good_append (leaves s place around v) (field_leaves fs (place + 1) around vs) g.0.kept (all_kept fs (place + 1) around vs g.1)

pub obj_good : (schema : ℕ) (fs : Fields) (place : ℕ) (around inside : Surroundings) (vs : Plains) → surroundings_of_fields schema around (trimmed_object_or_null vs) ≡ inside
    → AreGood fs (100 * schema + 1) inside vs → IsGood (object schema fs) place around (trimmed_object_or_null vs)
obj_good schema fs place around inside vs e g = record {
  normal = obj_normal vs (all_normal fs (100 * schema + 1) inside vs g);
  shaped = obj_value_shape schema fs vs (all_shaped fs (100 * schema + 1) inside vs g);
  kept = ap first_bad_leaf (trimmed_object_or_null-leaves schema fs place around vs) ∙ (ap (λ (a : Surroundings). first_bad_leaf (field_leaves fs (100 * schema + 1) a vs)) e ∙ all_kept fs (100 * schema + 1) inside vs g);
}

each_normal : (s : Shape) (place : ℕ) (around : Surroundings) (vs : Plains) → Each (IsGood s place around) vs → AreNormal vs
unfolding AreNormal
each_normal s place around none g = tt
each_normal s place around (more v vs) g = (g.0.normal, each_normal s place around vs g.1)

each_shaped : (s : Shape) (place : ℕ) (around : Surroundings) (vs : Plains) → Each (IsGood s place around) vs → Each (HasShape s) vs
each_shaped s place around none g = tt
each_shaped s place around (more v vs) g = (g.0.shaped, each_shaped s place around vs g.1)

each_kept : (s : Shape) (place : ℕ) (around : Surroundings) (vs : Plains) → Each (IsGood s place around) vs → first_bad_leaf (leaves_of_all_values (leaves s place around) vs) ≡ None
each_kept s place around none g = refl
each_kept s place around (more v vs) g = good_append (leaves s place around v) (leaves_of_all_values (leaves s place around) vs) g.0.kept (each_kept s place around vs g.1)

pub arr_good : (s : Shape) (place : ℕ) (around : Surroundings) (vs : Plains) → Each (IsGood s place around) vs → IsGood (array s) place around (array_or_null vs)
unfolding leaves
arr_good s place around vs g = record {
  normal = arr_normal vs (each_normal s place around vs g);
  shaped = arr_value_shape s vs (each_shaped s place around vs g);
  kept = ap (λ (us : Plains). first_bad_leaf (leaves_of_all_values (leaves s place around) us)) (entries_arr vs) ∙ each_kept s place around vs g;
}

pub text_good : (place : ℕ) (around : Surroundings) (b : List ℕ) → is_allowed_text_of_field place around b ≡ true → IsGood text place around (blob_or_null b)
unfolding leaves
text_good place around b e = record {
  normal = blob_value_normal b;
  shaped = blob_value_text b;
  kept = good_leaf (text_leaf place around (text_in (blob_or_null b))) (ap (is_allowed_text_of_field place around) (text_blob b) ∙ e);
}

pub hash_good : (place : ℕ) (around : Surroundings) (b : List ℕ) → is_allowed_text_of_field place around b ≡ true → IsGood hash place around (blob_or_null b)
unfolding leaves
hash_good place around b e = record {
  normal = blob_value_normal b;
  shaped = blob_value_hash b;
  kept = good_leaf (text_leaf place around (text_in (blob_or_null b))) (ap (is_allowed_text_of_field place around) (text_blob b) ∙ e);
}

pub number_good : (place : ℕ) (around : Surroundings) (n : ℕ) → n < 2 ^ 64 → is_allowed_number_of_field place n ≡ true → IsGood number place around (int n)
unfolding leaves IsNormal HasShape
number_good place around n small e = record { normal = small; shaped = tt; kept = good_leaf (number_leaf place n) e }

pub null_number : (place : ℕ) (around : Surroundings) → is_allowed_number_of_field place 0 ≡ true → IsGood number place around null
unfolding leaves IsNormal HasShape
null_number place around e = record { normal = tt; shaped = tt; kept = good_leaf (number_leaf place 0) e }

pub null_array : (s : Shape) (place : ℕ) (around : Surroundings) → IsGood (array s) place around null
null_array s place around = arr_good s place around none tt
