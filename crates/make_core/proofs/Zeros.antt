-- Values without zeros keep the rules of their places.
use Rattle.std.proofs.Common.{◌≡◌, ℕ, ◌+◌, ◌*◌, ◌&&◌, ◌==◌, nat_lt, if◌then◌else◌, List, [], ◌∷◌, ◌++◌, length, refl, ap, ◌∙◌}
use Rattle.adb_view.specs.Plain.{Plain, null, int, blob, arr, obj, Plains, none, more, Shape, number, text, hash, array, object, Fields, no_fields, field, trimmed_object_or_null}
use Rattle.adb_view.specs.Shaped.{Each, HasShape, HaveShapes}
use Rattle.adb_view.specs.Schema.{table_number}
use Rattle.pkg_core.specs.adb_schema.Texts.{Surroundings, number_leaf, text_leaf, leaves, field_leaves, leaves_of_all_values, surroundings_of_fields}
use Rattle.adb_view.specs.Values.{nth, entry_at_index, int_in, text_in}
use Rattle.adb_view.specs.declared.tables.Which.TheVariants.{File, Dir}
use Rattle.adb_copy.specs.Zeros.{without_zeros, all_without_zeros}
use Rattle.adb_view.proofs.ValueEntries.{entries_arr, nth_obj}
use Rattle.adb_copy.proofs.WithoutZeros.{int_zeros, text_zeros}
use Rattle.adb_copy.proofs.Zeros.{nth_zeros}
use Rattle.make_core.proofs.GoodValues.{trimmed_object_or_null-leaves}

-- what stands around an object's fields, by three of them
abbrev pub inside_by : ℕ → Surroundings → List ℕ → List ℕ → ℕ → Surroundings
inside_by schema around name target size = record {
  root = around.root;
  folder = if schema == table_number Dir then name else around.folder;
  has_contents = if schema == table_number File then (length target == 0) && nat_lt 0 size else around.has_contents;
}

pub inside_same : (schema : ℕ) (around : Surroundings) (v : Plain) (name target : List ℕ) (size : ℕ) → text_in (entry_at_index v 0) ≡ name → text_in (entry_at_index v 5) ≡ target → int_in (entry_at_index v 2) ≡ size
    → surroundings_of_fields schema around v ≡ inside_by schema around name target size
inside_same schema around v name target size a b c = λ k. inside_by schema around (a k) (b k) (c k)

zeros_inside : (schema : ℕ) (around : Surroundings) (vs : Plains) → surroundings_of_fields schema around (trimmed_object_or_null (all_without_zeros vs)) ≡ surroundings_of_fields schema around (obj vs)
zeros_inside schema around vs =
    let us : Plains = all_without_zeros vs in
    inside_same schema around (trimmed_object_or_null us) (text_in (nth vs 0)) (text_in (nth vs 5)) (int_in (nth vs 2))
    (ap text_in (nth_obj us 0 ∙ nth_zeros vs 0) ∙ text_zeros (nth vs 0))
    (ap text_in (nth_obj us 5 ∙ nth_zeros vs 5) ∙ text_zeros (nth vs 5))
    (ap int_in (nth_obj us 2 ∙ nth_zeros vs 2) ∙ int_zeros (nth vs 2))

mutual
  unfolding without_zeros all_without_zeros HasShape HaveShapes leaves field_leaves

  pub zeros_leaves : (s : Shape) (place : ℕ) (around : Surroundings) (v : Plain) → HasShape s v → leaves s place around (without_zeros v) ≡ leaves s place around v
  zeros_leaves number place around v h = ap (λ n. number_leaf place n ∷ []) (int_zeros v)
  zeros_leaves text place around v h = ap (λ (x : List ℕ). text_leaf place around x ∷ []) (text_zeros v)
  zeros_leaves hash place around v h = ap (λ (x : List ℕ). text_leaf place around x ∷ []) (text_zeros v)
  zeros_leaves (array s) place around null h = refl
  zeros_leaves (array s) place around (int n) h = absurd h
  zeros_leaves (array s) place around (blob b) h = absurd h
  zeros_leaves (array s) place around (arr vs) h = ap (leaves_of_all_values (leaves s place around)) (entries_arr (all_without_zeros vs)) ∙ each_zeros_leaves s place around vs h
  zeros_leaves (array s) place around (obj vs) h = absurd h
  zeros_leaves (object schema fs) place around null h = refl
  zeros_leaves (object schema fs) place around (int n) h = absurd h
  zeros_leaves (object schema fs) place around (blob b) h = absurd h
  zeros_leaves (object schema fs) place around (arr vs) h = absurd h
  zeros_leaves (object schema fs) place around (obj vs) h =
      trimmed_object_or_null-leaves schema fs place around (all_without_zeros vs)
      ∙ (ap (λ (a : Surroundings). field_leaves fs (100 * schema + 1) a (all_without_zeros vs)) (zeros_inside schema around vs) ∙ all_zeros_leaves fs (100 * schema + 1) (surroundings_of_fields schema around (obj vs)) vs h)

  pub each_zeros_leaves : (s : Shape) (place : ℕ) (around : Surroundings) (vs : Plains) → Each (HasShape s) vs → leaves_of_all_values (leaves s place around) (all_without_zeros vs) ≡ leaves_of_all_values (leaves s place around) vs
  each_zeros_leaves s place around none h = refl
  each_zeros_leaves s place around (more v vs) h =
      ap (λ l. l ++ leaves_of_all_values (leaves s place around) (all_without_zeros vs)) (zeros_leaves s place around v h.0) ∙ ap (λ l. leaves s place around v ++ l) (each_zeros_leaves s place around vs h.1)

  pub all_zeros_leaves : (fs : Fields) (place : ℕ) (around : Surroundings) (vs : Plains) → HaveShapes fs vs → field_leaves fs place around (all_without_zeros vs) ≡ field_leaves fs place around vs
  all_zeros_leaves no_fields place around none h = refl
  all_zeros_leaves no_fields place around (more v vs) h = absurd h
  all_zeros_leaves (field name s fs) place around none h = refl
  all_zeros_leaves (field name s fs) place around (more v vs) h =
      ap (λ l. l ++ field_leaves fs (place + 1) around (all_without_zeros vs)) (zeros_leaves s place around v h.0) ∙ ap (λ l. leaves s place around v ++ l) (all_zeros_leaves fs (place + 1) around vs h.1)
