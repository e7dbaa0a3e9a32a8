-- Fields that no value breaks a rule in, and tables of such fields.
use Rattle.std.proofs.Common.{◌≡◌, ℕ, ◌+◌, ◌*◌, false, eqb, List, [], ◌∷◌, None, refl, ap, ◌∙◌}
use Rattle.std.specs.Prelude.{⊤}
use Rattle.adb_view.specs.Plain.{Plains, none, more}
use Rattle.adb_view.specs.Schema.{table_number, table, shape_of, shapes_of}
use Rattle.adb_view.specs.Values.{entries_in, nth, text_in}
use Rattle.adb_view.specs.declared.tables.Kind.TheVariants.{Int, Text, Hash, Obj, TextArr}
use Rattle.adb_view.specs.declared.tables.Which.{Which}
use Rattle.adb_view.specs.declared.tables.Which.TheVariants.{Acl, Scripts}
use Rattle.adb_view.specs.declared.tables.Field.{Field}
use Rattle.adb_schema.specs.TextWalk.{AllowsEachText, AllowsEachValueOfKind}
use Rattle.adb_schema.specs.Texts.{Surroundings, is_allowed_text_of_field, text_leaf, leaves_of_all_values, field_leaves, first_bad_leaf, surroundings_of_fields, leaves}
use Rattle.adb_schema.proofs.TextSteps.{behind, behind_good, int_leaves, text_leaves, hash_leaves, texts_leaves, object_leaves, one_field}

pub int_free : (n : ℕ) → eqb n 103 ≡ false → AllowsEachValueOfKind Int n
int_free n h around v = ap first_bad_leaf (int_leaves n around v) ∙ rw h refl

leaf_free : (n : ℕ) → AllowsEachText n → (around : Surroundings) (bytes : List ℕ) → first_bad_leaf (text_leaf n around bytes ∷ []) ≡ None
leaf_free n h around bytes = rw (h around bytes) refl

pub text_free : (n : ℕ) → AllowsEachText n → AllowsEachValueOfKind Text n
text_free n h around v = ap first_bad_leaf (text_leaves n around v) ∙ leaf_free n h around (text_in v)

pub hash_free : (n : ℕ) → AllowsEachText n → AllowsEachValueOfKind Hash n
hash_free n h around v = ap first_bad_leaf (hash_leaves n around v) ∙ leaf_free n h around (text_in v)

each_free : (n : ℕ) → AllowsEachText n → (around : Surroundings) (vs : Plains) → first_bad_leaf (leaves_of_all_values (leaves (shape_of Text) n around) vs) ≡ None
each_free n h around none = refl
each_free n h around (more v vs) =
    behind_good (leaves (shape_of Text) n around v) (leaves_of_all_values (leaves (shape_of Text) n around) vs) (text_free n h around v) ∙ each_free n h around vs

pub texts_free : (n : ℕ) → AllowsEachText n → AllowsEachValueOfKind TextArr n
texts_free n h around v = ap first_bad_leaf (texts_leaves n around v) ∙ each_free n h around (entries_in v)

-- each of the fields, of which the first has this number
abbrev AreFree : List Field → ℕ → Type 0
AreFree [] n = ⊤
AreFree (f ∷ fs) n = AllowsEachValueOfKind f.kind n × AreFree fs (n + 1)

fields_free : (fs : List Field) (n : ℕ) → AreFree fs n → (around : Surroundings) (vs : Plains) → first_bad_leaf (field_leaves (shapes_of fs) n around vs) ≡ None
unfolding field_leaves
fields_free [] n free around vs = refl
fields_free (f ∷ fs) n free around vs =
    ap first_bad_leaf (one_field f fs n around vs)
    ∙ behind_good (leaves (shape_of f.kind) n around (nth vs 0)) (field_leaves (shapes_of fs) (n + 1) around (behind 1 vs)) (free.0 around (nth vs 0))
    ∙ fields_free fs (n + 1) free.1 around (behind 1 vs)

object_free : (which : Which) → AreFree (table which) (100 * table_number which + 1) → (n : ℕ) → AllowsEachValueOfKind (Obj which) n
object_free which free n around v =
    ap first_bad_leaf (object_leaves which n around v) ∙ fields_free (table which) (100 * table_number which + 1) free (surroundings_of_fields (table_number which) around v) (entries_in v)

pub acl_free : (n : ℕ) → AllowsEachValueOfKind (Obj Acl) n
unfolding is_allowed_text_of_field
acl_free = object_free Acl (int_free 201 refl, (text_free 202 (λ around text. refl), (text_free 203 (λ around text. refl), (texts_free 204 (λ around text. refl), tt))))

pub scripts_free : (n : ℕ) → AllowsEachValueOfKind (Obj Scripts) n
unfolding is_allowed_text_of_field
scripts_free = object_free Scripts (text_free 601 (λ around text. refl), (text_free 602 (λ around text. refl), (text_free 603 (λ around text. refl), (text_free 604 (λ around text. refl), (text_free 605 (λ around text. refl), (text_free 606 (λ around text. refl), (text_free 607 (λ around text. refl), tt)))))))
