-- The hint on the field at a place, by what its table has at the number of the field.
use Rattle.std.proofs.Common.{◌≡◌, ◌∙◌, ◌-◌, ◌%◌, ◌<◌, ◌≤◌, ℕ, List, get_or, length, refl, ap, sym, if◌then◌else◌}
use Rattle.std.specs.List.{slice_get}
use Rattle.std.proofs.lemmas.Bool.{eq-eqb, ne_eqb}
use Rattle.std.proofs.lemmas.Option.{slice_get_past, slice_get_read}
use Rattle.adb_view.specs.Schema.{table}
use Rattle.adb_view.specs.declared.tables.Field.{Field}
use Rattle.adb_view.specs.declared.tables.Which.{Which}
use Rattle.hint_core.specs.Hints.{field_hint_if_found, field_hint_in_table}
use Rattle.hint_core.specs.declared.hint.Hint.{Hint}
use Rattle.hint_core.specs.declared.hint.Hint.TheVariants as Hinted

-- the number 0 is that of no field
pub no_field : (place number : ℕ) (which : Which) → number ≡ place % 100 → number ≡ 0 → Hinted.Nothing ≡ field_hint_in_table place which
no_field place number which is none =
    let found : Hint = field_hint_if_found place which (slice_get (table which) (place % 100 - 1)) in
    ap (λ b. if b then Hinted.Nothing else found) (sym (eq-eqb (place % 100) 0 (sym is ∙ none)))

-- any other number is looked for in the table
at_number : (place number : ℕ) (which : Which) → number ≡ place % 100 → (number ≡ 0 → ⊥) → field_hint_if_found place which (slice_get (table which) (number - 1)) ≡ field_hint_in_table place which
at_number place number which is some =
    let found : ℕ → Hint = λ n. field_hint_if_found place which (slice_get (table which) (n - 1)) in
    ap found is ∙ ap (λ b. if b then Hinted.Nothing else found (place % 100)) (sym (ne_eqb (place % 100) 0 (λ none. some (is ∙ none))))

-- the table has a field with this number
pub field_found : (place number : ℕ) (which : Which) (fields : List Field) (field : Field) → number ≡ place % 100 → (number ≡ 0 → ⊥) → fields ≡ table which → number - 1 < length fields → ((d : Field) → field ≡ get_or fields (number - 1) d) → Hinted.Field place which field.name ≡ field_hint_in_table place which
field_found place number which fields field is some all within here =
    sym (ap (field_hint_if_found place which) (sym (ap (λ (l : List Field). slice_get l (number - 1)) all) ∙ slice_get_read fields (length fields) (number - 1) field refl within (here field)))
    ∙ at_number place number which is some

-- the table has fewer fields
pub field_absent : (place number : ℕ) (which : Which) (fields : List Field) → number ≡ place % 100 → (number ≡ 0 → ⊥) → fields ≡ table which → length fields ≤ number - 1 → Hinted.Nothing ≡ field_hint_in_table place which
field_absent place number which fields is some all past =
    sym (ap (field_hint_if_found place which) (sym (ap (λ (l : List Field). slice_get l (number - 1)) all) ∙ slice_get_past fields (number - 1) past))
    ∙ at_number place number which is some
