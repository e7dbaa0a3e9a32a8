-- The values of the lines of a field, one line after the other.
use Rattle.std.proofs.Common.{◌≡◌, ℕ, ◌+◌, ◌<◌, ◌≤◌, true, false, cond, List, [], ◌∷◌, ◌++◌, length, map, get_or, drop, Some, refl, sym, ◌∙◌, ap}
use Rattle.std.specs.Prelude.{Vec}
use Rattle.std.specs.declared.alloc.Global.{Global}
use Rattle.std.specs.List.{flat_map}
use Rattle.std.proofs.lemmas.Option.{slice_get-get_or}
use Rattle.adb_view.specs.Plain.{Plain}
use Rattle.make_info.specs.adb_values.Drafts.{DraftState, draft_with_open_list}
use Rattle.make_info.proofs.adb_values.Lists.{drop_at, list_given}
use Rattle.dep_core.specs.declared.dep.Dep.{Dep}
use Rattle.make_info.specs.Fields.{TextNumberOrDependency}
use Rattle.make_info.specs.Information.{plain_value}
use Rattle.make_info.specs.Values.{plains_of_list}
use Rattle.v2_core.specs.declared.field.InfoField.{InfoField}
use Rattle.v2_core.specs.Views.{line_value_view}
use Rattle.v2_core.specs.declared.value.Value.{Value}
use Rattle.v2_core.specs.declared.value.Value.TheVariants as Values
use Rattle.v2_core.specs.Database.{value_of_first_or_null, values_if_line_of_field}
use Rattle.v2_core.specs.Records.{InfoLine, is_line_of_field}
use Rattle.make_info.proofs.Mapped.{with_list}
use Rattle.v2_core.proofs.Lists.{with_list-append}

map-both : {A B : Type 0} (f : A → B) (xs ys : List A) → map f (xs ++ ys) ≡ map f xs ++ map f ys
map-both f [] ys = refl
map-both f (x ∷ xs) ys = ap (λ zs. f x ∷ zs) (map-both f xs ys)

-- what these lines say of a field
abbrev pub plains_of_lines : InfoField → List InfoLine → List Plain
plains_of_lines f info = map plain_value (flat_map (values_if_line_of_field f) info)

line_at : (f : InfoField) (info : List InfoLine) (i : ℕ) (l d : InfoLine) (values : List TextNumberOrDependency) → i < length info → l ≡ get_or info i d → values_if_line_of_field f l ≡ values
    → plains_of_lines f (drop i info) ≡ map plain_value values ++ plains_of_lines f (drop (i + 1) info)
line_at f info i l d values within is says =
    ap (plains_of_lines f) (drop_at info i l (slice_get-get_or info i d within ∙ ap (λ y. Some y) (sym is)))
    ∙ ap (λ vs. map plain_value (vs ++ flat_map (values_if_line_of_field f) (drop (i + 1) info))) says
    ∙ map-both plain_value values (flat_map (values_if_line_of_field f) (drop (i + 1) info))

-- the values of a line are given
given_line : (f : InfoField) (info : List InfoLine) (i : ℕ) (l d : InfoLine) (values : List TextNumberOrDependency) (old new whole : DraftState) → i < length info → l ≡ get_or info i d → values_if_line_of_field f l ≡ values
    → with_list (plains_of_lines f (drop i info)) old ≡ whole → new ≡ with_list (map plain_value values) old → with_list (plains_of_lines f (drop (i + 1) info)) new ≡ whole
given_line f info i l d values old new whole within is says left one =
    ap (λ (s : DraftState). with_list (plains_of_lines f (drop (i + 1) info)) s) one
    ∙ sym (ap (λ (us : List Plain). with_list us old) (line_at f info i l d values within is says) ∙ with_list-append (map plain_value values) (plains_of_lines f (drop (i + 1) info)) old)
    ∙ left

pub line_of_field : (f : InfoField) (info : List InfoLine) (i : ℕ) (l d : InfoLine) (old new whole : DraftState) → i < length info → l ≡ get_or info i d → is_line_of_field f l ≡ true
    → with_list (plains_of_lines f (drop i info)) old ≡ whole → new ≡ with_list (map plain_value l.values) old → with_list (plains_of_lines f (drop (i + 1) info)) new ≡ whole
line_of_field f info i l d old new whole within is same left one =
    given_line f info i l d l.values old new whole within is (ap (λ b. cond b l.values []) same) left one

pub line_of_another : (f : InfoField) (info : List InfoLine) (i : ℕ) (l d : InfoLine) (old new whole : DraftState) → i < length info → l ≡ get_or info i d → is_line_of_field f l ≡ false
    → with_list (plains_of_lines f (drop i info)) old ≡ whole → new ≡ old → with_list (plains_of_lines f (drop (i + 1) info)) new ≡ whole
line_of_another f info i l d old new whole within is other left same =
    given_line f info i l d [] old new whole within is (ap (λ b. cond b l.values []) other) left same

pub lines_given : (f : InfoField) (info : List InfoLine) (i : ℕ) (d opened before : DraftState) → length info ≤ i → with_list (plains_of_lines f (drop i info)) d ≡ with_list (plains_of_lines f info) opened → opened ≡ draft_with_open_list before
    → d ≡ with_list (plains_of_lines f info) (draft_with_open_list before)
lines_given f info i d opened before h left is = list_given (λ ls. plains_of_list (plains_of_lines f ls)) info refl i d opened before h left is

-- a text, some bytes or a number is one value
pub one_value : (v : Value) → ((ds : Vec Dep Global) → v ≡ Values.Needs ds → ⊥) → (v ≡ Values.Nothing → ⊥) → map plain_value (line_value_view v) ≡ value_of_first_or_null (line_value_view v) ∷ []
one_value (Values.Text t) list none = refl
one_value (Values.Bytes b) list none = refl
one_value (Values.Number n) list none = refl
one_value (Values.Needs ds) list none = absurd (list ds refl)
one_value Values.Nothing list none = absurd (none refl)
