-- How the values of `-I` are read one after the other.
-- The rules are in `docs/commands.md`, "`mkpkg`". Serves the contracts of `information`, whose public
-- ones cite *information*.
use Rattle.std.specs.Prelude.{ℕ, Bool, not, ◌&&◌, ◌||◌, if◌then◌else◌, List, [], ◌∷◌, Option, Some, None, is_some}
use Rattle.std.specs.List.{find}
use Rattle.make_info.specs.declared.field.Field.TheVariants as Fields
use Rattle.make_info.specs.Fields.{is_nonempty, kind_of_field, may_repeat, values_by_kind}
use Rattle.make_info.specs.FieldTexts.{FieldText, field_text_in, is_same_field}
use Rattle.make_info.specs.Information.{FieldWithValue, is_item_for, items_followed_by_values_of_field}

-- the list of this part between spaces alone; no part if it is empty
abbrev pub nonempty_part : List ℕ → List (List ℕ)
nonempty_part part = if is_nonempty part then part ∷ [] else []

-- whether one of the items `before` is for the field of this text FIELD:VALUE
abbrev pub has_item_for : FieldText → List FieldWithValue → Bool
has_item_for given before = is_some (find (is_item_for given.field) before)

-- The items `before`, and those of one more text FIELD:VALUE; None if the text offends (is refused). A
-- version also offends if `too_long` is true: the default name of the output is too long.
abbrev pub items_with_text :
    Bool → List FieldWithValue → Option FieldText → Option (List FieldWithValue)
items_with_text too_long before None = None
items_with_text too_long before (Some given) =
    if too_long && is_same_field given.field Fields.Version then None else
    if not (may_repeat (kind_of_field given.field)) && has_item_for given before then None else
    items_followed_by_values_of_field before given.field
    (values_by_kind (kind_of_field given.field) given.value)

-- the items `before`, and those of one more value of `-I` with this text; None if the value offends (is
-- refused)
unfoldable pub items_with_option_text : Bool → List FieldWithValue → List ℕ → Option (List FieldWithValue)
items_with_option_text too_long before text = items_with_text too_long before (field_text_in text)

-- whether there is no item for the name or for the version
abbrev pub has_no_name_or_version : List FieldWithValue → Bool
has_no_name_or_version items =
    not (is_some (find (is_item_for Fields.Name) items))
    || not (is_some (find (is_item_for Fields.Version) items))
