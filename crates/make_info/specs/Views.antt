-- What the program's values denote.
-- Serves the contracts of `information` and `writing`.
use Rattle.dep_core.specs.Meets.{dependency}
use Rattle.make_info.specs.declared.information.FieldText.{FieldText as FieldSlices}
use Rattle.make_info.specs.declared.information.Value.{Value}
use Rattle.make_info.specs.declared.information.Value.TheVariants.{Text, Bytes, Number, Need}
use Rattle.make_info.specs.declared.information.Item.{Item}
use Rattle.make_info.specs.Fields.{TextNumberOrDependency, text, number, need}
use Rattle.make_info.specs.FieldTexts.{FieldText}
use Rattle.make_info.specs.Information.{FieldWithValue}

-- the field and the text of the value of a FIELD:VALUE, as contracts see them
abbrev pub field_text_view : FieldSlices → FieldText
field_text_view slice = record { field = slice.field; value = slice.value.now }

-- one value of a field, as contracts see it; the bytes of hexadecimal digits are already decoded
abbrev pub value_view : Value → TextNumberOrDependency
value_view (Text bytes) = text bytes.now
value_view (Bytes bytes) = text bytes.items
value_view (Number n) = number n
value_view (Need dep) = need (dependency dep)

-- an item (a field with a value), as contracts see it
abbrev pub item_view : Item → FieldWithValue
item_view e = record { field = e.field; value = value_view e.value }
