-- The options of a command for a field, and the field's value in a package.
-- The rule is in `docs/commands.md`, "`mkpkg`": a field of a list may be given several times, and each
-- value is added; any other is given once. It serves the law
-- `a_made_package_has_the_values_of_its_options`.
use Rattle.command_core.specs.declared.values.TheConstants.{INFO}
use Rattle.std.specs.Prelude.{◌≡◌, ◌⊎◌, ◌==◌, List, [], ◌∷◌, ◌++◌, map, Bool, true, false}
use Rattle.std.specs.List.{filter}
use Rattle.make_core.specs.adb_fields.Repeated.{list_of}
use Rattle.adb_view.specs.Values.{entries_in}
use Rattle.adb_view.specs.declared.tables.Which.TheVariants.{Package, PkgInfo}
use Rattle.adb_view.specs.Plain.{Plain, null}
use Rattle.command_core.specs.declared.values.OptionValue.{OptionValue}
use Rattle.make_core.specs.make_info.declared.field.Field.{Field}
use Rattle.make_core.specs.make_info.declared.field.Field.TheVariants as Fields
use Rattle.make_core.specs.make_info.Fields.{TextNumberOrDependency, field_word}
use Rattle.make_core.specs.make_info.Information.{plain_value}
use Rattle.definition_laws.specs.making.NamedFields.{field_named}
use Rattle.definition_laws.specs.making.OptionGrammar.{IsGivenFor, FieldTextGivesValues, is_list_field, option_text}
use Rattle.std.specs.Prelude.{ℕ, codes}

-- a value of `-I` (`option`) gives the field `f` the values `said`: those of its text, if it is for this
-- field; otherwise none
abbrev pub OptionGivesFieldValues : Field → OptionValue → List TextNumberOrDependency → Type 0
OptionGivesFieldValues f option said =
    ((value : List ℕ) × (option.text ≡ option_text f value) × FieldTextGivesValues f value said)
    ⊎ ((IsGivenFor f option → ⊥) × (said ≡ []))

-- the values of `-I` (`options`) give the field `f` the values `said`, one after the other
abbrev pub OptionsGiveFieldValues : Field → List OptionValue → List TextNumberOrDependency → Type 0
OptionsGiveFieldValues f [] said = said ≡ []
OptionsGiveFieldValues f (option ∷ options) said =
    (here : List TextNumberOrDependency) × (further : List TextNumberOrDependency)
    × OptionGivesFieldValues f option here × OptionsGiveFieldValues f options further
    × (said ≡ here ++ further)

-- the entries of the plain value are the values of the list, in this order
abbrev pub HasAllValues : List TextNumberOrDependency → Plain → Type 0
HasAllValues said v = list_of (entries_in v) ≡ map plain_value said

-- the plain value is the first value of the list, or Null if the list is empty
abbrev pub HasFirstValue : List TextNumberOrDependency → Plain → Type 0
HasFirstValue [] v = v ≡ null
HasFirstValue (x ∷ said) v = v ≡ plain_value x

-- the plain value has the values of the list: all of them if the field is a list, otherwise the
-- first
abbrev pub HasValuesAsList : Bool → List TextNumberOrDependency → Plain → Type 0
HasValuesAsList true said v = HasAllValues said v
HasValuesAsList false said v = HasFirstValue said v

-- the plain value of the field has the values of the list: all of them if the field is a list,
-- otherwise the first
abbrev pub HasValuesOfField : Field → List TextNumberOrDependency → Plain → Type 0
HasValuesOfField f said v = HasValuesAsList (is_list_field f) said v

-- the value of a field in a package: in its information, except the priority in replacing, which is a
-- field of the package
abbrev pub field_value_in_package : Field → Plain → Plain
field_value_in_package Fields.ReplacesPriority pkg =
    field_named Package (field_word Fields.ReplacesPriority) pkg
field_value_in_package f pkg =
    field_named PkgInfo (field_word f) (field_named Package (codes "info") pkg)

-- the package has the values that the options `-I` give the field `f`; `values` are the values of all
-- options of a command
pub record HasFieldValuesOfOptions (f : Field) (values : List OptionValue) (pkg : Plain) : Type 0 where
  -- the values that the options give for the field
  pub said : List TextNumberOrDependency
  -- the options `-I` give these values
  pub say : OptionsGiveFieldValues f (filter (λ (v : OptionValue). v.letter == INFO) values) said
  -- the field's value in the package has these values
  pub tells : HasValuesOfField f said (field_value_in_package f pkg)
