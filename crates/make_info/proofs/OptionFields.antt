-- The field that an option names is the table's field of that name.
use Rattle.std.proofs.Common.{◌≡◌, ℕ, List, refl}
use Rattle.adb_view.specs.Schema.{table}
use Rattle.adb_view.specs.declared.tables.Which.TheVariants.{PkgInfo}
use Rattle.make_info.specs.declared.field.Field.{Field}
use Rattle.make_info.specs.declared.field.Field.TheVariants as Fields
use Rattle.make_info.specs.Fields.{field_word}
use Rattle.make_info.specs.Information.{FieldWithValue, information_fields_with_installed_size}
use Rattle.make_info.specs.Named.{value_by_name, value_of_field_in_information_object}

pub option_field : (f : Field) (info : List FieldWithValue) (size : ℕ)
    → value_by_name (field_word f) (table PkgInfo) (information_fields_with_installed_size info size) ≡ value_of_field_in_information_object f info
option_field Fields.Name info size = refl
option_field Fields.Version info size = refl
option_field Fields.Description info size = refl
option_field Fields.Arch info size = refl
option_field Fields.License info size = refl
option_field Fields.Origin info size = refl
option_field Fields.Maintainer info size = refl
option_field Fields.Url info size = refl
option_field Fields.RepoCommit info size = refl
option_field Fields.BuildTime info size = refl
option_field Fields.ProviderPriority info size = refl
option_field Fields.ReplacesPriority info size = refl
option_field Fields.Depends info size = refl
option_field Fields.Provides info size = refl
option_field Fields.Replaces info size = refl
option_field Fields.InstallIf info size = refl
option_field Fields.Recommends info size = refl
option_field Fields.Tags info size = refl
