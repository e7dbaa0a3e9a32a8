use Rattle.std.proofs.Common.{◌≡◌, ℕ, List, [], ap, sym, subst}
use Rattle.make_core.proofs.SoundPackage.{info_ok}
use Rattle.adb_view.specs.Values.{entry_at_index}
use Rattle.adb_view.specs.declared.tables.Which.TheVariants.{PkgInfo}
use Rattle.adb_view.specs.Plain.{Plain}
use Rattle.command_core.specs.Command.{CommandLine}
use Rattle.make_core.specs.make_info.declared.field.Field.{Field}
use Rattle.make_core.specs.make_info.declared.field.Field.TheVariants as Fields
use Rattle.make_core.specs.make_info.FieldTexts.{is_output_default_and_too_long, values_of_info_options}
use Rattle.make_core.specs.make_info.Fields.{field_word}
use Rattle.make_core.specs.make_info.Information.{FieldWithValue, information}
use Rattle.make_core.specs.make_info.Reads.{Reads}
use Rattle.make_core.specs.package_files.Package.{installed_size}
use Rattle.definition_laws.proofs.making.MadeFrom.{IsMadeFrom, info_is, made_from, priority_is}
use Rattle.definition_laws.proofs.making.ToldFields.{items_of, say_of_field, told_info, told_priority, values_for}
use Rattle.definition_laws.specs.making.MadePackages.{package_in_container}
use Rattle.definition_laws.specs.making.NamedFields.{field_named}
use Rattle.definition_laws.specs.making.SaidOfFields.{OptionsGiveFieldValues, HasValuesOfField, field_value_in_package}
use Rattle.definition_laws.proofs.making.packages.a_made_package_has_the_values_of_its_options.Goals as goal

module _ (command : CommandLine) (names : List (List ℕ)) (read : Reads) (pkg : Plain) (m : IsMadeFrom command names read pkg) where
  abbrev Tells : Field → Plain → Type 0
  Tells f v = HasValuesOfField f (values_for f m.items) v

  in_info : (f : Field) → (f ≡ Fields.ReplacesPriority → ⊥) → Tells f (field_named PkgInfo (field_word f) (entry_at_index pkg 0))
  in_info f other =
      subst (Tells f) (sym (ap (field_named PkgInfo (field_word f)) (info_is command names read pkg m))) (told_info f m.items (installed_size m.sources) other)

  tells : (f : Field) → OptionsGiveFieldValues Fields.ReplacesPriority (values_of_info_options command.values) (values_for Fields.ReplacesPriority m.items) → Tells f (field_value_in_package f pkg)
  tells Fields.Name say = in_info Fields.Name (λ e. cc (e))
  tells Fields.Version say = in_info Fields.Version (λ e. cc (e))
  tells Fields.Description say = in_info Fields.Description (λ e. cc (e))
  tells Fields.Arch say = in_info Fields.Arch (λ e. cc (e))
  tells Fields.License say = in_info Fields.License (λ e. cc (e))
  tells Fields.Origin say = in_info Fields.Origin (λ e. cc (e))
  tells Fields.Maintainer say = in_info Fields.Maintainer (λ e. cc (e))
  tells Fields.Url say = in_info Fields.Url (λ e. cc (e))
  tells Fields.RepoCommit say = in_info Fields.RepoCommit (λ e. cc (e))
  tells Fields.BuildTime say = in_info Fields.BuildTime (λ e. cc (e))
  tells Fields.ProviderPriority say = in_info Fields.ProviderPriority (λ e. cc (e))
  tells Fields.ReplacesPriority say = told_priority (values_of_info_options command.values) m.items say (field_value_in_package Fields.ReplacesPriority pkg) (priority_is command names read pkg m)
  tells Fields.Depends say = in_info Fields.Depends (λ e. cc (e))
  tells Fields.Provides say = in_info Fields.Provides (λ e. cc (e))
  tells Fields.Replaces say = in_info Fields.Replaces (λ e. cc (e))
  tells Fields.InstallIf say = in_info Fields.InstallIf (λ e. cc (e))
  tells Fields.Recommends say = in_info Fields.Recommends (λ e. cc (e))
  tells Fields.Tags say = in_info Fields.Tags (λ e. cc (e))

pub returns : goal.returns
returns c = λ command names read bytes f made.
    let pkg : Plain = package_in_container bytes in
    let m = made_from c.a_made_package_is_read_back.ensures command names read bytes made in
    let are = items_of command.values command.behind m.items (info_ok (information command) m.items m.items_read) in
    let say : (g : Field) → OptionsGiveFieldValues g (values_of_info_options command.values) (values_for g m.items) =
    λ g. subst (λ (items : List FieldWithValue). OptionsGiveFieldValues g (values_of_info_options command.values) (values_for g items)) (sym are.all)
    (say_of_field c.read_texts_are_spelled.ensures c.spelled_texts_are_read.ensures g (is_output_default_and_too_long command.values) [] (values_of_info_options command.values) are.none) in
    record { said = values_for f m.items; say = say f; tells = tells command names read pkg m f (say Fields.ReplacesPriority) }
