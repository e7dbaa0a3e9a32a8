use Rattle.std.proofs.Common.{◌≡◌, ◌∙◌, ap, subst, sym}
use Rattle.std.specs.List.{list_any}
use Rattle.path_claims.specs.adb_fields.Fields.{array_at}
use Rattle.path_claims.specs.adb_fields.Repeated.{list_of}
use Rattle.db_core.specs.adb_schema.SoundValues.{ObeysTextAndNumberRulesOfDependency}
use Rattle.db_core.specs.adb_schema.Views.{package_value}
use Rattle.adb_view.specs.Values.{entries_in, entry_at_index}
use Rattle.adb_view.specs.declared.tables.Kind.TheVariants as Kinds
use Rattle.adb_view.specs.declared.tables.Which.TheVariants as Tables
use Rattle.adb_view.specs.Adb.{payload_of}
use Rattle.adb_view.specs.Entries.{array_entries}
use Rattle.adb_view.specs.Plain.{Plain}
use Rattle.adb_view.specs.Shaped.{Each}
use Rattle.db_core.specs.Seen.{members_of}
use Rattle.file_owners.specs.Replaces.{does_replaces_entry_name_package}
use Rattle.file_owners.proofs.NamedPlaces.{in_order}
use Rattle.file_owners.proofs.named.places_named.Goals as goal

pub returns : goal.returns
returns c =
    let ws = array_entries c.replaced_entries.result in
    let same : array_at (payload_of c.adb.result) (Kinds.Obj Tables.Dep) ws ≡ entry_at_index (entry_at_index (package_value c.args.pkg.now) 0) 16 =
    ap (λ a. array_at (payload_of a) (Kinds.Obj Tables.Dep) ws) c.adb.ensures
    ∙ (c.replaced_entries.ensures.value ∙ ap (λ info. entry_at_index info 16) c.info-info.ensures) in
    in_order (members_of c.args.members.now) (package_value c.args.pkg.now) c.in_ok-places.places.items _ c.in_ok-sort.ensures.permutation c.in_ok-sort.ensures.sorted
    (λ y m g. c.in_ok-places.ensures y m g ∙ ap (λ v. list_any (λ entry. does_replaces_entry_name_package entry m.pkg) (list_of (entries_in v))) same)

pub places_in-requires-clause-texts : goal.places_in-requires-clause-texts
places_in-requires-clause-texts c =
    let ws = array_entries c.replaced_entries.result in
    let same : array_at (payload_of c.adb.result) (Kinds.Obj Tables.Dep) ws ≡ entry_at_index (entry_at_index (package_value c.args.pkg.now) 0) 16 =
    ap (λ a. array_at (payload_of a) (Kinds.Obj Tables.Dep) ws) c.adb.ensures
    ∙ (c.replaced_entries.ensures.value ∙ ap (λ info. entry_at_index info 16) c.info-info.ensures) in
    subst (λ (v : Plain). Each ObeysTextAndNumberRulesOfDependency (entries_in v)) (sym same) c.requires
