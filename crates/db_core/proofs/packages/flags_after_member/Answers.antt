use Rattle.std.proofs.Common.{◌≡◌, ◌∙◌, ap, drop}
use Rattle.adb_view.specs.Adb.{payload_of}
use Rattle.adb_view.specs.Plain.{Plain}
use Rattle.adb_copy.specs.adb_fields.Repeated.{folders_in}
use Rattle.adb_sound.specs.adb_schema.Views.{package_value}
use Rattle.adb_view.specs.Values.{value_at}
use Rattle.adb_view.specs.declared.tables.Kind.TheVariants as Kinds
use Rattle.adb_view.specs.declared.tables.Which.TheVariants as Tables
use Rattle.db_core.specs.NewDatabase.{folder_file_count, total_of}
use Rattle.db_core.proofs.packages.flags_after_member.Goals as goal

pub returns : goal.returns
returns c =
    let seen : value_at (payload_of c.adb.result) (Kinds.Obj Tables.Package) c.word.result ≡ package_value c.view-view.result.now =
    (λ j. value_at (payload_of (c.adb.ensures j)) (Kinds.Obj Tables.Package) (c.word.ensures.is j)) in
    λ m here. c.flags_behind.ensures ∙ ap (λ (v : Plain). drop (total_of folder_file_count (folders_in v)) c.args.flags.now) (seen ∙ c.view-view.ensures.value m here)
