-- The first field of a package is its information.
use Rattle.std.proofs.Common.{refl, ap, ◌∙◌}
use Rattle.adb_view.specs.Plain.{Plain}
use Rattle.adb_fields.specs.Repeated.{name_of}
use Rattle.adb_view.specs.declared.tables.Kind.TheVariants as Kinds
use Rattle.adb_view.specs.declared.tables.Which.TheVariants as Tables
use Rattle.adb_fields.proofs.name_lists.package_name.Goals as goal

pub text_field-requires : goal.text_field-requires
text_field-requires c = record { sound = (c.field_word-info.ensures (Kinds.Obj Tables.PkgInfo) refl).0; kind = refl }

pub returns : goal.returns
returns c = c.text_field.ensures ∙ ap (λ (v : Plain). name_of v) (c.field_word-info.ensures (Kinds.Obj Tables.PkgInfo) refl).1
