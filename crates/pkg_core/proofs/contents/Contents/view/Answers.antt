-- The payload passes its tests.
use Rattle.std.proofs.Common.{◌≡◌, ℕ, true, subst, sym}
use Rattle.adb_view.specs.Values.{is_sound}
use Rattle.adb_view.specs.declared.tables.Kind.TheVariants.{Obj}
use Rattle.adb_schema.specs.Soundness.{payload_fault}
use Rattle.adb_view.specs.declared.tables.Which.TheVariants.{Package}
use Rattle.pkg_core.specs.Values.{payload_of_contents}
use Rattle.adb_schema.proofs.SoundPayload.{none_of, payload_sound}
use Rattle.pkg_core.proofs.contents.Contents.view.Goals as goal

pub of-requires : goal.of-requires
of-requires c =
    let p = payload_of_contents c.args.self.now in
    subst (λ (word : ℕ). is_sound p (Obj Package) word ≡ true) (sym c.root.ensures) (payload_sound c.values_of_few_visits_have_no_fault.ensures Package p (none_of (payload_fault Package p) c.args.self.now.tested))
