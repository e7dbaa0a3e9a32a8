-- The payload passes its tests, and is of bytes.
use Rattle.std.proofs.Common.{ℕ, ◌<◌, All, List, subst}
use Rattle.adb_schema.specs.Soundness.{payload_fault}
use Rattle.adb_view.specs.declared.tables.Which.TheVariants.{Package}
use Rattle.pkg_core.specs.Values.{payload_of_contents}
use Rattle.adb_schema.proofs.SoundPayload.{none_of}
use Rattle.pkg_core.proofs.contents.Contents.values_are_sound.Goals as goal

pub returns-clause-sound : goal.returns-clause-sound
returns-clause-sound c =
    let p = payload_of_contents c.args.self.now in
    c.tested_payloads_hold_sound_values.ensures.value Package p (none_of (payload_fault Package p) c.args.self.now.tested)

pub returns-clause-normal : goal.returns-clause-normal
returns-clause-normal c =
    let p = payload_of_contents c.args.self.now in
    c.tested_payloads_hold_sound_values.ensures.normal Package p (none_of (payload_fault Package p) c.args.self.now.tested)
    (subst (λ (bytes : List ℕ). All (λ b. b < 256) bytes) c.payload.ensures c.bytes_are_small.ensures)
