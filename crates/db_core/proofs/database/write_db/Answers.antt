use Rattle.std.proofs.Common.{ℕ, Vec, Global, refl}
use Rattle.adb_sound.specs.adb_schema.Soundness.{container_fault_except_contents}
use Rattle.adb_view.specs.declared.tables.Which.TheVariants.{Idb}
use Rattle.db_core.specs.Seen.{members_of}
use Rattle.db_core.proofs.Container.{file_refused, file_written}
use Rattle.db_core.proofs.ReadBack.{no_cause}
use Rattle.db_core.proofs.database.write_db.Goals as goal

pub returns-clause-written : goal.returns-clause-written
returns-clause-written c = file_written (members_of c.args.members.now) c.args.owned.now c.as_slice.result.now _ _ _ c.as_slice.ensures c.in-Ok.ensures.written refl c.in_ok-file_in_place.ensures.bytes

pub returns-in-Err-clause-written : goal.returns-in-Err-clause-written
returns-in-Err-clause-written c = file_refused _ (λ (file : Vec ℕ Global). file.items) (members_of c.args.members.now) c.args.owned.now c.as_slice.result.now c.in-Err.fault _ c.as_slice.ensures c.in-Err.is c.database_payload.ensures.written

pub returns-clause-sound : goal.returns-clause-sound
returns-clause-sound c listed =
    let members = members_of c.args.members.now in
    let flags = c.args.owned.now in
    let written = file_written members flags c.as_slice.result.now _ _ _ c.as_slice.ensures c.in-Ok.ensures.written refl c.in_ok-file_in_place.ensures.bytes in
    no_cause (container_fault_except_contents Idb _) c.packages_are_sound.ensures (λ sound.
    c.a_written_database_is_read_back.ensures.database members flags _
    (c.a_database_of_sound_packages_may_be_the_root.ensures members flags _ sound c.members_are_in_order.ensures listed written) written)
