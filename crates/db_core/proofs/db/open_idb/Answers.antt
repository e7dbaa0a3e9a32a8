use Rattle.adb_view.specs.declared.tables.Which.TheVariants.{Idb}
use Rattle.pkg_core.proofs.adb_schema.SoundPayload.{payload_head, payload_sound}
use Rattle.db_core.proofs.db.open_idb.Goals as goal

pub open_root-requires-clause-head : goal.open_root-requires-clause-head
open_root-requires-clause-head c = payload_head Idb c.args.payload.now c.requires

pub open_root-requires-clause-sound : goal.open_root-requires-clause-sound
open_root-requires-clause-sound c = payload_sound c.values_of_few_visits_have_no_fault.ensures Idb c.args.payload.now c.requires
