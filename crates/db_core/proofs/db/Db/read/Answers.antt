use Rattle.std.proofs.Common.{◌≡◌, None, subst, sym}
use Rattle.pkg_core.specs.adb_schema.Soundness.{payload_fault}
use Rattle.adb_view.specs.declared.tables.Which.TheVariants.{Idb}
use Rattle.pkg_core.proofs.adb_schema.Sound.{sound_payload}
use Rattle.db_core.proofs.db.Db.read.Goals as goal

pub payload_in-requires : goal.payload_in-requires
payload_in-requires c = (Idb, c.in_ok-read_adb.ensures.sound)

pub open-requires : goal.open-requires
open-requires c = subst (λ p. payload_fault Idb p ≡ None) (sym c.payload_in.ensures) (sound_payload Idb c.args.bytes.now c.in_ok-read_adb.ensures.sound)
