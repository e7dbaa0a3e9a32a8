-- The contents of an opened payload. Serves the contracts of this crate; the rules are in
-- `docs/formats.md`, "Values".
use Rattle.std.specs.Prelude.{ℕ, List}
use Rattle.adb_view.specs.declared.adb.Adb.{Adb}

-- the bytes of the payload that was opened, including its head
abbrev pub payload_of : Adb → List ℕ
payload_of adb = adb.payload.now
