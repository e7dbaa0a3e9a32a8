-- The results of the steps of reading a container. Serves the contracts of `src/read.rt`; the order of
-- the tests is in `docs/formats.md`, "Tests of a container".
use Rattle.std.specs.Prelude.{◌≡◌, ℕ, List, Option, Some, None}
use Rattle.base_core.specs.declared.cause.Cause.{Cause}
use Rattle.adb_block.specs.Reading.{Reading, done, fault, more}
use Rattle.adb_view.specs.declared.tables.Which.{Which}
use Rattle.adb_schema.specs.Soundness.{payload_fault}
use Rattle.adb_schema.specs.declared.read.ReadFault.{ReadFault}
use Rattle.adb_schema.specs.declared.read.ReadFault.TheVariants.{Bad, Memory}

-- a fault of a read: `Bad` has the cause that the definition reports (`reported`); `Memory`, out of
-- memory, may occur in any read
abbrev pub IsReadFault : ReadFault → Option Cause → Type 0
IsReadFault (Bad cause) reported = reported ≡ Some cause
IsReadFault Memory reported = Unit {0}

-- the first block of a reading has this payload, and `later` is the reading of the blocks after it. The payload
-- passes the tests of a payload with the table `which` at its root
abbrev pub IsAfterFirstBlock : Which → List ℕ → Reading → Reading → Type 0
IsAfterFirstBlock which payload done later = ⊥
IsAfterFirstBlock which payload (fault c) later = ⊥
IsAfterFirstBlock which payload (more b at r) later = (payload ≡ b.payload)
    × (payload_fault which b.payload ≡ None) × (r ≡ later)

-- why the first block of a reading is refused, in a container with the table `which` at its root: by
-- its framing, or by its payload; None if it is accepted
abbrev pub first_block_fault : Which → Reading → Option Cause
first_block_fault which done = None
first_block_fault which (fault c) = Some c
first_block_fault which (more b at r) = payload_fault which b.payload
