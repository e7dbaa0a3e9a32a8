-- The front of a container: its header and its first block, and their tests. The rules are in
-- `docs/formats.md`, "The other blocks", point 1 of the last list (the front); the tests in "Container",
-- the table, and "Values", the first paragraph.
use Rattle.std.specs.Prelude.{◌≡◌, ℕ, ◌==◌, if◌then◌else◌, List, length, drop, Option, Some, None, Result, Ok, Err}
use Rattle.base_core.specs.declared.cause.Cause.{Cause}
use Rattle.base_core.specs.declared.cause.Cause.TheVariants.{WrongSchema}
use Rattle.adb_block.specs.Header.{schema_of_header}
use Rattle.adb_block.specs.Reading.{Reading, done, fault, more, block_stream_from}
use Rattle.adb_block.specs.PositionBetweenBlocks.{PositionBetweenBlocks, first_block_position_of_schema_and_file}
use Rattle.adb_block.specs.declared.block.BlockKind.TheVariants.{Adb}
use Rattle.adb_view.specs.Head.{payload_head_fault}
use Rattle.pkg_core.specs.declared.front.Front.{Front}
use Rattle.pkg_core.specs.declared.front.FrontFault.{FrontFault}
use Rattle.pkg_core.specs.declared.front.FrontFault.TheVariants.{Bad, Disk, Memory}

-- ---- the tests

-- the first failed test of the first block: its framing, and the head of its payload
abbrev pub front_block_fault : Reading → Option Cause
front_block_fault done = None
front_block_fault (fault c) = Some c
front_block_fault (more b at r) = payload_head_fault b.payload

-- the first failed test of the front of a file that must have the schema `schema`, given the result of
-- reading its header: the schema found, or a fault
abbrev pub front_fault_after_header : ℕ → List ℕ → Result ℕ Cause → Option Cause
front_fault_after_header schema file (Err c) = Some c
front_fault_after_header schema file (Ok found) =
    if schema == found then front_block_fault
    (block_stream_from (first_block_position_of_schema_and_file found file))
    else Some (WrongSchema found)

-- the first failed test of the front of a file, which must have this schema
unfoldable pub front_fault : ℕ → List ℕ → Option Cause
front_fault schema file = front_fault_after_header schema file (schema_of_header file)

-- ---- the contents of a front

-- the payload of the first block in a front
abbrev pub front_payload : Front → List ℕ
front_payload front = front.payload.items

-- how many bytes the file of a front has
abbrev pub front_file_len : Front → ℕ
front_file_len front = front.len

-- the offset after the first block and its padding
abbrev pub front_end : Front → ℕ
front_end front = front.at

-- the position of a reader of the blocks of this file after the front
abbrev pub position_after_front : Front → List ℕ → PositionBetweenBlocks
position_after_front front file = record {
  schema = front.schema;
  last = Some Adb;
  at = front.at;
  left = drop front.at file;
}

-- a front is that of this file: it has the file's schema, length and first block, which begins at
-- offset 8, and no test of the front fails
pub record IsFrontOf (schema : ℕ) (file : List ℕ) (front : Front) : Type 0 where
  -- the file's header is valid and has the wanted schema
  pub header : schema_of_header file ≡ Ok schema
  -- the front has the wanted schema
  pub same_schema : front.schema ≡ schema
  -- the front has the length of the file
  pub long : length file ≡ front.len
  -- the first block of the file is the front's block of values, at offset 8
  pub blocks : block_stream_from (first_block_position_of_schema_and_file schema file)
      ≡ more (record { kind = Adb; payload = front_payload front }) 8
      (block_stream_from (position_after_front front file))
  -- the head of the first payload passes its tests
  pub head : payload_head_fault (front_payload front) ≡ None

-- the result of reading the front of a file that must have this schema, or of no file: the front, None
-- for no file, or the first failed test. After an I/O error or out of memory nothing is stated
abbrev pub IsFrontRead : ℕ → Option (List ℕ) → Result (Option Front) FrontFault → Type 0
IsFrontRead schema None (Ok None) = Unit {0}
IsFrontRead schema None (Ok (Some front)) = ⊥
IsFrontRead schema None (Err (Bad c)) = ⊥
IsFrontRead schema None (Err Disk) = Unit {0}
IsFrontRead schema None (Err Memory) = Unit {0}
IsFrontRead schema (Some file) (Ok None) = ⊥
IsFrontRead schema (Some file) (Ok (Some front)) = IsFrontOf schema file front
IsFrontRead schema (Some file) (Err (Bad c)) = front_fault schema file ≡ Some c
IsFrontRead schema (Some file) (Err Disk) = Unit {0}
IsFrontRead schema (Some file) (Err Memory) = Unit {0}

-- ---- the front of a file that exists

-- the position of a reader of the blocks of this file after the first block, which ends at the offset
-- `at`
abbrev pub position_after_first_block : ℕ → ℕ → List ℕ → PositionBetweenBlocks
position_after_first_block schema at file =
    record { schema = schema; last = Some Adb; at = at; left = drop at file }

-- the fault is an I/O error of the tree, or out of memory, and not a failed test of the container
abbrev pub IsDiskOrMemoryFault : FrontFault → Type 0
IsDiskOrMemoryFault (Bad c) = ⊥
IsDiskOrMemoryFault Disk = Unit {0}
IsDiskOrMemoryFault Memory = Unit {0}

-- the result of reading the front of a file that exists: its front, or the first failed test. The front
-- ends after the first `seen` bytes of the file, which were read. After an I/O error or out of memory
-- nothing is stated
abbrev pub IsFrontReadOfFile : ℕ → Result Front FrontFault → ℕ → List ℕ → Type 0
IsFrontReadOfFile schema (Ok front) seen file = IsFrontOf schema file front × (front.at ≡ seen)
IsFrontReadOfFile schema (Err (Bad c)) seen file = front_fault schema file ≡ Some c
IsFrontReadOfFile schema (Err Disk) seen file = Unit {0}
IsFrontReadOfFile schema (Err Memory) seen file = Unit {0}
