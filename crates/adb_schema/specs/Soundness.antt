-- The first failed test of a whole container, in the order of the tests. The order is in
-- `docs/formats.md`, "Tests of a container"; the tests after the first block in "The other blocks"
-- ("Outside of a package no block may hold contents").
use Rattle.std.specs.Prelude.{ℕ, List, [], take, drop, length, Bool, false, nat_lt, ◌==◌, if◌then◌else◌, Option, Some, None, Result, Ok, Err}
use Rattle.std.specs.Option.{option_or}
use Rattle.std.specs.Int.{w32, from_le_bytes}
use Rattle.base_core.specs.declared.cause.Cause.{Cause}
use Rattle.base_core.specs.declared.cause.Cause.TheVariants.{Truncated, WrongSchema, DataOrder}
use Rattle.adb_block.specs.Header.{schema_of_header}
use Rattle.adb_block.specs.PositionBetweenBlocks.{first_block_position_of_schema_and_file}
use Rattle.adb_block.specs.Reading.{Reading, done, fault, more, block_stream_from}
use Rattle.adb_block.specs.declared.block.BlockKind.{BlockKind}
use Rattle.adb_block.specs.declared.block.BlockKind.TheVariants.{Contents}
use Rattle.adb_view.specs.Head.{payload_head_fault, root_word_of_payload}
use Rattle.adb_view.specs.Plain.{Plain}
use Rattle.adb_view.specs.Schema.{shape_of}
use Rattle.adb_view.specs.Walk.{shape_fault}
use Rattle.adb_view.specs.Values.{value_at}
use Rattle.adb_schema.specs.Texts.{text_or_number_fault}
use Rattle.adb_fields.specs.Repeated.{repeated_fault}
use Rattle.adb_view.specs.declared.tables.Which.{Which}
use Rattle.adb_view.specs.declared.tables.Which.TheVariants.{Package, Index, Idb, Intent}
use Rattle.adb_view.specs.declared.tables.Kind.TheVariants.{Obj}
use Rattle.adb_schema.specs.declared.read.TheConstants.{PACKAGE_WORD, INDEX_WORD, IDB_WORD, INTENT_WORD}

-- the schema in the header of a container with this table at its root; the other six tables are no
-- root
abbrev pub header_schema_if_root_table : Which → Option ℕ
header_schema_if_root_table Package = Some PACKAGE_WORD
header_schema_if_root_table Index = Some INDEX_WORD
header_schema_if_root_table Idb = Some IDB_WORD
header_schema_if_root_table Intent = Some INTENT_WORD
header_schema_if_root_table which = None

-- ---- the first block

-- the plain value of a payload with this table at its root
abbrev pub root_value_of_payload : Which → List ℕ → Plain
root_value_of_payload which payload = value_at payload (Obj which) (root_word_of_payload payload)

-- the first fault of a payload: of its head, its shape, its texts, or a repeated name
abbrev pub payload_fault : Which → List ℕ → Option Cause
payload_fault which payload =
    option_or (payload_head_fault payload)
    (option_or (shape_fault payload (shape_of (Obj which)) (root_word_of_payload payload))
    (option_or (text_or_number_fault which (root_value_of_payload which payload))
    (repeated_fault which (root_value_of_payload which payload))))

-- ---- the blocks after the first

-- the two numbers at the beginning of a block of contents: the position of the folder, and that of the
-- file in the folder. Both count from 1
abbrev pub folder_and_file_positions_from_payload : List ℕ → ℕ × ℕ
folder_and_file_positions_from_payload payload = (
  from_le_bytes w32 (take 4 payload),
  from_le_bytes w32 (take 4 (drop 4 payload)),
)

-- the cause for a block of contents, at the offset `at` of the file, where no contents are allowed. A payload of
-- fewer than 8 bytes is too short for its two positions. A longer one has the positions of a file, while (0, 0),
-- which is no file, was expected
abbrev pub truncated_or_unexpected_contents_cause : List ℕ → ℕ → Cause
truncated_or_unexpected_contents_cause payload at = if nat_lt (length payload) 8 then Truncated at
    else DataOrder (0, 0) (folder_and_file_positions_from_payload payload)

-- why a block after the first is not allowed in a container without files: it has contents. None for a block of
-- another kind, which is allowed
abbrev pub truncated_or_unexpected_contents_fault : BlockKind → List ℕ → ℕ → Option Cause
truncated_or_unexpected_contents_fault Contents payload at =
    Some (truncated_or_unexpected_contents_cause payload at)
truncated_or_unexpected_contents_fault kind payload at = None

-- the first fault of the blocks after the first, in a container without files: of their framing, or
-- that one has contents
unfoldable pub remaining_blocks_fault : Reading → Option Cause
remaining_blocks_fault done = None
remaining_blocks_fault (fault c) = Some c
remaining_blocks_fault (more b at r) =
    option_or (truncated_or_unexpected_contents_fault b.kind b.payload at) (remaining_blocks_fault r)

-- the first fault of the blocks after the first. None for a package: `pkg_core` tests its further blocks against
-- the list of files
abbrev pub remaining_blocks_fault_unless_package : Which → Reading → Option Cause
remaining_blocks_fault_unless_package Package r = None
remaining_blocks_fault_unless_package which r = remaining_blocks_fault r

-- ---- all tests in order

-- whether the schema of a file, the second argument, is that of a table, the first argument. False for None: the
-- table is no root, and has no schema
abbrev pub is_wanted_schema_present_and_equal : Option ℕ → ℕ → Bool
is_wanted_schema_present_and_equal (Some word) schema = word == schema
is_wanted_schema_present_and_equal None schema = false

-- the fault of a file whose schema is not that of the table, or None
abbrev pub schema_fault : Which → ℕ → Option Cause
schema_fault which schema =
    if is_wanted_schema_present_and_equal (header_schema_if_root_table which) schema then None
    else Some (WrongSchema schema)

-- the first fault of the blocks of a file: of the first block, or of the blocks after it. `rest` tests the
-- blocks after the first, by the value of the first block
abbrev pub blocks_fault : (Plain → Reading → Option Cause) → Which → Reading → Option Cause
blocks_fault rest which done = None
blocks_fault rest which (fault c) = Some c
blocks_fault rest which (more b at r) = option_or (payload_fault which b.payload)
    (rest (root_value_of_payload which b.payload) r)

-- the first fault of a file: of its header, of its schema, or of its blocks. The last argument is what the
-- header gives: the schema, or the cause for which the header is refused
abbrev pub file_fault_by_header_schema_or_fault : (Plain → Reading → Option Cause) → Which → List ℕ
    → Result ℕ Cause
    → Option Cause
file_fault_by_header_schema_or_fault rest which file (Err c) = Some c
file_fault_by_header_schema_or_fault rest which file (Ok schema) = option_or (schema_fault which schema)
    (blocks_fault rest which (block_stream_from (first_block_position_of_schema_and_file schema file)))

-- the first fault of a file, if `rest` tests the blocks after the first
abbrev pub file_fault_with_rest_test : (Plain → Reading → Option Cause) → Which → List ℕ → Option Cause
file_fault_with_rest_test rest which file =
    file_fault_by_header_schema_or_fault rest which file (schema_of_header file)

-- the first failed test of a file as a container with this table at its root. For a package, the blocks after
-- the first, which have the contents of files, are not tested here
unfoldable pub container_fault_except_contents : Which → List ℕ → Option Cause
container_fault_except_contents which file =
    file_fault_with_rest_test (λ v r. remaining_blocks_fault_unless_package which r) which file

-- ---- the payload of a file

-- the payload of the first block of a reading; empty if there is no block
abbrev pub first_block_payload : Reading → List ℕ
first_block_payload done = []
first_block_payload (fault c) = []
first_block_payload (more b at r) = b.payload

-- the payload of the first block of a file, by what its header gives: the schema, or a cause; empty if the
-- header is refused
abbrev pub payload_by_header_schema_or_fault : List ℕ → Result ℕ Cause → List ℕ
payload_by_header_schema_or_fault file (Ok schema) =
    first_block_payload (block_stream_from (first_block_position_of_schema_and_file schema file))
payload_by_header_schema_or_fault file (Err c) = []

-- the payload of the first block of a file; empty if it has none
unfoldable pub payload_in : List ℕ → List ℕ
payload_in file = payload_by_header_schema_or_fault file (schema_of_header file)
