-- `adbdump` prints a container as text. The rules are in `docs/commands.md`, "`adbdump FILE`", and in
-- `docs/formats.md`, "Dump text" and "Tests of a container".
use Rattle.std.specs.Prelude.{ℕ, List, [], ◌∷◌, Option, Some, None, Result, Ok, Err}
use Rattle.std.specs.Option.{option_or}
use Rattle.base_core.specs.Files.{Files}
use Rattle.base_core.specs.declared.cause.Cause.{Cause}
use Rattle.base_core.specs.declared.cause.Cause.TheVariants.{WrongSchema}
use Rattle.report_core.specs.declared.refusal.Refusal.TheVariants.{FileMissing, FileBad}
use Rattle.command_core.specs.Files.{without_one_leading_dot_slash}
use Rattle.command_core.specs.declared.operands.Operand.{Operand}
use Rattle.adb_block.specs.Header.{schema_of_header}
use Rattle.adb_block.specs.PositionBetweenBlocks.{first_block_position_of_schema_and_file}
use Rattle.adb_block.specs.Reading.{Reading, done, fault, more, block_stream_from}
use Rattle.adb_view.specs.Head.{payload_head_fault, root_word_of_payload}
use Rattle.adb_view.specs.Schema.{shape_of}
use Rattle.gen_core.specs.adb_schema.Soundness.{first_block_payload, root_value_of_payload}
use Rattle.adb_view.specs.Walk.{shape_fault}
use Rattle.adb_view.specs.declared.tables.Which.{Which}
use Rattle.adb_view.specs.declared.tables.Kind.TheVariants.{Obj}
use Rattle.gen_core.specs.adb_dump.Dump.{dump_text}
use Rattle.make_core.specs.make_info.Reads.{Reads}
use Rattle.make_core.specs.pkg_core.Whole.{table_of_schema}
use Rattle.outcome.specs.Outcome.{Outcome, just_refusal, just_report}

-- the first fault of the framing of the remaining blocks; their payloads are not tested
abbrev pub framing_fault_of_blocks : Reading → Option Cause
framing_fault_of_blocks done = None
framing_fault_of_blocks (fault c) = Some c
framing_fault_of_blocks (more b at r) = framing_fault_of_blocks r

-- the first fault of the head of a payload, and then of the shape of its values by the table `which`; texts are not
-- tested
abbrev pub payload_head_or_shape_fault : Which → List ℕ → Option Cause
payload_head_or_shape_fault which payload =
    option_or (payload_head_fault payload)
    (shape_fault payload (shape_of (Obj which)) (root_word_of_payload payload))

-- the first fault of the blocks: of the first block, and then of the framing of the later blocks
abbrev pub dump_fault_of_blocks : Which → Reading → Option Cause
dump_fault_of_blocks which done = None
dump_fault_of_blocks which (fault c) = Some c
dump_fault_of_blocks which (more b at r) =
    option_or (payload_head_or_shape_fault which b.payload) (framing_fault_of_blocks r)

-- the text of a container, unless a test failed with a cause
abbrev pub text_unless_fault : Option Cause → List ℕ → Result (List ℕ) Cause
text_unless_fault None text = Ok text
text_unless_fault (Some cause) text = Err cause

-- the dump text of the blocks of a file, whose root object has the fields of the table `which`; or the first failed
-- test
abbrev pub dump_of_first_block_unless_fault_of_blocks : Which → Reading → Result (List ℕ) Cause
dump_of_first_block_unless_fault_of_blocks which r =
    text_unless_fault (dump_fault_of_blocks which r)
    (dump_text which (root_value_of_payload which (first_block_payload r)))

-- the dump text of the blocks of a file with this schema, given the table of the schema; None means that the schema is
-- none of a root, which is refused
abbrev pub dump_by_schema_number_and_table_if_any : ℕ → Reading → Option Which → Result (List ℕ) Cause
dump_by_schema_number_and_table_if_any schema r None = Err (WrongSchema schema)
dump_by_schema_number_and_table_if_any schema r (Some which) =
    dump_of_first_block_unless_fault_of_blocks which r

-- the text of a file by the schema in its header, or the header's fault
abbrev pub dump_by_schema_unless_header_fault : List ℕ → Result ℕ Cause → Result (List ℕ) Cause
dump_by_schema_unless_header_fault file (Err c) = Err c
dump_by_schema_unless_header_fault file (Ok schema) =
    dump_by_schema_number_and_table_if_any schema
    (block_stream_from (first_block_position_of_schema_and_file schema file))
    (table_of_schema schema)

-- the text of a file, or the first test that it fails: of its header, of its schema (one of four), of its
-- first block, and of the framing of the later blocks
unfoldable pub dump_of : List ℕ → Result (List ℕ) Cause
dump_of file = dump_by_schema_unless_header_fault file (schema_of_header file)

-- the outcome with the dump text as its report; or the refusal of the operand at this place, whose file has this fault
abbrev pub text_outcome : Files → ℕ → Result (List ℕ) Cause → Outcome
text_outcome files place (Ok text) = just_report files text
text_outcome files place (Err cause) = just_refusal files (FileBad place cause)

-- the outcome of `adbdump`, given the file that a read finds for the argument at this place of the command line, or
-- None
abbrev pub dump_outcome : Files → ℕ → Option (List ℕ) → Outcome
dump_outcome files place None = just_refusal files (FileMissing place)
dump_outcome files place (Some bytes) = text_outcome files place (dump_of bytes)

-- the outcome of `adbdump`: the dump text of the first operand's file; the grammar allows exactly one operand
abbrev pub adbdump : Reads → Files → List Operand → Outcome
adbdump read files [] = just_report files []
adbdump read files (o ∷ operands) =
    dump_outcome files o.place (read 0 (without_one_leading_dot_slash o.text))
