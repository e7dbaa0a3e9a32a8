-- What `adbdump` prints of a file. The rules are in `docs/commands.md`, "`adbdump FILE`", and the text
-- in `docs/formats.md`, "Dump text". Serves the laws of `src/dump.rt`.
use Rattle.std.specs.Prelude.{ℕ, ◌≡◌, ◌⊎◌, List, [], ◌∷◌, Option, Some, None, Ok, Err}
use Rattle.base_core.specs.declared.cause.Cause.{Cause}
use Rattle.base_core.specs.declared.cause.Cause.TheVariants.{WrongSchema}
use Rattle.adb_block.specs.Header.{schema_of_header}
use Rattle.adb_block.specs.BlockWithoutOffset.{BlockWithoutOffset}
use Rattle.adb_block.specs.Reading.{Reading, fault, more, block_stream_from}
use Rattle.adb_block.specs.PositionBetweenBlocks.{first_block_position_of_schema_and_file}
use Rattle.adb_view.specs.Head.{payload_head_fault, root_word_of_payload}
use Rattle.adb_view.specs.Schema.{shape_of}
use Rattle.adb_view.specs.Walk.{shape_fault}
use Rattle.adb_view.specs.declared.tables.Kind.TheVariants.{Obj}
use Rattle.definition_laws.specs.containers.TestsInOrder.{IsFirstFailing}
use Rattle.outcome.specs.Dump.{framing_fault_of_blocks}
use Rattle.outcome.specs.adb_dump.Dump.{dump_text}
use Rattle.pkg_core.specs.adb_schema.Soundness.{payload_in, root_value_of_payload}
use Rattle.adb_view.specs.declared.tables.Which.{Which}
use Rattle.pkg_core.specs.Whole.{table_of_schema}

-- `text` is the dump text of the value of a file, by the table that the schema in the file's header has at its root
pub record HasDumpTextByHeaderSchema (file text : List ℕ) : Type 0 where
  -- the schema number in the header of the file
  pub schema : ℕ
  -- the header has this schema
  pub header : schema_of_header file ≡ Ok schema
  -- the table that this schema has at its root
  pub which : Which
  -- the schema has this table at its root
  pub root : table_of_schema schema ≡ Some which
  -- the text is that of the value of the file, by this table
  pub text_is : text ≡ dump_text which (root_value_of_payload which (payload_in file))

-- ---- why a file is not printed

-- the results of three tests of the blocks of a file: of the head of the first block's payload, of the shapes of its
-- values, and of the framing of the blocks after it (`behind`)
abbrev pub tests_of_printed : Which → List ℕ → Reading → List (Option Cause)
tests_of_printed which payload behind =
    payload_head_fault payload
    ∷ (shape_fault payload (shape_of (Obj which)) (root_word_of_payload payload)
    ∷ (framing_fault_of_blocks behind ∷ []))

-- `c` is the fault of the blocks of a file: the framing of the first block has this fault; or it has none, and `c` is
-- the cause of the first failed test of the three
abbrev pub IsFaultOfPrinted : Which → Reading → Cause → Type 0
IsFaultOfPrinted which r c =
    (r ≡ fault c)
    ⊎ ((b : BlockWithoutOffset) × (at : ℕ) × (behind : Reading) × (r ≡ more b at behind)
    × IsFirstFailing (tests_of_printed which b.payload behind) c)

-- `c` is the fault for which `adbdump` refuses a file: that of its header; or else that its schema is none of the four;
-- or else that of its blocks
abbrev pub IsDumpRefusalCause : List ℕ → Cause → Type 0
IsDumpRefusalCause file c =
    (schema_of_header file ≡ Err c)
    ⊎ ((schema : ℕ) × (schema_of_header file ≡ Ok schema)
    × (((table_of_schema schema ≡ None) × (c ≡ WrongSchema schema))
    ⊎ ((which : Which) × (table_of_schema schema ≡ Some which)
    × IsFaultOfPrinted which (block_stream_from (first_block_position_of_schema_and_file schema file)) c)))
