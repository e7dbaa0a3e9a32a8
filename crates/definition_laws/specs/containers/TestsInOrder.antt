-- The tests of a container in the order in which they are made. The order is in `docs/formats.md`,
-- "Tests of a container".
use Rattle.std.specs.Prelude.{◌≡◌, ◌⊎◌, ◌<◌, ℕ, true, false, List, [], ◌∷◌, Option, Some, None, Ok, slice_get}
use Rattle.base_core.specs.declared.cause.Cause.{Cause}
use Rattle.base_core.specs.declared.cause.Cause.TheVariants.{WrongSchema}
use Rattle.adb_block.specs.Header.{schema_of_header}
use Rattle.adb_block.specs.BlockWithoutOffset.{BlockWithoutOffset}
use Rattle.adb_block.specs.Reading.{Reading, fault, more, block_stream_from}
use Rattle.adb_block.specs.PositionBetweenBlocks.{first_block_position_of_schema_and_file}
use Rattle.pkg_core.specs.adb_fields.Repeated.{repeated_fault}
use Rattle.pkg_core.specs.adb_schema.Texts.{text_or_number_fault}
use Rattle.pkg_core.specs.adb_schema.Soundness.{is_wanted_schema_present_and_equal, root_value_of_payload, header_schema_if_root_table}
use Rattle.adb_view.specs.Schema.{shape_of}
use Rattle.adb_view.specs.Walk.{shape_fault}
use Rattle.adb_view.specs.declared.tables.Kind.TheVariants.{Obj}
use Rattle.adb_view.specs.declared.tables.Which.{Which}
use Rattle.adb_view.specs.Head.{payload_head_fault, root_word_of_payload}
use Rattle.definition_laws.specs.containers.HeaderFaults.{IsHeaderFault}
use Rattle.pkg_core.specs.Whole.{fault_of_contents_blocks_by_root_table, table_of_schema}

-- c is the cause of the first failed test. `tests` has the results of all tests in order; None is a test that holds
pub record IsFirstFailing (tests : List (Option Cause)) (c : Cause) : Type 0 where
  -- the index of the failed test, counted from 0
  pub place : ℕ
  -- this test fails with the cause c
  pub fails : slice_get tests place ≡ Some (Some c)
  -- no test before it fails
  pub before : (j : ℕ) → j < place → slice_get tests j ≡ Some None

-- the results of the tests of the payload of the first block, and of the blocks `behind` it: the head of the payload,
-- the shapes, the texts and numbers, repeated names, the further blocks. `which` is the table of the root
abbrev pub tests_of_values : Which → List ℕ → Reading → List (Option Cause)
tests_of_values which payload behind =
    payload_head_fault payload
    ∷ (shape_fault payload (shape_of (Obj which)) (root_word_of_payload payload)
    ∷ (text_or_number_fault which (root_value_of_payload which payload)
    ∷ (repeated_fault which (root_value_of_payload which payload)
    ∷ (fault_of_contents_blocks_by_root_table which (root_value_of_payload which payload) behind ∷ []))))

-- c is the fault of a file's blocks r: the first block is bad; or it is good, and c is the cause of the first failed
-- test of its payload or of the further blocks
abbrev pub IsBlocksFault : Which → Reading → Cause → Type 0
IsBlocksFault which r c =
    (r ≡ fault c)
    ⊎ ((b : BlockWithoutOffset) × (at : ℕ) × (behind : Reading) × (r ≡ more b at behind)
    × IsFirstFailing (tests_of_values which b.payload behind) c)

-- c is the fault of a file that must have the table `which` at its root: the first fault of the header, then of the
-- schema, then of the blocks
abbrev pub IsContainerFaultForTable : Which → List ℕ → Cause → Type 0
IsContainerFaultForTable which file c =
    IsHeaderFault file c
    ⊎ ((schema : ℕ) × (schema_of_header file ≡ Ok schema)
    × (((is_wanted_schema_present_and_equal (header_schema_if_root_table which) schema ≡ false)
    × (c ≡ WrongSchema schema))
    ⊎ ((is_wanted_schema_present_and_equal (header_schema_if_root_table which) schema ≡ true)
    × IsBlocksFault which (block_stream_from (first_block_position_of_schema_and_file schema file)) c)))

-- c is the fault of a file that must be a container with any of the four schemas: that of the header; else that the
-- schema is none of the four; else that of a file that must have the table of its schema at the root
abbrev pub IsContainerFault : List ℕ → Cause → Type 0
IsContainerFault file c =
    IsHeaderFault file c
    ⊎ ((schema : ℕ) × (schema_of_header file ≡ Ok schema)
    × (((table_of_schema schema ≡ None) × (c ≡ WrongSchema schema))
    ⊎ ((which : Which) × (table_of_schema schema ≡ Some which) × IsContainerFaultForTable which file c)))

-- the file passes every test of a container: it has a header with one of the four schemas, and a first block; no test
-- of the values, and of the blocks after the first one, fails
pub record PassesEveryContainerTest (file : List ℕ) : Type 0 where
  -- the schema of the file
  pub schema : ℕ
  -- this schema is in the header of the file
  pub header : schema_of_header file ≡ Ok schema
  -- the table of the root
  pub which : Which
  -- the schema demands this table
  pub root : table_of_schema schema ≡ Some which
  -- the first block
  pub first : BlockWithoutOffset
  -- the offset of the first block
  pub at : ℕ
  -- the blocks after it
  pub behind : Reading
  -- these are the blocks of the file
  pub blocks : block_stream_from (first_block_position_of_schema_and_file schema file)
      ≡ more first at behind
  -- no test of the values and of the further blocks fails
  pub each : (i : ℕ) (test : Option Cause)
      → slice_get (tests_of_values which first.payload behind) i ≡ Some test → test ≡ None
