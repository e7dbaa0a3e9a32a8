-- The first failed test of a whole container, and the contents of a good package. The rules are in
-- `docs/formats.md`, "Tests of a container", for the order of the tests, and "The other blocks".
use Rattle.std.specs.Prelude.{ℕ, ◌==◌, if◌then◌else◌, List, Option, Some, None, Result, Ok, Err}
use Rattle.sha2.specs.Sha256.{sha256}
use Rattle.base_core.specs.declared.cause.Cause.{Cause}
use Rattle.base_core.specs.declared.cause.Cause.TheVariants.{WrongSchema}
use Rattle.adb_block.specs.Header.{schema_of_header}
use Rattle.adb_block.specs.PositionBetweenBlocks.{first_block_position_of_schema_and_file}
use Rattle.adb_block.specs.Reading.{Reading, done, fault, more, block_stream_from}
use Rattle.adb_view.specs.Plain.{Plain}
use Rattle.adb_schema.specs.Soundness.{file_fault_with_rest_test, remaining_blocks_fault_unless_package, payload_in, root_value_of_payload}
use Rattle.adb_view.specs.declared.tables.Which.{Which}
use Rattle.adb_view.specs.declared.tables.Which.TheVariants.{Package, Index, Idb, Intent}
use Rattle.adb_schema.specs.declared.read.TheConstants.{PACKAGE_WORD, INDEX_WORD, IDB_WORD, INTENT_WORD}
use Rattle.pkg_core.specs.Contents.{Contents, FilesRead, no_more, refused, files_read_from_blocks, contents_in, contents_fault, expected_files_of_package}

-- ---- a container of any schema

-- the table at the root of a container with this schema
abbrev pub table_of_schema : ℕ → Option Which
table_of_schema schema =
    if schema == PACKAGE_WORD then Some Package
    else if schema == INDEX_WORD then Some Index
    else if schema == IDB_WORD then Some Idb
    else if schema == INTENT_WORD then Some Intent
    else None

-- the first failed test of the blocks after the first. In a package, they must be the contents of its files; in
-- another container, no block may have contents
abbrev pub fault_of_contents_blocks_by_root_table : Which → Plain → Reading → Option Cause
fault_of_contents_blocks_by_root_table Package value r = contents_fault (expected_files_of_package value) r
fault_of_contents_blocks_by_root_table which value r = remaining_blocks_fault_unless_package which r

-- the first failed test of a file that is to be a container with this table at its root
unfoldable pub container_fault_of_table : Which → List ℕ → Option Cause
container_fault_of_table which file =
    file_fault_with_rest_test (fault_of_contents_blocks_by_root_table which) which file

-- the first failed test of a file with this schema, given the table of the schema. None is the table of
-- any other schema than the four
abbrev pub container_fault_after_schema : List ℕ → ℕ → Option Which → Option Cause
container_fault_after_schema file schema None = Some (WrongSchema schema)
container_fault_after_schema file schema (Some which) = container_fault_of_table which file

-- the first failed test of a file, given the result of reading its header: the schema, or a fault
abbrev pub container_fault_after_header : List ℕ → Result ℕ Cause → Option Cause
container_fault_after_header file (Err c) = Some c
container_fault_after_header file (Ok schema) =
    container_fault_after_schema file schema (table_of_schema schema)

-- the first failed test of a file as a container of one of the four schemas
unfoldable pub container_fault : List ℕ → Option Cause
container_fault file = container_fault_after_header file (schema_of_header file)

-- ---- a package

-- the first failed test of a file that is to be a package
abbrev pub package_fault : List ℕ → Option Cause
package_fault file = container_fault_of_table Package file

-- the id of a package: the SHA-256 of its ADB payload
abbrev pub payload_sha256_of_package_file : List ℕ → List ℕ
payload_sha256_of_package_file file = sha256 (payload_in file)

-- the files that are read from the blocks of a package. The value of the first block lists the
-- expected files; the blocks after it have their contents
abbrev pub files_after_first_block : Reading → FilesRead
files_after_first_block done = no_more
files_after_first_block (fault c) = refused c
files_after_first_block (more b at r) =
    files_read_from_blocks (expected_files_of_package (root_value_of_payload Package b.payload)) r

-- the files that are read from a package, given the result of reading its header: the schema, or a fault
abbrev pub files_after_header : List ℕ → Result ℕ Cause → FilesRead
files_after_header file (Ok schema) =
    files_after_first_block (block_stream_from (first_block_position_of_schema_and_file schema file))
files_after_header file (Err c) = refused c

-- the files that are read from the file of a package, with their contents
unfoldable pub files_read_from_package : List ℕ → FilesRead
files_read_from_package file = files_after_header file (schema_of_header file)

-- the value of a package, with the contents of its files
pub record PackageWithContents : Type 0 where
  -- the plain value of the package
  pub value : Plain
  -- the contents of its files, in order
  pub contents : List Contents

-- the contents of a package's file: its value, and the contents of its files
abbrev pub package_with_contents : List ℕ → PackageWithContents
package_with_contents file =
    record {
      value = root_value_of_payload Package (payload_in file);
      contents = contents_in (files_read_from_package file);
    }
