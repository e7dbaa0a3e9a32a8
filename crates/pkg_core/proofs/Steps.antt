-- The tests of a whole container, by those of its values and those after them.
use Rattle.std.proofs.Common.{◌≡◌, ◌≢◌, ℕ, List, Option, Some, None, Result, Ok, Err, refl, ap, sym, ◌∙◌}
use Rattle.std.specs.Prelude.{IfErr, IsErrAnd}
use Rattle.base_core.specs.declared.cause.Cause.{Cause}
use Rattle.adb_block.specs.Header.{schema_of_header}
use Rattle.adb_block.specs.Reading.{Reading, done, fault, more, block_stream_from}
use Rattle.adb_block.specs.PositionBetweenBlocks.{first_block_position_of_schema_and_file}
use Rattle.std.specs.Option.{option_or}
use Rattle.adb_schema.specs.Soundness.{blocks_fault, file_fault_by_header_schema_or_fault, container_fault_except_contents, payload_fault, remaining_blocks_fault_unless_package, schema_fault}
use Rattle.adb_view.specs.declared.tables.Which.{Which}
use Rattle.adb_view.specs.declared.tables.Which.TheVariants.{Dep, Acl, PkgInfo, File, Dir, Scripts, Package, Index, Idb, Intent}
use Rattle.pkg_core.specs.Contents.{FilesRead, fault_of_files_read}
use Rattle.pkg_core.specs.Refusals.{IsFaultOf}
use Rattle.pkg_core.specs.declared.pack.PackageFault.{PackageFault}
use Rattle.pkg_core.specs.declared.pack.PackageFault.TheVariants.{Bad, Memory}
use Rattle.pkg_core.specs.Whole.{fault_of_contents_blocks_by_root_table, files_after_first_block, files_after_header, files_read_from_package, package_fault, container_fault_of_table}

-- a container without contents is tested whole as its values are read
pub other_fault : (which : Which) (file : List ℕ) → which ≢ Package → container_fault_of_table which file ≡ container_fault_except_contents which file
unfolding container_fault_of_table container_fault_except_contents
other_fault Dep file h = refl
other_fault Acl file h = refl
other_fault PkgInfo file h = refl
other_fault File file h = refl
other_fault Dir file h = refl
other_fault Scripts file h = refl
other_fault Package file h = absurd (h refl)
other_fault Index file h = refl
other_fault Idb file h = refl
other_fault Intent file h = refl

-- of a package, the tests of what follows its values come last
tests_then : (payload : Option Cause) (files : FilesRead) → option_or payload None ≡ None → option_or payload (fault_of_files_read files) ≡ fault_of_files_read files
tests_then None files h = refl
tests_then (Some c) files h = (cc)

blocks_then : (r : Reading) → blocks_fault (λ v r. remaining_blocks_fault_unless_package Package r) Package r ≡ None → blocks_fault (fault_of_contents_blocks_by_root_table Package) Package r ≡ fault_of_files_read (files_after_first_block r)
blocks_then done h = refl
blocks_then (fault c) h = refl
blocks_then (more b at r) h = tests_then (payload_fault Package b.payload) (files_after_first_block (more b at r)) h

schema_then : (s : Option Cause) (r : Reading) → option_or s (blocks_fault (λ v r. remaining_blocks_fault_unless_package Package r) Package r) ≡ None → option_or s (blocks_fault (fault_of_contents_blocks_by_root_table Package) Package r) ≡ fault_of_files_read (files_after_first_block r)
schema_then None r h = blocks_then r h
schema_then (Some c) r h = (cc)

header_then : (file : List ℕ) (h : Result ℕ Cause) → file_fault_by_header_schema_or_fault (λ v r. remaining_blocks_fault_unless_package Package r) Package file h ≡ None → file_fault_by_header_schema_or_fault (fault_of_contents_blocks_by_root_table Package) Package file h ≡ fault_of_files_read (files_after_header file h)
header_then file (Ok schema) e = schema_then (schema_fault Package schema) (block_stream_from (first_block_position_of_schema_and_file schema file)) e
header_then file (Err c) e = refl

pub files_then : (file : List ℕ) → container_fault_except_contents Package file ≡ None → package_fault file ≡ fault_of_files_read (files_read_from_package file)
unfolding container_fault_except_contents container_fault_of_table files_read_from_package
files_then file h = header_then file (schema_of_header file) h

-- and a package whose values are refused is refused by that
tests_first : (payload : Option Cause) (c : Cause) (o : Option Cause) → option_or payload None ≡ Some c → option_or payload o ≡ Some c
tests_first None c o h = (cc)
tests_first (Some d) c o h = h

blocks_first : (r : Reading) (c : Cause) → blocks_fault (λ v r. remaining_blocks_fault_unless_package Package r) Package r ≡ Some c → blocks_fault (fault_of_contents_blocks_by_root_table Package) Package r ≡ Some c
blocks_first done c h = h
blocks_first (fault d) c h = h
blocks_first (more b at r) c h = tests_first (payload_fault Package b.payload) c (fault_of_files_read (files_after_first_block (more b at r))) h

schema_first : (s : Option Cause) (r : Reading) (c : Cause) → option_or s (blocks_fault (λ v r. remaining_blocks_fault_unless_package Package r) Package r) ≡ Some c → option_or s (blocks_fault (fault_of_contents_blocks_by_root_table Package) Package r) ≡ Some c
schema_first None r c h = blocks_first r c h
schema_first (Some d) r c h = h

header_first : (file : List ℕ) (h : Result ℕ Cause) (c : Cause) → file_fault_by_header_schema_or_fault (λ v r. remaining_blocks_fault_unless_package Package r) Package file h ≡ Some c → file_fault_by_header_schema_or_fault (fault_of_contents_blocks_by_root_table Package) Package file h ≡ Some c
header_first file (Ok schema) c e = schema_first (schema_fault Package schema) (block_stream_from (first_block_position_of_schema_and_file schema file)) c e
header_first file (Err d) c e = e

pub values_first : (file : List ℕ) (c : Cause) → container_fault_except_contents Package file ≡ Some c → package_fault file ≡ Some c
unfolding container_fault_except_contents container_fault_of_table
values_first file c h = header_first file (schema_of_header file) c h

-- both in one
pub package_steps : (file : List ℕ) → package_fault file ≡ option_or (container_fault_except_contents Package file) (fault_of_files_read (files_read_from_package file))
package_steps file = by_values (container_fault_except_contents Package file) refl
  where
    by_values : (o : Option Cause) → container_fault_except_contents Package file ≡ o → package_fault file ≡ option_or o (fault_of_files_read (files_read_from_package file))
    by_values None e = files_then file e
    by_values (Some c) e = values_first file c e

-- ---- what the test of a package returns

-- a fault of its values is that of the package
pub values_refused : {A : Type 0} (file : List ℕ) (reported : PackageFault) (r : Result A PackageFault) → IsErrAnd r (λ other. other ≡ reported) → IsFaultOf reported (container_fault_except_contents Package file) → IfErr r (λ other. IsFaultOf other (package_fault file))
values_refused file reported (Ok value) is h = absurd is
values_refused file (Bad c) (Err (Bad d)) is h = let e : Bad d ≡ Bad c = is in let same : c ≡ d = (cc) in values_first file c h ∙ (λ k. Some (same k))
values_refused file Memory (Err (Bad d)) is h = absurd (let e : Bad d ≡ Memory = is in (cc))
values_refused file reported (Err Memory) is h = tt

-- if its values are good, a fault of its files is that of the package
pub files_refused : {A : Type 0} (file : List ℕ) (c : Cause) (files : FilesRead) (r : Result A PackageFault) → IsErrAnd r (λ other. other ≡ Bad c) → container_fault_except_contents Package file ≡ None → files ≡ files_read_from_package file → Some c ≡ fault_of_files_read files → IfErr r (λ other. IsFaultOf other (package_fault file))
files_refused file c files (Ok value) is good same told = absurd is
files_refused file c files (Err (Bad d)) is good same told = let e : Bad d ≡ Bad c = is in let alike : c ≡ d = (cc) in files_then file good ∙ (ap fault_of_files_read (sym same) ∙ (sym told ∙ (λ k. Some (alike k))))
files_refused file c files (Err Memory) is good same told = tt

-- if its values and its files are good, the package is
pub files_good : (file : List ℕ) (files : FilesRead) → container_fault_except_contents Package file ≡ None → files ≡ files_read_from_package file → None ≡ fault_of_files_read files → package_fault file ≡ None
files_good file files good same told = files_then file good ∙ (ap fault_of_files_read (sym same) ∙ sym told)
