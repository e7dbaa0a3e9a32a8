-- What good blocks give: the contents of each file that is expected.
use Rattle.std.proofs.Common.{◌≡◌, ℕ, Bool, true, false, not, ◌==◌, if◌then◌else◌, nat_lt, List, [], ◌∷◌, length, Option, Some, None, Result, Ok, Err, refl, sym, subst}
use Rattle.std.proofs.lemmas.Bool.{eqb-true}
use Rattle.base_core.specs.declared.cause.Cause.{Cause}
use Rattle.base_core.specs.declared.cause.Cause.TheVariants.{Truncated, DataOrder, DataSize}
use Rattle.adb_block.specs.Header.{schema_of_header}
use Rattle.adb_block.specs.Reading.{Reading, done, fault, more, block_stream_from}
use Rattle.adb_block.specs.PositionBetweenBlocks.{first_block_position_of_schema_and_file}
use Rattle.adb_block.specs.declared.block.BlockKind.{BlockKind}
use Rattle.adb_block.specs.declared.block.BlockKind.TheVariants as Kinds
use Rattle.adb_view.specs.Head.{payload_head_fault, root_word_of_payload}
use Rattle.adb_view.specs.Plain.{Plain, plain_of}
use Rattle.adb_view.specs.Schema.{shape_of}
use Rattle.adb_view.specs.Values.{value_at}
use Rattle.base_core.proofs.Causes.{first_none, second_none}
use Rattle.adb_view.specs.Walk.{shape_fault}
use Rattle.adb_schema.specs.Texts.{text_or_number_fault}
use Rattle.adb_view.specs.declared.tables.Kind.TheVariants.{Obj}
use Rattle.adb_schema.specs.Soundness.{blocks_fault, file_fault_by_header_schema_or_fault, folder_and_file_positions_from_payload, first_block_payload, payload_by_header_schema_or_fault, payload_fault, payload_in, root_value_of_payload, schema_fault}
use Rattle.adb_view.specs.declared.tables.Which.TheVariants.{Package}
use Rattle.pkg_core.specs.Contents as C
use Rattle.pkg_core.specs.Contents.{ExpectedFile, FilesRead, contents_from_block_payload, contents_of_expected, contents_fault, contents_in, expected_files_of_package, fault_of_files_read, files_read_from_blocks, fault_if_digest_is_not_of_bytes}
use Rattle.pkg_core.specs.GoodContents.{MatchEachExpectedSizeAndKnownDigest, MatchEachExpectedSizeAndDigest, MatchesExpectedSizeAndKnownDigest}
use Rattle.pkg_core.proofs.Digests.{texts_give_digests, true_contents, HasFirstValue}
use Rattle.pkg_core.specs.Whole.{fault_of_contents_blocks_by_root_table, files_after_first_block, files_after_header, files_read_from_package, package_fault, package_with_contents, container_fault_of_table}

-- the sizes agree, and then the digests
pub size_right : (b : Bool) (d : Cause) (o : Option Cause) → (if not b then Some d else o) ≡ None → (b ≡ true) × (o ≡ None)
size_right true d o h = (refl, h)
size_right false d o h = (cc)

file_right : (payload : List ℕ) (e : ExpectedFile) → C.contents_fault_for_expected_file payload e ≡ None → MatchesExpectedSizeAndKnownDigest e (contents_of_expected payload e)
file_right payload e h =
    let (order, after) = size_right (C.has_positions_of payload e) (DataOrder (e.folder, e.file) (folder_and_file_positions_from_payload payload)) _ h in
    let (size, digest) = size_right (length (contents_from_block_payload payload) == e.size) (DataSize e.size (length (contents_from_block_payload payload))) _ after in
    record { folder = refl; file = refl; size = eqb-true (length (contents_from_block_payload payload)) e.size size; hash = digest }

-- ---- block by block

block_whole : (short : Bool) (c : Cause) (o : Option Cause) → (if short then Some c else o) ≡ None → o ≡ None
block_whole true c o h = (cc)
block_whole false c o h = h

record Passed (o : Option Cause) (files : FilesRead) : Type 0 where
  passes : o ≡ None
  further : fault_of_files_read files ≡ None
  same : C.files_or_fault_alone o files ≡ files

passed : (o : Option Cause) (files : FilesRead) → fault_of_files_read (C.files_or_fault_alone o files) ≡ None → Passed o files
passed None files h = record { passes = refl; further = h; same = refl }
passed (Some c) files h = (cc)

block_given : (payload : List ℕ) (at : ℕ) (further : List ExpectedFile → FilesRead) → ((left : List ExpectedFile) → fault_of_files_read (further left) ≡ None → MatchEachExpectedSizeAndKnownDigest left (contents_in (further left))) → (es : List ExpectedFile) → Passed (C.contents_block_fault_at_offset payload at es) (C.with_contents_of_next payload further es) → MatchEachExpectedSizeAndKnownDigest es (contents_in (C.with_contents_of_next payload further es))
block_given payload at further ih [] p = absurd (let e = block_whole (nat_lt (length payload) 8) (Truncated at) (C.next_contents_fault payload []) p.passes in (cc))
block_given payload at further ih (e ∷ es) p =
    (file_right payload e (block_whole (nat_lt (length payload) 8) (Truncated at) (C.next_contents_fault payload (e ∷ es)) p.passes), ih es p.further)

block_right : (kind : BlockKind) (payload : List ℕ) (at : ℕ) (further : List ExpectedFile → FilesRead) → ((left : List ExpectedFile) → fault_of_files_read (further left) ≡ None → MatchEachExpectedSizeAndKnownDigest left (contents_in (further left))) → (es : List ExpectedFile) → fault_of_files_read (C.files_from_block_at_offset_if_contents kind payload at further es) ≡ None → MatchEachExpectedSizeAndKnownDigest es (contents_in (C.files_from_block_at_offset_if_contents kind payload at further es))
block_right Kinds.Adb payload at further ih es h = ih es h
block_right Kinds.Signature payload at further ih es h = ih es h
block_right Kinds.Contents payload at further ih es h =
    let p = passed (C.contents_block_fault_at_offset payload at es) (C.with_contents_of_next payload further es) h in
    let A : FilesRead → Type 0 = λ files. MatchEachExpectedSizeAndKnownDigest es (contents_in files) in
    subst A (sym p.same) (block_given payload at further ih es p)

none_expected : (es : List ExpectedFile) → fault_of_files_read (C.files_or_fault_alone (C.missing_contents_fault es) C.no_more) ≡ None → MatchEachExpectedSizeAndKnownDigest es (contents_in (C.files_or_fault_alone (C.missing_contents_fault es) C.no_more))
none_expected [] h = tt
none_expected (e ∷ es) h = (cc)

pub files_right : (es : List ExpectedFile) (r : Reading) → contents_fault es r ≡ None → MatchEachExpectedSizeAndKnownDigest es (contents_in (files_read_from_blocks es r))
unfolding files_read_from_blocks
files_right es done h = none_expected es h
files_right es (fault c) h = (cc)
files_right es (more b at r) h = block_right b.kind b.payload at (λ left. files_read_from_blocks left r) (λ left. files_right left r) es h

-- ---- a whole package

pub nothing_expected : expected_files_of_package (root_value_of_payload Package []) ≡ []
unfolding value_at plain_of shape_of
nothing_expected = refl

pub texts_good : (payload : List ℕ) → payload_fault Package payload ≡ None → text_or_number_fault Package (root_value_of_payload Package payload) ≡ None
texts_good payload h =
    let shape = second_none (payload_head_fault payload) _ h in
    let texts = second_none (shape_fault payload (shape_of (Obj Package)) (root_word_of_payload payload)) _ shape in
    first_none (text_or_number_fault Package (root_value_of_payload Package payload)) _ texts

blocks_true : HasFirstValue → (r : Reading) → blocks_fault (fault_of_contents_blocks_by_root_table Package) Package r ≡ None → MatchEachExpectedSizeAndDigest (expected_files_of_package (root_value_of_payload Package (first_block_payload r))) (contents_in (files_after_first_block r))
blocks_true told done h = let A : List ExpectedFile → Type 0 = λ es. MatchEachExpectedSizeAndDigest es [] in subst A (sym nothing_expected) tt
blocks_true told (fault c) h = (cc)
blocks_true told (more b at r) h =
    let v : Plain = root_value_of_payload Package b.payload in
    true_contents (expected_files_of_package v) (contents_in (files_read_from_blocks (expected_files_of_package v) r)) (texts_give_digests told v (texts_good b.payload (first_none (payload_fault Package b.payload) _ h))) (files_right (expected_files_of_package v) r (second_none (payload_fault Package b.payload) _ h))

header_true : HasFirstValue → (file : List ℕ) (h : Result ℕ Cause) → file_fault_by_header_schema_or_fault (fault_of_contents_blocks_by_root_table Package) Package file h ≡ None → MatchEachExpectedSizeAndDigest (expected_files_of_package (root_value_of_payload Package (payload_by_header_schema_or_fault file h))) (contents_in (files_after_header file h))
header_true told file (Ok schema) e = blocks_true told (block_stream_from (first_block_position_of_schema_and_file schema file)) (second_none (schema_fault Package schema) _ e)
header_true told file (Err c) e = (cc)

pub package_true : HasFirstValue → (file : List ℕ) → package_fault file ≡ None → MatchEachExpectedSizeAndDigest (expected_files_of_package (package_with_contents file).value) (package_with_contents file).contents
unfolding container_fault_of_table files_read_from_package payload_in
package_true told file h = header_true told file (schema_of_header file) h
