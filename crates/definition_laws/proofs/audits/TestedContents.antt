-- In a package that passes its tests each file has the contents that its entry lists.
use Rattle.std.proofs.Common.{◌≡◌, ℕ, List, [], None, Result, Ok, Err, sym, subst}
use Rattle.base_core.specs.declared.cause.Cause.{Cause}
use Rattle.base_core.proofs.Causes.{first_none, second_none}
use Rattle.adb_block.specs.Header.{schema_of_header}
use Rattle.adb_block.specs.Reading.{Reading, done, fault, more, block_stream_from}
use Rattle.adb_block.specs.PositionBetweenBlocks.{first_block_position_of_schema_and_file}
use Rattle.make_core.specs.adb_schema.Soundness.{blocks_fault, file_fault_by_header_schema_or_fault, first_block_payload, payload_by_header_schema_or_fault, payload_fault, payload_in, root_value_of_payload, schema_fault}
use Rattle.adb_view.specs.Plain.{Plain}
use Rattle.adb_view.specs.declared.tables.Which.TheVariants.{Package}
use Rattle.make_core.specs.pkg_core.Contents.{Contents, ExpectedFile, contents_in, expected_files_of_package}
use Rattle.make_core.specs.pkg_core.GoodContents.{MatchEachExpectedSizeAndKnownDigest, HaveValidDigestLengths}
use Rattle.make_core.specs.pkg_core.Whole.{fault_of_contents_blocks_by_root_table, files_after_first_block, files_after_header, files_read_from_package, package_fault, container_fault_of_table}
use Rattle.make_core.proofs.pkg_core.Digests.{HasFirstValue, texts_give_digests}
use Rattle.make_core.proofs.pkg_core.Given.{files_right, nothing_expected, texts_good}

-- the contents are those that the entries of a package list
abbrev pub AreListedContents : Plain → List Contents → Type 0
AreListedContents pkg contents = HaveValidDigestLengths (expected_files_of_package pkg) × MatchEachExpectedSizeAndKnownDigest (expected_files_of_package pkg) contents

blocks_listed : HasFirstValue → (r : Reading) → blocks_fault (fault_of_contents_blocks_by_root_table Package) Package r ≡ None → AreListedContents (root_value_of_payload Package (first_block_payload r)) (contents_in (files_after_first_block r))
blocks_listed told done h =
    let A : List ExpectedFile → Type 0 = λ es. HaveValidDigestLengths es × MatchEachExpectedSizeAndKnownDigest es [] in subst A (sym nothing_expected) (tt, tt)
blocks_listed told (fault c) h = absurd (cc)
blocks_listed told (more b at r) h =
    let v : Plain = root_value_of_payload Package b.payload in (
      texts_give_digests told v (texts_good b.payload (first_none (payload_fault Package b.payload) _ h)),
      files_right (expected_files_of_package v) r (second_none (payload_fault Package b.payload) _ h),
    )

header_listed : HasFirstValue → (file : List ℕ) (h : Result ℕ Cause) → file_fault_by_header_schema_or_fault (fault_of_contents_blocks_by_root_table Package) Package file h ≡ None → AreListedContents (root_value_of_payload Package (payload_by_header_schema_or_fault file h)) (contents_in (files_after_header file h))
header_listed told file (Ok schema) e = blocks_listed told (block_stream_from (first_block_position_of_schema_and_file schema file)) (second_none (schema_fault Package schema) _ e)
header_listed told file (Err c) e = absurd (cc)

pub tested_listed : HasFirstValue → (file : List ℕ) → package_fault file ≡ None → AreListedContents (root_value_of_payload Package (payload_in file)) (contents_in (files_read_from_package file))
unfolding container_fault_of_table files_read_from_package payload_in
tested_listed told file h = header_listed told file (schema_of_header file) h
