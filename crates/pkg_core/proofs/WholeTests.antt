-- The tests of a front and of its values are those of a whole file.
use Rattle.std.proofs.Common.{◌≡◌, ◌≢◌, ℕ, Bool, true, false, ◌==◌, if◌then◌else◌, List, Option, Some, None, Result, Ok, Err, refl, ap, sym, subst, ◌∙◌}
use Rattle.std.proofs.lemmas.Bool.{eqb-true}
use Rattle.base_core.specs.declared.cause.Cause.{Cause}
use Rattle.base_core.specs.declared.cause.Cause.TheVariants.{WrongSchema}
use Rattle.adb_block.specs.Header.{schema_of_header}
use Rattle.adb_block.specs.Reading.{Reading, done, fault, more, block_stream_from}
use Rattle.adb_block.specs.PositionBetweenBlocks.{first_block_position_of_schema_and_file}
use Rattle.adb_view.specs.Head.{payload_head_fault}
use Rattle.std.specs.Option.{option_or}
use Rattle.adb_view.specs.declared.tables.Which.TheVariants.{Package}
use Rattle.adb_schema.specs.Soundness.{blocks_fault, file_fault_by_header_schema_or_fault, container_fault_except_contents, first_block_payload, payload_by_header_schema_or_fault, payload_fault, payload_in, remaining_blocks_fault_unless_package, root_value_of_payload}
use Rattle.adb_schema.specs.declared.read.TheConstants.{PACKAGE_WORD}
use Rattle.pkg_core.specs.Contents.{contents_fault, expected_files_of_package}
use Rattle.pkg_core.specs.Whole.{fault_of_contents_blocks_by_root_table, container_fault, container_fault_after_header, container_fault_of_table}
use Rattle.pkg_core.specs.Front.{IsFrontOf, position_after_front, front_block_fault, front_fault, front_fault_after_header, front_payload}
use Rattle.pkg_core.specs.declared.front.Front.{Front}

told_first : (x y : Option Cause) (c : Cause) → x ≡ Some c → option_or (option_or x y) None ≡ Some c
told_first None y c h = (cc)
told_first (Some d) y c h = h

pub or_none : (x : Option Cause) → option_or x None ≡ x
or_none None = refl
or_none (Some c) = refl

blocks_alike : (r : Reading) (c : Cause) → front_block_fault r ≡ Some c → blocks_fault (λ v r. remaining_blocks_fault_unless_package Package r) Package r ≡ Some c
blocks_alike done c h = (cc)
blocks_alike (fault d) c h = h
blocks_alike (more b at r) c h = told_first (payload_head_fault b.payload) _ c h

schema_alike : (wanted : Bool) (found : ℕ) (r : Reading) (c : Cause) → (if wanted then front_block_fault r else Some (WrongSchema found)) ≡ Some c → option_or (if wanted then None else Some (WrongSchema found)) (blocks_fault (λ v r. remaining_blocks_fault_unless_package Package r) Package r) ≡ Some c
schema_alike true found r c h = blocks_alike r c h
schema_alike false found r c h = h

header_alike : (file : List ℕ) (header : Result ℕ Cause) (c : Cause) → front_fault_after_header PACKAGE_WORD file header ≡ Some c → file_fault_by_header_schema_or_fault (λ v r. remaining_blocks_fault_unless_package Package r) Package file header ≡ Some c
header_alike file (Err d) c h = h
header_alike file (Ok found) c h = schema_alike (PACKAGE_WORD == found) found (block_stream_from (first_block_position_of_schema_and_file found file)) c h

pub front_alike : (file : List ℕ) (c : Cause) → front_fault PACKAGE_WORD file ≡ Some c → container_fault_except_contents Package file ≡ Some c
unfolding front_fault container_fault_except_contents
front_alike file c h = header_alike file (schema_of_header file) c h

pub values_alike : (file : List ℕ) (front : Front) → IsFrontOf PACKAGE_WORD file front → container_fault_except_contents Package file ≡ payload_fault Package (front_payload front)
unfolding container_fault_except_contents
values_alike file front is =
    ap (file_fault_by_header_schema_or_fault (λ v r. remaining_blocks_fault_unless_package Package r) Package file) is.header
    ∙ (ap (blocks_fault (λ v r. remaining_blocks_fault_unless_package Package r) Package) is.blocks
    ∙ or_none (payload_fault Package (front_payload front)))

-- ---- the payload

pub same_payload : (file : List ℕ) (front : Front) → IsFrontOf PACKAGE_WORD file front → payload_in file ≡ front_payload front
unfolding payload_in
same_payload file front is = ap (payload_by_header_schema_or_fault file) is.header ∙ ap first_block_payload is.blocks

-- ---- a container

pub whole_by_front : (file : List ℕ) (front : Front) → IsFrontOf PACKAGE_WORD file front → container_fault file ≡ option_or (payload_fault Package (front_payload front)) (contents_fault (expected_files_of_package (root_value_of_payload Package (front_payload front))) (block_stream_from (position_after_front front file)))
unfolding container_fault container_fault_of_table
whole_by_front file front is =
    ap (container_fault_after_header file) is.header
    ∙ (ap (file_fault_by_header_schema_or_fault (fault_of_contents_blocks_by_root_table Package) Package file) is.header
    ∙ ap (blocks_fault (fault_of_contents_blocks_by_root_table Package) Package) is.blocks)

told_before : (x y : Option Cause) (c : Cause) → x ≡ Some c → option_or x y ≡ Some c
told_before None y c h = (cc)
told_before (Some d) y c h = h

front_first : (r : Reading) (c : Cause) → front_block_fault r ≡ Some c → blocks_fault (fault_of_contents_blocks_by_root_table Package) Package r ≡ Some c
front_first done c h = (cc)
front_first (fault d) c h = h
front_first (more b at r) c h = told_before _ _ c (told_before (payload_head_fault b.payload) _ c h)

package_by_schema : (wanted : Bool) (file : List ℕ) (found : ℕ) (r : Reading) (c : Cause) → (if wanted then front_block_fault r else Some (WrongSchema found)) ≡ Some c → ((other : ℕ) → c ≢ WrongSchema other) → (wanted ≡ true) × (blocks_fault (fault_of_contents_blocks_by_root_table Package) Package r ≡ Some c)
package_by_schema true file found r c h other = (refl, front_first r c h)
package_by_schema false file found r c h other = absurd (other found (let e : Some (WrongSchema found) ≡ Some c = h in (cc)))

whole_by_header : (file : List ℕ) (header : Result ℕ Cause) (c : Cause) → schema_of_header file ≡ header → front_fault_after_header PACKAGE_WORD file header ≡ Some c → ((other : ℕ) → c ≢ WrongSchema other) → container_fault_after_header file header ≡ Some c
unfolding container_fault_of_table
whole_by_header file (Err d) c is h other = h
whole_by_header file (Ok found) c is h other =
    let (wanted, first) = package_by_schema (PACKAGE_WORD == found) file found (block_stream_from (first_block_position_of_schema_and_file found file)) c h other in
    let same : PACKAGE_WORD ≡ found = eqb-true PACKAGE_WORD found wanted in
    let header : schema_of_header file ≡ Ok PACKAGE_WORD = is ∙ ap (λ (n : ℕ). Ok n) (sym same) in
    ap (λ (n : ℕ). container_fault_after_header file (Ok n)) (sym same)
    ∙ (ap (file_fault_by_header_schema_or_fault (fault_of_contents_blocks_by_root_table Package) Package file) header
    ∙ subst (λ (n : ℕ). blocks_fault (fault_of_contents_blocks_by_root_table Package) Package (block_stream_from (first_block_position_of_schema_and_file n file)) ≡ Some c) (sym same) first)

pub front_is_first : (file : List ℕ) (c : Cause) → front_fault PACKAGE_WORD file ≡ Some c → ((other : ℕ) → c ≢ WrongSchema other) → container_fault file ≡ Some c
unfolding front_fault container_fault
front_is_first file c h other = whole_by_header file (schema_of_header file) c refl h other
