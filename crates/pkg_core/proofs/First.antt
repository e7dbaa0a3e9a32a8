-- The fault of contents that is told is the first.
use Rattle.std.proofs.Common.{◌≡◌, ℕ, zero, suc, ◌<◌, ◌≤◌, Bool, true, false, if◌then◌else◌, nat_lt, List, [], ◌∷◌, length, drop, Option, Some, None, refl, subst, ◌∙◌, arith}
use Rattle.std.specs.Prelude.{Result, Ok, Err, slice_get}
use Rattle.std.specs.Result.{result_err}
use Rattle.base_core.specs.declared.cause.Cause.{Cause}
use Rattle.base_core.specs.declared.cause.Cause.TheVariants.{Truncated}
use Rattle.adb_block.specs.AllBlocks.{blocks_of_stream, with_block}
use Rattle.adb_block.specs.BlockWithoutOffset.{BlockWithoutOffset}
use Rattle.adb_block.specs.Reading.{Reading, done, fault, more}
use Rattle.adb_block.specs.declared.block.BlockKind.{BlockKind}
use Rattle.adb_block.specs.declared.block.BlockKind.TheVariants as Kinds
use Rattle.pkg_core.specs.Contents as C
use Rattle.pkg_core.specs.Contents.{ExpectedFile, FilesRead, contents_fault, fault_of_files_read, files_read_from_blocks}
use Rattle.pkg_core.specs.FirstContents.{PlacedPayload, blocks_of_contents, contents_test_fault, with_block_if_contents, IsFirstContentsFault}

-- the first of the tests of these blocks, with this framing after them
record IsFirst (blocks : List PlacedPayload) (framing : Option Cause) (es : List ExpectedFile) (c : Cause) : Type 0 where
  pub k : ℕ
  pub reached : k ≤ length blocks
  pub fault : contents_test_fault framing (drop k es) (slice_get blocks k) ≡ Some c
  pub before : (j : ℕ) → j < k → contents_test_fault framing (drop j es) (slice_get blocks j) ≡ None

end_fault : (es : List ExpectedFile) (c : Cause) → fault_of_files_read (C.files_or_fault_alone (C.missing_contents_fault es) C.no_more) ≡ Some c → C.missing_contents_fault es ≡ Some c
end_fault [] c h = absurd cc
end_fault (e ∷ es) c h = h

whole_block : (short : Bool) (c : Cause) (o : Option Cause) → (if short then Some c else o) ≡ None → o ≡ None
whole_block true c o h = absurd cc
whole_block false c o h = h

-- a good block, and the first fault after it
one_later : (block : PlacedPayload) (blocks : List PlacedPayload) (framing : Option Cause) (e : ExpectedFile) (es : List ExpectedFile) (c : Cause) → C.contents_block_fault_at_offset block.0 block.1 (e ∷ es) ≡ None → IsFirst blocks framing es c → IsFirst (block ∷ blocks) framing (e ∷ es) c
one_later block blocks framing e es c good f =
    let reached = f.reached in
    record { k = suc f.k; reached = omega arith; fault = f.fault; before = earlier }
  where
    earlier : (j : ℕ) → j < suc f.k → contents_test_fault framing (drop j (e ∷ es)) (slice_get (block ∷ blocks) j) ≡ None
    earlier zero lt = good
    earlier (suc j) lt = f.before j (omega arith)

at_contents : (payload : List ℕ) (at : ℕ) (further : List ExpectedFile → FilesRead) (blocks : List PlacedPayload) (framing : Option Cause) (es : List ExpectedFile) (c : Cause)
    → ((left : List ExpectedFile) → fault_of_files_read (further left) ≡ Some c → IsFirst blocks framing left c)
    → (o : Option Cause) → C.contents_block_fault_at_offset payload at es ≡ o → fault_of_files_read (C.files_or_fault_alone o (C.with_contents_of_next payload further es)) ≡ Some c → IsFirst ((payload, at) ∷ blocks) framing es c
at_contents payload at further blocks framing es c ih (Some d) e h = record { k = 0; reached = omega arith; fault = e ∙ h; before = λ j lt. absurd (omega arith) }
at_contents payload at further blocks framing [] c ih None e h = absurd (let n = whole_block (nat_lt (length payload) 8) (Truncated at) (C.next_contents_fault payload []) e in cc)
at_contents payload at further blocks framing (x ∷ es) c ih None e h = one_later (payload, at) blocks framing x es c e (ih es h)

at_block : (kind : BlockKind) (payload : List ℕ) (at : ℕ) (further : List ExpectedFile → FilesRead) (blocks : List PlacedPayload) (framing : Option Cause) (es : List ExpectedFile) (c : Cause)
    → ((left : List ExpectedFile) → fault_of_files_read (further left) ≡ Some c → IsFirst blocks framing left c)
    → fault_of_files_read (C.files_from_block_at_offset_if_contents kind payload at further es) ≡ Some c → IsFirst (with_block_if_contents kind (payload, at) blocks) framing es c
at_block Kinds.Adb payload at further blocks framing es c ih h = ih es h
at_block Kinds.Signature payload at further blocks framing es c ih h = ih es h
at_block Kinds.Contents payload at further blocks framing es c ih h = at_contents payload at further blocks framing es c ih (C.contents_block_fault_at_offset payload at es) refl h

framed_after : (b : BlockWithoutOffset) (r : Result (List BlockWithoutOffset) Cause) → result_err r ≡ result_err (with_block b r)
framed_after b (Ok bs) = refl
framed_after b (Err c) = refl

first_of : (es : List ExpectedFile) (r : Reading) (c : Cause) → contents_fault es r ≡ Some c → IsFirst (blocks_of_contents r) (result_err (blocks_of_stream r)) es c
unfolding files_read_from_blocks
first_of es done c h = record { k = 0; reached = omega arith; fault = end_fault es c h; before = λ j lt. absurd (omega arith) }
first_of es (fault d) c h = record { k = 0; reached = omega arith; fault = h; before = λ j lt. absurd (omega arith) }
first_of es (more b at r) c h =
    subst (λ (f : Option Cause). IsFirst (blocks_of_contents (more b at r)) f es c) (framed_after b (blocks_of_stream r))
    (at_block b.kind b.payload at (λ left. files_read_from_blocks left r) (blocks_of_contents r) (result_err (blocks_of_stream r)) es c (λ left g. first_of left r c g) h)

pub first_told : (es : List ExpectedFile) (r : Reading) (c : Cause) → contents_fault es r ≡ Some c → IsFirstContentsFault es r c
first_told es r c h = let f = first_of es r c h in record { k = f.k; reached = f.reached; fault = f.fault; before = f.before }
