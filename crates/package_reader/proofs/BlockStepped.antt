-- What a block comes to, by what was read of it.
use Rattle.std.proofs.Common.{◌≡◌, ℕ, ◌+◌, ◌-◌, ◌<◌, ◌≤◌, Bool, true, false, ◌==◌, if◌then◌else◌, ◌||◌, nat_lt, List, [], ◌∷◌, length, take, drop, Option, Some, None, Ok, refl, ap, sym, subst, ◌∙◌, arith}
use Rattle.std.specs.Prelude.{IfSome, OnOk}
use Rattle.std.proofs.lemmas.List.{drop-drop, drop-take}
use Rattle.base_core.specs.declared.Cause.{Cause}
use Rattle.base_core.specs.declared.Cause.TheVariants.{BlockOrder}
use Rattle.adb_block.specs.Framing.{HeadFields, block, failed, block_head_fields, kind_of_number, next_block_result_at_offset, next_block_result_at_file_end, next_block_result_by_header, next_block_result_by_kind_order, next_block_result_by_raw_size}
use Rattle.adb_block.specs.Frames.{IsFrameOrEndOfBlockResult, framed_piece, raw_size}
use Rattle.adb_block.specs.BlockWithoutOffset.{BlockWithoutOffset, may_be_next_kind, least_payload_len, padding_of}
use Rattle.adb_block.specs.Reading.{block_stream_from}
use Rattle.adb_block.specs.declared.block.BlockKind.{BlockKind}
use Rattle.adb_block.specs.declared.block.BlockKind.TheVariants as Kinds
use Rattle.adb_block.proofs.Runs.{reading_more}
use Rattle.adb_block.specs.declared.block.Frame.{Frame}
use Rattle.pkg_core.specs.Contents.{contents_from_block_payload}
use Rattle.pkg_core.specs.Contents.{ExpectedFile}
use Rattle.pkg_core.specs.Opened.{expected_of, files_left_in_walk}
use Rattle.pkg_core.specs.declared.walk.Walk.{Walk}
use Rattle.pkg_core.specs.Pieces.{no_piece, pieces_read_from_blocks}
use Rattle.pkg_core.specs.Places.{HasWholeFileLeft, OpensOnlyContents, IsStepResult, IsWalkAfterStep, payload_at, pieces_at, reader_at_place, block_step_at, whole_size}
use Rattle.pkg_core.specs.Taking.{HasTaken, file_bytes_left, pieces_in}
use Rattle.pkg_core.specs.declared.file.FileCheck.{FileCheck}
use Rattle.pkg_core.specs.declared.place.BlockPlace.{BlockPlace}
use Rattle.pkg_core.specs.declared.place.Step.TheVariants.{End as EndStep, Opened as OpenedStep, Passed as PassedStep}
use Rattle.package_reader.specs.Blocks.{AreSeenWithinPositions, head_size}
use Rattle.package_reader.specs.Opened.{IsOpenFile, unread_bytes}
use Rattle.package_reader.specs.declared.open.OpenFile.{OpenFile}

-- the payload's bytes after the positions
pub contents_at : (place : BlockPlace) (frame : Frame) (file : List ℕ) (n : ℕ) → 8 + n ≡ frame.payload_len → contents_from_block_payload (payload_at frame place file) ≡ take n (drop (place.at + frame.head_len + 8) file)
contents_at place frame file n is =
    ap (λ (k : ℕ). drop 8 (take k (drop frame.head_len (drop place.at file)))) (sym is)
    ∙ (drop-take 8 n (drop frame.head_len (drop place.at file))
    ∙ (ap (λ (xs : List ℕ). take n (drop 8 xs)) (drop-drop frame.head_len place.at file)
    ∙ ap (take n) (drop-drop 8 (place.at + frame.head_len) file)))

pub opens : (before after : BlockPlace) (framing : Option Frame) (file : List ℕ) (o : OpenFile) (f : FileCheck) → o.file ≡ f → o.at ≡ before.at + head_size framing + 8 → IfSome framing (λ frame. HasWholeFileLeft frame (OpenedStep f)) → IsStepResult framing before file (Ok (OpenedStep f)) after → IsOpenFile o [] file (pieces_at after file) (pieces_at before file)
opens before after None file o f is at left step = absurd step
opens before after (Some frame) file o f is at left step = by_file o is at
  where
    by_file : (o : OpenFile) → o.file ≡ f → o.at ≡ before.at + frame.head_len + 8 → IsOpenFile o [] file (pieces_at after file) (pieces_at before file)
    by_file o is at =
        let come : contents_from_block_payload (payload_at frame before file) ≡ unread_bytes o file = contents_at before frame file (file_bytes_left f) left ∙ (ap (λ (n : ℕ). take (file_bytes_left f) (drop n file)) (sym at) ∙ ap (λ g. take (file_bytes_left g) (drop o.at file)) (sym is)) in
        record {
          taken = subst (λ g. HasTaken g []) (sym is) step.1;
          long = ap length (sym come) ∙ (step.2 ∙ ap (λ g. g.wanted.size) (sym is));
          come = step.0 ∙ (ap (λ (xs : List ℕ). pieces_in f [] xs (pieces_at after file)) come ∙ ap (λ g. pieces_in g [] (unread_bytes o file) (pieces_at after file)) (sym is));
        }

-- an offset in a file fits in 64 bits, and so does that of the contents' own bytes
pub opens_within : (framing : Option Frame) (at : ℕ) (f : FileCheck) → (framing ≡ None → OpenedStep f ≡ EndStep) → IfSome framing (λ frame. at + raw_size frame < 18446744073709551616) → IfSome framing (λ frame. HasWholeFileLeft frame (OpenedStep f)) → at + head_size framing + 8 < 18446744073709551616
opens_within None at f ended small left = absurd (let e : OpenedStep f ≡ EndStep = ended refl in (cc))
opens_within (Some frame) at f ended small left = omega (arith, small, left)

-- ---- where what was seen ends

pub passed_ends : (framing : Option Frame) (at to seen left : ℕ) → (framing ≡ None → PassedStep ≡ EndStep) → AreSeenWithinPositions framing seen → IfSome framing (λ frame. to ≡ at + whole_size frame left) → at + seen ≤ to
passed_ends None at to seen left ended within behind = absurd (let e : PassedStep ≡ EndStep = ended refl in (cc))
passed_ends (Some frame) at to seen left ended within behind = omega (arith, within, behind)

pub opened_ends : (framing : Option Frame) (f : FileCheck) (at to seen : ℕ) → (framing ≡ None → OpenedStep f ≡ EndStep) → AreSeenWithinPositions framing seen → to ≡ at + head_size framing + 8 → at + seen ≤ to
opened_ends None f at to seen ended within located = absurd (let e : OpenedStep f ≡ EndStep = ended refl in (cc))
opened_ends (Some frame) f at to seen ended within located = omega (arith, within, located)

-- ---- the other answers

pub passes : (framing : Option Frame) (before after : BlockPlace) (file : List ℕ) → IsStepResult framing before file (Ok PassedStep) after → pieces_at before file ≡ pieces_at after file
passes None before after file step = step
passes (Some frame) before after file step = step

pub ends : (framing : Option Frame) (before after : BlockPlace) (file : List ℕ) → IsStepResult framing before file (Ok EndStep) after → pieces_at before file ≡ no_piece
ends None before after file step = step
ends (Some frame) before after file step = step

pub walks_on : (before after : Walk) (f : FileCheck) (o : OpenFile) → o.file ≡ f → IsWalkAfterStep before (OpenedStep f) after → files_left_in_walk before ≡ expected_of o.file.wanted ∷ files_left_in_walk after
walks_on before after f o is on = on ∙ ap (λ (g : FileCheck). expected_of g.wanted ∷ files_left_in_walk after) (sym is)
