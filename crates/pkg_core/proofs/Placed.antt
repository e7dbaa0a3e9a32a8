-- What the block at a place comes to.
use Rattle.std.proofs.Common.{◌≡◌, ◌≢◌, ◌⊎◌, inl, inr, ℕ, ◌+◌, ◌-◌, ◌<◌, ◌≤◌, min, Bool, true, false, nat_lt, if◌then◌else◌, List, length, drop, Option, Some, None, refl, ap, sym, subst, ◌∙◌, arith}
use Rattle.std.proofs.lemmas.Bool.{lt-ltb, le-ltb}
use Rattle.std.proofs.lemmas.List.{drop-drop, length-drop, length-take}
use Rattle.base_core.specs.declared.cause.Cause.{Cause}
use Rattle.base_core.specs.declared.cause.Cause.TheVariants.{Truncated}
use Rattle.adb_block.specs.Framing.{ended, block}
use Rattle.adb_block.specs.Frames.{framed_piece, raw_size}
use Rattle.adb_block.specs.BlockWithoutOffset.{padding_of}
use Rattle.adb_block.specs.Reading.{more, block_stream_from}
use Rattle.adb_block.specs.declared.block.BlockKind.{BlockKind}
use Rattle.adb_block.specs.declared.block.BlockKind.TheVariants as Kinds
use Rattle.adb_block.specs.declared.block.Frame.{Frame}
use Rattle.pkg_core.specs.Contents.{ExpectedFile, missing_contents_fault}
use Rattle.pkg_core.specs.Opened.{files_left_in_walk}
use Rattle.pkg_core.specs.Pieces.{PiecesRead, no_piece, refusal, pieces_at_block, pieces_read_from_blocks, pieces_of_payload, pieces_or_fault_alone}
use Rattle.pkg_core.specs.Places.{payload_at, pieces_at, place_after, reader_at_place, block_step_at, whole_size}
use Rattle.pkg_core.specs.declared.place.BlockPlace.{BlockPlace}
use Rattle.adb_block.proofs.Runs.{reading_ended, reading_more}
use Rattle.pkg_core.proofs.BlockRuns.{reading_cut}

-- ---- no block

at_end : (place : BlockPlace) (file : List ℕ) (d : Option Cause) → block_step_at place file ≡ ended → d ≡ missing_contents_fault (files_left_in_walk place.walk) → pieces_at place file ≡ pieces_or_fault_alone d no_piece
unfolding pieces_read_from_blocks
at_end place file d step same =
    ap (pieces_read_from_blocks (files_left_in_walk place.walk)) (reading_ended (reader_at_place place file) step) ∙ ap (λ (c : Option Cause). pieces_or_fault_alone c no_piece) (sym same)

pub end_good : (place : BlockPlace) (file : List ℕ) → block_step_at place file ≡ ended → None ≡ missing_contents_fault (files_left_in_walk place.walk) → pieces_at place file ≡ no_piece
end_good place file step same = at_end place file None step same

pub end_bad : (place : BlockPlace) (file : List ℕ) (c : Cause) → block_step_at place file ≡ ended → Some c ≡ missing_contents_fault (files_left_in_walk place.walk) → pieces_at place file ≡ refusal c
end_bad place file c step same = at_end place file (Some c) step same

-- ---- a block

abbrev pub further : BlockPlace → Frame → List ℕ → List ExpectedFile → PiecesRead
further place frame file es = pieces_read_from_blocks es (block_stream_from (reader_at_place (place_after place frame) file))

behind_block : (place : BlockPlace) (frame : Frame) (file : List ℕ) → length file ≡ place.len → raw_size frame ≤ place.len - place.at → block_step_at place file ≡ block (framed_piece frame (drop place.at file)) (raw_size frame + padding_of (raw_size frame))
    → block_stream_from (reader_at_place place file) ≡ more (framed_piece frame (drop place.at file)) place.at (block_stream_from (reader_at_place (place_after place frame) file))
behind_block place frame file long fits step =
    let left : length (drop place.at file) ≡ place.len - place.at = length-drop place.at file ∙ ap (λ (n : ℕ). n - place.at) long in
    let room : raw_size frame ≤ length (drop place.at file) = subst (λ (n : ℕ). raw_size frame ≤ n) (sym left) fits in
    let size : raw_size frame + min (padding_of (raw_size frame)) (length (drop place.at file) - raw_size frame) ≡ whole_size frame (place.len - place.at) = ap (λ (n : ℕ). whole_size frame n) left in
    let rest : drop (whole_size frame (place.len - place.at)) (drop place.at file) ≡ drop (place.at + whole_size frame (place.len - place.at)) file = drop-drop (whole_size frame (place.len - place.at)) place.at file ∙ ap (λ (n : ℕ). drop n file) (omega arith) in
    reading_more (reader_at_place place file) (framed_piece frame (drop place.at file)) (raw_size frame + padding_of (raw_size frame)) step
    ∙ (ap (more (framed_piece frame (drop place.at file)) place.at) (reading_cut (reader_at_place place file) frame.kind (raw_size frame) (padding_of (raw_size frame)) room)
    ∙ (ap (λ (n : ℕ). more (framed_piece frame (drop place.at file)) place.at (block_stream_from (record { schema = 0; last = Some frame.kind; at = place.at + n; left = drop n (drop place.at file) }))) size
    ∙ ap (λ (xs : List ℕ). more (framed_piece frame (drop place.at file)) place.at (block_stream_from (record { schema = 0; last = Some frame.kind; at = place.at + whole_size frame (place.len - place.at); left = xs }))) rest))

at_block : (place : BlockPlace) (frame : Frame) (file : List ℕ) → length file ≡ place.len → raw_size frame ≤ place.len - place.at → block_step_at place file ≡ block (framed_piece frame (drop place.at file)) (raw_size frame + padding_of (raw_size frame))
    → pieces_at place file ≡ pieces_at_block frame.kind (payload_at frame place file) place.at (further place frame file) (files_left_in_walk place.walk)
unfolding pieces_read_from_blocks
at_block place frame file long fits step = ap (pieces_read_from_blocks (files_left_in_walk place.walk)) (behind_block place frame file long fits step)

no_contents : (kind : BlockKind) (payload : List ℕ) (at : ℕ) (f : List ExpectedFile → PiecesRead) (es : List ExpectedFile) → kind ≢ Kinds.Contents → pieces_at_block kind payload at f es ≡ f es
no_contents Kinds.Adb payload at f es other = refl
no_contents Kinds.Signature payload at f es other = refl
no_contents Kinds.Contents payload at f es other = absurd (other refl)

pub other_kind : (kind : BlockKind) → (kind ≡ Kinds.Adb) ⊎ (kind ≡ Kinds.Signature) → kind ≢ Kinds.Contents
other_kind kind (inl is) = λ same. let e : Kinds.Adb ≡ Kinds.Contents = sym is ∙ same in (cc)
other_kind kind (inr is) = λ same. let e : Kinds.Signature ≡ Kinds.Contents = sym is ∙ same in (cc)

pub passed : (place : BlockPlace) (frame : Frame) (file : List ℕ) → length file ≡ place.len → raw_size frame ≤ place.len - place.at → block_step_at place file ≡ block (framed_piece frame (drop place.at file)) (raw_size frame + padding_of (raw_size frame)) → frame.kind ≢ Kinds.Contents
    → pieces_at place file ≡ pieces_at (place_after place frame) file
passed place frame file long fits step other =
    at_block place frame file long fits step ∙ no_contents frame.kind (payload_at frame place file) place.at (further place frame file) (files_left_in_walk place.walk) other

pub payload_len : (place : BlockPlace) (frame : Frame) (file : List ℕ) → length file ≡ place.len → raw_size frame ≤ place.len - place.at → length (payload_at frame place file) ≡ frame.payload_len
payload_len place frame file long fits =
    let a = length-take frame.payload_len (drop frame.head_len (drop place.at file)) in
    let b = length-drop frame.head_len (drop place.at file) in
    let c = length-drop place.at file in
    omega (arith, a, b, c, long, fits)

contents_of_expected : (few : Bool) (payload : List ℕ) (at : ℕ) (f : List ExpectedFile → PiecesRead) (es : List ExpectedFile) → nat_lt (length payload) 8 ≡ few → pieces_at_block Kinds.Contents payload at f es ≡ (if few then refusal (Truncated at) else pieces_of_payload payload f es)
contents_of_expected few payload at f es e = rw e refl

at_contents : (place : BlockPlace) (frame : Frame) (file : List ℕ) (few : Bool) → length file ≡ place.len → raw_size frame ≤ place.len - place.at → block_step_at place file ≡ block (framed_piece frame (drop place.at file)) (raw_size frame + padding_of (raw_size frame)) → frame.kind ≡ Kinds.Contents → nat_lt (length (payload_at frame place file)) 8 ≡ few
    → pieces_at place file ≡ (if few then refusal (Truncated place.at) else pieces_of_payload (payload_at frame place file) (further place frame file) (files_left_in_walk place.walk))
at_contents place frame file few long fits step is e =
    at_block place frame file long fits step
    ∙ (ap (λ (k : BlockKind). pieces_at_block k (payload_at frame place file) place.at (further place frame file) (files_left_in_walk place.walk)) is
    ∙ contents_of_expected few (payload_at frame place file) place.at (further place frame file) (files_left_in_walk place.walk) e)

pub too_short : (place : BlockPlace) (frame : Frame) (file : List ℕ) → length file ≡ place.len → raw_size frame ≤ place.len - place.at → block_step_at place file ≡ block (framed_piece frame (drop place.at file)) (raw_size frame + padding_of (raw_size frame)) → frame.kind ≡ Kinds.Contents → frame.payload_len < 8
    → pieces_at place file ≡ refusal (Truncated place.at)
too_short place frame file long fits step is few =
    let len = payload_len place frame file long fits in
    at_contents place frame file true long fits step is (lt-ltb _ _ (omega (arith, len)))

pub opened : (place : BlockPlace) (frame : Frame) (file : List ℕ) → length file ≡ place.len → raw_size frame ≤ place.len - place.at → block_step_at place file ≡ block (framed_piece frame (drop place.at file)) (raw_size frame + padding_of (raw_size frame)) → frame.kind ≡ Kinds.Contents → 8 ≤ frame.payload_len
    → pieces_at place file ≡ pieces_of_payload (payload_at frame place file) (further place frame file) (files_left_in_walk place.walk)
opened place frame file long fits step is enough =
    let len = payload_len place frame file long fits in
    at_contents place frame file false long fits step is (le-ltb _ _ (omega (arith, len)))
