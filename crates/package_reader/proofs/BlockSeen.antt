-- What was seen of a block, and what it says of each file that has these bytes.
use Rattle.std.proofs.Common.{◌≡◌, ℕ, ◌+◌, ◌-◌, ◌<◌, ◌≤◌, min, nat_le, Bool, true, false, List, [], ◌∷◌, ◌++◌, length, take, drop, Option, Some, None, Result, Ok, Err, refl, ap, sym, subst, ◌∙◌, arith}
use Rattle.std.specs.Prelude.{IfOk, IfSome, IsErrAnd}
use Rattle.std.proofs.lemmas.List.{append-nil, drop-drop, length-append, take-take}
use Rattle.base_core.specs.Calls.{IfObservable}
use Rattle.base_core.specs.Tree.{TreeState, files_of}
use Rattle.base_core.specs.declared.cause.Cause.{Cause}
use Rattle.adb_block.specs.Framing.{failed}
use Rattle.adb_block.specs.Frames.{IsHeadPrefix, head_len, raw_size}
use Rattle.adb_block.specs.declared.block.Frame.{Frame}
use Rattle.pkg_core.specs.Opened.{files_left_in_walk}
use Rattle.pkg_core.specs.Seen.{AreBytesRead, HasBytesAtOffset, IsSeenIn}
use Rattle.pkg_core.proofs.SeenBytes.{has_rest, seen_by_read, seen_then}
use Rattle.pkg_core.specs.Pieces.{pieces_read_from_blocks, refusal}
use Rattle.pkg_core.specs.Places.{HasPositions, pieces_at, reader_at_place, block_step_at}
use Rattle.pkg_core.specs.declared.place.BlockPlace.{BlockPlace}
use Rattle.adb_block.proofs.Runs.{reading_failed}
use Rattle.package_reader.specs.Blocks.{IsBlockRead, AreSeenWithinPositions, SeesPositions, head_size}
use Rattle.package_reader.specs.declared.block.BlockRead.{BlockRead}
use Rattle.package_reader.specs.declared.piece.PieceFault.{PieceFault}
use Rattle.package_reader.specs.declared.piece.PieceFault.TheVariants.{Bad, Disk}

-- ---- the positions

pub positions_seen : (h : List TreeState) (name : List ℕ) (at : ℕ) (framing : Option Frame) (frame : Frame) (bytes : List ℕ) → framing ≡ Some frame → 8 ≤ frame.payload_len → length bytes ≡ 8 → IfObservable h (λ v. IfSome (files_of v name) (λ file. bytes ≡ take 8 (drop (at + frame.head_len) file)))
    → (seen : List ℕ) × SeesPositions framing bytes seen × ((file_len : ℕ) → AreBytesRead h name file_len (at + head_size framing) seen)
positions_seen h name at framing frame bytes is room eight value =
    subst (λ (f : Option Frame). (seen : List ℕ) × SeesPositions f bytes seen × ((file_len : ℕ) → AreBytesRead h name file_len (at + head_size f) seen)) (sym is)
    (bytes, (omega (arith, room, eight), λ enough. refl), λ file_len. seen_by_read h name file_len (at + frame.head_len) 8 bytes value eight)

pub fits_in : (framing : Option Frame) (at len : ℕ) → at ≤ len → IfSome framing (λ frame. (0 < len - at) × (raw_size frame ≤ len - at)) → IfSome framing (λ frame. at + raw_size frame ≤ len)
fits_in None at len le h = tt
fits_in (Some frame) at len le h = omega (arith, le, h.1)

-- ---- the bytes

-- a header that frames a block is there whole
pub head_whole : (head : List ℕ) (frame : Frame) (left : ℕ) → IsHeadPrefix head left → length head ≤ head_len head → frame.head_len ≡ head_len head → raw_size frame ≤ left → frame.head_len ≡ length head
head_whole head frame left holds short same fits =
    let whole = holds.whole (omega (arith, same, fits)) in
    omega (arith, whole, short, same)

pub head_in : (h : List TreeState) (name head : List ℕ) (len at : ℕ) → at ≤ len → IsHeadPrefix head (len - at) → AreBytesRead h name len at head → IsSeenIn h name len at head
head_in h name head len at le holds seen = record { seen = seen; within = omega (arith, le, holds.within) }

pub block_seen : (h later : List TreeState) (name head positions seen : List ℕ) (len at : ℕ) (framing : Option Frame) → later ≡ h → at ≤ len → IsHeadPrefix head (len - at) → length head ≤ head_len head → IfSome framing (λ frame. frame.head_len ≡ head_len head) → IfSome framing (λ frame. (0 < len - at) × (raw_size frame ≤ len - at)) → AreBytesRead h name len at head → SeesPositions framing positions seen → ((file_len : ℕ) → AreBytesRead later name file_len (at + head_size framing) seen)
    → IsSeenIn h name len at (head ++ seen)
block_seen h later name head positions seen len at None same le holds short is fits first sees further =
    subst (λ (xs : List ℕ). IsSeenIn h name len at xs) (sym (ap (λ (ys : List ℕ). head ++ ys) sees ∙ append-nil head)) (head_in h name head len at le holds first)
block_seen h later name head positions seen len at (Some frame) same le holds short is fits first sees further =
    let whole = head_whole head frame (len - at) holds short is fits.1 in
    let all = length-append head seen in
    record {
      seen = seen_then h name len at (at + frame.head_len) head seen (ap (λ (n : ℕ). at + n) whole) first (subst (λ (g : List TreeState). AreBytesRead g name len (at + frame.head_len) seen) same (further len));
      within = omega (arith, whole, all, fits.1, sees.0, le);
    }

-- ---- a file

pub positions_in : (place : BlockPlace) (file head positions seen : List ℕ) (left : ℕ) (framing : Option Frame) → IsHeadPrefix head left → length head ≤ head_len head → IfSome framing (λ frame. frame.head_len ≡ head_len head) → IfSome framing (λ frame. (0 < left) × (raw_size frame ≤ left)) → length positions ≡ 8 → SeesPositions framing positions seen → HasBytesAtOffset file place.at (head ++ seen)
    → HasPositions framing positions place file
positions_in place file head positions seen left None holds short is fits eight sees has = tt
positions_in place file head positions seen left (Some frame) holds short is fits eight sees has = λ enough.
    let whole : frame.head_len ≡ length head = head_whole head frame left holds short is fits.1 in
    let there : HasBytesAtOffset file (place.at + length head) positions = subst (λ (xs : List ℕ). HasBytesAtOffset file (place.at + length head) xs) (sees.1 enough) (has_rest file place.at head seen has) in
    take-take 8 frame.payload_len (drop frame.head_len (drop place.at file)) enough
    ∙ (ap (take 8) (drop-drop frame.head_len place.at file ∙ ap (λ (n : ℕ). drop n file) (omega (arith, whole)))
    ∙ (ap (λ (n : ℕ). take n (drop (place.at + length head) file)) (sym eight) ∙ there))

positions_len : (enough : Bool) (n : ℕ) (positions seen : List ℕ) → nat_le 8 n ≡ enough → length positions ≡ 8 → length seen ≤ n → (8 ≤ n → seen ≡ positions) → length seen ≤ min 8 n
positions_len true n positions seen e eight few same =
    let room : 8 ≤ n = grind arith in
    let long : length seen ≡ 8 = ap length (same room) ∙ eight in
    omega (arith, room, long)
positions_len false n positions seen e eight few same =
    let less : n < 8 = grind arith in
    omega (arith, less, few)

pub in_block : (head positions seen : List ℕ) (left : ℕ) (framing : Option Frame) → IsHeadPrefix head left → length head ≤ head_len head → IfSome framing (λ frame. frame.head_len ≡ head_len head) → IfSome framing (λ frame. (0 < left) × (raw_size frame ≤ left)) → length positions ≡ 8 → SeesPositions framing positions seen → AreSeenWithinPositions framing (length (head ++ seen))
in_block head positions seen left None holds short is fits eight sees = tt
in_block head positions seen left (Some frame) holds short is fits eight sees =
    let whole = head_whole head frame left holds short is fits.1 in
    let all = length-append head seen in
    let few = positions_len (nat_le 8 frame.payload_len) frame.payload_len positions seen refl eight sees.0 sees.1 in
    omega (arith, whole, all, few)

-- nothing was seen
nothing_in : (found : Option (List ℕ)) (len at : ℕ) → IfSome found (λ file. length file ≡ len → HasBytesAtOffset file at [])
nothing_in None len at = tt
nothing_in (Some file) len at = λ same. refl

pub nothing_seen : (h : List TreeState) (name : List ℕ) (len at : ℕ) → at ≤ len → IsSeenIn h name len at []
nothing_seen [] name len at le = record { seen = tt; within = omega (arith, le) }
nothing_seen (v ∷ earlier) name len at le = record { seen = nothing_in (files_of v name) len at; within = omega (arith, le) }

-- ---- what is answered

pub block_failed : (place : BlockPlace) (file : List ℕ) (c : Cause) → block_step_at place file ≡ failed c → pieces_at place file ≡ refusal c
unfolding pieces_read_from_blocks
block_failed place file c step = ap (pieces_read_from_blocks (files_left_in_walk place.walk)) (reading_failed (reader_at_place place file) c step)

pub not_ok : {A : Type 0} (P : A → Type 0) (r : Result A PieceFault) (fault : PieceFault) → IsErrAnd r (λ other. other ≡ fault) → IfOk r P
not_ok P (Ok value) fault is = absurd is
not_ok P (Err other) fault is = tt

pub read_bad : (place : BlockPlace) (file : List ℕ) (c : Cause) (r : Result BlockRead PieceFault) → IsErrAnd r (λ fault. fault ≡ Bad c) → pieces_at place file ≡ refusal c → IsBlockRead place file r
read_bad place file c (Ok read) is bad = absurd is
read_bad place file c (Err (Bad d)) is bad = let e : Bad d ≡ Bad c = is in let same : c ≡ d = (cc) in bad ∙ ap refusal same
read_bad place file c (Err Disk) is bad = tt

pub read_failed : (place : BlockPlace) (file : List ℕ) (r : Result BlockRead PieceFault) → IsErrAnd r (λ fault. fault ≡ Disk) → IsBlockRead place file r
read_failed place file (Ok read) is = absurd is
read_failed place file (Err (Bad c)) is = absurd (let e : Bad c ≡ Disk = is in (cc))
read_failed place file (Err Disk) is = tt
