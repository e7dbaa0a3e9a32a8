-- The block of a file whose bytes were read where they stand.
use Rattle.std.proofs.Common.{◌≡◌, ℕ, ◌+◌, ◌-◌, ◌≤◌, Bool, true, false, if◌then◌else◌, List, [], ◌∷◌, ◌++◌, length, take, drop, take_all, drop_at, Option, Some, None, refl, ap, sym, subst, ◌∙◌, append_assoc, append-nil, arith}
use Rattle.std.specs.Option.{option_map}
use Rattle.std.specs.Prelude.{replicate, slice_range}
use Rattle.std.specs.Int.{w32, to_le_bytes}
use Rattle.std.proofs.Math.Seq.{take-append_seam}
use Rattle.std.proofs.lemmas.List.{length-append, length-drop, take-append-drop}
use Rattle.std.proofs.lemmas.List.Concat.{flat_map-cons}
use Rattle.base_core.specs.Calls.{IfObservable}
use Rattle.base_core.specs.Read.{AppendsReadBytes}
use Rattle.base_core.specs.Tree.{TreeState, files_of}
use Rattle.base_core.proofs.ReadAfter.{whole_read}
use Rattle.adb_block.specs.BlockWithoutOffset.{padding_of}
use Rattle.adb_block.specs.Written.{head_bytes}
use Rattle.adb_block.specs.declared.block.BlockKind.TheVariants as Kinds
use Rattle.adb_sound.specs.pkg_core.Contents.{Contents}
use Rattle.package_files.specs.Blocks.{HasBlockFront, contents_block, contents_blocks, contents_front}
use Rattle.package_files.specs.Package.{contents_of_file, has_contents, kind_of_file}
use Rattle.package_files.specs.declared.file.FileKind.{FileKind}

-- ---- what was read

-- the bytes from a place on, as they are shown
pub rest_is : (shown bytes : List ℕ) (at end : ℕ) → shown ≡ bytes → length shown ≤ end → slice_range shown at end ≡ drop at bytes
rest_is shown bytes at end e le = take_all (end - at) (drop at shown) (let long = length-drop at shown in omega arith) ∙ ap (drop at) e

pub kind_of_rest : (kind : FileKind) (shown bytes : List ℕ) (at end : ℕ) → kind ≡ kind_of_file (slice_range shown at end) → shown ≡ bytes → length shown ≤ end → kind ≡ kind_of_file (drop at bytes)
kind_of_rest kind shown bytes at end k e le = k ∙ ap kind_of_file (rest_is shown bytes at end e le)

-- what stands behind the front of a block
read_placed : (mid later read : List ℕ) (at : ℕ) → at ≡ length mid → later ≡ mid ++ read → drop at later ≡ read
read_placed mid later read at is behind = ap (drop at) behind ∙ drop_at mid read at (sym is)

-- a file's size, and then so many of its bytes behind others, are the file
pub file_placed : (told seen : List TreeState) (name : List ℕ) (size : Option ℕ) (n at : ℕ) (mid later : List ℕ)
    → IfObservable told (λ v. size ≡ option_map length (files_of v name)) → size ≡ Some n → seen ≡ told → at ≡ length mid
    → AppendsReadBytes seen name 0 n mid later → IfObservable told (λ v. Some (drop at later) ≡ files_of v name)
file_placed told seen name size n at mid later sized some same is h =
    subst (λ (bytes : List ℕ). IfObservable told (λ v. Some bytes ≡ files_of v name)) (sym (read_placed mid later h.read at is h.behind))
    (whole_read told seen name size n mid later sized some same h)

-- the front of a block stays in front of what is read behind it
pub front_placed : (seen : List TreeState) (name : List ℕ) (folder file n at : ℕ) (before mid later : List ℕ)
    → mid ≡ before ++ contents_front folder file n → at ≡ length mid → AppendsReadBytes seen name 0 n mid later → HasBlockFront folder file before later at
front_placed seen name folder file n at before mid later begun is h =
    let all : length later ≡ length mid + length h.read = ap length h.behind ∙ length-append mid h.read in
    let rest : n ≡ length later - at = omega (arith, h.long) in
    record {
      within = omega arith;
      front = ap (take at) h.behind
          ∙ ap (λ (k : ℕ). take k (mid ++ h.read)) is
          ∙ take-append_seam mid h.read
          ∙ begun
          ∙ ap (λ (k : ℕ). before ++ contents_front folder file k) rest;
    }

-- ---- a whole block

abbrev positions : ℕ → ℕ → List ℕ
positions folder file = to_le_bytes w32 folder ++ to_le_bytes w32 file

payload_long : (folder file : ℕ) (bytes : List ℕ) → length (to_le_bytes w32 folder ++ (to_le_bytes w32 file ++ bytes)) ≡ 8 + length bytes
payload_long folder file bytes = omega (arith, length-append (to_le_bytes w32 folder) (to_le_bytes w32 file ++ bytes), length-append (to_le_bytes w32 file) bytes)

front_long : (folder file size : ℕ) → length (contents_front folder file size) ≡ length (head_bytes Kinds.Contents (8 + size)) + 8
front_long folder file size =
    let whole = length-append (head_bytes Kinds.Contents (8 + size)) (positions folder file) in
    let both = length-append (to_le_bytes w32 folder) (to_le_bytes w32 file) in
    omega arith

abbrev zeros : ℕ → List ℕ
zeros n = replicate (padding_of n) 0

-- a header of so many bytes, what stands behind it, and zeros
abbrev headed : ℕ → List ℕ → List ℕ → List ℕ
headed n payload padding = head_bytes Kinds.Contents n ++ (payload ++ padding)

block_is : (folder file : ℕ) (bytes : List ℕ) → contents_block (record { folder = folder; file = file; bytes = bytes })
    ≡ (contents_front folder file (length bytes) ++ bytes) ++ zeros (length (contents_front folder file (length bytes)) + length bytes)
block_is folder file bytes =
    let payload : List ℕ = to_le_bytes w32 folder ++ (to_le_bytes w32 file ++ bytes) in
    let size : ℕ = 8 + length bytes in
    let head : List ℕ = head_bytes Kinds.Contents size in
    let places : List ℕ = positions folder file in
    let long = payload_long folder file bytes in
    let front = front_long folder file (length bytes) in
    let count : length head + length payload ≡ length (contents_front folder file (length bytes)) + length bytes = omega arith in
    let padding : List ℕ = zeros (length (contents_front folder file (length bytes)) + length bytes) in
    ap (λ (n : ℕ). headed n payload (zeros (length (head_bytes Kinds.Contents n) + length payload))) long
    ∙ ap (λ (n : ℕ). headed size payload (zeros n)) count
    ∙ ap (λ (l : List ℕ). head ++ (l ++ padding)) (sym (append_assoc (to_le_bytes w32 folder) (to_le_bytes w32 file) bytes))
    ∙ sym (append_assoc head (places ++ bytes) padding)
    ∙ ap (λ (l : List ℕ). l ++ padding) (sym (append_assoc head places bytes))

-- ---- one that is begun

begun_is : (folder file : ℕ) (before mid : List ℕ) (at : ℕ) → HasBlockFront folder file before mid at
    → mid ≡ before ++ (contents_front folder file (length (drop at mid)) ++ drop at mid)
begun_is folder file before mid at b =
    sym (take-append-drop at mid)
    ∙ ap (λ (l : List ℕ). l ++ drop at mid) (b.front ∙ ap (λ (n : ℕ). before ++ contents_front folder file n) (sym (length-drop at mid)))
    ∙ append_assoc before (contents_front folder file (length (drop at mid))) (drop at mid)

begun_long : (folder file : ℕ) (before mid : List ℕ) (at : ℕ) → HasBlockFront folder file before mid at
    → length mid ≡ length before + (length (contents_front folder file (length (drop at mid))) + length (drop at mid))
begun_long folder file before mid at b =
    ap length (begun_is folder file before mid at b)
    ∙ length-append before (contents_front folder file (length (drop at mid)) ++ drop at mid)
    ∙ ap (λ (n : ℕ). length before + n) (length-append (contents_front folder file (length (drop at mid))) (drop at mid))

pub begun_after : (folder file : ℕ) (before mid : List ℕ) (at : ℕ) → HasBlockFront folder file before mid at → length before ≤ length mid
begun_after folder file before mid at b = let long = begun_long folder file before mid at b in omega arith

-- ---- one that is ended

pub placed_is : (folder file : ℕ) (before mid later : List ℕ) (at : ℕ) (kind : FileKind) → HasBlockFront folder file before mid at → kind ≡ kind_of_file (drop at mid)
    → (has_contents kind ≡ false → later ≡ take (length before) mid) → (has_contents kind ≡ true → later ≡ mid ++ replicate (padding_of (length mid - length before)) 0)
    → later ≡ before ++ contents_blocks (contents_of_file folder file (drop at mid))
placed_is folder file before mid later at kind b k none padded = by (has_contents kind) refl
  where
    bytes : List ℕ
    bytes = drop at mid

    front : List ℕ
    front = contents_front folder file (length (drop at mid))

    contents : Contents
    contents = record { folder = folder; file = file; bytes = drop at mid }

    listed : (c : Bool) → has_contents kind ≡ c → contents_of_file folder file (drop at mid) ≡ (if c then contents ∷ [] else [])
    listed c e = ap (λ (t : Bool). if t then contents ∷ [] else []) (ap has_contents (sym k) ∙ e)

    by : (c : Bool) → has_contents kind ≡ c → later ≡ before ++ contents_blocks (contents_of_file folder file (drop at mid))
    by false e =
        none e ∙ ap (take (length before)) (begun_is folder file before mid at b) ∙ take-append_seam before (front ++ bytes)
        ∙ sym (append-nil before) ∙ ap (λ (l : List Contents). before ++ contents_blocks l) (sym (listed false e))
    by true e =
        let long = begun_long folder file before mid at b in
        let count : length mid - length before ≡ length (contents_front folder file (length (drop at mid))) + length (drop at mid) = omega arith in
        let padding : List ℕ = zeros (length front + length bytes) in
        padded e
        ∙ ap (λ (n : ℕ). mid ++ zeros n) count
        ∙ ap (λ (l : List ℕ). l ++ padding) (begun_is folder file before mid at b)
        ∙ append_assoc before (front ++ bytes) padding
        ∙ ap (λ (l : List ℕ). before ++ l) (sym (block_is folder file (drop at mid)) ∙ sym (append-nil (contents_block contents)) ∙ sym (flat_map-cons contents_block contents []))
        ∙ ap (λ (l : List Contents). before ++ contents_blocks l) (sym (listed true e))
