-- What was seen of a front, read by read, and what it says of each file that has these bytes.
use Rattle.std.proofs.Common.{◌≡◌, ℕ, ◌+◌, ◌-◌, ◌^◌, ◌<◌, ◌≤◌, min, List, [], ◌∷◌, ◌++◌, length, Option, Some, None, Result, Ok, Err, refl, ap, sym, subst, ◌∙◌, arith}
use Rattle.std.specs.Prelude.{IfSome, IsErrAnd}
use Rattle.std.proofs.lemmas.List.{length-append}
use Rattle.base_core.specs.declared.cause.Cause.{Cause}
use Rattle.base_core.specs.Tree.{TreeState, files_of}
use Rattle.pkg_core.specs.Front.{IsDiskOrMemoryFault, IsFrontReadOfFile, front_fault}
use Rattle.pkg_core.specs.Seen.{AreBytesRead, HasBytesAtOffset, IsSeenIn}
use Rattle.pkg_core.specs.declared.front.Front.{Front}
use Rattle.pkg_core.specs.declared.front.FrontFault.{FrontFault}
use Rattle.pkg_core.specs.declared.front.FrontFault.TheVariants.{Bad, Disk, Memory}
use Rattle.adb_block.specs.Header.{schema_of_header}
use Rattle.pkg_core.proofs.HeaderFront.{header_front}
use Rattle.pkg_core.proofs.SeenBytes.{IsFilled, filled, seen_then}

-- ---- the bytes

pub header_seen : (h : List TreeState) (name header : List ℕ) (len : ℕ) → length header ≡ min len 8 → AreBytesRead h name len 0 header → IsSeenIn h name len 0 header
header_seen h name header len n seen = record { seen = seen; within = omega arith }

pub head_seen : (h later : List TreeState) (name header head : List ℕ) (len : ℕ) → later ≡ h → length header ≡ 8 → 8 + length head ≤ len → AreBytesRead h name len 0 header → AreBytesRead later name len 8 head → IsSeenIn h name len 0 (header ++ head)
head_seen h later name header head len same n le seen further =
    let m = length-append header head in
    record {
      seen = seen_then h name len 0 8 header head (omega arith) seen (subst (λ (g : List TreeState). AreBytesRead g name len 8 head) same further);
      within = omega arith;
    }

pub payload_seen : (h later : List TreeState) (name front payload : List ℕ) (len at : ℕ) → later ≡ h → at ≡ length front → at + length payload ≤ len → IsSeenIn h name len 0 front → AreBytesRead later name len at payload → IsSeenIn h name len 0 (front ++ payload)
payload_seen h later name front payload len at same n le seen further =
    let m = length-append front payload in
    record {
      seen = seen_then h name len 0 at front payload (omega (arith, n)) seen.seen (subst (λ (g : List TreeState). AreBytesRead g name len at payload) same further);
      within = omega arith;
    }

-- ---- what is answered

pub present_bad : (schema : ℕ) (r : Result Front FrontFault) (seen : ℕ) (file : List ℕ) (c : Cause) → IsErrAnd r (λ fault. fault ≡ Bad c) → front_fault schema file ≡ Some c → IsFrontReadOfFile schema r seen file
present_bad schema (Ok front) seen file c is bad = absurd is
present_bad schema (Err (Bad d)) seen file c is bad = let e : Bad d ≡ Bad c = is in let same : c ≡ d = (cc) in subst (λ (x : Cause). front_fault schema file ≡ Some x) same bad
present_bad schema (Err Disk) seen file c is bad = tt
present_bad schema (Err Memory) seen file c is bad = tt

-- an I/O error is no failed test
pub disk_no_test : (fault : FrontFault) → fault ≡ Disk → IsDiskOrMemoryFault fault
disk_no_test (Bad c) e = absurd (cc)
disk_no_test Disk e = tt
disk_no_test Memory e = tt

-- an error that is no failed test says nothing about the file
present_other : (schema : ℕ) (r : Result Front FrontFault) (seen : ℕ) (file : List ℕ) (fault : FrontFault) → IsErrAnd r (λ other. other ≡ fault) → IsDiskOrMemoryFault fault → IsFrontReadOfFile schema r seen file
present_other schema (Ok front) seen file fault is other = absurd is
present_other schema (Err (Bad d)) seen file (Bad c) is other = absurd other
present_other schema (Err (Bad d)) seen file Disk is other = absurd (let e : Bad d ≡ Disk = is in (cc))
present_other schema (Err (Bad d)) seen file Memory is other = absurd (let e : Bad d ≡ Memory = is in (cc))
present_other schema (Err Disk) seen file fault is other = tt
present_other schema (Err Memory) seen file fault is other = tt

none_in : (found : Option (List ℕ)) (len : ℕ) → IfSome found (λ file. length file ≡ len → HasBytesAtOffset file 0 [])
none_in None len = tt
none_in (Some file) len = λ same. refl

-- no bytes are seen in each file
nothing_seen : (h : List TreeState) (name : List ℕ) (len : ℕ) → IsSeenIn h name len 0 []
nothing_seen [] name len = record { seen = tt; within = omega arith }
nothing_seen (v ∷ earlier) name len = record { seen = none_in (files_of v name) len; within = omega arith }

-- after such an error no byte has to be known
pub present_unseen : (h : List TreeState) (name : List ℕ) (len schema : ℕ) (r : Result Front FrontFault) (fault : FrontFault) → IsErrAnd r (λ other. other ≡ fault) → IsDiskOrMemoryFault fault → (seen : List ℕ) × IsSeenIn h name len 0 seen × ((file : List ℕ) → length file ≡ len → HasBytesAtOffset file 0 seen → IsFrontReadOfFile schema r (length seen) file)
present_unseen h name len schema r fault is other = ([], nothing_seen h name len, λ file long has. present_other schema r 0 file fault is other)

pub bad_not_disk : (c : Cause) → Bad c ≡ Disk → ⊥
bad_not_disk c e = (cc)

-- ---- the header

pub header_is : (file header : List ℕ) (len schema found : ℕ) → length header ≡ min len 8 → length file ≡ len → HasBytesAtOffset file 0 header → schema_of_header header ≡ Ok found → found ≡ schema → schema_of_header file ≡ Ok schema
header_is file header len schema found n long has is same = sym (header_front file header len n long has) ∙ (is ∙ ap (λ (k : ℕ). Ok k) same)

-- ---- the padding, which nobody reads

pub padded : (h : List TreeState) (name : List ℕ) (len n : ℕ) (bytes : List ℕ) → IsSeenIn h name len 0 bytes → length bytes + n ≤ len → IsFilled h name len 0 n bytes
padded h name len n bytes seen le = filled h name len 0 n bytes seen.seen (omega (arith, le))

-- ---- where the parts of a front begin and end, if the header is whole

-- the header has eight bytes
pub header_whole : (n len : ℕ) → n ≡ min len 8 → 8 ≤ n → n ≡ 8
header_whole n len is whole = omega arith

-- the file has these bytes
pub header_fits : (n len : ℕ) → n ≡ min len 8 → 8 ≤ n → 8 ≤ len
header_fits n len is whole = omega arith

-- the rest of the file ends where the file ends
pub rest_fits : (n len : ℕ) → n ≡ min len 8 → 8 ≤ n → 8 + (len - 8) ≤ len
rest_fits n len is whole = omega arith

-- what fits into the rest of the file ends within the file
pub part_fits : (n len size : ℕ) → n ≡ min len 8 → 8 ≤ n → size ≤ len - 8 → 8 + size ≤ len
part_fits n len size is whole fits = omega arith

-- so do the `k` bytes of the header of a block that fits
pub head_fits : (n len size payload k : ℕ) → n ≡ min len 8 → 8 ≤ n → size + payload ≤ len - 8 → size ≡ k → 8 + k ≤ len
head_fits n len size payload k is whole fits same = omega arith

-- so do the `k` bytes of its payload
pub payload_fits : (n len size payload k : ℕ) → n ≡ min len 8 → 8 ≤ n → size + payload ≤ len - 8 → k ≡ payload → 8 + size + k ≤ len
payload_fits n len size payload k is whole fits same = omega arith

-- the payload begins after both headers
pub payload_start : (header head : List ℕ) (size : ℕ) → length header ≡ 8 → size ≡ length head → 8 + size ≡ length (header ++ head)
payload_start header head size long same =
    let both = length-append header head in
    omega arith

-- the padding ends within the file
pub padding_fits : (n len size k most padding : ℕ) (front payload : List ℕ) → n ≡ min len 8 → 8 ≤ n → size + k ≤ len - 8 → padding ≡ min most (len - 8 - (size + k)) → 8 + size ≡ length front → length payload ≡ k → length (front ++ payload) + padding ≤ len
padding_fits n len size k most padding front payload is whole fits pad starts long =
    let both = length-append front payload in
    omega arith

-- further bytes that end within the file are seen in the file
pub further_fits : (bytes further : List ℕ) (n len : ℕ) → length further ≡ n → length bytes + n ≤ len → 0 + length (bytes ++ further) ≤ len
further_fits bytes further n len long fits =
    let both = length-append bytes further in
    omega arith

-- the front ends where its parts end
pub front_ends : (front payload further : List ℕ) (size k padding : ℕ) → 8 + size ≡ length front → length payload ≡ k → length further ≡ padding → 8 + size + k + padding ≡ length ((front ++ payload) ++ further)
front_ends front payload further size k padding starts long behind =
    let both = length-append front payload in
    let all = length-append (front ++ payload) further in
    omega arith

pub eight_last : (a b c : ℕ) → 8 + a + b + c ≡ 8 + (a + b + c)
eight_last a b c = omega arith

-- ---- in a file whose length has 64 bits, each of these offsets has 64 bits

pub start_64 : (len size k : ℕ) → len < 2 ^ 64 → size + k ≤ len - 8 → 8 + size < 2 ^ 64
start_64 len size k short fits = omega arith

pub end_64 : (len size k : ℕ) → len < 2 ^ 64 → size + k ≤ len - 8 → 8 + size + k < 2 ^ 64
end_64 len size k short fits = omega arith

pub padded_64 : (len size k most padding : ℕ) → len < 2 ^ 64 → size + k ≤ len - 8 → padding ≡ min most (len - 8 - (size + k)) → 8 + size + k + padding < 2 ^ 64
padded_64 len size k most padding short fits pad = omega arith
