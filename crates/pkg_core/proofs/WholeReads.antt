-- From a file that is so long to the file under the name.
use Rattle.std.proofs.Common.{◌≡◌, ℕ, List, [], ◌∷◌, length, Option, Some, None, Result, Ok, Err, refl, sym, subst, ◌∙◌}
use Rattle.std.specs.Prelude.{IsErrAnd}
use Rattle.std.specs.Option.{option_map}
use Rattle.base_core.specs.Calls.{IfObservable, IsCounted}
use Rattle.base_core.specs.Faults.{Counts}
use Rattle.base_core.specs.Read.{OnlyReads}
use Rattle.base_core.specs.Tree.{TreeState, IsAlwaysAllowed, files_of}
use Rattle.base_core.specs.declared.tree.Disk.{Disk as DiskError}
use Rattle.base_core.proofs.Observed.{found_there}
use Rattle.base_core.proofs.ReadAfter.{sized_then}
use Rattle.pkg_core.specs.Front.{IsFrontOf, IsFrontRead, IsFrontReadOfFile}
use Rattle.pkg_core.specs.Seen.{HasBytesAtOffset, IsFileOfLength, IsSeenIn, ReadsFile}
use Rattle.pkg_core.specs.declared.front.Front.{Front}
use Rattle.pkg_core.specs.declared.front.FrontFault.{FrontFault}
use Rattle.pkg_core.specs.declared.front.FrontFault.TheVariants.{Bad, Disk, Memory}
use Rattle.pkg_core.proofs.SeenBytes.{file_with}

-- a fault that says nothing of the file
no_bad : (schema : ℕ) (found : Option (List ℕ)) (r : Result (Option Front) FrontFault) → IsErrAnd r (λ fault. fault ≡ Disk) → IsFrontRead schema found r
no_bad schema found (Ok front) is = absurd is
no_bad schema found (Err (Bad c)) is = absurd (let e : Bad c ≡ Disk = is in (cc))
no_bad schema None (Err Disk) is = tt
no_bad schema None (Err Memory) is = tt
no_bad schema (Some file) (Err Disk) is = tt
no_bad schema (Some file) (Err Memory) is = tt

pub disk_read : (schema : ℕ) (h : List TreeState) (name : List ℕ) (r : Result (Option Front) FrontFault) → IsErrAnd r (λ fault. fault ≡ Disk) → (found : Option (List ℕ)) × IfObservable h (λ v. found ≡ files_of v name) × IsFrontRead schema found r
disk_read schema h name r is = let (found, told) = found_there h name in (found, told, no_bad schema found r is)

err_in : (schema : ℕ) (file : List ℕ) (seen : ℕ) (fault : FrontFault) (r : Result (Option Front) FrontFault) → IsErrAnd r (λ other. other ≡ fault) → IsFrontReadOfFile schema (Err fault) seen file → IsFrontRead schema (Some file) r
err_in schema file seen fault (Ok front) is h = absurd is
err_in schema file seen (Bad c) (Err (Bad d)) is h = let e : Bad d ≡ Bad c = is in let same : c ≡ d = (cc) in h ∙ (λ k. Some (same k))
err_in schema file seen Disk (Err (Bad d)) is h = absurd (let e : Bad d ≡ Disk = is in (cc))
err_in schema file seen Memory (Err (Bad d)) is h = absurd (let e : Bad d ≡ Memory = is in (cc))
err_in schema file seen fault (Err Disk) is h = tt
err_in schema file seen fault (Err Memory) is h = tt

pub err_read : (schema : ℕ) (h later : List TreeState) (name seen : List ℕ) (len : ℕ) (fault : FrontFault) (r : Result (Option Front) FrontFault) → later ≡ h → IfObservable h (λ v. Some len ≡ option_map length (files_of v name)) → IsSeenIn later name len 0 seen → ((file : List ℕ) → length file ≡ len → HasBytesAtOffset file 0 seen → IsFrontReadOfFile schema (Err fault) (length seen) file) → IsErrAnd r (λ other. other ≡ fault) → (found : Option (List ℕ)) × IfObservable h (λ v. found ≡ files_of v name) × IsFrontRead schema found r
err_read schema h later name seen len fault r same size is_seen each is =
    let f = file_with h name len seen size (subst (λ (g : List TreeState). IsSeenIn g name len 0 seen) same is_seen) in
    (Some f.file, f.told, err_in schema f.file (length seen) fault r is (each f.file f.long f.has))

pub ok_read : (schema : ℕ) (h later : List TreeState) (name seen : List ℕ) (len : ℕ) (front : Front) → later ≡ h → IfObservable h (λ v. Some len ≡ option_map length (files_of v name)) → IsSeenIn later name len 0 seen → ((file : List ℕ) → length file ≡ len → HasBytesAtOffset file 0 seen → IsFrontReadOfFile schema (Ok front) (length seen) file) → (found : Option (List ℕ)) × IfObservable h (λ v. found ≡ files_of v name) × IsFrontRead schema found (Ok (Some front))
ok_read schema h later name seen len front same size is_seen each =
    let f = file_with h name len seen size (subst (λ (g : List TreeState). IsSeenIn g name len 0 seen) same is_seen) in
    (Some f.file, f.told, (each f.file f.long f.has).0)

pub ok_seen : (schema : ℕ) (h later : List TreeState) (name seen : List ℕ) (len : ℕ) (front : Front) → later ≡ h → IfObservable h (λ v. Some len ≡ option_map length (files_of v name)) → IsSeenIn later name len 0 seen → ((file : List ℕ) → length file ≡ len → HasBytesAtOffset file 0 seen → IsFrontReadOfFile schema (Ok front) (length seen) file) → front.len ≡ len → (all : List ℕ) × IsSeenIn h name front.len 0 all × (front.at ≡ length all) × ((file : List ℕ) → length file ≡ front.len → HasBytesAtOffset file 0 all → IsFrontOf schema file front)
ok_seen schema h later name seen len front same size is_seen each long =
    let here = subst (λ (g : List TreeState). IsSeenIn g name len 0 seen) same is_seen in
    let f = file_with h name len seen size here in
    (seen, subst (λ (n : ℕ). IsSeenIn h name n 0 seen) (sym long) here, (each f.file f.long f.has).1, λ file is has. (each file (is ∙ long) has).0)

-- ---- what the reads make of the tree

file_of_length : (name : List ℕ) (len : ℕ) (v : TreeState) (found : Option (List ℕ)) → files_of v name ≡ found → Some len ≡ option_map length found → IsFileOfLength name len v
file_of_length name len v None is e = absurd (cc)
file_of_length name len v (Some file) is e =
    let long : length file ≡ len = (cc) in
    record { file = file; present = is; long = long }

proper_whole : (h : List TreeState) (name : List ℕ) (len a b : ℕ) → IfObservable h (λ v. Some len ≡ option_map length (files_of v name)) → IfObservable h (λ v. IsFileOfLength name len v → b ≡ a) → IfObservable h (λ v. b ≡ a)
proper_whole [] name len a b size proper = tt
proper_whole (v ∷ earlier) name len a b size proper = proper (file_of_length name len v (files_of v name) refl size)

-- reads of a file that is so long only read the tree
whole_reads : {A E : Type 0} (name : List ℕ) (len : ℕ) (e : E) (h0 h1 : List TreeState) (a b : Counts) (r : Result A E) → IfObservable h0 (λ v. Some len ≡ option_map length (files_of v name)) → ReadsFile name len e h0 h1 a b r → OnlyReads e h0 h1 a b r
whole_reads name len e h0 h1 a b r size h = record {
  same = h.same;
  goes_on = h.goes_on;
  disk = h.disk;
  kept = h.kept;
  others = h.others;
  proper = proper_whole h0 name len a.misuses b.misuses size h.proper;
}

-- so do a call that told this length, and such reads after it
pub sized_reads : {A E : Type 0} (name : List ℕ) (len : ℕ) (e : E) (h0 h1 h2 : List TreeState) (a b c : Counts) (r : Result A E) → h1 ≡ h0 → IsCounted {T = Option ℕ} {E = DiskError} IsAlwaysAllowed h0 a b (Ok (Some len)) → IfObservable h0 (λ v. Some len ≡ option_map length (files_of v name)) → ReadsFile name len e h1 h2 b c r → OnlyReads e h0 h2 a c r
sized_reads name len e h0 h1 h2 a b c r same counted size h = sized_then e h0 h1 h2 a b c (Some len) r same counted (whole_reads name len e h1 h2 b c r (subst (λ (g : List TreeState). IfObservable g (λ v. Some len ≡ option_map length (files_of v name))) (sym same) size) h)
