-- The reads of a front, and of what is behind it.
use Rattle.std.proofs.Common.{◌≡◌, List, [], ◌∷◌, ℕ, Option, Some, None, Result, Ok, Err, refl, sym, subst}
use Rattle.std.specs.Prelude.{IfOk}
use Rattle.std.specs.Result.{IsErrAnd}
use Rattle.base_core.specs.Calls.{IfObservable}
use Rattle.base_core.specs.Faults.{Counts}
use Rattle.base_core.specs.Read.{OnlyReads}
use Rattle.base_core.specs.Tree.{TreeState, files_of}
use Rattle.base_core.specs.declared.cause.Cause.{Cause}
use Rattle.base_core.specs.declared.tree.TreeFault.{TreeFault}
use Rattle.base_core.specs.declared.tree.TreeFault.TheVariants as Trees
use Rattle.base_core.proofs.ReadAfter.{reading_off}
use Rattle.base_core.proofs.Counting.{readings_two}
use Rattle.package_reader.specs.adb_schema.declared.read.TheConstants.{PACKAGE_WORD}
use Rattle.package_reader.specs.pkg_core.Front.{IsFrontRead, front_file_len}
use Rattle.package_reader.specs.pkg_core.Seen.{IsFileOfLength, ReadsFile}
use Rattle.package_reader.specs.pkg_core.declared.front.Front.{Front}
use Rattle.package_reader.specs.pkg_core.declared.front.FrontFault.{FrontFault}
use Rattle.package_reader.specs.pkg_core.declared.front.FrontFault.TheVariants as Fronts

-- what was found under the name has the length that its front tells
pub front_there : (h : List TreeState) (name : List ℕ) (front : Front) → (found : Option (List ℕ)) × IfObservable h (λ v. found ≡ files_of v name) × IsFrontRead PACKAGE_WORD found (Ok (Some front)) → IfObservable h (IsFileOfLength name (front_file_len front))
front_there [] name front found = tt
front_there (v ∷ earlier) name front (None, told, is) = absurd is
front_there (v ∷ earlier) name front (Some file, told, is) = record { file = file; present = sym told; long = is.long }

proper_there : (h : List TreeState) (name : List ℕ) (len a b : ℕ) → IfObservable h (IsFileOfLength name len) → IfObservable h (λ v. IsFileOfLength name len v → b ≡ a) → IfObservable h (λ v. b ≡ a)
proper_there [] name len a b there proper = tt
proper_there (v ∷ earlier) name len a b there proper = proper there

-- the read of a front succeeded, told with a fault of the tree
pub front_read : {A B : Type 0} (old new : List TreeState) (a b : Counts) (value : A) (other : B) → OnlyReads {A = A} {E = FrontFault} Fronts.Disk old new a b (Ok value) → OnlyReads {A = B} {E = TreeFault} Trees.Disk old new a b (Ok other)
front_read old new a b value other h = record { same = h.same; goes_on = h.goes_on; disk = λ failed. absurd (cc); kept = h.kept; others = tt; proper = h.proper }

-- a front is read, and then the file behind it
pub front_then : {B : Type 0} (name : List ℕ) (front : Front) (h0 h1 h2 : List TreeState) (a b c : Counts) (then : Result B TreeFault) → (found : Option (List ℕ)) × IfObservable h0 (λ v. found ≡ files_of v name) × IsFrontRead PACKAGE_WORD found (Ok (Some front))
    → OnlyReads {A = Option Front} {E = FrontFault} Fronts.Disk h0 h1 a b (Ok (Some front)) → ReadsFile {A = B} {E = TreeFault} name (front_file_len front) Trees.Disk h1 h2 b c then → OnlyReads {A = B} {E = TreeFault} Trees.Disk h0 h2 a c then
front_then name front h0 h1 h2 a b c then found h k =
    let there : IfObservable h1 (IsFileOfLength name (front_file_len front)) = subst (λ (g : List TreeState). IfObservable g (IsFileOfLength name (front_file_len front))) (sym h.same) (front_there h0 name front found) in
    readings_two {A = ℕ} Trees.Disk h0 h1 h2 a b c 0 then (front_read h0 h1 a b (Some front) 0 h) (record {
      same = k.same;
      goes_on = k.goes_on;
      disk = k.disk;
      kept = k.kept;
      others = k.others;
      proper = proper_there h1 name (front_file_len front) b.misuses c.misuses there k.proper;
    })

-- a front is read, and then the reads behind it fail
pub front_then_failed : {A B : Type 0} (name : List ℕ) (front : Front) (h0 h1 h2 : List TreeState) (a b c : Counts) (fault : TreeFault) (r : Result B TreeFault) → IsErrAnd r (λ e. e ≡ fault)
    → (found : Option (List ℕ)) × IfObservable h0 (λ v. found ≡ files_of v name) × IsFrontRead PACKAGE_WORD found (Ok (Some front))
    → OnlyReads {A = Option Front} {E = FrontFault} Fronts.Disk h0 h1 a b (Ok (Some front)) → ReadsFile {A = A} {E = TreeFault} name (front_file_len front) Trees.Disk h1 h2 b c (Err fault) → OnlyReads {A = B} {E = TreeFault} Trees.Disk h0 h2 a c r
front_then_failed {A} {B} name front h0 h1 h2 a b c fault r is found h k = reading_off {A = A} {B = B} Trees.Disk h0 h2 a c fault r is (front_then {B = A} name front h0 h1 h2 a b c (Err fault) found h k)

bad_front : (c : Cause) → Fronts.Bad c ≡ Fronts.Disk → ⊥
bad_front c is = cc

front_memory : Fronts.Memory ≡ Fronts.Disk → ⊥
front_memory is = cc

tree_memory : Trees.Memory ≡ Trees.Disk → ⊥
tree_memory is = cc

-- a front that fails a test was read without a fault of the tree
pub front_refused : {A B : Type 0} (old new : List TreeState) (a b : Counts) (fault : FrontFault) (c : Cause) (value : B) → fault ≡ Fronts.Bad c → OnlyReads {A = A} {E = FrontFault} Fronts.Disk old new a b (Err fault) → OnlyReads {A = B} {E = TreeFault} Trees.Disk old new a b (Ok value)
front_refused {A} old new a b fault c value is h =
    let k = subst (λ (f : FrontFault). OnlyReads {A = A} {E = FrontFault} Fronts.Disk old new a b (Err f)) is h in
    record { same = k.same; goes_on = k.goes_on; disk = λ failed. absurd (cc); kept = k.others (bad_front c); others = tt; proper = k.proper }

-- the tree fails at the front
pub front_failed : {A B : Type 0} (old new : List TreeState) (a b : Counts) (fault : FrontFault) → fault ≡ Fronts.Disk → OnlyReads {A = A} {E = FrontFault} Fronts.Disk old new a b (Err fault) → OnlyReads {A = B} {E = TreeFault} Trees.Disk old new a b (Err Trees.Disk)
front_failed {A} old new a b fault is h =
    let k = subst (λ (f : FrontFault). OnlyReads {A = A} {E = FrontFault} Fronts.Disk old new a b (Err f)) is h in
    record { same = k.same; goes_on = k.goes_on; disk = λ failed. k.disk refl; kept = tt; others = λ other. absurd (other refl); proper = k.proper }

-- memory runs out at the front
pub front_out_of_memory : {A B : Type 0} (old new : List TreeState) (a b : Counts) (fault : FrontFault) → fault ≡ Fronts.Memory → OnlyReads {A = A} {E = FrontFault} Fronts.Disk old new a b (Err fault) → OnlyReads {A = B} {E = TreeFault} Trees.Disk old new a b (Err Trees.Memory)
front_out_of_memory {A} old new a b fault is h =
    let k = subst (λ (f : FrontFault). OnlyReads {A = A} {E = FrontFault} Fronts.Disk old new a b (Err f)) is h in
    record { same = k.same; goes_on = k.goes_on; disk = λ failed. absurd (tree_memory (let same : Trees.Memory ≡ Trees.Disk = cc in same)); kept = tt; others = λ other. k.others front_memory; proper = k.proper }

-- a call that failed has no value of which anything is to be said
pub no_value : {A E : Type 0} (P : A → Type 0) (Q : E → Type 0) (r : Result A E) → IsErrAnd r Q → IfOk r P
no_value P Q (Ok x) is = absurd is
no_value P Q (Err fault) is = tt
