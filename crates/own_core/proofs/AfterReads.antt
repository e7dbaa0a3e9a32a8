-- What a function that only reads the tree ensures at its returns, of the tree and of the fault.
use Rattle.std.proofs.Common.{◌≡◌, List, [], ◌∷◌, Option, Some, None, Result, Ok, Err, ap, subst, ℕ}
use Rattle.std.specs.Prelude.{IsErrAnd, IsErrOf, option_map}
use Rattle.base_core.specs.Calls.{IfObservable}
use Rattle.base_core.specs.Faults.{Counts}
use Rattle.base_core.specs.Read.{OnlyReads}
use Rattle.base_core.specs.Tree.{TreeState, files_of}
use Rattle.base_core.specs.declared.tree.TreeFault.{TreeFault}
use Rattle.base_core.specs.declared.tree.TreeFault.TheVariants as TreeFaults
use Rattle.base_core.proofs.Counting.{readings_none}
use Rattle.file_owners.specs.db_core.Members.{Member}
use Rattle.own_core.specs.NamesAfter.{name_change}
use Rattle.own_core.specs.FileChange.{FileChange}
use Rattle.own_core.specs.PlanLists.{first_reserved_added_path_in_byte_order}
use Rattle.path_claim_lists.specs.path_clashes.ClashSeen.{clash_seen}
use Rattle.path_claim_lists.specs.path_clashes.FirstClash.{IsFirstClashOrNone}
use Rattle.path_claim_lists.specs.path_clashes.declared.clash.Clash.{Clash}
use Rattle.own_core.specs.Planned.{IsContestedPathFaultWithRivals, IsRefusalForMembersAlone, IsRefusalOverFiles, MayBeRefusalOf}
use Rattle.own_core.specs.FaultsSeen.{fault_of_tree}
use Rattle.own_core.specs.declared.fault.PlanFault.{PlanFault}
use Rattle.own_core.specs.declared.fault.PlanFault.TheVariants.{Disk, Memory, Owned, PathClash, Reserved}

-- a read that succeeds, followed by a success
pub read_as : {A B D E : Type 0} (disk : D) (fault : E) (old new : List TreeState) (a b : Counts) (value : A) (other : B)
    → OnlyReads disk old new a b (Ok value) → OnlyReads fault old new a b (Ok other)
read_as disk fault old new a b value other h = record {
  same = h.same;
  goes_on = h.goes_on;
  disk = λ off. absurd (cc);
  kept = h.kept;
  others = tt;
  proper = h.proper;
}

-- a read that succeeds, followed by a failure that is not that of the tree
pub read_then_fails : {A B D E : Type 0} (disk : D) (fault other : E) (old new : List TreeState) (a b : Counts) (value : A) (r : Result B E)
    → IsErrAnd r (λ e. e ≡ other) → (other ≡ fault → ⊥) → OnlyReads disk old new a b (Ok value) → OnlyReads fault old new a b r
read_then_fails disk fault other old new a b value (Ok x) is not_disk h = absurd is
read_then_fails disk fault other old new a b value (Err e) is not_disk h = record {
  same = h.same;
  goes_on = h.goes_on;
  disk = λ off. absurd (not_disk (cc));
  kept = tt;
  others = λ e. h.kept;
  proper = h.proper;
}

-- a failure without a read, which is not that of the tree
pub fails_unread : {B E : Type 0} (fault other : E) (h : List TreeState) (a : Counts) (r : Result B E) → IsErrAnd r (λ e. e ≡ other) → (other ≡ fault → ⊥) → OnlyReads fault h h a a r
fails_unread fault other h a r is not_disk = read_then_fails fault fault other h h a a fault r is not_disk (readings_none fault h a fault)

-- the fault that a result has
pub fault_is : {A E : Type 0} (other : E) (r : Result A E) → IsErrAnd r (λ e. e ≡ other) → r ≡ Err other
fault_is other (Ok x) is = absurd is
fault_is other (Err e) is = ap Err is

-- what says nothing of a tree holds of each history
pub says_nothing : (h : List TreeState) → IfObservable h (λ v. Unit {0})
says_nothing [] = tt
says_nothing (v ∷ h) = tt

-- a clash that was found is the first one over the files of the tree
pub first_found : (change : FileChange) (old new : List TreeState) (found : Option Clash) (clash : Clash) → new ≡ old → found ≡ Some clash
    → IfObservable new (λ v. IsFirstClashOrNone (name_change change (files_of v)) (files_of v) (option_map clash_seen found))
    → IfObservable old (λ v. IsFirstClashOrNone (name_change change (files_of v)) (files_of v) (Some (clash_seen clash)))
first_found change old new found clash same is told =
    subst (λ (o : Option Clash). IfObservable old (λ v. IsFirstClashOrNone (name_change change (files_of v)) (files_of v) (option_map clash_seen o))) is
    (subst (λ (h : List TreeState). IfObservable h (λ v. IsFirstClashOrNone (name_change change (files_of v)) (files_of v) (option_map clash_seen found))) same told)

-- a reported contested path is a refusal for the members, if no added member lists a reserved path
pub contest_refuses : (members : List Member) (fault : PlanFault) → first_reserved_added_path_in_byte_order members ≡ None → IsContestedPathFaultWithRivals members fault → IsRefusalForMembersAlone members fault
contest_refuses members (Reserved path) none is = absurd is
contest_refuses members (PathClash path other) none is = absurd is
contest_refuses members (Owned path first second) none is = (none, is)
contest_refuses members Disk none is = absurd is
contest_refuses members Memory none is = absurd is

-- a reported contested path is no failure of the tree
pub contest_not_disk : (members : List Member) (fault : PlanFault) → IsContestedPathFaultWithRivals members fault → fault ≡ Disk → ⊥
contest_not_disk members fault is off = subst (IsContestedPathFaultWithRivals members) off is

-- a lack of memory is no failure of the tree
pub memory_not_disk : Memory ≡ Disk → ⊥
memory_not_disk off = cc

-- nor is it one among the faults of a call of the tree
pub tree_memory_not_disk : TreeFaults.Memory ≡ TreeFaults.Disk → ⊥
tree_memory_not_disk off = cc

-- a reported reserved path is no failure of the tree
pub reserved_not_disk : (path : List ℕ) → Reserved path ≡ Disk → ⊥
reserved_not_disk path off = cc

-- a reported clash is no failure of the tree
pub clash_not_disk : (path other : List ℕ) → PathClash path other ≡ Disk → ⊥
clash_not_disk path other off = cc

-- a read that fails, as a failure that another function tells
pub read_fails : {A B D E : Type 0} (disk : D) (fault : E) (old new : List TreeState) (a b : Counts) (off : D) (r : Result B E)
    → off ≡ disk → IsErrAnd r (λ e. e ≡ fault) → OnlyReads {A = A} disk old new a b (Err off) → OnlyReads {A = B} fault old new a b r
read_fails disk fault old new a b off (Ok x) same is h = absurd is
read_fails disk fault old new a b off (Err e) same is h = record {
  same = h.same;
  goes_on = h.goes_on;
  disk = λ failed. h.disk (as_err off disk same);
  kept = tt;
  others = λ not_disk. absurd (not_disk is);
  proper = h.proper;
}
  where
    as_err : {X Y : Type 0} (x y : Y) → x ≡ y → IsErrOf {T = X} {E = Y} (Err x) y
    as_err x y same = λ j. Err (same j)

-- a fault of the tree says nothing of its files
pub tree_over_files : (change : FileChange) (h : List TreeState) (failed : TreeFault) → IfObservable h (λ v. IsRefusalOverFiles change (files_of v) (fault_of_tree failed))
tree_over_files change [] failed = tt
tree_over_files change (v ∷ h) TreeFaults.Disk = tt
tree_over_files change (v ∷ h) TreeFaults.Memory = tt

-- nor does it over any tree
pub tree_over_any : (change : FileChange) (h : List TreeState) (failed : TreeFault) → MayBeRefusalOf change h (fault_of_tree failed)
tree_over_any change h TreeFaults.Disk = tt
tree_over_any change h TreeFaults.Memory = tt

-- of the members it says at most that no added member lists a reserved path
pub tree_of_members : (members : List Member) (failed : TreeFault) → first_reserved_added_path_in_byte_order members ≡ None → IsRefusalForMembersAlone members (fault_of_tree failed)
tree_of_members members TreeFaults.Disk none = none
tree_of_members members TreeFaults.Memory none = tt
