-- How the result of a call that reads a tree relates to what it found.
-- No document has a rule for this: it serves the contracts of the calls of `make_core` and this crate
-- that read; *Sources* says which read finds what.
use Rattle.std.specs.Prelude.{◌≡◌, ℕ, List, Result, Ok, Err}
use Rattle.base_core.specs.Calls.{IfObservable}
use Rattle.base_core.specs.Tree.{TreeState, files_of}
use Rattle.make_info.specs.Reads.{Reads}
use Rattle.make_info.specs.declared.fault.MakeFault.{MakeFault}
use Rattle.make_info.specs.declared.fault.MakeFault.TheVariants.{Disk, Memory}

-- if the history of the tree is observable, each read finds the file that the tree has under the name in
-- its newest state
abbrev pub AreReadsOfTreeIfObservable : List TreeState → Reads → Type 0
AreReadsOfTreeIfObservable history read =
    IfObservable history (λ v. (n : ℕ) (name : List ℕ) → read n name ≡ files_of v name)

-- `P` holds of some reads; if the history of the tree is observable, these are reads of the tree
pub record HoldsOfSomeReadsOfTree (history : List TreeState) (P : Reads → Type 0) : Type 0 where
  -- the reads
  pub read : Reads
  -- if the history is observable, they are reads of the tree
  pub observed : AreReadsOfTreeIfObservable history read
  -- the property P holds of them
  pub is : P read

-- the result agrees with the specified one (`wanted`): its value `Denotes` the specified value, or its
-- fault is the specified fault. An I/O error of the tree and out of memory may occur in any case
abbrev pub AgreesOrIsFault :
    {A B : Type 0} → (A → B → Type 0) → Result A MakeFault → Result B MakeFault → Type 0
AgreesOrIsFault {A} {B} Denotes (Ok x) wanted = (y : B) × (wanted ≡ Ok y) × Denotes x y
AgreesOrIsFault Denotes (Err Disk) wanted = Unit {0}
AgreesOrIsFault Denotes (Err Memory) wanted = Unit {0}
AgreesOrIsFault Denotes (Err fault) wanted = wanted ≡ Err fault
