-- What the calls that make a package ensure of their results.
-- No document has a rule for this: it serves the contracts of `src/packages` and of `src/commands.rt`. What is made is
-- defined by *made_package* of `Making`, after `docs/commands.md`, "`mkpkg`".
use Rattle.command_core.specs.declared.values.TheConstants.{FILES}
use Rattle.std.specs.Prelude.{◌≡◌, ℕ, List, [], ◌∷◌, Option, Some, None, Result, Ok, Err, Vec}
use Rattle.std.specs.Borrow.{Bor}
use Rattle.std.specs.declared.alloc.Global.{Global}
use Rattle.base_core.specs.Calls.{IfObservable}
use Rattle.base_core.specs.Listed.{IsSortedListingOfFolder}
use Rattle.base_core.specs.Tree.{TreeState, files_of}
use Rattle.command_core.specs.Command.{CommandLine}
use Rattle.command_core.specs.Files.{without_one_leading_dot_slash}
use Rattle.command_core.specs.declared.values.OptionValue.{OptionValue}
use Rattle.package_files.specs.make_info.Reads.{Reads}
use Rattle.package_files.specs.make_info.declared.fault.MakeFault.{MakeFault}
use Rattle.package_files.specs.make_info.declared.fault.MakeFault.TheVariants.{Disk, Memory}
use Rattle.make_core.specs.Making.{made_package}
use Rattle.package_files.specs.Runs.{HoldsOfSomeReadsOfTree}
use Rattle.package_files.specs.Sources.{AreSortedAndEachBelowFirstFolder, values_of_letter}

-- ---- parts of a run

-- the option value is the first element of the list; None exactly if the list is empty
abbrev pub IsFirstValue : Option (Bor OptionValue) → List OptionValue → Type 0
IsFirstValue None values = values ≡ []
IsFirstValue (Some v) values = (others : List OptionValue) × (values ≡ v.now ∷ others)

-- the vector has these bytes
abbrev pub IsBytes : Vec ℕ Global → List ℕ → Type 0
IsBytes file bytes = bytes ≡ file.items

-- the result is Ok, an I/O error of the tree, or out of memory
abbrev pub IsOkOrDiskOrMemory : {A : Type 0} → Result A MakeFault → Type 0
IsOkOrDiskOrMemory (Ok x) = Unit {0}
IsOkOrDiskOrMemory (Err Disk) = Unit {0}
IsOkOrDiskOrMemory (Err Memory) = Unit {0}
IsOkOrDiskOrMemory (Err fault) = ⊥

-- the result is no I/O error of the tree
abbrev pub IsNotDisk : {A : Type 0} → Result A MakeFault → Type 0
IsNotDisk (Err Disk) = ⊥
IsNotDisk result = Unit {0}

-- the names are exactly those of the files below the folder that the first value of `-F` gives, in a tree
-- of this state. Without a value of `-F` nothing is stated
abbrev pub IsSortedListingOfFirstFolder : List OptionValue → TreeState → List (List ℕ) → Type 0
IsSortedListingOfFirstFolder [] v names = Unit {0}
IsSortedListingOfFirstFolder (dir ∷ dirs) v names =
    IsSortedListingOfFolder (without_one_leading_dot_slash dir.text) v names

-- `P` holds of the refusal with this error. If the error is an I/O error of the tree or out of memory,
-- nothing is stated
abbrev pub UnlessDiskOrMemory : MakeFault → (Result (List ℕ) MakeFault → Type 0) → Type 0
UnlessDiskOrMemory Disk P = Unit {0}
UnlessDiskOrMemory Memory P = Unit {0}
UnlessDiskOrMemory fault P = P (Err fault)

-- ---- results of a run

-- `made` is the package or the refusal for a command, some names below its folder and some results of
-- reads. If the history of the tree is observable, these are the tree's names and files
pub record IsMadeOf (history : List TreeState) (command : CommandLine)
    (made : Result (List ℕ) MakeFault) : Type 0 where
  -- the names of the files below the folder of the option `-F`
  pub names : List (List ℕ)
  -- they are names below this folder, in byte order
  pub named : AreSortedAndEachBelowFirstFolder (values_of_letter FILES command.values) names
  -- if the tree is observable, they are exactly the tree's names below this folder
  pub below : IfObservable history
      (λ v. IsSortedListingOfFirstFolder (values_of_letter FILES command.values) v names)
  -- some results of reads, which are the tree's if it is observable, give what is made
  pub reads : HoldsOfSomeReadsOfTree history (λ read. made_package command names read ≡ made)

-- the result of a run is the package or the refusal of *IsMadeOf*. An I/O error of the tree and out of
-- memory may occur in any case
abbrev pub IsMakeResult : List TreeState → CommandLine → Result (Vec ℕ Global) MakeFault → Type 0
IsMakeResult history command (Ok file) = IsMadeOf history command (Ok file.items)
IsMakeResult history command (Err fault) = UnlessDiskOrMemory fault (IsMadeOf history command)

-- `made` is the package or the refusal for a command and the files of a tree in this state
pub record IsMadeFromTree (command : CommandLine) (v : TreeState) (made : Result (List ℕ) MakeFault) :
    Type 0 where
  -- the names of the files below the folder of the option `-F`
  pub names : List (List ℕ)
  -- they are exactly the tree's names below this folder
  pub below : IsSortedListingOfFirstFolder (values_of_letter FILES command.values) v names
  -- the package is made with reads that return the tree's files
  pub is : made_package command names (λ n name. files_of v name) ≡ made

-- `made` is the package or the refusal for a command, some names below its folder and some results of
-- reads
pub record IsMadeBySomeReads (command : CommandLine) (made : Result (List ℕ) MakeFault) : Type 0 where
  -- the names of the files below the folder of the option `-F`
  pub names : List (List ℕ)
  -- they are names below this folder, in byte order
  pub named : AreSortedAndEachBelowFirstFolder (values_of_letter FILES command.values) names
  -- the results of the reads
  pub read : Reads
  -- the package is made of the command, the names and these reads
  pub is : made_package command names read ≡ made
