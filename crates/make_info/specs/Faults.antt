-- The `MakeFault` for a fault of another kind. It serves the conversions to `MakeFault` and the
-- contracts of the crates that make containers.
use Rattle.std.specs.Prelude.{◌≡◌, ℕ, List, Result, Err}
use Rattle.base_core.specs.declared.tree.TreeFault.{TreeFault}
use Rattle.base_core.specs.declared.tree.TreeFault.TheVariants as Trees
use Rattle.adb_values.specs.adb_write.Canonical.{ByteAndValueCounts}
use Rattle.adb_values.specs.adb_write.declared.writer.WriteFault.{WriteFault}
use Rattle.adb_values.specs.adb_write.declared.writer.WriteFault.TheVariants as Writes
use Rattle.make_info.specs.declared.fault.MakeFault.{MakeFault}
use Rattle.make_info.specs.declared.fault.MakeFault.TheVariants.{FileMissing, FileBad, InfoBad, TooLarge, Disk, Memory}

-- the `MakeFault` for a fault of the tree
abbrev pub IsMakeFaultOf : TreeFault → MakeFault → Type 0
IsMakeFaultOf Trees.Disk fault = fault ≡ Disk
IsMakeFaultOf Trees.Memory fault = fault ≡ Memory

-- the `MakeFault` for a fault of the writer
abbrev pub IsMakeFaultOfWriter : WriteFault → MakeFault → Type 0
IsMakeFaultOfWriter (Writes.TooLarge bytes values) fault = fault ≡ TooLarge bytes values
IsMakeFaultOfWriter Writes.Memory fault = fault ≡ Memory

-- the fault of reading a package's information, whose definition gives `answer`: `InfoBad` at the place
-- in `answer`, or out of memory, which says nothing about `answer`. No other fault
abbrev pub IsInfoFault : {A : Type 0} → MakeFault → Result A ℕ → Type 0
IsInfoFault (FileMissing place) answer = ⊥
IsInfoFault (FileBad place cause) answer = ⊥
IsInfoFault (InfoBad place) answer = answer ≡ Err place
IsInfoFault (TooLarge bytes values) answer = ⊥
IsInfoFault Disk answer = ⊥
IsInfoFault Memory answer = Unit {0}

-- the fault of writing a payload, whose definition gives `written`: `TooLarge` with the counts in
-- `written`, or out of memory, which says nothing about `written`. No other fault
abbrev pub IsOverflowFault : MakeFault → Result (List ℕ) ByteAndValueCounts → Type 0
IsOverflowFault (TooLarge bytes values) written = written ≡ Err (bytes, values)
IsOverflowFault Memory written = Unit {0}
IsOverflowFault fault written = ⊥

-- the statement `P` holds, unless the result is an I/O error of the tree
abbrev pub UnlessDiskFault : {A : Type 0} → Result A MakeFault → Type 0 → Type 0
UnlessDiskFault (Err Disk) P = Unit {0}
UnlessDiskFault result P = P
