-- The fault that `plan` returns if a call on the tree failed, or if the program was out of memory in it.
-- No document has a rule for this: it serves the contract of `PlanFault::from` in `src/fault.rt`.
use Rattle.base_core.specs.declared.tree.TreeFault.{TreeFault}
use Rattle.base_core.specs.declared.tree.TreeFault.TheVariants as Reads
use Rattle.own_core.specs.declared.fault.PlanFault.{PlanFault}
use Rattle.own_core.specs.declared.fault.PlanFault.TheVariants.{Disk, Memory}

-- the fault that `plan` returns for a fault of the tree: an I/O error, or out of memory
abbrev pub fault_of_tree : TreeFault → PlanFault
fault_of_tree Reads.Disk = Disk
fault_of_tree Reads.Memory = Memory
