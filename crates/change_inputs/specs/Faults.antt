-- How a fault of a tree ends a command. Serves the contract of `Refused::from` in `src/root.rt`.
use Rattle.std.specs.Prelude.{◌≡◌}
use Rattle.base_core.specs.declared.tree.TreeFault.{TreeFault}
use Rattle.base_core.specs.declared.tree.TreeFault.TheVariants as Trees
use Rattle.change_inputs.specs.declared.root.Refused.{Refused}
use Rattle.change_inputs.specs.declared.root.Refused.TheVariants.{Disk, Memory}

-- `refused` is the end of a command in which the tree failed with this fault
abbrev pub IsRefusedOf : TreeFault → Refused → Type 0
IsRefusedOf Trees.Disk refused = refused ≡ Disk
IsRefusedOf Trees.Memory refused = refused ≡ Memory
