use Rattle.std.proofs.Common.{◌≡◌, ◌≤◌, take}
use Rattle.root_names.specs.PackagePath.{path_up_to_last_slash}
use Rattle.root_names.proofs.beside_index.path_up_to_last_slash.Given as goal

abbrev pub invariant-loop-i : goal.invariant-loop-i
invariant-loop-i l = record {
  within : l.end ≤ l.i;
  prefix : path_up_to_last_slash (take l.i l.path) ≡ take l.end l.path;
}
