use Rattle.std.proofs.Common.{◌≡◌, ◌+◌, drop, sum_by}
use Rattle.package_files.specs.Packed.{installed_size_of_folders}
use Rattle.make_core.proofs.MadeParts.{folder_size}
use Rattle.make_core.proofs.packages.assembly.installed_size.Given as goal

abbrev pub invariant-loop-folder : goal.invariant-loop-folder
invariant-loop-folder l = l.size + sum_by folder_size (drop l.folder-index l.folders) ≡ installed_size_of_folders l.folders
