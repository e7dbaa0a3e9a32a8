use Rattle.std.proofs.Common.{◌≡◌, ◌+◌, drop, sum_by}
use Rattle.package_files.specs.Packed.{files_size}
use Rattle.make_core.proofs.MadeParts.{file_size}
use Rattle.make_core.proofs.packages.assembly.size_in.Given as goal

abbrev pub invariant-loop-file : goal.invariant-loop-file
invariant-loop-file l = l.size + sum_by file_size (drop l.file-index l.files) ≡ files_size l.files
