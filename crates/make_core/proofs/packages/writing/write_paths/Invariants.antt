use Rattle.std.proofs.Common.{◌≡◌, drop, map}
use Rattle.package_files.proofs.make_info.Mapped.{with_list}
use Rattle.package_files.specs.Packed.{packed_folder}
use Rattle.make_core.proofs.packages.writing.write_paths.Given as goal

-- with those that are left it has all
abbrev pub invariant-loop-folder : goal.invariant-loop-folder
invariant-loop-folder l = with_list (map packed_folder (drop l.folder-index l.folders)) l.draft ≡ with_list (map packed_folder l.folders) l.initial.draft
