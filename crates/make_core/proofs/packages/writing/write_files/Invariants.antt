use Rattle.std.proofs.Common.{◌≡◌, drop, map}
use Rattle.package_files.proofs.make_info.Mapped.{with_list}
use Rattle.package_files.specs.Packed.{packed_file}
use Rattle.make_core.proofs.packages.writing.write_files.Given as goal

-- with those that are left it has all
abbrev pub invariant-loop-file : goal.invariant-loop-file
invariant-loop-file l = with_list (map packed_file (drop l.file-index l.files)) l.draft ≡ with_list (map packed_file l.files) l.initial.draft
