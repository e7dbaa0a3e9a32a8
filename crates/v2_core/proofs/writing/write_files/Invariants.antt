use Rattle.std.proofs.Common.{◌≡◌, drop, map}
use Rattle.v2_core.specs.Database.{listed_file_value}
use Rattle.make_info.proofs.Mapped.{with_list}
use Rattle.v2_core.proofs.writing.write_files.Given as goal

-- with those that are left it has all
abbrev pub invariant-loop-file : goal.invariant-loop-file
invariant-loop-file l = with_list (map listed_file_value (drop l.file-index l.files)) l.draft ≡ with_list (map listed_file_value l.files) l.initial.draft
