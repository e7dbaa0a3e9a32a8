use Rattle.std.proofs.Common.{◌≡◌, drop, map}
use Rattle.v2_core.specs.Database.{listed_folder_value}
use Rattle.make_info.proofs.Mapped.{with_list}
use Rattle.v2_core.proofs.writing.write_folders.Given as goal

-- with those that are left it has all
abbrev pub invariant-loop-folder : goal.invariant-loop-folder
invariant-loop-folder l = with_list (map listed_folder_value (drop l.folder-index l.folders)) l.draft ≡ with_list (map listed_folder_value l.folders) l.initial.draft
