use Rattle.std.proofs.Common.{◌≡◌, ◌∙◌, ap, ◌+◌, ℕ, List, length, drop, not}
use Rattle.package_files.specs.Folders.{path_relative_to}
use Rattle.package_files.proofs.FoldersThere.{added_next, kept_next}
use Rattle.package_files.proofs.folders.all_folders_above.Goals as goal
use Rattle.package_files.proofs.folders.all_folders_above.Goals.{then-is_none+in_ok-add_over, else-is_none}

pub loop-i-preserved : goal.loop-i-preserved
loop-i-preserved c =
    let path : c.path_relative_to-path.result.now ≡ path_relative_to c.args.dir.now c.get.result.now =
    c.path_relative_to-path.ensures ∙ ap (λ (n : List ℕ). drop (length c.args.dir.now + 1) n) c.as_bytes.ensures.value in
    elim c.if-is_none.branch [
      | then-is_none+in_ok-add_over w ↦
          added_next c.args.dir.now c.args.names.now c.loop-i.folders c.if-is_none.folders c.loop-i.i c.get.result.now c.path_relative_to-path.result.now c.get.ensures path
          c.loop-i.invariant (w.folders-is ∙ w.in_ok-add_over.ensures)
      | else-is_none w ↦
          kept_next c.args.dir.now c.args.names.now c.loop-i.folders c.if-is_none.folders c.loop-i.i c.get.result.now c.path_relative_to-path.result.now
          c.folder_of.result.now c.index_of.result c.get.ensures path c.loop-i.invariant c.folder_of.ensures c.index_of.ensures
          (c.is_none.ensures ∙ ap not w.if-is_none.false) w.folders-is
    ]
