use Rattle.std.proofs.Common.{◌∙◌, ◌+◌, ◌<◌, ◌≤◌, ap, sym, length, arith, rules}
use Rattle.package_files.specs.Folders.{FolderListing}
use Rattle.package_files.specs.BorrowedNames.{listings_of}
use Rattle.package_files.specs.Packed.{IsPackedFolder, ArePackedFolders, IsPacking}
use Rattle.package_files.specs.Sources.{source_folder_at_place_by_read, source_folders_at_place_from_read}
use Rattle.package_files.proofs.ReadLemmas.{so_far_none, explained, explained_as, same_fault, memory_fault, told_as}
use Rattle.package_files.proofs.PackLemmas.{folder_own, folders_none, folders_packed_more, folder_count_more, folders_go_on, folders_stop, listed_here, listed_within, listed_whole, reads_in, now_of}
use Rattle.package_files.proofs.packing.pack_folders.Goals as goal

pub loop-i-init : goal.loop-i-init
loop-i-init g c = record {
  tree = search rules;
  count = ap length c.new-packed.ensures.items;
  so_far = so_far_none _ reads_in (source_folder_at_place_by_read c.args.place) (folder_own c.args.place) (ArePackedFolders c.new-blocks.result.items c.new-packed.result) (folders_none _ _ c.new-blocks.ensures.items c.new-packed.ensures.items);
}

pub returns-in_err-folder-clause-read : goal.returns-in_err-folder-clause-read
returns-in_err-folder-clause-read g c = λ n.
    let lt : c.loop-i.i < length c.args.folders.now = omega arith in
    let one : FolderListing = record { name = c.get-name.result.now; files = now_of c.deref.result.now } in
    explained_as _ _ _
    (folders_stop _ c.args.place (listings_of c.args.folders.now c.args.files.now) c.loop-i.i one
    (ArePackedFolders c.loop-i.blocks.items c.loop-i.packed)
    (IsPackedFolder (c.loop-i.i + 1) c.loop-i.blocks.items c.pack_folder.new.blocks.items)
    IsPacking c.in_err-folder.field-0.0
    (listed_within c.args.folders.now c.args.files.now c.loop-i.i c.requires lt)
    (listed_here c.args.folders.now c.args.files.now c.loop-i.i c.get-name.result.now c.index-files-i.result c.deref.result.now one c.requires lt c.get-name.ensures c.index-files-i.is c.deref.ensures.value)
    c.loop-i.invariant.so_far (told_as _ _ _ c.loop-i.invariant.tree.same c.in_err-folder.ensures.read) n)
    (λ read e. same_fault _ _ c.from_residual.result _ c.from_residual.ensures.1 e)

pub returns-in_err-push_folder-clause-read : goal.returns-in_err-push_folder-clause-read
returns-in_err-push_folder-clause-read g c = λ n. explained _ _ (λ read. memory_fault _ _ _ c.from_residual-in_err-push_folder.ensures.1)

pub loop-i-preserved : goal.loop-i-preserved
loop-i-preserved g c =
    let lt : c.loop-i.i < length c.args.folders.now = omega arith in
    let one : FolderListing = record { name = c.get-name.result.now; files = now_of c.deref.result.now } in
    record {
      tree = search rules;
      count = folder_count_more _ _ _ _ c.in_ok-push_folder.ensures c.loop-i.invariant.count;
      so_far = folders_go_on _ c.args.place (listings_of c.args.folders.now c.args.files.now) c.loop-i.i one
          (ArePackedFolders c.loop-i.blocks.items c.loop-i.packed)
          (ArePackedFolders c.pack_folder.new.blocks.items c.push_folder.new.folders)
          (IsPackedFolder (c.loop-i.i + 1) c.loop-i.blocks.items c.pack_folder.new.blocks.items) c.in_ok-folder.folder
          (listed_within c.args.folders.now c.args.files.now c.loop-i.i c.requires lt)
          (listed_here c.args.folders.now c.args.files.now c.loop-i.i c.get-name.result.now c.index-files-i.result c.deref.result.now one c.requires lt c.get-name.ensures c.index-files-i.is c.deref.ensures.value)
          c.loop-i.invariant.so_far (told_as _ _ _ c.loop-i.invariant.tree.same c.in_ok-folder.ensures.read)
          (λ ys y. folders_packed_more c.loop-i.i c.loop-i.blocks.items c.pack_folder.new.blocks.items c.loop-i.packed c.push_folder.new.folders c.in_ok-folder.folder ys y
          c.loop-i.invariant.count c.in_ok-push_folder.ensures);
    }

pub returns-clause-read : goal.returns-clause-read
returns-clause-read g c = λ n.
    let le : length c.args.folders.now ≤ c.loop-i.i = omega arith in
    explained_as _ _ _ (c.loop-i.invariant.so_far n)
    (λ read e. (e.0, ap (source_folders_at_place_from_read c.args.place read n) (sym (listed_whole c.args.folders.now c.args.files.now c.loop-i.i c.requires le)) ∙ e.1, e.2))
