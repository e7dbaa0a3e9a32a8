use Rattle.std.proofs.Common.{arith, map}
use Rattle.adb_view.specs.Plain.{array_or_null}
use Rattle.package_files.proofs.adb_values.Lists.{closed}
use Rattle.package_files.specs.make_info.Values.{plains_of_list}
use Rattle.package_files.proofs.make_info.Mapped.{mapped_left, mapped_open}
use Rattle.package_files.specs.Packed.{packed_folder}
use Rattle.make_core.proofs.packages.writing.write_paths.Goals as goal

pub loop-folder-preserved : goal.loop-folder-preserved
loop-folder-preserved c =
    mapped_left packed_folder c.args.folders.now c.loop-folder.folder-index _ _ _ _ _ c.loop-folder-test.true c.folder-item.is c.loop-folder.invariant c.in_ok-write_folder.ensures

pub returns : goal.returns
returns c =
    closed array_or_null (plains_of_list (map packed_folder c.args.folders.now)) c.args.draft.now _ _ c.close_array.result c.close_array.ensures.ok
    (mapped_open packed_folder c.args.folders.now c.loop-folder.folder-index _ _ _ (omega arith) c.loop-folder.invariant c.in_ok-open_list.ensures.ok)
