use Rattle.std.proofs.Common.{arith, map}
use Rattle.adb_view.specs.Plain.{array_or_null}
use Rattle.make_info.proofs.adb_values.Lists.{closed}
use Rattle.make_info.specs.Values.{plains_of_list}
use Rattle.v2_core.specs.Database.{listed_folder_value}
use Rattle.make_info.proofs.Mapped.{mapped_left, mapped_open}
use Rattle.v2_core.proofs.writing.write_folders.Goals as goal

pub loop-folder-preserved : goal.loop-folder-preserved
loop-folder-preserved c =
    mapped_left listed_folder_value c.args.folders.now c.loop-folder.folder-index _ _ _ _ _ c.loop-folder-test.true c.folder-item.is c.loop-folder.invariant c.in_ok-write_folder.ensures

pub returns : goal.returns
returns c =
    closed array_or_null (plains_of_list (map listed_folder_value c.args.folders.now)) c.args.draft.now _ _ c.close_array.result c.close_array.ensures.ok
    (mapped_open listed_folder_value c.args.folders.now c.loop-folder.folder-index _ _ _ (omega arith) c.loop-folder.invariant c.in_ok-open_list.ensures.ok)
