use Rattle.std.proofs.Common.{arith, map}
use Rattle.adb_view.specs.Plain.{array_or_null}
use Rattle.make_info.proofs.adb_values.Lists.{closed}
use Rattle.make_info.specs.Values.{plains_of_list}
use Rattle.v2_core.specs.Database.{listed_file_value}
use Rattle.make_info.proofs.Mapped.{mapped_left, mapped_open}
use Rattle.v2_core.proofs.writing.write_files.Goals as goal

pub loop-file-preserved : goal.loop-file-preserved
loop-file-preserved c =
    mapped_left listed_file_value c.args.files.now c.loop-file.file-index _ _ _ _ _ c.loop-file-test.true c.file-item.is c.loop-file.invariant c.in_ok-write_file.ensures

pub returns : goal.returns
returns c =
    closed array_or_null (plains_of_list (map listed_file_value c.args.files.now)) c.args.draft.now _ _ c.close_array.result c.close_array.ensures.ok
    (mapped_open listed_file_value c.args.files.now c.loop-file.file-index _ _ _ (omega arith) c.loop-file.invariant c.in_ok-open_list.ensures.ok)
