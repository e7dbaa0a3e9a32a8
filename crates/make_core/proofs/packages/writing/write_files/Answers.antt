use Rattle.std.proofs.Common.{arith, map}
use Rattle.adb_view.specs.Plain.{array_or_null}
use Rattle.package_files.proofs.adb_values.Lists.{closed}
use Rattle.package_files.specs.make_info.Values.{plains_of_list}
use Rattle.package_files.proofs.make_info.Mapped.{mapped_left, mapped_open}
use Rattle.package_files.specs.Packed.{packed_file}
use Rattle.make_core.proofs.packages.writing.write_files.Goals as goal

pub loop-file-preserved : goal.loop-file-preserved
loop-file-preserved c =
    mapped_left packed_file c.args.files.now c.loop-file.file-index _ _ _ _ _ c.loop-file-test.true c.file-item.is c.loop-file.invariant c.in_ok-write_file.ensures

pub returns : goal.returns
returns c =
    closed array_or_null (plains_of_list (map packed_file c.args.files.now)) c.args.draft.now _ _ c.close_array.result c.close_array.ensures.ok
    (mapped_open packed_file c.args.files.now c.loop-file.file-index _ _ _ (omega arith) c.loop-file.invariant c.in_ok-open_list.ensures.ok)
