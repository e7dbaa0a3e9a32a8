use Rattle.std.proofs.Common.{map, refl}
use Rattle.adb_view.specs.Plain.{trimmed_object_or_null}
use Rattle.make_info.proofs.adb_values.Lists.{closed_as}
use Rattle.make_info.specs.Values.{plains_of_list}
use Rattle.v2_core.specs.Columns.{value_of_column}
use Rattle.v2_core.specs.Database.{record_info_value}
use Rattle.v2_core.specs.declared.writing.TheConstants.{COLUMNS}
use Rattle.v2_core.proofs.writing.write_info.Goals as goal

pub returns : goal.returns
unfolding record_info_value
returns c =
    closed_as trimmed_object_or_null (record_info_value c.args.info.now) (plains_of_list (map (value_of_column c.args.info.now) COLUMNS)) c.args.draft.now _ _ c.close_object.result refl c.close_object.ensures.ok
    (rw (c.in_ok-write_columns.ensures, c.in_ok-open_list.ensures.ok) refl)
