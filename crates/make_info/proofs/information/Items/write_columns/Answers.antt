use Rattle.std.proofs.Common.{refl, arith}
use Rattle.std.proofs.lemmas.Option.{slice_get-get_or}
use Rattle.adb_values.proofs.Lists.{left_more, left_none}
use Rattle.make_info.specs.Columns.{column_value, column_values_by_installed_size}
use Rattle.make_info.proofs.information.Items.write_columns.Goals as goal

pub loop-column-preserved : goal.loop-column-preserved
loop-column-preserved c =
    let cs = c.args.columns.now in
    left_more (column_values_by_installed_size c.args.self.now c.args.installed_size) (column_value c.args.self.now c.args.installed_size) cs _ (λ x xs. refl) c.loop-column.column-index _ _ _
    (slice_get-get_or cs c.loop-column.column-index _ c.loop-column-test.true) c.loop-column.invariant c.in_ok-write_column.ensures

pub returns : goal.returns
returns c =
    left_none (column_values_by_installed_size c.args.self.now c.args.installed_size) (column_value c.args.self.now c.args.installed_size) c.args.columns.now _ refl c.loop-column.column-index _ (omega arith) c.loop-column.invariant
