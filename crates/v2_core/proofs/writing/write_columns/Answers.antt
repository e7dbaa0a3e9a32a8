use Rattle.std.proofs.Common.{arith, refl}
use Rattle.v2_core.specs.Columns.{value_of_column}
use Rattle.make_info.proofs.Mapped.{mapped_given, mapped_left}
use Rattle.v2_core.proofs.writing.write_columns.Goals as goal

pub loop-column-preserved : goal.loop-column-preserved
loop-column-preserved c =
    mapped_left (value_of_column c.args.info.now) c.args.columns.now c.loop-column.column-index _ _ _ _ _ c.loop-column-test.true refl c.loop-column.invariant c.in_ok-write_column.ensures

pub returns : goal.returns
returns c = mapped_given (value_of_column c.args.info.now) c.args.columns.now c.loop-column.column-index _ _ (omega arith) c.loop-column.invariant
