use Rattle.std.proofs.Common.{◌≡◌, drop, map}
use Rattle.v2_core.specs.Columns.{value_of_column}
use Rattle.make_info.proofs.Mapped.{with_list}
use Rattle.v2_core.proofs.writing.write_columns.Given as goal

-- with those that are left it has all
abbrev pub invariant-loop-column : goal.invariant-loop-column
invariant-loop-column l = with_list (map (value_of_column l.info) (drop l.column-index l.columns)) l.draft ≡ with_list (map (value_of_column l.info) l.columns) l.initial.draft
