use Rattle.std.proofs.Common.{◌≡◌, drop}
use Rattle.adb_values.specs.Drafts.{draft_with_all}
use Rattle.make_info.specs.Columns.{column_values_by_installed_size}
use Rattle.make_info.proofs.information.Items.write_columns.Given as goal

-- with the columns that are left it has all
abbrev pub invariant-loop-column : goal.invariant-loop-column
invariant-loop-column l =
    draft_with_all (column_values_by_installed_size l.self l.installed_size (drop l.column-index l.columns)) l.draft ≡ draft_with_all (column_values_by_installed_size l.self l.installed_size l.columns) l.initial.draft
