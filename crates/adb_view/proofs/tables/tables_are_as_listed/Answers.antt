use Rattle.adb_view.proofs.WorkedTables.{tables_listed}
use Rattle.adb_view.proofs.tables.tables_are_as_listed.Goals as goal

pub returns : goal.returns
returns c = tables_listed
