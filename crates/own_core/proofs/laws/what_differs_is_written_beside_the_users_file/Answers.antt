use Rattle.own_core.proofs.ComingFiles.{beside_users_file, lies_beside, written_beside}
use Rattle.own_core.proofs.laws.what_differs_is_written_beside_the_users_file.Goals as goal

pub returns-clause-beside : goal.returns-clause-beside
returns-clause-beside c = lies_beside

pub returns-clause-only : goal.returns-clause-only
returns-clause-only c = beside_users_file

pub returns-clause-located : goal.returns-clause-located
returns-clause-located c = written_beside
