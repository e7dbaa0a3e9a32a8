use Rattle.version_core.proofs.Spelled.{read_spelling, spelling_is_version}
use Rattle.version_core.proofs.laws.spelled_is_read.Goals as goal

pub returns-clause-version : goal.returns-clause-version
returns-clause-version c = spelling_is_version

pub returns-clause-tokens : goal.returns-clause-tokens
returns-clause-tokens c = read_spelling
