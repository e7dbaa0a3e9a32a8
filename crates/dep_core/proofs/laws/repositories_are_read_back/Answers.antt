use Rattle.dep_core.proofs.RepositoryTexts.{repositories-read}
use Rattle.dep_core.proofs.laws.repositories_are_read_back.Goals as goal

pub returns : goal.returns
returns c = repositories-read
