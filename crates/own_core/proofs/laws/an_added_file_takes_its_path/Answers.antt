use Rattle.own_core.proofs.ComingFiles.{takes_path}
use Rattle.own_core.proofs.laws.an_added_file_takes_its_path.Goals as goal

pub returns : goal.returns
returns c = takes_path
