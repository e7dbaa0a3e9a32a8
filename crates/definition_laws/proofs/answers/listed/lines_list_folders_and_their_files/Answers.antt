use Rattle.definition_laws.proofs.answers.ListedFolders.{record_lists}
use Rattle.definition_laws.proofs.answers.listed.lines_list_folders_and_their_files.Goals as goal

pub returns : goal.returns
returns c = record_lists
