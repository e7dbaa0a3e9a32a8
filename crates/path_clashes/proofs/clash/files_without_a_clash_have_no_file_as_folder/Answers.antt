use Rattle.path_clashes.proofs.FolderLike.{folder_like}
use Rattle.path_clashes.proofs.clash.files_without_a_clash_have_no_file_as_folder.Goals as goal

pub returns-clause-files : goal.returns-clause-files
returns-clause-files c = λ change files after. folder_like change files after

pub returns-clause-names : goal.returns-clause-names
returns-clause-names c = λ change files after. folder_like change files after
