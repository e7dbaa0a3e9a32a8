use Rattle.std.proofs.Common.{refl}
use Rattle.definition_laws.proofs.answers.ListedFields.{access_is, file_is, folder_is, folders_are}
use Rattle.definition_laws.proofs.answers.listed.folders_and_files_have_their_fields.Goals as goal

pub returns : goal.returns
returns c = record { folders = folders_are; folder = folder_is; file = file_is; access = access_is; hash = λ hash. refl }
