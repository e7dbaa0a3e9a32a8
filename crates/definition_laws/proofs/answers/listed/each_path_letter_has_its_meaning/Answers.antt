use Rattle.definition_laws.proofs.answers.ListedFields.{file_access_letter, file_letter, folder_access_letter, folder_letter, hash_letter}
use Rattle.definition_laws.proofs.answers.listed.each_path_letter_has_its_meaning.Goals as goal

pub returns : goal.returns
returns c = record { folder = folder_letter; folder_access = folder_access_letter; file = file_letter; file_access = file_access_letter; hash = hash_letter }
