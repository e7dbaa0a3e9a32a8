use Rattle.definition_laws.proofs.making.FoldersOver.{AreFolderNames, folders_over_paths}
use Rattle.definition_laws.proofs.making.MadeFrom.{made_from}
use Rattle.definition_laws.specs.making.MadePackages.{package_in_container}
use Rattle.definition_laws.proofs.making.packages.a_made_package_has_just_the_folders_above_its_paths.Goals as goal

pub returns : goal.returns
returns c = λ command names read bytes dir others made given.
    let law : AreFolderNames = record { over = c.each_name_is_in_one_folder.ensures.over; whole = c.each_name_is_in_one_folder.ensures.whole } in
    folders_over_paths law command names read (package_in_container bytes) dir others made.below given (made_from c.a_made_package_is_read_back.ensures command names read bytes made)
