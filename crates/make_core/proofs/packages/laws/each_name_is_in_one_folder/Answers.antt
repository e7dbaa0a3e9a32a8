use Rattle.package_files.proofs.FolderLaws.{each_in_one, folder_over, folder_there, folders_rise}
use Rattle.make_core.proofs.packages.laws.each_name_is_in_one_folder.Goals as goal

pub returns : goal.returns
returns c = record { names = each_in_one; rise = folders_rise; over = folder_over; whole = folder_there }
