use Rattle.adb_sound.proofs.LaidSizes.{laid_total, total_held}
use Rattle.adb_sound.proofs.contents_are_in_their_container.Goals as goal

pub returns : goal.returns
returns c = record { blocks = total_held; container = laid_total }
