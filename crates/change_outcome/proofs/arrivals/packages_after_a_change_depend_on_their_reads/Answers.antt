use Rattle.change_outcome.proofs.LaterReads.{later_reads}
use Rattle.change_outcome.proofs.arrivals.packages_after_a_change_depend_on_their_reads.Goals as goal

pub returns : goal.returns
returns c = later_reads
