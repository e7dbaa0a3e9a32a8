use Rattle.std.proofs.Common.{map}
use Rattle.dep_core.specs.Meets.{dependency}
use Rattle.option_ranks.specs.candidate_core.Packages.{candidates_of_packages}
use Rattle.pool_core.proofs.MarksThroughTable.{pinned_by_marks}
use Rattle.pool_core.proofs.marks.pinned_marks.Goals as goal

pub returns : goal.returns
returns c = pinned_by_marks (map dependency c.args.tagged.now) (candidates_of_packages c.args.packages.now) c.in_ok-marks.marks.items c.mark_affected.new.marks.items c.in_ok-marks.ensures c.in_ok-mark_affected.ensures
