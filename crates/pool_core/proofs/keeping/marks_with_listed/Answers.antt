use Rattle.std.proofs.Common.{◌∙◌}
use Rattle.option_ranks.specs.candidate_core.Packages.{candidates_of_packages}
use Rattle.pool_core.proofs.SearchedWords.{kept_by_sorted}
use Rattle.pool_core.proofs.keeping.marks_with_listed.Goals as goal

pub returns : goal.returns
returns c = c.in_ok-marks.ensures ∙ kept_by_sorted c.args.names.now c.in_ok-sorted.sorted (candidates_of_packages c.args.packages.now) c.in_ok-sorted.ensures
