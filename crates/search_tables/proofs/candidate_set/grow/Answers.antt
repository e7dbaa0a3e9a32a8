use Rattle.std.proofs.Common.{◌∙◌, Bool, List, false, ap}
use Rattle.std.specs.Prelude.{slice_index_or}
use Rattle.search_tables.proofs.Marks.{same-append}
use Rattle.search_tables.proofs.candidate_set.grow.Goals as goal

pub loop-marks-preserved : goal.loop-marks-preserved
loop-marks-preserved c = λ k. ap (λ (z : List Bool). slice_index_or z k false) c.in_ok-push.ensures.items ∙ (same-append c.loop-marks.marks.items k ∙ c.loop-marks.invariant k)
