use Rattle.std.proofs.Common.{◌∙◌, ◌++◌, ◌∷◌, [], Bool, ap}
use Rattle.std.specs.Prelude.{not, ◌&&◌}
use Rattle.option_ranks.specs.candidate_core.Candidates.{Candidate}
use Rattle.option_ranks.specs.candidate_core.Packages.{candidates_of_packages}
use Rattle.option_ranks.proofs.candidate_core.LoopTests.{map_next}
use Rattle.pool_core.proofs.keeping.marks_with_all.Goals as goal

pub loop-place-preserved : goal.loop-place-preserved
loop-place-preserved c =
    map_next (λ (one : Candidate). one.installed && not c.args.is_upgraded) (candidates_of_packages c.args.packages.now) c.loop-place.place c.get.result c.loop-place.marks.items c.push.new.self.items c.get.ensures c.loop-place.invariant
    (c.in_ok-push.ensures.items ∙ ap (λ (b : Bool). c.loop-place.marks.items ++ (b) ∷ []) c.is_kept.ensures)
