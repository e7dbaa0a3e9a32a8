use Rattle.std.proofs.Common.{◌∙◌, ◌++◌, ◌∷◌, [], Bool, map, ap}
use Rattle.std.specs.Prelude.{not}
use Rattle.dep_core.specs.Meets.{dependency}
use Rattle.option_ranks.specs.candidate_core.Candidates.{Candidate, is_allowed_by_tags_of_world}
use Rattle.option_ranks.specs.candidate_core.Packages.{candidates_of_packages}
use Rattle.option_ranks.proofs.candidate_core.LoopTests.{map_next}
use Rattle.pool_core.proofs.marks.disallowed_marks.Goals as goal

pub loop-place-preserved : goal.loop-place-preserved
loop-place-preserved c =
    map_next (λ (one : Candidate). not (is_allowed_by_tags_of_world (map dependency c.args.tagged.now) one)) (candidates_of_packages c.args.packages.now) c.loop-place.place c.get.result c.loop-place.marks.items c.push.new.self.items c.get.ensures c.loop-place.invariant
    (c.in_ok-push.ensures.items ∙ ap (λ (b : Bool). c.loop-place.marks.items ++ (not b) ∷ []) c.is_allowed_by_tags_of_world.ensures)
