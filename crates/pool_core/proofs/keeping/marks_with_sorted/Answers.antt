use Rattle.std.proofs.Common.{◌∙◌, ◌++◌, ◌∷◌, [], Bool, ap}
use Rattle.option_ranks.specs.candidate_core.Packages.{candidates_of_packages}
use Rattle.option_ranks.specs.candidate_core.Rank.{is_kept_installed, listed_names}
use Rattle.option_ranks.proofs.candidate_core.LoopTests.{map_next}
use Rattle.pool_core.proofs.keeping.marks_with_sorted.Goals as goal

pub loop-place-preserved : goal.loop-place-preserved
loop-place-preserved c =
    map_next (is_kept_installed (listed_names c.args.names.now)) (candidates_of_packages c.args.packages.now) c.loop-place.place c.get.result c.loop-place.marks.items c.push.new.self.items c.get.ensures c.loop-place.invariant
    (c.in_ok-push.ensures.items ∙ ap (λ (b : Bool). c.loop-place.marks.items ++ (b) ∷ []) c.is_kept_beside.ensures)
