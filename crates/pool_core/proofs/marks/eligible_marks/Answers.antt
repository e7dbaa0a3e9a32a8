use Rattle.std.proofs.Common.{◌≡◌, ◌∙◌, List, Bool, map, ap}
use Rattle.std.specs.Prelude.{◌&&◌, not, Vec}
use Rattle.std.specs.Global.{Global}
use Rattle.dep_core.specs.Dependency.{Dependency}
use Rattle.dep_core.specs.Meets.{dependency}
use Rattle.option_ranks.specs.candidate_core.Candidates.{Candidate, is_allowed_by_tags_of_world, is_barred_by_world}
use Rattle.option_ranks.specs.candidate_core.Packages.{candidates_of_packages}
use Rattle.pool_core.proofs.MarksThroughTable.{eligible_by_marks}
use Rattle.option_ranks.proofs.candidate_core.Steps.{if_ok}
use Rattle.pool_core.proofs.marks.eligible_marks.Goals as goal

pub returns : goal.returns
returns c =
    let cs : List Candidate = candidates_of_packages c.args.packages.now in
    let tagged : List Dependency = map dependency c.args.tagged.now in
    let conflicts : List Dependency = map dependency c.args.conflicts.now in
    if_ok c.opposite_marks.result (λ (marks : Vec Bool Global). marks.items ≡ map not c.deref.result.now)
    (λ (marks : Vec Bool Global). marks.items ≡ map (λ (one : Candidate). is_allowed_by_tags_of_world tagged one && not (is_barred_by_world conflicts one)) cs)
    (λ marks h. h ∙ (ap (map not) c.deref.ensures.value ∙ eligible_by_marks tagged conflicts cs c.in_ok-ineligible.ineligible.items c.mark_affected.new.marks.items c.in_ok-ineligible.ensures c.in_ok-mark_affected.ensures))
    c.opposite_marks.ensures
