use Rattle.std.proofs.Common.{◌∙◌, List, ap, sym}
use Rattle.std.specs.Prelude.{slice_get}
use Rattle.search_tables.specs.candidate_core.Candidates.{Candidate}
use Rattle.unmet_world.proofs.AlmostSame.{similar_found, not_similar_next}
use Rattle.unmet_world.proofs.similar.similar_name.Goals as goal

pub returns-then-differ_by_one : goal.returns-then-differ_by_one
returns-then-differ_by_one c =
    similar_found c.args.name.now c.args.pool.now.candidates c.loop-i.i _ _ c.loop-i.invariant
    (ap (λ (l : List Candidate). slice_get l c.loop-i.i) (sym c.packages-packages.ensures) ∙ c.get.ensures) c.name-found.ensures (sym c.differ_by_one.ensures ∙ c.if-differ_by_one.true)

pub loop-i-preserved : goal.loop-i-preserved
loop-i-preserved c =
    not_similar_next c.args.name.now c.args.pool.now.candidates c.loop-i.i _ _ c.loop-i.invariant
    (ap (λ (l : List Candidate). slice_get l c.loop-i.i) (sym c.packages-packages.ensures) ∙ c.get.ensures) c.name-found.ensures (sym c.differ_by_one.ensures ∙ c.if-differ_by_one.false)
