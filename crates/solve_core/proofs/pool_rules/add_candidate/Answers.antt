use Rattle.std.proofs.Common.{◌≡◌, ◌∙◌, refl, subst, sym}
use Rattle.std.specs.Prelude.{Some}
use Rattle.dep_core.specs.Meets.{dependency}
use Rattle.search_choices.specs.candidate_core.Candidates.{Candidate}
use Rattle.search_choices.specs.candidate_core.Options.{IsIn}
use Rattle.search_choices.specs.candidate_core.Rank.{SelectionProblem, candidate_at}
use Rattle.search_choices.specs.search_tables.Selection.{depends_at}
use Rattle.solve_core.proofs.PoolRules.{depends_of}
use Rattle.solve_core.proofs.pool_rules.add_candidate.Goals as goal

pub add_dependency-requires : goal.add_dependency-requires
add_dependency-requires c =
    let pool : SelectionProblem = c.pool-pool.result.now in
    let details : Candidate = c.in-Some.details in
    let here : candidate_at pool c.args.id ≡ Some details = sym c.at.ensures ∙ c.in-Some.is in
    let same : pool ≡ c.loop-i.known = c.pool-pool.ensures ∙ sym c.loop-i.invariant in
    subst (λ (p : SelectionProblem). IsIn (dependency c.get.result) (depends_at p c.args.id)) same
    (depends_of pool c.args.id details here c.depends-depends.result _ (dependency c.get.result) c.depends-depends.ensures c.get.ensures)

pub returns-in_default : goal.returns-in_default
returns-in_default c = refl

pub loop-i-init : goal.loop-i-init
loop-i-init c = refl

pub returns-in_err-add_dependency : goal.returns-in_err-add_dependency
returns-in_err-add_dependency c = c.add_dependency.ensures ∙ c.loop-i.invariant

pub loop-i-preserved : goal.loop-i-preserved
loop-i-preserved c = c.add_dependency.ensures ∙ c.loop-i.invariant

pub returns-in_err-add_exclusions : goal.returns-in_err-add_exclusions
returns-in_err-add_exclusions c = c.add_exclusions.ensures ∙ c.loop-i.invariant

pub returns : goal.returns
returns c = c.add_provided.ensures ∙ (c.add_exclusions.ensures ∙ c.loop-i.invariant)
