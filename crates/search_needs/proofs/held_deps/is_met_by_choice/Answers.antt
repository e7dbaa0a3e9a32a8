use Rattle.std.proofs.Common.{◌≡◌, Bool, true, false, sym}
use Rattle.std.specs.Bool.{MatchBool}
use Rattle.dep_core.specs.Meets.{dependency}
use Rattle.search_tables.specs.candidate_core.Candidates.{entry}
use Rattle.search_tables.specs.candidate_core.Options.{IsIn}
use Rattle.search_tables.specs.candidate_core.Rank.{meets_at}
use Rattle.search_tables.proofs.candidate_core.WantedVersions.{if_ok_map}
use Rattle.search_needs.proofs.held_deps.is_met_by_choice.Goals as goal

told : (P : Type 0) (b m : Bool) → P → b ≡ m → MatchBool b (P × (m ≡ true)) (P → m ≡ false)
told P true m there is = (there, sym is)
told P false m there is = λ h. sym is

pub returns-then-not-has-clause-met : goal.returns-then-not-has-clause-met
returns-then-not-has-clause-met c =
    let out = rw c.if-not-has.true at c.has.ensures in
    λ there. absurd (out there)

pub returns-clause-met : goal.returns-clause-met
returns-clause-met c =
    if_ok_map _ _ (λ met h. told (IsIn c.args.id c.args.choices.now) met (meets_at c.args.pool.now c.args.id (entry (dependency c.args.held.now.dep.now))) (rw c.if-not-has.false at c.has.ensures) h)
    c.is_met_by.result c.is_met_by.ensures.meets
