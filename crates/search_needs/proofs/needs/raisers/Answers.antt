use Rattle.std.proofs.Common.{◌≡◌, ◌≤◌, ℕ, List, true, subst, length, arith, refl}
use Rattle.std.proofs.lemmas.List.{take_all}
use Rattle.dep_core.specs.Dependency.{Dependency}
use Rattle.dep_core.specs.Meets.{dependency}
use Rattle.search_tables.specs.candidate_core.Options.{IsIn}
use Rattle.search_needs.specs.TriggeredInstallIf.{all_met}
use Rattle.search_needs.proofs.RaiserLists.{raisers_more}
use Rattle.search_needs.proofs.needs.raisers.Goals as goal

pub loop-i-init : goal.loop-i-init
loop-i-init c = record {
  within = λ k h. absurd (subst (λ (z : List ℕ). IsIn k z) c.new-by.ensures.items h);
  met = λ h. refl;
}

pub loop-i-preserved : goal.loop-i-preserved
loop-i-preserved c = record {
  within = c.in_ok-push_met.ensures.within c.loop-i.invariant.within;
  met = raisers_more c.args.pool.now c.args.choices.now c.loop-i.by.items c.push_met.new.by.items c.args.deps.now c.loop-i.i (dependency c.get.result) c.get.ensures
      c.loop-i.invariant.met c.in_ok-push_met.ensures.more c.in_ok-push_met.ensures.met;
}

pub returns-clause-met : goal.returns-clause-met
returns-clause-met c =
    let deps : List Dependency = c.args.deps.now in
    let past : length deps ≤ c.loop-i.i = omega arith in
    subst (λ (z : List Dependency). all_met c.args.pool.now c.args.choices.now z ≡ true → all_met c.args.pool.now c.loop-i.by.items z ≡ true) (take_all c.loop-i.i deps past) c.loop-i.invariant.met
