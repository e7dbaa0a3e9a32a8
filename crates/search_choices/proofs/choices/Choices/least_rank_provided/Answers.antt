use Rattle.std.proofs.Common.{◌≡◌, ◌≤◌, ◌<◌, ℕ, List, false, length, arith}
use Rattle.dep_core.specs.Dependency.{Dependency}
use Rattle.dep_core.specs.Meets.{dependency}
use Rattle.search_needs.specs.candidate_core.Options.{IsIn}
use Rattle.search_choices.specs.Choices.{choices_of, install_ifs_of, pool_of}
use Rattle.search_needs.specs.TriggeredInstallIf.{is_install_if_triggered_at_rank}
use Rattle.search_needs.specs.search_tables.NameTable.{items_under_name}
use Rattle.search_needs.proofs.search_tables.ListLoops.{each_all, each_on}
use Rattle.search_choices.proofs.choices.Choices.least_rank_provided.Goals as goal

pub loop-i-preserved : goal.loop-i-preserved
loop-i-preserved c =
    let new : ℕ = c.least_rank_waiting-least.result in
    let P : Dependency → Type 0 = λ d. (r : ℕ) → IsIn r (items_under_name c.args.self.now.install_ifs.waiting d.name) → r < new → is_install_if_triggered_at_rank (pool_of c.args.self.now) (choices_of c.args.self.now) (install_ifs_of c.args.self.now) r ≡ false in
    record {
      less = omega (arith, c.least_rank_waiting-least.ensures.less, c.loop-i.invariant.less);
      unasked = each_on P c.args.provides.now c.loop-i.i (dependency c.get.result) c.get.ensures
          (λ d h rank there low. c.loop-i.invariant.unasked d h rank there (omega (arith, low, c.least_rank_waiting-least.ensures.less))) c.least_rank_waiting-least.ensures.unasked;
    }

pub returns-clause-unasked : goal.returns-clause-unasked
returns-clause-unasked c =
    let provides : List Dependency = c.args.provides.now in
    let past : length provides ≤ c.loop-i.i = omega arith in
    let P : Dependency → Type 0 = λ d. (r : ℕ) → IsIn r (items_under_name c.args.self.now.install_ifs.waiting d.name) → r < c.loop-i.least → is_install_if_triggered_at_rank (pool_of c.args.self.now) (choices_of c.args.self.now) (install_ifs_of c.args.self.now) r ≡ false in
    λ d rank h. each_all P provides c.loop-i.i past c.loop-i.invariant.unasked d h rank
