use Rattle.std.proofs.Common.{◌≡◌, ◌≤◌, ◌<◌, ◌+◌, ◌∙◌, ◌++◌, ◌∷◌, [], ℕ, List, false, take, length, get_or, sym, subst, arith}
use Rattle.std.proofs.lemmas.List.{take_more, take_all}
use Rattle.search_needs.specs.candidate_core.Options.{IsIn}
use Rattle.search_choices.specs.Choices.{choices_of, install_ifs_of, pool_of}
use Rattle.search_needs.specs.TriggeredInstallIf.{is_install_if_triggered_at_rank}
use Rattle.search_needs.proofs.search_tables.ListLoops.{in_more}
use Rattle.search_choices.proofs.choices.Choices.least_rank_waiting.Goals as goal

pub loop-rank-preserved : goal.loop-rank-preserved
loop-rank-preserved c =
    let items : List ℕ = c.waiting_for-rank-items.result.now in
    let new : ℕ = c.lesser_rank-least.result in
    let rank : ℕ = get_or items c.loop-rank.rank-index 0 in
    let one : take (c.loop-rank.rank-index + 1) items ≡ take c.loop-rank.rank-index items ++ rank ∷ [] = take_more items c.loop-rank.rank-index 0 (omega arith) in
    let P : ℕ → Type 0 = λ r. r < new → is_install_if_triggered_at_rank (pool_of c.args.self.now) (choices_of c.args.self.now) (install_ifs_of c.args.self.now) r ≡ false in
    record {
      less = omega (arith, c.lesser_rank-least.ensures.less, c.loop-rank.invariant.less);
      unasked = λ r h. in_more P (take c.loop-rank.rank-index items) rank
          (λ j g low. c.loop-rank.invariant.unasked j g (omega (arith, low, c.lesser_rank-least.ensures.less))) c.lesser_rank-least.ensures.unasked r (subst (λ (z : List ℕ). IsIn r z) one h);
    }

pub returns-clause-unasked : goal.returns-clause-unasked
returns-clause-unasked c =
    let items : List ℕ = c.waiting_for-rank-items.result.now in
    let past : length items ≤ c.loop-rank.rank-index = omega arith in
    λ r h. c.loop-rank.invariant.unasked r (subst (λ (z : List ℕ). IsIn r z) (sym (take_all c.loop-rank.rank-index items past ∙ c.waiting_for-rank-items.ensures)) h)
