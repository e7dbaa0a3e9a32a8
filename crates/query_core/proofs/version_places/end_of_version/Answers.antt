use Rattle.std.proofs.Common.{◌≡◌, ◌∙◌, ◌≤◌, ◌<◌, List, ℕ, true, ap, arith, below_more, length, sym}
use Rattle.std.specs.Prelude.{Some, slice_get}
use Rattle.pool_core.proofs.candidate_core.Steps.{get_at}
use Rattle.pool_core.specs.option_ranks.Ranking.{Ranking}
use Rattle.query_core.specs.QueryRanking.{have_same_version}
use Rattle.query_core.proofs.Gathered.{same_at}
use Rattle.query_core.proofs.Runs.{below_length}
use Rattle.query_core.proofs.version_places.end_of_version.Goals as goal

pub returns-then-not-have_same_version : goal.returns-then-not-have_same_version
returns-then-not-have_same_version c =
    let rs : List Ranking = c.args.rankings.now in
    let x : Ranking = c.index-rankings-start.result in
    let y : Ranking = c.index-rankings-end.result in
    let first : slice_get rs c.args.start ≡ Some x = get_at rs c.args.start x (omega arith) ∙ ap Some (sym c.index-rankings-start.is) in
    let last : slice_get rs c.loop-end.end ≡ Some y = get_at rs c.loop-end.end y (omega arith) ∙ ap Some (sym c.index-rankings-end.is) in
    record {
      after = omega arith;
      within = omega arith;
      one = c.loop-end.invariant;
      other = λ a b s t. same_at c.args.key rs c.args.start c.loop-end.end x y a b _ first last (sym c.if-not-have_same_version.ensures) s t;
    }

pub loop-end-preserved : goal.loop-end-preserved
loop-end-preserved c = λ i a b low less s t.
    let rs : List Ranking = c.args.rankings.now in
    let start : ℕ = c.args.start in
    let end : ℕ = c.loop-end.end in
    let x : Ranking = c.index-rankings-start.result in
    let y : Ranking = c.index-rankings-end.result in
    let first : slice_get rs start ≡ Some x = get_at rs start x (omega arith) ∙ ap Some (sym c.index-rankings-start.is) in
    let last : slice_get rs end ≡ Some y = get_at rs end y (omega arith) ∙ ap Some (sym c.index-rankings-end.is) in
    below_more (λ (k : ℕ). (e f : Ranking) → start ≤ k → slice_get rs start ≡ Some e → slice_get rs k ≡ Some f → have_same_version c.args.key e f ≡ true) end
    (λ k below e f from at behind. c.loop-end.invariant k e f from below at behind)
    (λ e f from at behind. same_at c.args.key rs start end x y e f true first last (sym c.if-not-have_same_version.ensures) at behind)
    i less a b low s t

pub returns : goal.returns
returns c =
    let rs : List Ranking = c.args.rankings.now in
    record {
      after = c.requires;
      within = omega arith;
      one = λ i a b low less s t. c.loop-end.invariant i a b low (omega (arith, less)) s t;
      other = λ a b s t. let bad : length rs < length rs = below_length rs (length rs) b t in absurd (omega (arith, bad));
    }
