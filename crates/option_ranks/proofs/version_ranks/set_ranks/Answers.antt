use Rattle.std.proofs.Common.{◌≡◌, ◌∙◌, ◌≤◌, ◌<◌, ℕ, List, length, set, ap, sym, subst, arith}
use Rattle.std.specs.Prelude.{Option, Some, slice_get}
use Rattle.option_ranks.specs.Ranking.{Ranking}
use Rattle.candidate_core.specs.VersionTexts.{HasVersionTextFrom}
use Rattle.option_ranks.specs.VersionRanks.{rank_among, version_of, versions_in, with_version_rank, with_rank_among}
use Rattle.candidate_core.specs.declared.versions.RankedVersion.{RankedVersion}
use Rattle.candidate_core.specs.declared.versions.VersionKind.{VersionKind}
use Rattle.option_ranks.proofs.RankedVersions.{all_at, first_all, first_here, first_length, one_more_changed}
use Rattle.candidate_core.proofs.Steps.{get_at}
use Rattle.option_ranks.proofs.version_ranks.set_ranks.Goals as goal

pub rank_of-rank-requires-clause-alike : goal.rank_of-rank-requires-clause-alike
rank_of-rank-requires-clause-alike c =
    let kind : VersionKind = c.args.kind in
    let f : Ranking → Ranking = with_rank_among kind (versions_in c.args.versions.now) in
    let rs : List Ranking = c.args.options.now.items in
    let i : ℕ = c.loop-i.i in
    let now : List Ranking = c.loop-i.options.items in
    let y : Ranking = c.index.result.now in
    let text : ℕ → ℕ → List ℕ = c.requires.alike.0 in
    let len : length now ≡ length rs = ap length c.loop-i.invariant ∙ first_length f i rs in
    let here : i < length now = omega (arith, len, c.len-i-end.ensures, c.loop-i-test.true) in
    let y_now : slice_get now i ≡ Some y = get_at now i y here ∙ ap Some (sym c.index.ensures) in
    let at : slice_get rs i ≡ Some y = sym (first_here f i rs) ∙ (ap (λ (zs : List Ranking). slice_get zs i) (sym c.loop-i.invariant) ∙ y_now) in (
      text,
      (subst (HasVersionTextFrom text) (sym c.version_of.ensures) (all_at (λ (r : Ranking). HasVersionTextFrom text (version_of kind r)) rs i y c.requires.alike.1.1 at), c.requires.alike.1.0),
    )

pub loop-i-preserved : goal.loop-i-preserved
loop-i-preserved c =
    let kind : VersionKind = c.args.kind in
    let vs : List (Option (List ℕ)) = versions_in c.args.versions.now in
    let f : Ranking → Ranking = with_rank_among kind vs in
    let rs : List Ranking = c.args.options.now.items in
    let i : ℕ = c.loop-i.i in
    let now : List Ranking = c.loop-i.options.items in
    let x : Ranking = c.index_mut.result.now in
    let y : Ranking = c.index.result.now in
    let len : length now ≡ length rs = ap length c.loop-i.invariant ∙ first_length f i rs in
    let here : i < length now = omega (arith, len, c.len-i-end.ensures, c.loop-i-test.true) in
    let at_now : slice_get now i ≡ Some x = get_at now i x here ∙ ap Some (sym c.index_mut.ensures.value) in
    let at : slice_get rs i ≡ Some x = sym (first_here f i rs) ∙ (ap (λ (zs : List Ranking). slice_get zs i) (sym c.loop-i.invariant) ∙ at_now) in
    let both : Some y ≡ Some x = sym (get_at now i y here ∙ ap Some (sym c.index.ensures)) ∙ at_now in
    let is : y ≡ x = cc in
    let rank : c.rank_of-rank.result ≡ rank_among kind vs (version_of kind x).version =
    c.rank_of-rank.ensures ∙ (ap (λ (r : RankedVersion). rank_among kind vs r.version) c.version_of.ensures
    ∙ ap (λ (r : Ranking). rank_among kind vs (version_of kind r).version) is) in
    one_more_changed f i rs _ x c.set_rank.new.self at (c.set_rank.ensures ∙ ap (λ (n : ℕ). with_version_rank kind n x) rank)
    (ap (λ (zs : List Ranking). set zs i c.set_rank.new.self) c.loop-i.invariant)

pub returns : goal.returns
returns c =
    let f : Ranking → Ranking = with_rank_among c.args.kind (versions_in c.args.versions.now) in
    let rs : List Ranking = c.args.options.now.items in
    let past : length rs ≤ c.loop-i.i = omega (arith, c.len-i-end.ensures, c.loop-i-test.false) in
    c.loop-i.invariant ∙ first_all f c.loop-i.i rs past
