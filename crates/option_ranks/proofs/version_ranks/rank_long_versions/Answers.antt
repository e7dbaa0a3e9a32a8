use Rattle.option_ranks.specs.Ranking.{Ranking}
use Rattle.candidate_core.specs.VersionTexts.{HasVersionTextFrom}
use Rattle.candidate_core.specs.declared.versions.VersionKind.TheVariants.{Under}
use Rattle.option_ranks.proofs.RankedVersions.{all_kept}
use Rattle.option_ranks.proofs.version_ranks.rank_long_versions.Goals as goal

pub rank_versions-requires-2 : goal.rank_versions-requires-2
rank_versions-requires-2 c = (
  c.requires.own.0,
  all_kept Under c.args.options.now.items c.rank_versions.new.options.items c.in_ok-rank_versions.ensures
      (λ (r : Ranking). HasVersionTextFrom c.requires.own.0 r.version) (λ n r h. h) c.requires.own.1,
)

pub returns : goal.returns
returns c = record {
  between = c.rank_versions.new.options.items;
  under = c.in_ok-rank_versions.ensures;
  own = c.in_ok-rank_versions-2.ensures;
}
