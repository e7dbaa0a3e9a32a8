-- The rank is a total order, key by key.
use Rattle.std.specs.Cmp.{IsTotalOrder, on_total, back_total, then_total, nat_cmp_total, bool_cmp_total}
use Rattle.std.specs.Cmp.Lexicographic.{nat_list_cmp_total, options_total}
use Rattle.version_core.specs.Order.{version_cmp}
use Rattle.candidate_core.specs.Candidates.{Candidate, Need, version_meeting_need}
use Rattle.candidate_core.specs.Rank.{SelectionProblem, UpgradedNames, rank_cmp, quality_first, is_pinned, is_untagged, has_needed_name, is_kept_installed, untagged_then_named_then_kept_cmp, met_version_priority_name_own_version_cmp, version_text_and_repository_cmp, candidate_at, greater_version_first_cmp}
use Rattle.option_ranks.specs.Ranking.{Ranking, ranking_cmp, truth_first, version_key_cmp, version_order}
use Rattle.option_ranks.specs.declared.rank.VersionKey.{VersionKey}
use Rattle.option_ranks.specs.declared.rank.VersionKey.TheVariants.{ByRank, ByText}
use Rattle.candidate_core.specs.declared.versions.RankedVersion.{RankedVersion}
use Rattle.candidate_core.specs.declared.versions.VersionKind.{VersionKind}
use Rattle.candidate_core.specs.declared.versions.VersionKind.TheVariants.{Under, Own}

quality_first_total : (quality : Candidate → _) → IsTotalOrder (quality_first quality)
quality_first_total quality = on_total quality (back_total bool_cmp_total)

quality_total : (upgraded : UpgradedNames) (need : Need) → IsTotalOrder (untagged_then_named_then_kept_cmp upgraded need)
quality_total upgraded need =
    then_total (quality_first_total is_untagged)
    (then_total (quality_first_total (has_needed_name need)) (quality_first_total (is_kept_installed upgraded)))

module _ (versions : IsTotalOrder version_cmp) where
  pub versions_back : IsTotalOrder greater_version_first_cmp
  versions_back = back_total (options_total versions)

  merit_total : (need : Need) → IsTotalOrder (met_version_priority_name_own_version_cmp need)
  merit_total need =
      then_total (on_total (version_meeting_need need) versions_back)
      (then_total (on_total (λ (c : Candidate). c.priority) (back_total nat_cmp_total))
      (then_total (on_total (λ (c : Candidate). c.name) nat_list_cmp_total)
      (on_total (λ (c : Candidate). c.version) versions_back)))

  text_total : IsTotalOrder version_text_and_repository_cmp
  text_total =
      then_total (on_total (λ (c : Candidate). c.version) (options_total nat_list_cmp_total))
      (on_total (λ (c : Candidate). c.repository) (back_total (options_total (back_total nat_cmp_total))))

  pub rank_total : (pool : SelectionProblem) (need : Need) → IsTotalOrder (rank_cmp pool need)
  unfolding rank_cmp
  rank_total pool need =
      then_total (on_total (candidate_at pool) (options_total (then_total (quality_first_total (is_pinned pool.world)) (then_total (quality_total pool.upgraded need) (then_total (merit_total need) text_total))))) nat_cmp_total

-- what options are ranked by is in order too
truth_total : (key : Ranking → _) → IsTotalOrder (truth_first key)
truth_total key = on_total key (back_total bool_cmp_total)

pub order_of_kind : IsTotalOrder version_cmp → (kind : VersionKind) → IsTotalOrder (version_order kind)
order_of_kind versions Under = versions_back versions
order_of_kind versions Own = then_total (versions_back versions) (options_total nat_list_cmp_total)

version_key_total : IsTotalOrder version_cmp → (key : VersionKey) (kind : VersionKind) → IsTotalOrder (version_key_cmp key kind)
version_key_total versions ByRank kind = on_total (λ (v : RankedVersion). v.rank) nat_cmp_total
version_key_total versions ByText kind = on_total (λ (v : RankedVersion). v.version) (order_of_kind versions kind)

pub ranking_total : IsTotalOrder version_cmp → (key : VersionKey) → IsTotalOrder (ranking_cmp key)
unfolding ranking_cmp
ranking_total versions key =
    then_total
    (then_total (truth_total (λ r. r.pinned))
    (then_total
    (then_total (truth_total (λ r. r.untagged)) (then_total (truth_total (λ r. r.named)) (truth_total (λ r. r.kept))))
    (then_total
    (then_total (on_total (λ (r : Ranking). r.under) (version_key_total versions key Under))
    (then_total (on_total (λ (r : Ranking). r.priority) (back_total nat_cmp_total))
    (then_total (on_total (λ (r : Ranking). r.name) nat_list_cmp_total) (on_total (λ (r : Ranking). r.version) (version_key_total versions key Own)))))
    (on_total (λ (r : Ranking). r.repository) (back_total (options_total (back_total nat_cmp_total)))))))
    (on_total (λ (r : Ranking). r.place) nat_cmp_total)
