-- The keys of options, each read once, in their order. Versions are compared by their texts, or by their ranks: how
-- many of the ranked versions precede them. The rule is in `docs/selection.md`, "Which selection is taken", the table
-- of eleven keys, which *Rank* defines over candidates. This file serves the contracts of `src/rank.rt` and of
-- `src/sealed.rt` of `pool_core`: the order of rankings is that of their candidates.
use Rattle.std.specs.Prelude.{◌≡◌, ℕ, Bool, List, Option, Some}
use Rattle.std.specs.Option.{option_cmp}
use Rattle.std.specs.Ordering.{bool_cmp, flip_args, nat_cmp, on, then_cmp}
use Rattle.std.specs.declared.cmp.Ordering.{Ordering}
use Rattle.candidate_core.specs.Candidates.{Candidate, Need, version_meeting_need}
use Rattle.candidate_core.specs.Rank.{SelectionProblem, bytes_cmp, candidate_at, earlier_repository_first_cmp, greater_version_first_cmp, has_needed_name, is_kept_installed, is_pinned, is_untagged}
use Rattle.option_ranks.specs.declared.rank.VersionKey.{VersionKey}
use Rattle.option_ranks.specs.declared.rank.VersionKey.TheVariants.{ByRank, ByText}
use Rattle.candidate_core.specs.declared.versions.RankedVersion.{RankedVersion}
use Rattle.candidate_core.specs.declared.versions.VersionKind.{VersionKind}
use Rattle.candidate_core.specs.declared.versions.VersionKind.TheVariants.{Under, Own}

-- the eleven keys by which an option of a need is ranked, in their order. The first key that differs decides which of
-- two options is preferred
pub record Ranking : Type 0 where
  -- key 1: world pins the candidate's name to its tag
  pub pinned : Bool
  -- key 2: the candidate is from a repository without tag, or from none
  pub untagged : Bool
  -- key 3: the candidate has the needed name
  pub named : Bool
  -- key 4: the candidate is installed, and the command does not upgrade its name
  pub kept : Bool
  -- key 5: the version under which the option meets the need
  pub under : RankedVersion
  -- key 6: the option's `provider-priority`
  pub priority : ℕ
  -- key 7: the option's name
  pub name : List ℕ
  -- keys 8 and 9: the option's own version
  pub version : RankedVersion
  -- key 10: the repository, counted from 1, if there is one
  pub repository : Option ℕ
  -- key 11: the place in the list of candidates, counted from 0
  pub place : ℕ

-- a ranking from its keys, in the order of the fields of *Ranking*
abbrev pub ranking_from_parts :
    Bool → Bool → Bool → Bool → RankedVersion → ℕ → List ℕ → RankedVersion → Option ℕ → ℕ → Ranking
ranking_from_parts pinned untagged named kept under priority name version repository place = record {
  pinned = pinned;
  untagged = untagged;
  named = named;
  kept = kept;
  under = under;
  priority = priority;
  name = name;
  version = version;
  repository = repository;
  place = place;
}

-- the version, with the source, the word and the rank of `ranked`, but with the text `version`
abbrev pub with_version : RankedVersion → Option (List ℕ) → RankedVersion
with_version ranked version = record ranked { version = version }

-- the ranking of the candidate `c` for a need, by the candidate's keys and versions. Of the ranking `r`, only the
-- places of the two texts, the two ranks, and the place of the candidate are kept
abbrev pub with_values_of_candidate : SelectionProblem → Need → Candidate → Ranking → Ranking
with_values_of_candidate pool need c r =
    ranking_from_parts (is_pinned pool.world c) (is_untagged c) (has_needed_name need c)
    (is_kept_installed pool.upgraded c)
    (with_version r.under (version_meeting_need need c)) c.priority c.name
    (with_version r.version c.version) c.repository r.place

-- there is a candidate at the place of the ranking, and the ranking has the keys of this candidate for the need
abbrev pub IsRankingIn : SelectionProblem → Need → Ranking → Type 0
IsRankingIn pool need r = (c : Candidate) × ((candidate_at pool r.place ≡ Some c)
    × (r ≡ with_values_of_candidate pool need c r))

-- the order of two versions of one kind: the greater is first. Of two own versions (`Own`) that are equal, the one
-- whose text is less in byte order is first
abbrev pub version_order : VersionKind → Option (List ℕ) → Option (List ℕ) → Ordering
version_order Under = greater_version_first_cmp
version_order Own = then_cmp greater_version_first_cmp (option_cmp bytes_cmp)

-- the order of two versions of one kind: by their ranks, the lesser first, or by the versions themselves
abbrev pub version_key_cmp : VersionKey → VersionKind → RankedVersion → RankedVersion → Ordering
version_key_cmp ByRank kind = on (λ (v : RankedVersion). v.rank) nat_cmp
version_key_cmp ByText kind = on (λ (v : RankedVersion). v.version) (version_order kind)

-- an order of rankings: those for which the test `key` is true precede those for which it is false
abbrev pub truth_first : (Ranking → Bool) → Ranking → Ranking → Ordering
truth_first key = on key (flip_args bool_cmp)

-- the order of two options by keys 2 to 4: those without tag first, then those with the needed name, then those that
-- are installed and kept
abbrev pub quality_ranking_cmp : Ranking → Ranking → Ordering
quality_ranking_cmp =
    then_cmp (truth_first (λ r. r.untagged))
    (then_cmp (truth_first (λ r. r.named)) (truth_first (λ r. r.kept)))

-- the order of two options by keys 7 to 9. The name that is less in byte order is first, then the greater own
-- version. Of equal versions, the text that is less in byte order is first
abbrev pub name_ranking_cmp : VersionKey → Ranking → Ranking → Ordering
name_ranking_cmp key =
    then_cmp (on (λ (r : Ranking). r.name) bytes_cmp)
    (on (λ (r : Ranking). r.version) (version_key_cmp key Own))

-- the order of two options by keys 6 to 9: the greater provider-priority first
abbrev pub priority_ranking_cmp : VersionKey → Ranking → Ranking → Ordering
priority_ranking_cmp key =
    then_cmp (on (λ (r : Ranking). r.priority) (flip_args nat_cmp)) (name_ranking_cmp key)

-- the order of two options by keys 5 to 9: the greater version under which the need is met first
abbrev pub merit_ranking_cmp : VersionKey → Ranking → Ranking → Ordering
merit_ranking_cmp key =
    then_cmp (on (λ (r : Ranking). r.under) (version_key_cmp key Under)) (priority_ranking_cmp key)

-- the order of two options by key 10: the earlier repository first, and an absent one last
abbrev pub repository_ranking_cmp : Ranking → Ranking → Ordering
repository_ranking_cmp = on (λ (r : Ranking). r.repository) earlier_repository_first_cmp

-- the order of two options by keys 2 to 10, if world pins both of them, or neither of them
abbrev pub unpinned_ranking_cmp : VersionKey → Ranking → Ranking → Ordering
unpinned_ranking_cmp key =
    then_cmp quality_ranking_cmp (then_cmp (merit_ranking_cmp key) repository_ranking_cmp)

-- the order of two options by keys 1 to 10, all but the place: pinned options first
abbrev pub candidate_ranking_cmp : VersionKey → Ranking → Ranking → Ordering
candidate_ranking_cmp key = then_cmp (truth_first (λ r. r.pinned)) (unpinned_ranking_cmp key)

-- the order of two options by all eleven keys: the place decides if keys 1 to 10 are equal
unfoldable pub ranking_cmp : VersionKey → Ranking → Ranking → Ordering
ranking_cmp key = then_cmp (candidate_ranking_cmp key) (on (λ (r : Ranking). r.place) nat_cmp)
