-- The ranks of the versions of options: each version of a list is ranked by how many of them precede
-- it. The rule is in `docs/selection.md`, "Which selection is taken", keys 5, 8 and 9 of the table.
-- Serves the contracts of `src/version_ranks.rt`: a rank may represent a version when two options are
-- compared.
use Rattle.std.specs.Prelude.{◌≡◌, ℕ, List, length, map, Option, All, is_some}
use Rattle.std.specs.List.{filter}
use Rattle.std.specs.List.Sorted.{IsPermutation}
use Rattle.std.specs.Ordering.{is_lt}
use Rattle.candidate_core.specs.Options.{IsIn}
use Rattle.option_ranks.specs.Ranking.{Ranking, version_order}
use Rattle.candidate_core.specs.VersionTexts.{HasVersionTextFrom, source_text}
use Rattle.candidate_core.specs.declared.packages.Source.{Source}
use Rattle.option_ranks.specs.declared.rank.VersionKey.{VersionKey}
use Rattle.option_ranks.specs.declared.rank.VersionKey.TheVariants.{ByRank, ByText}
use Rattle.candidate_core.specs.declared.versions.RankedVersion.{RankedVersion}
use Rattle.candidate_core.specs.declared.versions.VersionKind.{VersionKind}
use Rattle.candidate_core.specs.declared.versions.VersionKind.TheVariants.{Under, Own}

-- ---- the places of the texts of versions

-- both are versions, or neither is, and their texts are at one place: the same word in the same source
pub record HaveSamePlace (one other : RankedVersion) : Type 0 where
  -- both are versions, or neither is
  pub version : is_some one.version ≡ is_some other.version
  -- both texts are in the same source
  pub source : one.source ≡ other.source
  -- both texts have the same word (32-bit value) there
  pub word : one.word ≡ other.word

-- A ranking has the candidate's own version (`version`), and the version under which the candidate
-- meets the need (`under`). Each of the two, if it exists, is the text at its place in these sources.
abbrev pub HasVersionTextsOfSources : List Source → Ranking → Type 0
HasVersionTextsOfSources sources r =
    HasVersionTextFrom (source_text sources) r.under × HasVersionTextFrom (source_text sources) r.version

-- ---- ranks

-- one of the two versions of an option: the one under which it meets the need (`Under`), or its own (`Own`)
abbrev pub version_of : VersionKind → Ranking → RankedVersion
version_of Under r = r.under
version_of Own r = r.version

-- the rank of a version among the versions of a list: how many of them precede it in the order of the kind
abbrev pub rank_among : VersionKind → List (Option (List ℕ)) → Option (List ℕ) → ℕ
rank_among kind versions version =
    length (filter (λ one. is_lt (version_order kind one version)) versions)

-- the ranking with the rank of its version of this kind set to `n`
abbrev pub with_version_rank : VersionKind → ℕ → Ranking → Ranking
with_version_rank Under n r = record r { under = record r.under { rank = n } }
with_version_rank Own n r = record r { version = record r.version { rank = n } }

-- the ranking with the rank of its version of this kind set to the rank of this version among `versions`
abbrev pub with_rank_among : VersionKind → List (Option (List ℕ)) → Ranking → Ranking
with_rank_among kind versions r =
    with_version_rank kind (rank_among kind versions (version_of kind r).version) r

-- the versions of a list, without their places and ranks
abbrev pub versions_in : List RankedVersion → List (Option (List ℕ))
versions_in versions = map (λ (v : RankedVersion). v.version) versions

-- the version `v` with the rank `n`
abbrev pub version_with_rank : ℕ → RankedVersion → RankedVersion
version_with_rank n v = record v { rank = n }

-- the version `v` with its rank among these versions, in the order of the kind
abbrev pub version_with_rank_among :
    VersionKind → List (Option (List ℕ)) → RankedVersion → RankedVersion
version_with_rank_among kind versions v = version_with_rank (rank_among kind versions v.version) v

-- the rank that is stored with a version is its rank among these versions, in the order of the kind
abbrev pub HasRankAmong : VersionKind → List (Option (List ℕ)) → RankedVersion → Type 0
HasRankAmong kind versions v = v.rank ≡ rank_among kind versions v.version

-- a version of the list has its text at the same place as `other`, and has this rank
abbrev pub IsRankAt : List RankedVersion → RankedVersion → ℕ → Type 0
IsRankAt versions other rank = (v : RankedVersion)
    × (IsIn v versions × (HaveSamePlace v other × (v.rank ≡ rank)))

-- the list has the version of this kind of the ranking
abbrev pub IsVersionAmong : VersionKind → List (Option (List ℕ)) → Ranking → Type 0
IsVersionAmong kind versions r = IsIn (version_of kind r).version versions

-- the versions of this kind of all these rankings are read by one function from places to texts, so that versions
-- with one place are equal
abbrev pub HaveVersionsFromSameTexts : VersionKind → List Ranking → Type 0
HaveVersionsFromSameTexts kind rankings = (text : ℕ → ℕ → List ℕ)
    × All (λ r. HasVersionTextFrom text (version_of kind r)) rankings

-- these versions and one more are read by one function from places to texts, so that versions with one place are
-- equal
abbrev pub IsReadTogether : List RankedVersion → RankedVersion → Type 0
IsReadTogether versions v = (text : ℕ → ℕ → List ℕ)
    × (HasVersionTextFrom text v × All (HasVersionTextFrom text) versions)

-- these versions, and those of this kind of all these rankings, are read by one function from places to texts, so
-- that versions with one place are equal
abbrev pub AreReadTogether : VersionKind → List RankedVersion → List Ranking → Type 0
AreReadTogether kind versions rankings = (text : ℕ → ℕ → List ℕ)
    × (All (HasVersionTextFrom text) versions
    × All (λ r. HasVersionTextFrom text (version_of kind r)) rankings)

-- the rankings `after` are those `before` in some order. In each, the version of this kind has its rank among a list
-- that includes the versions of all the rankings
pub record AreRankedFrom (kind : VersionKind) (before after : List Ranking) : Type 0 where
  -- the list of versions among which those of the rankings are ranked
  pub versions : List (Option (List ℕ))
  -- the rankings in the order after the call, with the ranks from before it
  pub moved : List Ranking
  -- these are the rankings before the call, in some order
  pub permutation : IsPermutation before moved
  -- the version of each of them is in the list
  pub listed : All (IsVersionAmong kind versions) moved
  -- after the call, each of them has the rank of its version
  pub ranked : after ≡ map (with_rank_among kind versions) moved

-- the rankings `after` are those `before` in some order, each with the ranks of both its versions
pub record AreRankedTwice (before after : List Ranking) : Type 0 where
  -- the rankings after their versions of the kind `Under` were ranked
  pub between : List Ranking
  -- the first ranking is by the versions under which the need is met
  pub under : AreRankedFrom Under before between
  -- then their versions of the kind `Own` were ranked
  pub own : AreRankedFrom Own between after

-- the rankings `after` are those `before`, and may be compared by a key: both versions of each are
-- ranked, or nothing has changed
abbrev pub AreComparableByKey : VersionKey → List Ranking → List Ranking → Type 0
AreComparableByKey ByRank before after = AreRankedTwice before after
AreComparableByKey ByText before after = after ≡ before
