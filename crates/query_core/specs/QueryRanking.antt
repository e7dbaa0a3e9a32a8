-- The keys by which a query orders candidates: the keys of options, of which all but name, version and place are the
-- same for all candidates. No rule of a document: serves the contracts of `src/order.rt`.
use Rattle.std.specs.Prelude.{◌≡◌, ◌==◌, Bool, true, false, All, List, None, Some, slice_get}
use Rattle.pool_core.specs.candidate_core.Candidates.{Candidate, is_same_version}
use Rattle.pool_core.specs.candidate_core.Options.{IsIn}
use Rattle.pool_core.specs.option_ranks.Ranking.{Ranking, ranking_from_parts, with_version}
use Rattle.pool_core.specs.option_ranks.declared.rank.VersionKey.{VersionKey}
use Rattle.pool_core.specs.option_ranks.declared.rank.VersionKey.TheVariants.{ByRank, ByText}

-- the keys of the candidate `c` in the order of queries; of the ranking `r`, only the places of the two texts, the
-- two ranks, and the place of the candidate are kept
abbrev pub query_ranking : Candidate → Ranking → Ranking
query_ranking c r =
    ranking_from_parts false false false false (with_version r.under None) 0 c.name
    (with_version r.version c.version) None r.place

-- there is a candidate at the place of the ranking, and the ranking has the keys of this candidate
abbrev pub IsQueryRanking : List Candidate → Ranking → Type 0
IsQueryRanking candidates r = (c : Candidate)
    × ((slice_get candidates r.place ≡ Some c) × (r ≡ query_ranking c r))

-- whether two rankings have one version: by their ranks or by their texts, as the key says
abbrev pub have_same_version : VersionKey → Ranking → Ranking → Bool
have_same_version ByRank a b = a.version.rank == b.version.rank
have_same_version ByText a b = is_same_version a.version.version b.version.version

-- The rankings have the keys of these candidates. By this key, two of them have one version exactly if the texts of
-- their versions are the same.
pub record AreInQueryOrder (candidates : List Candidate) (key : VersionKey) (rs : List Ranking)
    : Type 0 where
  -- each ranking has the keys of the candidate at its place
  pub read : All (IsQueryRanking candidates) rs
  -- if the key finds the same version in two rankings, the texts of their versions are the same
  pub alike : (a b : Ranking) → IsIn a rs → IsIn b rs → have_same_version key a b ≡ true
      → a.version.version ≡ b.version.version
  -- if the texts of the versions of two rankings are the same, the key finds the same version
  pub same : (a b : Ranking) → IsIn a rs → IsIn b rs → a.version.version ≡ b.version.version
      → have_same_version key a b ≡ true
