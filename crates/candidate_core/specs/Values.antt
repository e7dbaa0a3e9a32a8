-- The candidates, needs and names that the types of the code represent, so that contracts do not depend
-- on where their bytes are. No rule of a document except in *IsPoolFault*: the limit is in
-- `docs/selection.md`, "What there is to choose from".
use Rattle.std.specs.Prelude.{◌≡◌, ◌<◌, ◌+◌, ℕ, option_copied}
use Rattle.adb_schema.specs.Views.{info_value}
use Rattle.dep_core.specs.Meets.{dependency}
use Rattle.candidate_core.specs.declared.candidate.Candidate.{Candidate as Shown}
use Rattle.candidate_core.specs.declared.need.Need.{Need as OwnedNeed}
use Rattle.candidate_core.specs.declared.need.Need.TheVariants.{Entry, Named}
use Rattle.candidate_core.specs.declared.need.NeedRef.{NeedRef}
use Rattle.candidate_core.specs.declared.need.NeedRef.TheVariants as Borrowed
use Rattle.candidate_core.specs.declared.need.Upgrade.{Upgrade}
use Rattle.candidate_core.specs.declared.need.Upgrade.TheVariants.{Nothing, All, Listed}
use Rattle.candidate_core.specs.declared.candidate_list.PoolFault.{PoolFault}
use Rattle.candidate_core.specs.declared.candidate_list.PoolFault.TheVariants.{TooMany, Memory}
use Rattle.candidate_core.specs.declared.candidate_list.TheConstants.{MOST_CANDIDATES}
use Rattle.candidate_core.specs.Candidates.{Candidate, candidate_of, Need, entry, named}
use Rattle.candidate_core.specs.Rank.{UpgradedNames, no_names, all_names, listed_names}

-- the candidate that is shown to a caller, whose parts are read from its information
abbrev pub candidate_value : Shown → Candidate
candidate_value c = candidate_of (info_value c.info) c.repo (option_copied c.tag) c.installed

-- the need that a `Need` of the program represents, which owns its dependency
abbrev pub need_of_owned : OwnedNeed → Need
need_of_owned (Entry dep) = entry (dependency dep)
need_of_owned (Named name) = named name.now

-- the need that a `NeedRef` of the program represents, which borrows its dependency
abbrev pub need_of_ref : NeedRef → Need
need_of_ref (Borrowed.Entry dep) = entry (dependency dep.now)
need_of_ref (Borrowed.Named name) = named name.now

-- the names that a command upgrades, as the program's type `Upgrade` gives them
abbrev pub names_upgraded_by : Upgrade → UpgradedNames
names_upgraded_by Nothing = no_names
names_upgraded_by All = all_names
names_upgraded_by (Listed words) = listed_names words.now

-- a fault says rightly why a list of `total` candidates is refused: `total` exceeds the limit, and the reported count
-- is the limit plus 1; or memory ran out
abbrev pub IsPoolFault : PoolFault → ℕ → Type 0
IsPoolFault (TooMany count) total = (MOST_CANDIDATES < total) × (count ≡ MOST_CANDIDATES + 1)
IsPoolFault Memory total = Unit {0}
