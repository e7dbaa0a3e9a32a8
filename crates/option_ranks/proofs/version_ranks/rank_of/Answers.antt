use Rattle.std.proofs.Common.{◌∙◌, ℕ, List, ap, sym}
use Rattle.candidate_core.specs.VersionTexts.{HasVersionTextFrom}
use Rattle.candidate_core.specs.declared.versions.RankedVersion.{RankedVersion}
use Rattle.option_ranks.specs.VersionRanks.{HasRankAmong, rank_among, versions_in}
use Rattle.option_ranks.proofs.MovedMembers.{member_of_all}
use Rattle.option_ranks.proofs.RankedVersions.{same_version}
use Rattle.option_ranks.proofs.version_ranks.rank_of.Goals as goal

pub returns-in-Some : goal.returns-in-Some
returns-in-Some c =
    let vs : List RankedVersion = c.args.versions.now in
    let found = c.in-Some.ensures in
    let v : RankedVersion = found.0 in
    let text : ℕ → ℕ → List ℕ = c.requires.alike.0 in
    let same = same_version text v c.args.version.now (member_of_all (HasVersionTextFrom text) vs v c.requires.alike.1.1 found.1.0) c.requires.alike.1.0 found.1.1.0 in
    sym found.1.1.1
    ∙ (member_of_all (HasRankAmong c.args.kind (versions_in vs)) vs v c.requires.ranked found.1.0
    ∙ ap (rank_among c.args.kind (versions_in vs)) same)
