use Rattle.std.proofs.Common.{◌≡◌, ◌∙◌, ◌<◌, List, length, get_or, ap, sym, arith}
use Rattle.std.specs.Prelude.{Some, slice_get}
use Rattle.candidate_core.specs.declared.versions.RankedVersion.{RankedVersion}
use Rattle.candidate_core.proofs.Steps.{get_at}
use Rattle.option_ranks.proofs.CountedRanks.{here_is}
use Rattle.option_ranks.proofs.ListedVersions.{in_list}
use Rattle.option_ranks.proofs.version_ranks.rank_at_place.Goals as goal

pub returns-then-is_same_place : goal.returns-then-is_same_place
returns-then-is_same_place c =
    let vs : List RankedVersion = c.args.versions.now in
    let v : RankedVersion = c.index-versions-at.result in
    let within : c.partition_point-at.result < length vs = omega arith in
    let there : slice_get vs c.partition_point-at.result ≡ Some v = get_at vs c.partition_point-at.result v within ∙ ap Some (sym c.index-versions-at.is) in
    let again : get_or vs c.partition_point-at.result c.index-versions-at-then-is_same_place.result ≡ v = here_is vs c.partition_point-at.result c.index-versions-at-then-is_same_place.result v within there in
    (v, (in_list vs c.partition_point-at.result v there, (c.is_same_place.ensures c.if-is_same_place.true, ap (λ (r : RankedVersion). r.rank) (sym again))))
