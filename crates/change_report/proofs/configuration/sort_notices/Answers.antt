use Rattle.std.proofs.Common.{ap, rules}
use Rattle.std.specs.Ordering.{is_lt}
use Rattle.std.proofs.lemmas.List.Sorted.{ranks_by, answers_always}
use Rattle.base_core.proofs.Sorting.{sort_seen}
use Rattle.change_outcome.specs.ConfigurationLines.{path_with_line_cmp_by_path}
use Rattle.change_report.specs.Notices.{notice_seen}
use Rattle.change_report.proofs.PathOrder.{path_lines_total}
use Rattle.change_report.proofs.configuration.sort_notices.Goals as goal

pub returns : goal.returns
returns c =
    let ranks = ranks_by path_lines_total notice_seen in
    sort_seen notice_seen path_with_line_cmp_by_path path_lines_total _ _
    (c.in_ok-sort_by.ensures.sorted _ ranks (answers_always _ _ _ (λ f a r q k. ap is_lt (search rules))))
    (c.in_ok-sort_by.ensures.stable _ ranks (answers_always _ _ _ (λ f a r q k. ap is_lt (search rules))))
