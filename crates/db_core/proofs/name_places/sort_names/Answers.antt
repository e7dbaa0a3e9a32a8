use Rattle.std.proofs.Common.{ap, rules}
use Rattle.std.specs.Ordering.{is_lt}
use Rattle.std.proofs.lemmas.List.Sorted.{ranks_by, answers_always}
use Rattle.base_core.proofs.Sorting.{sort_seen}
use Rattle.db_core.specs.NamePlaces.{placed_name_cmp}
use Rattle.db_core.specs.NameSeen.{name_seen}
use Rattle.db_core.proofs.NamePlaces.{names_total}
use Rattle.db_core.proofs.name_places.sort_names.Goals as goal

pub returns : goal.returns
unfolding placed_name_cmp
returns c =
    let ranks = ranks_by names_total name_seen in
    sort_seen name_seen placed_name_cmp names_total _ _
    (c.in_ok-sort_by.ensures.sorted _ ranks (answers_always _ _ _ (λ f a r q k. ap is_lt (search rules))))
    (c.in_ok-sort_by.ensures.stable _ ranks (answers_always _ _ _ (λ f a r q k. ap is_lt (search rules))))
