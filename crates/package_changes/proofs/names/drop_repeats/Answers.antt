use Rattle.std.proofs.Common.{◌∙◌, ap, map}
use Rattle.std.proofs.lemmas.List.Filters.{dedup_is}
use Rattle.package_changes.proofs.NamesInOrder.{is_same_name, kept_once}
use Rattle.package_changes.proofs.names.drop_repeats.Goals as goal

pub returns : goal.returns
returns c =
    ap (map (λ n. n.now)) (dedup_is is_same_name _ _ c.dedup.ensures.filtered) ∙ kept_once c.args.names.now.items
