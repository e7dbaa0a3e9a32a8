use Rattle.std.proofs.Common.{◌∙◌, ◌++◌, List, ℕ, ap, sym, subst}
use Rattle.std.specs.Prelude.{option_map, option_to_list}
use Rattle.dep_core.specs.Meets.{dependency}
use Rattle.search_tables.specs.Selection.{AreAllMembersOf}
use Rattle.unmet_world.proofs.refutation.is_met_only_by.Goals as goal

pub returns : goal.returns
returns c = λ is.
    (dependency c.in-Some.dep, sym (c.wanted.ensures c.requires) ∙ ap (option_map dependency) c.in-Some.is, subst (λ (z : List ℕ). AreAllMembersOf z (option_to_list c.args.kept.now ++ c.args.out.now)) c.in_ok-options.ensures (c.are_left.ensures is))
