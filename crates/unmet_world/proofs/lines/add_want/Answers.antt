use Rattle.std.proofs.Common.{◌∙◌, ap, sym}
use Rattle.std.specs.Prelude.{option_map}
use Rattle.dep_core.specs.Meets.{dependency}
use Rattle.unmet_world.proofs.WantLines.{no_want, want_met, want_unmet}
use Rattle.unmet_world.proofs.lines.add_want.Goals as goal

pub returns-in_default : goal.returns-in_default
returns-in_default c = no_want c.args.sources.now.pool.now c.args.sources.now.listed.now c.args.sources.now.repositories.now c.args.want _ (sym (c.wanted.ensures c.requires) ∙ ap (option_map dependency) c.in_default.is)

pub returns-then-not-is_empty : goal.returns-then-not-is_empty
returns-then-not-is_empty c = want_met c.args.sources.now.pool.now c.args.sources.now.listed.now c.args.sources.now.repositories.now c.args.want _ (dependency c.in-Some.dep) c.from_vec.result _ _
    (sym (c.wanted.ensures c.requires) ∙ ap (option_map dependency) c.in-Some.is) (c.from_vec.ensures ∙ c.in_ok-line.ensures) c.in_ok-add_once.ensures c.in_ok-options.ensures (sym c.is_empty.ensures ∙ c.if-not-is_empty.true)

pub returns : goal.returns
returns c = want_unmet c.args.sources.now.pool.now c.args.sources.now.listed.now c.args.sources.now.repositories.now c.args.want _ (dependency c.in-Some.dep) c.from_vec.result _ _ c.add_once-2.result _ _
    (sym (c.wanted.ensures c.requires) ∙ ap (option_map dependency) c.in-Some.is) (c.from_vec.ensures ∙ c.in_ok-line.ensures) c.in_ok-add_once.ensures c.in_ok-options.ensures (sym c.is_empty.ensures ∙ c.if-not-is_empty.false) c.in_ok-line-2.ensures c.add_once-2.ensures
