use Rattle.std.proofs.Common.{◌∙◌, ◌++◌, ℕ, List, [], ap, refl, sym, append-nil, None, Some}
use Rattle.std.specs.Prelude.{codes, option_map, unwrap_or}
use Rattle.dep_core.specs.DependencyText.{dep_text}
use Rattle.dep_core.specs.Meets.{dependency}
use Rattle.unmet_world.specs.Lines.{entry_origin_text}
use Rattle.unmet_world.proofs.AddedTexts.{three_added}
use Rattle.unmet_world.proofs.Refused.{added_as, five_added, no_value, refused_by_tag, refused_by_world, tag_text}
use Rattle.unmet_world.proofs.texts.add_refusal.Goals as goal

pub returns-in_err-extend_from_slice : goal.returns-in_err-extend_from_slice
returns-in_err-extend_from_slice c = no_value _ _ c.from_residual.result c.from_residual.ensures.1

pub returns-in_err-extend_from_slice-2 : goal.returns-in_err-extend_from_slice-2
returns-in_err-extend_from_slice-2 c = no_value _ _ c.from_residual-in_err-extend_from_slice-2.result c.from_residual-in_err-extend_from_slice-2.ensures.1

pub returns-then-not-is_allowed_by_tags_of_world : goal.returns-then-not-is_allowed_by_tags_of_world
returns-then-not-is_allowed_by_tags_of_world c =
    let last = c.extend_from_slice-then-not-is_allowed_by_tags_of_world-2 in
    let tag = tag_text _ _ _ _ c.tag.ensures c.unwrap_or.ensures refl in
    added_as last.result _ _ _ _ (refused_by_tag c.args.sources.now.listed.now c.args.sources.now.world.now c.args.details.now (sym c.is_allowed_by_tags_of_world.ensures ∙ c.if-not-is_allowed_by_tags_of_world.true))
    (three_added last.result _ _ _ _ (codes " (tagged @") (unwrap_or c.args.details.now.tag []) (codes ")") c.in_ok-extend_from_slice.ensures.items
    (c.in_ok-extend_from_slice-2.ensures.items ∙ ap (λ (t : List ℕ). c.extend_from_slice.new.self.items ++ t) tag) last.ensures.items)

pub returns-in_default : goal.returns-in_default
returns-in_default c =
    sym (append-nil _) ∙ ap (λ z. c.args.text.now.items ++ z) (refused_by_world c.args.sources.now.listed.now c.args.sources.now.world.now c.args.details.now None (sym c.is_allowed_by_tags_of_world.ensures ∙ c.if-not-is_allowed_by_tags_of_world.false) (sym (ap (option_map dependency) c.in_default.is) ∙ c.bar.ensures))

pub returns-in_err-extend_from_slice-3 : goal.returns-in_err-extend_from_slice-3
returns-in_err-extend_from_slice-3 c = no_value _ _ c.from_residual-in_err-extend_from_slice-3.result c.from_residual-in_err-extend_from_slice-3.ensures.1

pub returns-in_err-add_entry_origin : goal.returns-in_err-add_entry_origin
returns-in_err-add_entry_origin c = no_value _ _ c.from_residual-in_err-add_entry_origin.result c.from_residual-in_err-add_entry_origin.ensures.1

pub returns-in_err-extend_from_slice-4 : goal.returns-in_err-extend_from_slice-4
returns-in_err-extend_from_slice-4 c = no_value _ _ c.from_residual-in_err-extend_from_slice-4.result c.from_residual-in_err-extend_from_slice-4.ensures.1

pub returns-in_err-add_dep : goal.returns-in_err-add_dep
returns-in_err-add_dep c = no_value _ _ c.from_residual-in_err-add_dep.result c.from_residual-in_err-add_dep.ensures.1

pub returns : goal.returns
returns c =
    let last = c.extend_from_slice-4 in
    let dep = dependency c.in-Some.dep in
    added_as last.result _ _ _ _ (refused_by_world c.args.sources.now.listed.now c.args.sources.now.world.now c.args.details.now (Some dep) (sym c.is_allowed_by_tags_of_world.ensures ∙ c.if-not-is_allowed_by_tags_of_world.false) (sym (ap (option_map dependency) c.in-Some.is) ∙ c.bar.ensures))
    (five_added last.result _ _ _ _ _ _ (codes " (") (entry_origin_text c.args.sources.now.listed.now dep) (codes " has ") (dep_text dep) (codes ")")
    c.in_ok-extend_from_slice-3.ensures.items c.in_ok-add_entry_origin.ensures c.in_ok-extend_from_slice-4.ensures.items c.in_ok-add_dep.ensures last.ensures.items)
