use Rattle.std.proofs.Common.{◌≡◌, ◌∷◌, [], OnOk, ap, map, subst, sym, ◌∙◌}
use Rattle.dep_core.specs.Meets.{dependency}
use Rattle.make_info.specs.Fields.{need}
use Rattle.make_info.specs.Information.{plain_value}
use Rattle.v2_core.specs.Views.{line_value_view}
use Rattle.v2_core.specs.Database.{value_of_first_or_null}
use Rattle.make_info.proofs.Mapped.{with_list}
use Rattle.v2_core.proofs.Lists.{map-map}
use Rattle.v2_core.proofs.ListValues.{one_value}
use Rattle.v2_core.proofs.writing.write_values.Goals as goal

pub returns-in-Needs : goal.returns-in-Needs
returns-in-Needs c =
    let same : map (λ d. plain_value (need (dependency d))) c.deref.result.now ≡ map plain_value (line_value_view c.args.value.now) =
    ap (map (λ d. plain_value (need (dependency d)))) c.deref.ensures.value ∙ (sym (map-map plain_value (λ d. need (dependency d)) c.in-Needs.needs.items) ∙ ap (λ v. map plain_value (line_value_view v)) (sym c.in-Needs.is)) in
    subst (λ us. OnOk c.write_needs.result (c.write_needs.new.draft ≡ with_list us c.args.draft.now)) same c.write_needs.ensures

pub returns-in_default : goal.returns-in_default
returns-in_default c =
    let one : map plain_value (line_value_view c.args.value.now) ≡ value_of_first_or_null (line_value_view c.args.value.now) ∷ [] = one_value c.args.value.now c.in_default.not-Needs c.in_default.not-Nothing in
    subst (λ us. OnOk c.write_first.result (c.write_first.new.draft ≡ with_list us c.args.draft.now)) (sym one) c.write_first.ensures
