use Rattle.std.proofs.Common.{sym, ◌∙◌, ap, rules, tests}
use Rattle.std.specs.Prelude.{◌==◌, ◌&&◌}
use Rattle.std.proofs.lemmas.Iterator.{YieldsList-from_slice}
use Rattle.std.proofs.lemmas.Iterator.Search.{any_from_yields_List}
use Rattle.command_core.specs.declared.values.OptionValue.{OptionValue}
use Rattle.command_core.specs.declared.values.ValueEntry.{ValueEntry}
use Rattle.command_core.specs.Values.{excludes, is_excluded_by_earlier_value}
use Rattle.command_core.proofs.Entries.{list_any-map}
use Rattle.command_core.proofs.values.Values.exclude.Goals as goal

pub returns : goal.returns
returns c =
    any_from_yields_List (λ (e : ValueEntry). (e.value.letter == c.args.rule.letter) && excludes c.args.rule.kind e.value.text c.args.text.now) _ _ c.any.result c.any.ensures.ran
    (YieldsList-from_slice c.self.inside.entries.items cc)
    (λ x b q k. search (rules, tests))
    ∙ (sym (list_any-map (λ (v : OptionValue). (v.letter == c.args.rule.letter) && excludes c.args.rule.kind v.text c.args.text.now) (λ (e : ValueEntry). e.value) c.self.inside.entries.items)
    ∙ ap (is_excluded_by_earlier_value c.args.rule c.args.text.now) c.self.view_is)
