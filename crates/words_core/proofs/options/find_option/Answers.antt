use Rattle.std.proofs.Common.{◌∙◌, Bool, sym}
use Rattle.std.specs.Prelude.{◌||◌}
use Rattle.std.specs.Str.{bytes_eq}
use Rattle.words_core.specs.Rows.{option_spec}
use Rattle.words_core.specs.declared.options.OptionRow.{OptionRow}
use Rattle.words_core.proofs.Found.{found_at, found_later, found_seen, not_found}
use Rattle.words_core.proofs.options.find_option.Goals as goal

pub returns-then-is_spelled : goal.returns-then-is_spelled
returns-then-is_spelled c =
    let spelled : OptionRow → Bool = λ (o : OptionRow). bytes_eq o.long.now c.args.word.now || bytes_eq o.short.now c.args.word.now in
    found_seen option_spec c.args.options.now c.args.word.now _
    (found_at spelled c.args.options.now c.loop-option.option-index _ c.loop-option-test.true (sym c.is_spelled.ensures ∙ c.if-is_spelled.true) c.loop-option.invariant)

pub loop-option-preserved : goal.loop-option-preserved
loop-option-preserved c =
    let spelled : OptionRow → Bool = λ (o : OptionRow). bytes_eq o.long.now c.args.word.now || bytes_eq o.short.now c.args.word.now in
    found_later spelled c.args.options.now c.loop-option.option-index _ c.loop-option-test.true (sym c.is_spelled.ensures ∙ c.if-is_spelled.false) c.loop-option.invariant

pub returns : goal.returns
returns c =
    let spelled : OptionRow → Bool = λ (o : OptionRow). bytes_eq o.long.now c.args.word.now || bytes_eq o.short.now c.args.word.now in
    found_seen option_spec c.args.options.now c.args.word.now _
    (not_found spelled c.args.options.now c.loop-option.option-index c.loop-option-test.false c.loop-option.invariant)
