-- No option so far is spelled by the word.
use Rattle.std.proofs.Common.{◌≡◌, drop}
use Rattle.std.specs.List.{find}
use Rattle.std.specs.Prelude.{◌||◌}
use Rattle.std.specs.Str.{bytes_eq}
use Rattle.words_core.specs.declared.options.OptionRow.{OptionRow}
use Rattle.words_core.proofs.options.find_option.Given as goal

abbrev pub invariant-loop-option : goal.invariant-loop-option
invariant-loop-option l =
    find (λ (o : OptionRow). bytes_eq o.long.now l.word || bytes_eq o.short.now l.word) l.options
    ≡ find (λ (o : OptionRow). bytes_eq o.long.now l.word || bytes_eq o.short.now l.word) (drop l.option-index l.options)
