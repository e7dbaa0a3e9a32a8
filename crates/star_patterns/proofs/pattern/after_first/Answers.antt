use Rattle.std.proofs.Common.{◌∙◌, ap, arith, length, length-drop, drop, false, sym, ◌+◌, ◌-◌}
use Rattle.std.proofs.lemmas.List.{take_all}
use Rattle.std.specs.Option.{option_map_or}
use Rattle.star_patterns.specs.Ends.{matches_some_suffix}
use Rattle.star_patterns.proofs.Places.{none_found, place_found}
use Rattle.star_patterns.proofs.pattern.after_first.Goals as goal

pub returns-in_err-at : goal.returns-in_err-at
returns-in_err-at c = λ pattern none.
    none_found c.args.piece.now pattern c.args.text.now c.find.result c.find.ensures c.in_err-at.was none
    ∙ ap (λ o. option_map_or (λ rest. matches_some_suffix pattern rest.now) o false) (sym c.from_residual.ensures)

pub returns : goal.returns
returns c = λ pattern none.
    let end = c.in_ok-at.at + length c.args.piece.now in
    let rest = drop end c.args.text.now in
    place_found c.args.piece.now pattern c.args.text.now c.find.result c.in_ok-at.at c.find.ensures c.in_ok-at.was none
    ∙ ap (matches_some_suffix pattern) (sym (take_all (length c.args.text.now - end) rest (omega (arith, length-drop end c.args.text.now))))
