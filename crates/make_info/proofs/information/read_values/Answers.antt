use Rattle.std.proofs.Common.{◌≡◌, ◌+◌, true, false, cond, List, ◌∷◌, drop, Some, None, sym, ◌∙◌, ap, subst, arith}
use Rattle.std.proofs.lemmas.Bool.Decides.{nat_tests}
use Rattle.command_core.specs.declared.values.OptionValue.{OptionValue}
use Rattle.make_info.specs.FieldTexts.{values_of_info_options, is_info_option}
use Rattle.make_info.specs.Reading.{items_with_option_text}
use Rattle.make_info.proofs.Left.{info_here, info_not_here}
use Rattle.make_info.proofs.Reading.{IsReadTo, one_refused, one_taken, refused_at}
use Rattle.make_info.proofs.information.read_values.Goals as goal

pub loop-i-preserved-then-value-ne-INFO : goal.loop-i-preserved-then-value-ne-INFO
loop-i-preserved-then-value-ne-INFO c =
    let values = c.args.values.now in
    let v = c.get-value.result.now in
    let letter = c.if-value-ne-INFO.true in
    let is : is_info_option v ≡ false = grind (arith, nat_tests) in
    let P : List OptionValue → Type 0 = λ rest. IsReadTo c.is_output_default_and_too_long-too_long.result (values_of_info_options values) rest c.loop-i.entries in
    subst P (info_not_here values c.loop-i.i v c.get-value.ensures is) c.loop-i.invariant

pub returns-then-not-branch-clause-err : goal.returns-then-not-branch-clause-err
returns-then-not-branch-clause-err c =
    let values = c.args.values.now in
    let v = c.get-value.result.now in
    let letter = c.if-value-ne-INFO.false in
    let is : is_info_option v ≡ true = grind (arith, nat_tests) in
    let too_long = c.is_output_default_and_too_long-too_long.result in
    let rest = values_of_info_options (drop (c.loop-i.i + 1) values) in
    let P : List OptionValue → Type 0 = λ rest. IsReadTo too_long (values_of_info_options values) rest c.loop-i.entries in
    let r : IsReadTo too_long (values_of_info_options values) (v ∷ rest) c.loop-i.entries = subst P (info_here values c.loop-i.i v c.get-value.ensures is) c.loop-i.invariant in
    let bad : None ≡ items_with_option_text too_long c.loop-i.entries v.text =
    ap (λ b. cond b (Some c.add_value.new.entries) None) (sym c.if-not-branch.true) ∙ (c.in_ok-add_value.ensures ∙ ap (items_with_option_text too_long c.loop-i.entries) c.as_bytes.ensures) in
    refused_at values c.args.behind too_long v.place c.is_output_default_and_too_long-too_long.ensures (one_refused too_long (values_of_info_options values) rest v c.loop-i.entries r bad)

pub loop-i-preserved : goal.loop-i-preserved
loop-i-preserved c =
    let values = c.args.values.now in
    let v = c.get-value.result.now in
    let letter = c.if-value-ne-INFO.false in
    let is : is_info_option v ≡ true = grind (arith, nat_tests) in
    let too_long = c.is_output_default_and_too_long-too_long.result in
    let rest = values_of_info_options (drop (c.loop-i.i + 1) values) in
    let P : List OptionValue → Type 0 = λ rest. IsReadTo too_long (values_of_info_options values) rest c.loop-i.entries in
    let r : IsReadTo too_long (values_of_info_options values) (v ∷ rest) c.loop-i.entries = subst P (info_here values c.loop-i.i v c.get-value.ensures is) c.loop-i.invariant in
    let good : Some c.add_value.new.entries ≡ items_with_option_text too_long c.loop-i.entries v.text =
    ap (λ b. cond b (Some c.add_value.new.entries) None) (sym c.if-not-branch.false) ∙ (c.in_ok-add_value.ensures ∙ ap (items_with_option_text too_long c.loop-i.entries) c.as_bytes.ensures) in
    one_taken too_long (values_of_info_options values) rest v c.loop-i.entries c.add_value.new.entries r good
