use Rattle.std.proofs.Common.{◌≡◌, true, Some, None, sym, ◌∙◌, ap}
use Rattle.std.specs.Prelude.{is_ok}
use Rattle.std.specs.Option.{option_map}
use Rattle.make_info.specs.FieldTexts.{named_output, default_output}
use Rattle.make_info.specs.Information.{information}
use Rattle.make_info.proofs.Outputs.{named_case, own_case}
use Rattle.make_info.proofs.output.named_or_default_package_output.Goals as goal

pub returns-in-Some : goal.returns-in-Some
returns-in-Some c =
    let good : is_ok (information c.args.command.now) ≡ true = sym c.in_ok-is_allowed.ensures ∙ c.if-not-branch.false in
    named_case c.args.command.now c.in_ok-name.field-0 c.in-Some.name good c.in-Some.is c.in_ok-name.ensures

pub returns-in-Some-2 : goal.returns-in-Some-2
returns-in-Some-2 c =
    let command = c.args.command.now in
    let good : is_ok (information command) ≡ true = sym c.in_ok-is_allowed.ensures ∙ c.if-not-branch.false in
    let unnamed : named_output command.values ≡ None = sym c.in_ok-name.ensures ∙ c.in_default.is in
    let own : default_output command.values ≡ Some c.deref.result.now = ap default_output (sym c.values.ensures.value) ∙ sym (sym (ap (option_map (λ file. file.items)) c.in-Some-2.is) ∙ c.in_ok-file.ensures) ∙ ap Some (sym c.deref.ensures.value) in
    own_case c.read.result command c.deref.result.now c.versions_have_version_bytes.ensures.bytes good unnamed own c.read.ensures.when c.read.ensures.value
