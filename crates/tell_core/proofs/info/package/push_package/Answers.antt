use Rattle.std.proofs.Common.{◌≡◌, ◌++◌, [], sym, subst}
use Rattle.std.specs.Prelude.{OnOk}
use Rattle.std.specs.Option.{option_map_or}
use Rattle.tell_core.specs.Info.{package_info_for_operand_text}
use Rattle.tell_core.proofs.info.package.push_package.Goals as goal

pub returns : goal.returns
returns c =
    subst (λ o. OnOk c.push_info.result (c.push_info.new.report.items ≡ c.args.report.now.items ++ option_map_or (package_info_for_operand_text c.args.form c.args.text.now) o []))
    (sym c.package-pkg.ensures) c.push_info.ensures
