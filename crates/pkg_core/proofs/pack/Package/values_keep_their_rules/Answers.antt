use Rattle.std.proofs.Common.{subst}
use Rattle.adb_schema.specs.SoundValues.{ObeysTextAndNumberRulesOfTable}
use Rattle.pkg_core.specs.Opened.{opened_value}
use Rattle.pkg_core.proofs.pack.Package.values_keep_their_rules.Goals as goal

pub returns : goal.returns
returns c = subst (λ which. ObeysTextAndNumberRulesOfTable which (opened_value c.args.self.now)) c.args.self.now.table c.values_keep_their_rules.ensures
