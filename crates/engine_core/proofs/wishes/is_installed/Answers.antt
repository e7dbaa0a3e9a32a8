use Rattle.std.proofs.Common.{ap, ◌∙◌}
use Rattle.std.specs.Prelude.{is_some}
use Rattle.change_report.specs.db_core.Packages.{is_package_named}
use Rattle.change_report.specs.db_core.Seen.{packages_of}
use Rattle.engine_core.proofs.Known.{is_found}
use Rattle.engine_core.proofs.wishes.is_installed.Goals as goal

pub returns : goal.returns
returns c =
    c.is_some.ensures ∙ ap is_some c.find.ensures.found
    ∙ is_found (is_package_named c.args.name.now) 0 (packages_of c.args.db.now)
