use Rattle.std.proofs.Common.{◌∙◌, ap}
use Rattle.std.specs.Prelude.{is_some}
use Rattle.own_core.specs.db_core.Packages.{is_package_named}
use Rattle.own_core.specs.db_core.Seen.{packages_of}
use Rattle.package_changes.proofs.ReportLines.{is_found}
use Rattle.package_changes.proofs.stays.was_installed.Goals as goal

pub returns : goal.returns
returns c =
    c.is_some.ensures ∙ (ap is_some c.find.ensures.found ∙ is_found (is_package_named c.args.name.now) 0 (packages_of c.args.db.now))
