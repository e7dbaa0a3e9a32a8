use Rattle.std.specs.Prelude.{codes}
use Rattle.candidate_core.specs.adb_fields.Repeated.{package_name}
use Rattle.candidate_core.specs.adb_schema.Views.{package_value}
use Rattle.file_owners.specs.Replaces.{package_version_text}
use Rattle.report_core.specs.Reports.{name_dash_version}
use Rattle.tell_core.proofs.LineSteps.{owned}
use Rattle.tell_core.proofs.info.package.push_owner.Goals as goal

pub returns : goal.returns
returns c =
    owned _ _ _ _ _ (codes "/") c.args.path.now (codes " is owned by ") (name_dash_version (package_name (package_value c.args.pkg.now)) (package_version_text (package_value c.args.pkg.now))) (codes "\n")
    c.in_ok-push.ensures.items c.in_ok-extend_from_slice.ensures.items c.in_ok-extend_from_slice-2.ensures.items c.in_ok-push_heading.ensures
