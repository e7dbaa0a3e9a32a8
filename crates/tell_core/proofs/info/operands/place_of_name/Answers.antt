use Rattle.std.proofs.Common.{◌∙◌, ap}
use Rattle.std.specs.Prelude.{slice_get}
use Rattle.std.specs.Option.{option_and_then}
use Rattle.file_owners.specs.db_core.Packages.{is_package_named}
use Rattle.file_owners.specs.db_core.Seen.{packages_of}
use Rattle.tell_core.proofs.Found.{found_at}
use Rattle.tell_core.proofs.info.operands.place_of_name.Goals as goal

pub returns-clause-found : goal.returns-clause-found
returns-clause-found c =
    ap (option_and_then (slice_get (packages_of c.args.db.now))) c.find.ensures.found
    ∙ found_at (is_package_named c.args.name.now) (packages_of c.args.db.now)
