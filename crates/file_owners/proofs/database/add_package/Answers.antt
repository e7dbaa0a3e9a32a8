use Rattle.std.proofs.Common.{map}
use Rattle.db_core.specs.Seen.{packages_of}
use Rattle.path_claims.specs.Seen.{claim_seen}
use Rattle.file_owners.proofs.Staying.{if_added}
use Rattle.file_owners.proofs.database.add_package.Goals as goal

pub returns : goal.returns
returns c =
    if_added c.add_folders.result (map claim_seen c.args.claims.now.items) (map claim_seen c.add_folders.new.claims.items) (packages_of c.args.db.now) c.args.i _ _
    c.package-package.ensures c.paths.ensures c.add_folders.ensures
