use Rattle.db_core.specs.Seen.{packages_of}
use Rattle.db_core.proofs.ListedNames.{packages_unreserved}
use Rattle.db_core.proofs.db.Db.no_listed_path_is_reserved.Goals as goal

pub returns : goal.returns
returns c = packages_unreserved (packages_of c.args.self.now) c.args.self.now.free
