use Rattle.db_core.specs.Seen.{packages_of}
use Rattle.db_core.proofs.ListedNames.{packages_named}
use Rattle.db_core.proofs.db.Db.listed_paths_are_names.Goals as goal

pub returns : goal.returns
returns c = packages_named (packages_of c.args.self.now) c.args.self.now.named
