use Rattle.db_core.proofs.ListedNames.{members_named}
use Rattle.db_core.proofs.members.Members.listed_paths_are_names.Goals as goal

pub returns : goal.returns
returns c = members_named c.args.self.now.entries.items c.args.self.now.named
