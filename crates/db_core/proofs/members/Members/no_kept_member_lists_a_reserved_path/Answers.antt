use Rattle.db_core.proofs.ListedNames.{stays_unreserved}
use Rattle.db_core.proofs.members.Members.no_kept_member_lists_a_reserved_path.Goals as goal

pub returns : goal.returns
returns c = stays_unreserved c.args.self.now.entries.items c.args.self.now.free
