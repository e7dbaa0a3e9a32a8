use Rattle.db_core.proofs.Ordered.{members_in_order}
use Rattle.db_core.proofs.members.Members.members_are_in_order.Goals as goal

pub returns : goal.returns
returns c = members_in_order c.args.self.now.entries.items c.args.self.now.in_order
