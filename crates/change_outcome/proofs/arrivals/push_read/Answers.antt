use Rattle.db_core.specs.Seen.{members_of, packages_of_old_database}
use Rattle.change_outcome.proofs.Behind.{comes_next, stays_added, stays_after}
use Rattle.change_outcome.proofs.arrivals.push_read.Goals as goal

pub stays-requires-clause-behind : goal.stays-requires-clause-behind
stays-requires-clause-behind c = stays_after (packages_of_old_database c.args.members.now) (members_of c.args.members.now) c.args.read.now _ c.in-Stays.is c.requires.behind

pub returns-in-Stays-clause-added : goal.returns-in-Stays-clause-added
returns-in-Stays-clause-added c = stays_added (packages_of_old_database c.args.members.now) _ _ c.args.read.now _ c.stays.result c.in-Stays.is c.requires.placed c.stays.ensures.ok

pub push_added_in_pieces-requires-clause-behind : goal.push_added_in_pieces-requires-clause-behind
push_added_in_pieces-requires-clause-behind c = comes_next (packages_of_old_database c.args.members.now) (members_of c.args.members.now) c.args.read.now c.in-Comes.pkg _ c.in-Comes.is c.contents.ensures.value c.requires.behind
