use Rattle.file_owners.specs.db_core.Seen.{members_of}
use Rattle.path_claim_lists.specs.path_claims.ContestedSeen.{contested_seen}
use Rattle.own_core.proofs.Refusals.{contestable}
use Rattle.own_core.proofs.planning.contest.Goals as goal

pub name_of_path-requires : goal.name_of_path-requires
name_of_path-requires c = (contestable (members_of c.args.members.now) (contested_seen c.args.contested.now) c.requires.named c.requires.contested).name

pub member_name_at-requires : goal.member_name_at-requires
member_name_at-requires c = (contestable (members_of c.args.members.now) (contested_seen c.args.contested.now) c.requires.named c.requires.contested).first

pub member_name_at-requires-2 : goal.member_name_at-requires-2
member_name_at-requires-2 c = (contestable (members_of c.args.members.now) (contested_seen c.args.contested.now) c.requires.named c.requires.contested).second

pub returns : goal.returns
returns c = record {
  contest = contested_seen c.args.contested.now;
  is = c.requires.contested;
  at = c.in_ok-path.ensures;
  lister = c.in_ok-first.ensures;
  other = c.in_ok-second.ensures;
}
