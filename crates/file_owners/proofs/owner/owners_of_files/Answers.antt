use Rattle.std.proofs.Common.{map}
use Rattle.db_core.specs.Seen.{members_of}
use Rattle.path_claims.specs.Seen.{claim_seen}
use Rattle.file_owners.proofs.Claiming.{claims_seen, contested_seen_by, gathered_numbered, owned_seen, owners_seen}
use Rattle.file_owners.proofs.OneWay.{members_one_way}
use Rattle.file_owners.proofs.owner.owners_of_files.Goals as goal

pub owners_of-requires-clause-one_way : goal.owners_of-requires-clause-one_way
owners_of-requires-clause-one_way c = members_one_way (members_of c.args.members.now)

pub owners_of-requires-clause-numbered : goal.owners_of-requires-clause-numbered
owners_of-requires-clause-numbered c = gathered_numbered (members_of c.args.members.now) (map claim_seen c.in_ok-claims.claims.items) c.in_ok-claims.ensures

pub returns-clause-claims : goal.returns-clause-claims
returns-clause-claims c = claims_seen (members_of c.args.members.now) (map claim_seen c.in_ok-claims.claims.items) c.owners_of.result c.in_ok-claims.ensures c.owners_of.ensures.claims

pub returns-clause-owners : goal.returns-clause-owners
returns-clause-owners c = owners_seen (members_of c.args.members.now) (map claim_seen c.in_ok-claims.claims.items) c.owners_of.result c.in_ok-claims.ensures c.owners_of.ensures.owners

pub returns-clause-owned : goal.returns-clause-owned
returns-clause-owned c = owned_seen (members_of c.args.members.now) (map claim_seen c.in_ok-claims.claims.items) c.owners_of.result c.in_ok-claims.ensures c.owners_of.ensures.owned

pub returns-clause-contested : goal.returns-clause-contested
returns-clause-contested c = contested_seen_by (members_of c.args.members.now) (map claim_seen c.in_ok-claims.claims.items) c.owners_of.result c.in_ok-claims.ensures c.owners_of.ensures.contested
