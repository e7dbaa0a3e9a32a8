use Rattle.std.proofs.Common.{arith}
use Rattle.db_core.specs.Seen.{members_of}
use Rattle.file_owners.proofs.OneWay.{no_first, no_second}
use Rattle.file_owners.proofs.owner.ClaimantsContest.beats.Goals as goal

pub returns-then-one-len : goal.returns-then-one-len
returns-then-one-len c = no_first (members_of c.args.self.now.members.now) c.args.one c.args.other (omega (arith, c.if-one-len.true, c.len.ensures.value))

pub returns-then-other-len : goal.returns-then-other-len
returns-then-other-len c = no_second (members_of c.args.self.now.members.now) c.args.one c.args.other (omega (arith, c.if-other-len.true, c.len-2.ensures.value))
