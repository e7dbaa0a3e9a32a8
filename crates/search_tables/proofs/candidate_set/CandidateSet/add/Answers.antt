use Rattle.search_tables.proofs.Members.{same_there}
use Rattle.search_tables.proofs.candidate_set.CandidateSet.add.Goals as goal

pub returns-then-has : goal.returns-then-has
returns-then-has c = same_there c.args.self.now c.args.id (rw c.if-has.true at c.has.ensures)
