use Rattle.dep_core.specs.Meets.{dependency}
use Rattle.search_tables.proofs.ConflictTables.{conflicts_less, taken_away}
use Rattle.search_tables.proofs.conflicts.Conflicts.take_one_away.Goals as goal

pub returns-then-dep-clause-conflicts : goal.returns-then-dep-clause-conflicts
returns-then-dep-clause-conflicts c = λ by front was name.
    taken_away (dependency c.args.dep.now) by front c.args.self.now.by_name c.pop.new.self c.if-dep.true was c.pop.ensures name

pub returns-then-dep-clause-listed : goal.returns-then-dep-clause-listed
returns-then-dep-clause-listed c = λ candidates right. conflicts_less candidates c.args.self.now.by_name c.pop.new.self (dependency c.args.dep.now).name right c.pop.ensures
