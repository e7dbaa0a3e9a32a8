use Rattle.dep_core.specs.Meets.{dependency}
use Rattle.search_tables.proofs.ConflictTables.{conflicts_more, none_listed, one_listed}
use Rattle.search_tables.proofs.conflicts.Conflicts.add_one.Goals as goal

pub returns-then-not-dep-clause-conflicts : goal.returns-then-not-dep-clause-conflicts
returns-then-not-dep-clause-conflicts c = λ name. none_listed name c.args.by (dependency c.args.dep) c.args.self.now.by_name c.if-not-dep.true

pub returns-clause-conflicts : goal.returns-clause-conflicts
returns-clause-conflicts c = λ name.
    one_listed name (c.args.by, dependency c.args.dep, c.args.index) c.args.self.now.by_name c.add.new.self c.if-not-dep.false (c.in_ok-add.ensures name)

pub returns-clause-listed : goal.returns-clause-listed
returns-clause-listed c = λ candidates here right.
    conflicts_more candidates c.args.self.now.by_name c.add.new.self (dependency c.args.dep).name right (c.args.by, dependency c.args.dep, c.args.index) here c.in_ok-add.ensures
