use Rattle.definition_laws.proofs.worlds.Simulations.{foretold, reports_alike}
use Rattle.definition_laws.proofs.worlds.a_simulation_predicts_the_change.Goals as goal

pub returns-clause-reports : goal.returns-clause-reports
returns-clause-reports c = reports_alike

pub returns-clause-commands : goal.returns-clause-commands
returns-clause-commands c = λ command read files expected chosen other clash.
    foretold c.a_choice_is_unique.ensures command read files expected chosen other clash c.a_change_that_is_made_passes_each_test.ensures
