use Rattle.change_outcome.proofs.ChangeLeads.{does_nothing}
use Rattle.change_outcome.proofs.Made.{leaves_files, made}
use Rattle.change_outcome.proofs.laws.a_change_that_writes_nothing_leaves_the_files.Goals as goal

pub returns-clause-actions : goal.returns-clause-actions
returns-clause-actions c = does_nothing

pub returns-clause-done : goal.returns-clause-done
returns-clause-done c = λ inputs r wishes read clash files done ok root nothing.
    leaves_files inputs r wishes read clash files done (made inputs r wishes read clash files done ok) root nothing
