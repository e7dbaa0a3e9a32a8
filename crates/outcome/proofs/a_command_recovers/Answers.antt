use Rattle.std.proofs.Common.{◌≡◌, false}
use Rattle.engine_core.proofs.change_outcome.ReadRoot.{root_read}
use Rattle.words_core.specs.Grammar.{command_of}
use Rattle.outcome.proofs.Idle.{idle_change}
use Rattle.outcome.proofs.Recovering.{leaves_recovered, reads_alone, recovers, refuses_bad, works_on_recovered}
use Rattle.outcome.proofs.Looking.{read_leaves}
use Rattle.outcome.proofs.Worded.{leaves_by}
use Rattle.outcome.specs.Outcome.{Outcome}
use Rattle.outcome.proofs.a_command_recovers.Goals as goal

pub returns-clause-recovers : goal.returns-clause-recovers
returns-clause-recovers c = recovers

pub returns-clause-bad : goal.returns-clause-bad
returns-clause-bad c = refuses_bad

pub returns-clause-works : goal.returns-clause-works
returns-clause-works c = works_on_recovered

pub returns-clause-leaves : goal.returns-clause-leaves
returns-clause-leaves c = leaves_recovered root_read idle_change

pub returns-clause-others : goal.returns-clause-others
returns-clause-others c = λ words command files o reads must is.
    leaves_by (λ (p : Outcome). (p.files ≡ files) × (p.commits ≡ false)) (command_of words) files o
    (λ of. read_leaves (command_of words) files o (reads_alone words command reads must) of) (λ left. left) is
