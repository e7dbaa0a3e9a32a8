use Rattle.std.proofs.Common.{◌≡◌, false}
use Rattle.words_core.specs.Grammar.{command_of}
use Rattle.outcome.proofs.Looking.{read_leaves}
use Rattle.outcome.proofs.Worded.{leaves_by}
use Rattle.outcome.specs.Outcome.{Outcome}
use Rattle.outcome.proofs.a_command_that_reads_leaves_the_files.Goals as goal

pub returns-clause-files : goal.returns-clause-files
returns-clause-files c = λ words files o reads is.
    leaves_by (λ (p : Outcome). p.files ≡ files) (command_of words) files o (λ of. (read_leaves (command_of words) files o reads of).0) (λ left. left.0) is

pub returns-clause-commits : goal.returns-clause-commits
returns-clause-commits c = λ words files o reads is.
    leaves_by (λ (p : Outcome). p.commits ≡ false) (command_of words) files o (λ of. (read_leaves (command_of words) files o reads of).1) (λ left. left.1) is
