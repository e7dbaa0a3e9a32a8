-- A command that is refused commits nothing.
use Rattle.std.proofs.Common.{◌≡◌, ℕ, false, List, IsSome}
use Rattle.base_core.specs.Files.{Files}
use Rattle.words_core.specs.Grammar.{command_of}
use Rattle.outcome.specs.Outcome.{Outcome}
use Rattle.outcome.specs.Words.{IsOutcome}
use Rattle.outcome.proofs.Commits.{maker_commits, refusal_commits, teller_commits}
use Rattle.outcome.proofs.Looking.{read_leaves}
use Rattle.outcome.proofs.Worded.{leaves_by}

pub refused_commits : (words : List (List ℕ)) (files : Files) (o : Outcome) → IsOutcome (command_of words) files o → IsSome o.refusal → o.commits ≡ false
refused_commits words files o is =
    leaves_by (λ (p : Outcome). IsSome p.refusal → p.commits ≡ false) (command_of words) files o
    (λ of. refusal_commits words files o of (λ reads. (read_leaves (command_of words) files o reads of).1) (λ tells. teller_commits words files o tells of) (λ makes. maker_commits words files o makes of))
    (λ left some. left.1) is
