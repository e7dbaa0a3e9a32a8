use Rattle.outcome.proofs.RefusedCommits.{refused_commits}
use Rattle.outcome.proofs.a_refusal_commits_nothing.Goals as goal

pub returns : goal.returns
returns c = refused_commits
