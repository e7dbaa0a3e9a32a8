use Rattle.journal_core.proofs.OnTheWay.{way_before, way_after}
use Rattle.journal_core.proofs.Published.{still_on_the_way}
use Rattle.journal_core.proofs.laws.moments_old_until_commit_compose.Goals as goal

pub returns-clause-is_unchanged : goal.returns-clause-is_unchanged
returns-clause-is_unchanged c = λ ignored files start v earlier is_unchanged. still_on_the_way ignored files start v is_unchanged earlier

pub returns-clause-before : goal.returns-clause-before
returns-clause-before c = way_before

pub returns-clause-behind : goal.returns-clause-behind
returns-clause-behind c = λ ignored files start v old mid new published settled later is_unchanged. way_after ignored files start v settled later old mid new published is_unchanged
