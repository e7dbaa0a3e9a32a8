use Rattle.pool_core.proofs.SearchedWords.{sorted_words}
use Rattle.pool_core.proofs.sorted.SortedWords.of.Goals as goal

pub returns : goal.returns
returns c = sorted_words _ _ _ c.in_ok-sorted.ensures c.in_ok-sort.ensures.permutation
