use Rattle.std.proofs.Common.{◌∙◌, ap}
use Rattle.std.specs.List.{list_any}
use Rattle.std.specs.Str.{bytes_eq}
use Rattle.pool_core.proofs.SearchedWords.{searched_words}
use Rattle.pool_core.proofs.sorted.SortedWords.has.Goals as goal

pub returns : goal.returns
returns c =
    c.is_ok.ensures.value
    ∙ (searched_words _ _ c.args.word.now c.binary_search.result c.deref.ensures.value c.self.invariant c.binary_search.ensures.bound c.binary_search.ensures.position
    ∙ ap (list_any (bytes_eq c.args.word.now)) c.self.view_is)
