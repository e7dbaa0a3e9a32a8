use Rattle.std.proofs.Common.{All, List, sym, subst}
use Rattle.pool_core.specs.option_ranks.Ranking.{Ranking}
use Rattle.query_core.specs.QueryRanking.{IsQueryRanking}
use Rattle.query_core.proofs.LineParts.{read_within}
use Rattle.query_core.proofs.candidates.report.Goals as goal

pub put_lines-requires : goal.put_lines-requires
put_lines-requires c = read_within c.args.pool.now.candidates c.deref.result.now (subst (λ (rs : List Ranking). All (IsQueryRanking c.args.pool.now.candidates) rs) (sym c.deref.ensures.value) c.in_ok-ordered.ensures.versions.read)

pub put_lines-requires-2 : goal.put_lines-requires-2
put_lines-requires-2 c = read_within c.args.pool.now.candidates c.deref-2.result.now (subst (λ (rs : List Ranking). All (IsQueryRanking c.args.pool.now.candidates) rs) (sym c.deref-2.ensures.value) c.in_ok-ordered.ensures.versions.read)
